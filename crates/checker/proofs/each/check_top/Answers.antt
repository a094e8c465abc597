-- `checker::each::check_top` meets its contract. Assumes nothing.
use Rattle.checker.proofs.Topping.{top-checking, top-named, top-passed, top-refused}
use Rattle.checker.proofs.each.check_top.Goals as goal

pub skip_by-e-requires : goal.skip_by-e-requires
skip_by-e-requires c =
    c.requires.tables.skips

pub check_selector-requires : goal.check_selector-requires
check_selector-requires c =
    let (Γ, T) = c.requires.top_at in record { tables = c.requires.tables; checking_at = (_, Γ, top-checking T c.skip_by-e.ensures c.top-w.ensures) }

pub still_same-b-requires : goal.still_same-b-requires
still_same-b-requires c =
    let (Γ, T) = c.requires.top_at in record {
      tables = c.requires.tables;
      named_at = (
        _,
        top-named T c.skip_by-e.ensures c.top-w.ensures (c.check_selector.ensures _ Γ (top-checking T c.skip_by-e.ensures c.top-w.ensures))
            c.in-Passed.is,
      );
      columns_at = c.requires.columns_at;
    }

pub returns-in-Passed : goal.returns-in-Passed
returns-in-Passed c =
    λ Γ T Q.
    let f = c.check_selector.ensures _ Γ (top-checking T c.skip_by-e.ensures c.top-w.ensures) in
    top-passed T c.skip_by-e.ensures c.top-w.ensures f Q {same = c.args.same} c.in-Passed.is
    (c.next_column-f.ensures Q) (c.still_same-b.ensures _ Q (top-named T c.skip_by-e.ensures c.top-w.ensures f c.in-Passed.is))

pub returns-in-Refused : goal.returns-in-Refused
returns-in-Refused c =
    λ Γ T Q.
    top-refused T c.skip_by-e.ensures c.top-w.ensures (c.check_selector.ensures _ Γ (top-checking T c.skip_by-e.ensures c.top-w.ensures)) Q c.in-Refused.is
