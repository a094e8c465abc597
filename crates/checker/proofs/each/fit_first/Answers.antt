-- `checker::each::fit_first` meets its contract. Assumes nothing.
use Rattle.checker.proofs.Topping.{fit_unknown, fit_asks, fits-top}
use Rattle.checker.proofs.each.fit_first.Goals as goal

pub returns-then-columns-eq0 : goal.returns-then-columns-eq0
returns-then-columns-eq0 c =
    λ Γ T Q. fit_unknown T Q

pub returns-then-target-gt-LONGEST : goal.returns-then-target-gt-LONGEST
returns-then-target-gt-LONGEST c =
    λ Γ T Q. fit_unknown T Q

pub returns-then-incoming-gt-LONGEST_PLAN : goal.returns-then-incoming-gt-LONGEST_PLAN
returns-then-incoming-gt-LONGEST_PLAN c =
    λ Γ T Q. fit_unknown T Q

pub fit_top-requires : goal.fit_top-requires
fit_top-requires c =
    let (Γ, T) = c.requires.top_at in record {
      column_fit_from = fit_asks T c.requires.columns_at c.requires.indexed c.stride_of-stride.ensures.value c.stride_of-stride.ensures.result_nonzero c.if-columns-eq0.false
          c.if-target-gt-LONGEST.false;
      s_len_bound = (c.if-incoming-gt-LONGEST_PLAN.false, T.small);
    }

pub returns : goal.returns
returns c =
    λ Γ T Q. fits-top T Q c.requires.indexed
    c.stride_of-stride.ensures.value c.stride_of-stride.ensures.result_nonzero c.if-columns-eq0.false
    c.if-target-gt-LONGEST.false c.fit_top.ensures
