use Rattle.run.proofs.Following.{top-passed, top_anew}
use Rattle.transfer.proofs.Reaching.{reached_to}
use lib.ListN.{length}
use Prim.Native.Nat.{◌-◌}
use native.Mathlib.Omega.{arith}
use borrow.Author.Rules.{rules}
use Rattle.run.proofs.tops.write_top.Goals as goal

pub transfer_top-requires : goal.transfer_top-requires
transfer_top-requires c =
    record { ends = c.requires.ends; row_in = c.requires.top_in.row; indexed_in = c.requires.indexed_row; selector_at = c.requires.top_in.selector.here; rec_len_bound = (omega (arith, c.requires.top_in.short), c.requires.top_in.selector.small, omega arith) }

pub overflow_add-result : goal.overflow_add-result
overflow_add-result c =
    omega (arith, (reached_to (c.transfer_top.ensures c.requires.top_in.row c.requires.top_in.selector.here) c.in-To.is).1.within, c.if-len-gt-LONGEST.false)

pub returns-in-To : goal.returns-in-To
returns-in-To c =
    λ A.
    top-passed (length c.args.aside.now - c.args.top.len) (omega (arith, c.if-len-gt-LONGEST.false)) (omega arith)
    (reached_to (c.transfer_top.ensures A.row A.selector.here) c.in-To.is)

pub returns-in-Unknown : goal.returns-in-Unknown
returns-in-Unknown c =
    λ A.
    top_anew (length c.args.aside.now - c.args.top.len) c.transfer_top.new.out
    c.transfer_top.auto.out (omega (arith, c.if-len-gt-LONGEST.false, c.requires.longest_value)) (c.write_general-in-Unknown.ensures A)
