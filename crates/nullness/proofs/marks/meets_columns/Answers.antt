-- `nullness::marks::meets_columns` meets its contract: the loop keeps `Columnings`. Assumes nothing.
use Rattle.nullness.proofs.Meeting.{columning_start, columning_all, column-place, columning-fails, columning-more}
use Rattle.nullness.proofs.Placing.{untold}
use Rattle.overflow.proofs.Columns.{pair-labelled, next, column_type}
use Rattle.plan.proofs.Skipping.{told}
use lib.ListN.{length-replicate}
use native.Mathlib.Omega.{arith}
use Prim.Native.Nat.{ℕ}
use mathlib.Core.Path.{ap}
use mathlib.Core.Bool.{not}
use Rattle.nullness.proofs.marks.meets_columns.Goals as goal

pub loop-i-init : goal.loop-i-init
loop-i-init c =
    columning_start _ _ _ _ _ _ _ _ (λ i. omega (arith, c.type_inv.plan i))

pub meets_type-requires : goal.meets_type-requires
meets_type-requires c =
    let C = c.loop-i.invariant c.requires.plan_at.0 c.requires.plan_at.1 c.requires.plan_at.2 in let T = (next C.pairing c.loop-i-test.true c.label.ensures.result_value
    c.in-Is.is).field.head in let S = column-place C c.loop-i-test.true c.label.ensures.result_value c.in-Is.is in record {
      skips = c.requires.skips;
      index_at = c.requires.index_at;
      place_at = (
        c.requires.plan_at.0,
        T,
        S,
      );
      depth_bound = (omega arith, length-replicate {A = ℕ} 64 0);
    }

pub returns-then-not-meets_type : goal.returns-then-not-meets_type
returns-then-not-meets_type c =
    λ P D S. columning-fails (c.loop-i.invariant P D S) c.loop-i-test.true c.label.ensures.result_value c.in-Is.is (λ T E. c.meets_type.ensures P T E)
    (untold _ (ap not c.if-not-meets_type.true))

pub skip_type-d-requires : goal.skip_type-d-requires
skip_type-d-requires c =
    column_type (c.loop-i.invariant c.requires.plan_at.0 c.requires.plan_at.1 c.requires.plan_at.2).pairing c.loop-i-test.true c.label.ensures.result_value c.in-Is.is

pub returns-in-Refused : goal.returns-in-Refused
returns-in-Refused c =
    λ P D S. pair-labelled (c.loop-i.invariant P D S).pairing c.loop-i-test.true c.label.ensures.result_value c.in-Refused.is

pub overflow_add-i : goal.overflow_add-i
overflow_add-i c =
    omega (arith, c.loop-i-test.true, c.well_formed.1.1.1.1.1.1.0)

pub loop-i-preserved : goal.loop-i-preserved
loop-i-preserved c =
    λ P D S. columning-more (c.loop-i.invariant P D S) c.loop-i-test.true c.label.ensures.result_value c.in-Is.is (λ T E. c.meets_type.ensures P T E) (told
    _ (ap not c.if-not-meets_type.false)) c.skip_by-s.ensures c.skip_type-d.ensures

pub returns : goal.returns
returns c =
    λ P D S. columning_all (c.loop-i.invariant P D S) c.loop-i-test.false
