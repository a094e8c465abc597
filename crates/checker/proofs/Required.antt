-- 55, the check's last test: what `meets_target` and `check_read` of src/tops.rt answer on each way. Assumes nothing.
use Prim.Native.Nat.{ℕ}
use mathlib.Core.Path.{◌≡◌, sym, ap, ◌∙◌}
use mathlib.Core.Bool.{Bool, true, false}
use native.Mathlib.Omega.{arith}
use Rattle.layout.specs.Bytes.{Bytes}
use Rattle.layout.specs.Tree.{fields_of}
use Rattle.layout.specs.code.Stands.{ColumnsAt}
use Rattle.layout.specs.declared.edition.Edition.{Edition}
use Rattle.layout.specs.declared.edition.Edition.TheVariants.{One, Two, Three}
use Rattle.layout.proofs.Ways.{clash}
use Rattle.values.proofs.Older.{columns_older}
use Rattle.plan.specs.Result.{gives, demand, Answer, accepted, refused_at, placed, answered}
use Rattle.plan.specs.Selector.{Selectors}
use Rattle.plan.specs.Check.{check}
use Rattle.plan.specs.Nullness.{nullnesses_of}
use Rattle.plan.specs.Marks.{givens, meets_all, check_marked}
use Rattle.plan.proofs.Unmarked.{meet_unmarked}
use Rattle.walk.proofs.View.{selectors-longer}
use Rattle.overflow.specs.code.Overflows.{PlanAt}
use Rattle.checker.specs.code.Tops.{plan_checked, TopsAt}
use Rattle.checker.specs.declared.tops.PlanChecked.{PlanChecked}
use Rattle.checker.proofs.Topping.{passed-accepted}

-- where the target is of an older edition
pub older_meets : {v : Edition} {incoming : Bytes} {n : ℕ} {plan : Bytes} {vt : Edition} {target : Bytes} {m : ℕ} → (vt ≡ Three → ⊥)
    → (P : ColumnsAt v 16 incoming n 7) (D : ColumnsAt vt 16 target m 7) (S : PlanAt plan 7 (fields_of P.columns) (fields_of D.columns))
    → true ≡ meets_all (nullnesses_of (givens P.columns) S.selectors.trees) D.columns
older_meets older P D S = sym (meet_unmarked (columns_older older D) (nullnesses_of (givens P.columns) S.selectors.trees))

pub one_older : {vt : Edition} → vt ≡ One → vt ≡ Three → ⊥
one_older e f = clash (cc)

pub two_older : {vt : Edition} → vt ≡ Two → vt ≡ Three → ⊥
two_older e f = clash (cc)

-- `check_types` answered r
module _ {incoming : Bytes} {v : Edition} {n : ℕ} {plan : Bytes} {count : ℕ} {ss : Selectors} (L : ColumnsAt v 16 incoming n 7)
    (T : TopsAt incoming v n plan count 7 (fields_of L.columns) ss) {target : Bytes} {vt : Edition} {m : ℕ} (Q : ColumnsAt vt 16 target m 7)
    {r : PlanChecked} (e : r ≡ plan_checked (check (fields_of L.columns) (fields_of Q.columns) ss)) where
  pub types_refused : {j k : ℕ} → r ≡ PlanChecked.Refused j k → PlanChecked.Refused j k ≡ plan_checked (check_marked L.columns Q.columns ss)
  unfolding check_marked answered
  types_refused {j} {k} q = go (check (fields_of L.columns) (fields_of Q.columns) ss) (sym e ∙ q)
    where
      go : (x : Answer (Unit {0})) → plan_checked x ≡ PlanChecked.Refused j k
          → PlanChecked.Refused j k ≡ plan_checked (answered x (λ u. placed 0 (demand (meets_all (nullnesses_of (givens L.columns) ss) Q.columns) 55
          (gives u)) accepted))
      go (accepted u) f = clash (cc)
      go (refused_at a b) f = sym f

  module _ (p : r ≡ PlanChecked.Passed) where
    pub passes : check (fields_of L.columns) (fields_of Q.columns) ss ≡ accepted tt
    passes = (passed-accepted (check (fields_of L.columns) (fields_of Q.columns) ss) (sym e ∙ p)).1

    abbrev pub plan-passed : PlanAt plan 7 (fields_of L.columns) (fields_of Q.columns)
    plan-passed = record {
      count = count;
      selectors = T.selectors;
      starts = omega (arith, T.ends, selectors-longer T.selectors);
      small = T.small;
      passes = ap (check (fields_of L.columns) (fields_of Q.columns)) T.is ∙ passes;
    }

    module _ {b : Bool} (f : b ≡ meets_all (nullnesses_of (givens L.columns) T.selectors.trees) Q.columns) where
      met : b ≡ meets_all (nullnesses_of (givens L.columns) ss) Q.columns
      met = f ∙ ap (λ (x : Selectors). meets_all (nullnesses_of (givens L.columns) x) Q.columns) T.is

      pub marks-met : b ≡ true → PlanChecked.Passed ≡ plan_checked (check_marked L.columns Q.columns ss)
      unfolding check_marked answered placed demand
      marks-met q = rw (passes, ← met, q)

      pub marks-missed : b ≡ false → PlanChecked.Refused 55 0 ≡ plan_checked (check_marked L.columns Q.columns ss)
      unfolding check_marked answered placed demand
      marks-missed q = rw (passes, ← met, q)
