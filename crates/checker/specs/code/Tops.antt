-- Document 01, "Checking a plan": what an answer of the check stands for, and a plan's selectors where they stand.
use Rattle.std.specs.Prelude.{ℕ, ◌-◌, ◌≤◌, ◌≡◌, Bool, true, false, ◌&&◌, length}
use Rattle.layout.specs.Bytes.{Bytes, same_bytes}
use Rattle.layout.specs.Limits.{deepest, deepest_selector, longest_plan}
use Rattle.layout.specs.Tree.{Fields, fnil, fcons, fields_of}
use Rattle.layout.specs.code.Stands.{ColumnsAt}
use Rattle.layout.specs.declared.cursor.Cursor.{Cursor}
use Rattle.layout.specs.declared.edition.Edition.{Edition}
use Rattle.forms.specs.code.Compare.{same_dtype}
use Rattle.plan.specs.Result.{Result, gives, refuses, Answer, accepted, refused_at}
use Rattle.plan.specs.Selector.{Selectors, nesting, nesting_all}
use Rattle.plan.specs.Check.{Column, type_of}
use Rattle.walk.specs.code.Stands.{SelectorAt, SelectorsAt}
use Rattle.direct.specs.declared.fit.FitEnd.{FitEnd}
use Rattle.checker.specs.declared.each.Top.{Top}
use Rattle.checker.specs.declared.tops.PlanChecked.{PlanChecked}

-- the refusal's number and place
abbrev pub plan_checked : {A : Type 0} → Answer A → PlanChecked
plan_checked (accepted a) = PlanChecked.Passed
plan_checked (refused_at n k) = PlanChecked.Refused n k

-- over the n columns Γ of an incoming layout, the count selectors ss
pub record TopsAt (incoming : Bytes) (v : Edition) (n : ℕ) (plan : Bytes) (count at : ℕ) (Γ : Fields) (ss : Selectors) : Type 0 where
  pub columns : ColumnsAt v deepest incoming n 7
  pub are : fields_of columns.columns ≡ Γ
  pub selectors : SelectorsAt plan count at
  pub is : selectors.trees ≡ ss
  pub ends : selectors.end ≤ length plan
  pub small : length plan ≤ longest_plan
  pub nests : nesting_all ss ≤ deepest_selector

-- one of them
pub record TopAt (incoming : Bytes) (v : Edition) (n : ℕ) (plan : Bytes) (at : ℕ) (Γ : Fields) : Type 0 where
  pub columns : ColumnsAt v deepest incoming n 7
  pub are : fields_of columns.columns ≡ Γ
  pub selector : SelectorAt plan at
  pub ends : selector.end ≤ length plan
  pub small : length plan ≤ longest_plan
  pub nests : nesting selector.tree ≤ deepest_selector

-- ---- a selector and the columns Δ of the target that are left

-- the first of them is the column a
unfoldable pub same_first : Column → Fields → Bool
same_first a fnil = false
same_first a (fcons n t Δ) = same_bytes a.name n && same_dtype a.type t

unfoldable pub rest_of : Fields → Fields
rest_of fnil = fnil
rest_of (fcons n t Δ) = Δ

-- those after it begin at an offset
pub record NextColumns {vt : Edition} {target : Bytes} {m bt : ℕ} (Q : ColumnsAt vt deepest target m bt) (at : ℕ) : Type 0 where
  pub next : ColumnsAt vt deepest target (m - 1) at
  pub rest : fields_of next.columns ≡ rest_of (fields_of Q.columns)

-- The selector passes and ends at x; the columns after the first begin at y. All columns are the target's if those
-- before are (`before`) and this one is.
pub record PassesTop {incoming : Bytes} {v : Edition} {n : ℕ} {plan : Bytes} {at : ℕ} {Γ : Fields} (T : TopAt incoming v n plan at Γ) {vt : Edition}
    {target : Bytes} {m bt : ℕ} (Q : ColumnsAt vt deepest target m bt) (before after : Bool) (x y : Cursor) : Type 0 where
  pub column : Column
  pub typed : type_of Γ T.selector.tree ≡ gives column
  pub same : (before && same_first column (fields_of Q.columns)) ≡ after
  pub ends : x.at ≡ T.selector.end
  pub left : NextColumns Q y.at

module _ {incoming : Bytes} {v : Edition} {n : ℕ} {plan : Bytes} {at : ℕ} {Γ : Fields} (T : TopAt incoming v n plan at Γ) {vt : Edition}
    {target : Bytes} {m bt : ℕ} (Q : ColumnsAt vt deepest target m bt) where
  -- an unknown fit says nothing
  abbrev pub FitParts : FitEnd → Type 0
  FitParts (FitEnd.At x y) = PassesTop T Q true true x y
  FitParts FitEnd.Unknown = Unit {0}

  pub record FitsTop (r : FitEnd) : Type 0 where
    pub parts : FitParts r

  abbrev pub TopParts : Bool → Top → Type 0
  TopParts same (Top.Passed x y b) = PassesTop T Q same b x y
  TopParts same (Top.Refused j) = type_of Γ T.selector.tree ≡ refuses j

  pub record TopIs (same : Bool) (r : Top) : Type 0 where
    pub parts : TopParts same r
