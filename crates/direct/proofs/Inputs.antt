-- The input of a transform, by what it begins with, and the selector inside renames. Assumes nothing.
use Prim.Native.Nat.{ℕ, ◌-◌, ◌<◌}
use mathlib.Core.Path.{◌≡◌, ap, sym, ◌∙◌}
use mathlib.Core.Bool.{true}
use native.Mathlib.Omega.{arith}
use lib.ListN.{length}
use Rattle.layout.specs.Bytes.{Bytes}
use Rattle.layout.specs.Tree.{DataType, Fields}
use Rattle.layout.specs.declared.cursor.Cursor.{Cursor}
use Rattle.plan.specs.Result.{gives}
use Rattle.plan.specs.Check.{column, within_limits, type_of}
use Rattle.walk.specs.code.Stands.{SelectorAt}
use Rattle.walk.specs.code.Parts.{CastAt, RenameAt, StructAt, ListAt, ArrayAt}
use Rattle.walk.proofs.View.{same-selector, starts-inside}
use Rattle.direct.specs.code.Inputs.{input_of, InputIs, Unrenamed}
use Rattle.direct.specs.declared.input.Input.{Input}
use Rattle.direct.proofs.Trees.{rename-gives}

module _ {s : Bytes} {at : ℕ} {P : SelectorAt s at} {c : Cursor} where
  pub cast-input : CastAt s at P c.at → InputIs s at P (Input.At c)
  unfolding input_of
  cast-input K = record { parts = record { input = K.input; is = sym (ap input_of K.is); starts = K.starts } }

  pub rename-input : RenameAt s at P c.at → InputIs s at P (Input.At c)
  unfolding input_of
  rename-input K = record { parts = record { input = K.input; is = sym (ap input_of K.is); starts = K.starts } }

  pub struct-input : StructAt s at P c.at → InputIs s at P (Input.At c)
  unfolding input_of
  struct-input K = record { parts = record { input = K.input; is = sym (ap input_of K.is); starts = K.starts } }

  pub list-input : ListAt s at P c.at → InputIs s at P (Input.At c)
  unfolding input_of
  list-input K = record { parts = record { input = K.input; is = sym (ap input_of K.is); starts = K.starts } }

  pub array-input : ArrayAt s at P c.at → InputIs s at P (Input.At c)
  unfolding input_of
  array-input K = record { parts = record { input = K.input; is = sym (ap input_of K.is); starts = K.starts } }

-- ---- the loop over renames

-- the selector at `to` is inside renames that begin at `at`
pub record Inside (s : Bytes) (at to : ℕ) : Type 0 where
  pub here : SelectorAt s to
  pub typed : (P : SelectorAt s at) (Γ : Fields) {n : Bytes} {t : DataType} → type_of Γ here.tree ≡ gives (column n t) → within_limits t ≡ true →
      (b : Bytes) × (type_of Γ P.tree ≡ gives (column b t))

pub inside-start : {s : Bytes} {at : ℕ} → SelectorAt s at → Inside s at at
inside-start Q = record { here = Q; typed = λ P Γ {n} {t} e w. (n, ap (type_of Γ) (same-selector P Q).0 ∙ e) }

module _ {s : Bytes} {at to : ℕ} (I : Inside s at to) where
  pub inside-end : (P : SelectorAt s at) → Unrenamed s at P to
  inside-end P = record { inner = I.here; typed = λ Γ e w. I.typed P Γ e w }

  module _ {c : Cursor} (R : RenameAt s to I.here c.at) where
    pub inside-more : Inside s at c.at
    inside-more = record {
      here = R.input;
      typed = λ P Γ {n} {t} e w. I.typed P Γ (ap (type_of Γ) R.is ∙ rename-gives Γ R.input.tree e R.name.bytes w) w;
    }

    pub inside-falls : length s - c.at < length s - to
    inside-falls = omega (arith, R.starts, starts-inside I.here)
