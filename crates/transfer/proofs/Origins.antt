-- The position that a selector takes, by what it begins with. Assumes nothing.
use Prim.Native.Nat.{ℕ, ◌-◌, ◌<◌}
use mathlib.Core.Path.{◌≡◌, ap, sym, subst, ◌∙◌}
use native.Mathlib.Omega.{arith}
use lib.ListN.{length}
use Rattle.layout.specs.Bytes.{Bytes}
use Rattle.layout.specs.declared.bytes.Span.{Span}
use Rattle.layout.specs.declared.columns.Position.{Position}
use Rattle.layout.specs.declared.cursor.Cursor.{Cursor}
use Rattle.values.specs.Value.{Values}
use Rattle.plan.specs.Selector.{Selector, position}
use Rattle.plan.specs.Run.{value_at, eval}
use Rattle.walk.specs.code.Stands.{SelectorAt}
use Rattle.walk.specs.code.Parts.{ConstantAt, CastAt, RenameAt, StructAt, ListAt, ArrayAt}
use Rattle.walk.proofs.View.{starts-inside}
use Rattle.transfer.specs.code.Reaching.{takes, TakenAnswer, TakenIs}
use Rattle.transfer.specs.declared.origin.Taken.{Taken}

module _ {s : Bytes} {at : ℕ} {P : SelectorAt s at} where
  pub taken_position : {k : Position} → P.tree ≡ position k → TakenIs s at P (Taken.Position k.0)
  unfolding takes
  taken_position e = record { answer = sym (ap takes e) }

  pub taken-constant : {n : Span} {m : ℕ} → ConstantAt s at P n m → TakenIs s at P (Taken.Position 0)
  unfolding takes
  taken-constant K = record { answer = sym (ap takes K.is) }

  pub taken-cast : {c : Cursor} → CastAt s at P c.at → TakenIs s at P (Taken.Input c)
  unfolding takes
  taken-cast K = record { answer = record { input = K.input; same = sym (ap takes K.is); starts = K.starts } }

  pub taken-rename : {c : Cursor} → RenameAt s at P c.at → TakenIs s at P (Taken.Input c)
  unfolding takes
  taken-rename K = record { answer = record { input = K.input; same = sym (ap takes K.is); starts = K.starts } }

  pub taken-struct : {c : Cursor} → StructAt s at P c.at → TakenIs s at P (Taken.Input c)
  unfolding takes
  taken-struct K = record { answer = record { input = K.input; same = sym (ap takes K.is); starts = K.starts } }

  pub taken-list : {c : Cursor} → ListAt s at P c.at → TakenIs s at P (Taken.Input c)
  unfolding takes
  taken-list K = record { answer = record { input = K.input; same = sym (ap takes K.is); starts = K.starts } }

  pub taken-array : {c : Cursor} → ArrayAt s at P c.at → TakenIs s at P (Taken.Input c)
  unfolding takes
  taken-array K = record { answer = record { input = K.input; same = sym (ap takes K.is); starts = K.starts } }

  taken_as : {r q : Taken} → TakenIs s at P r → r ≡ q → TakenAnswer s at P q
  taken_as T e = subst (λ (z : Taken). TakenAnswer s at P z) e T.answer

pub position-value : {s : Bytes} {at : ℕ} (P : SelectorAt s at) {k : Position} → P.tree ≡ position k → (ρ : Values) → value_at ρ (takes P.tree) ≡
    eval ρ P.tree
unfolding takes eval
position-value P e ρ = ap (λ (t : Selector). value_at ρ (takes t)) e ∙ sym (ap (eval ρ) e)

-- ---- the loop over inputs

-- the selector at `to` takes what that at `at` does
pub record Inward (s : Bytes) (at to : ℕ) : Type 0 where
  pub here : SelectorAt s to
  pub same : (P : SelectorAt s at) → takes here.tree ≡ takes P.tree

pub inward_start : {s : Bytes} {at : ℕ} → SelectorAt s at → ((P Q : SelectorAt s at) → (P.tree ≡ Q.tree) × (P.end ≡ Q.end)) → Inward s at at
inward_start P h = record { here = P; same = λ Q. ap takes (h P Q).0 }

module _ {s : Bytes} {at to : ℕ} (I : Inward s at to) {r : Taken} (T : (P : SelectorAt s to) → TakenIs s to P r) where
  pub inward_end : {k : ℕ} → r ≡ Taken.Position k → (P : SelectorAt s at) → k ≡ takes P.tree
  inward_end f P = taken_as (T I.here) f ∙ I.same P

  pub inward_more : {c : Cursor} → r ≡ Taken.Input c → Inward s at c.at
  inward_more f = let F = taken_as (T I.here) f in record { here = F.input; same = λ P. F.same ∙ I.same P }

  pub inward_falls : {c : Cursor} → r ≡ Taken.Input c → length s - c.at < length s - to
  inward_falls f = let F = taken_as (T I.here) f in omega (arith, F.starts, starts-inside I.here)
