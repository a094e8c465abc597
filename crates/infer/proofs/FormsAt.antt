-- A type's form that was written into a buffer stands there as a type. Assumes nothing.
use Prim.Native.Nat.{ℕ, ◌+◌, ◌≤◌}
use mathlib.Core.Path.{◌≡◌, refl, ap, ◌∙◌}
use mathlib.Core.List.{List, [], ◌∷◌, ◌++◌, append_assoc}
use native.Mathlib.Numerals.{add-one}
use native.Mathlib.Omega.{arith}
use lib.ListN.{length, take, drop, set}
use lib.Seq.{sets, sets-eq, drop_at, length-take-le}
use Rattle.store.specs.code.Overlay.{overlay}
use Rattle.store.proofs.Overlay.{length-overlay}
use Rattle.layout.specs.Bytes.{Bytes}
use Rattle.layout.specs.Tree.{DataType, dtype_of}
use Rattle.layout.specs.code.Stands.{TypeAt}
use Rattle.layout.specs.declared.edition.Edition.TheVariants.{One}
use Rattle.forms.specs.Form.{form}
use Rattle.forms.specs.code.Readable.{labelled}
use Rattle.forms.proofs.Written.{type_at, dtype_labelled}
use Rattle.infer.specs.code.Writing.{Writes}

overlay-sets : (out : List ℕ) (k : ℕ) (bs : List ℕ) → overlay out k bs ≡ sets out k bs
unfolding overlay
overlay-sets out k [] = refl
overlay-sets out k (b ∷ bs) = overlay-sets (set out k b) (k + 1) bs ∙ rw add-one

-- bytes that were stored, and what is behind them
pub drop-overlay : (out : List ℕ) (k : ℕ) (bs : List ℕ) → k + length bs ≤ length out → drop k (overlay out k bs) ≡ bs ++ drop (k + length bs) out
drop-overlay out k bs h =
    ap (λ (l : List ℕ). drop k l) (overlay-sets out k bs ∙ sets-eq bs out k h ∙ append_assoc (take k out) bs (drop (k + length bs) out))
    ∙ drop_at (take k out) (bs ++ drop (k + length bs) out) k (length-take-le k out (omega arith))

module _ {t : DataType} {d : ℕ} {out : Bytes} {k len : ℕ} {out' : Bytes} (W : Writes t d out k len out') where
  pub stood : drop k out' ≡ form t ++ drop (k + length (form t)) out
  stood = let h = W.room in let e = W.long in ap (λ (l : Bytes). drop k l) W.stored ∙ drop-overlay out k (form t) (omega arith)

  -- the type, where it was written
  abbrev pub standing : TypeAt One d out' k
  standing = record { tree = labelled t; end = k + length (form t); reads = type_at t d out' k (drop (k + length (form t)) out) W.readable W.deep stood }

  pub standing-is : dtype_of standing.tree ≡ t
  standing-is = dtype_labelled t

  pub same-room : length out' ≡ length out
  same-room = ap length W.stored ∙ length-overlay out k (form t)
