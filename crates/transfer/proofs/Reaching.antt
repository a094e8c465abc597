-- What the functions that store a value answer on each way. Assumes nothing.
use Prim.Native.Nat.{ℕ}
use mathlib.Core.Path.{◌≡◌, refl, ap, sym, subst, ◌∙◌}
use mathlib.Core.Bool.{Bool, true}
use Rattle.layout.specs.Bytes.{Bytes, AllBytes}
use Rattle.layout.specs.Tree.{DataType, leaf, struct, list, array, ColumnType, dtype_of}
use Rattle.layout.specs.code.Answers.{head_res}
use Rattle.layout.specs.Layout.{kind}
use Rattle.layout.specs.code.Stands.{TypeAt}
use Rattle.layout.specs.declared.cursor.Cursor.{Cursor}
use Rattle.layout.specs.declared.leaf.Leaf.{Leaf}
use Rattle.layout.specs.declared.types.Head.{Head}
use Rattle.layout.specs.declared.types.LeafType.{LeafType as LeafSpan}
use Rattle.layout.specs.declared.edition.Edition.{Edition}
use Rattle.layout.proofs.Ways.{clash}
use Rattle.layout.proofs.View.{leaf_at_lem}
use Rattle.values.specs.Value.{Value, vnull, vnumber}
use Rattle.values.specs.Encode.{encode_value}
use Rattle.values.proofs.Back.{value_back}
use Rattle.plan.specs.Convert.{convert}
use Rattle.plan.specs.Run.{cast_leaf, cast_value, clean}
use Rattle.plan.proofs.Over.{fits-clean}
use Rattle.convert.specs.code.Converted.{value_of}
use Rattle.convert.specs.declared.leaf.Converted.{Converted}
use Rattle.nodes.specs.code.Raw.{RawAt}
use Rattle.layout.proofs.Leaves.{leaf_of-type}
use Rattle.raw.proofs.Leaves.{is_nested}
use Rattle.transfer.specs.code.Reaching.{Kept, ReachedAnswer, ReachedIs}
use Rattle.transfer.specs.declared.leaf.Reached.{Reached}

pub unknown : {ok : Bool} {b : Bytes} {e : ℕ} {out : Bytes} {k : ℕ} {new : Bytes} → ReachedIs ok b e out k Reached.Unknown new
unknown = record { answer = tt }

-- the same answer, by an equation of the value
pub reached_as : {x y : Value} {e : ℕ} {out : Bytes} {k : ℕ} {r : Reached} {new : Bytes} → x ≡ y
    → ReachedIs (clean x) (encode_value x) e out k r new → ReachedIs (clean y) (encode_value y) e out k r new
reached_as {e = e} {out} {k} {r} {new} q R = subst (λ (z : Value). ReachedIs (clean z) (encode_value z) e out k r new) q R

-- by an equation of where the selector ends
pub reached_end : {ok : Bool} {b : Bytes} {e f : ℕ} {out : Bytes} {k : ℕ} {r : Reached} {new : Bytes} → e ≡ f → ReachedIs ok b e out k r new → ReachedIs
    ok b f out k r new
reached_end {ok} {b} {out = out} {k} {r} {new} q R = subst (λ (z : ℕ). ReachedIs ok b z out k r new) q R

-- what an answer says
pub reached_to : {ok : Bool} {b : Bytes} {e : ℕ} {out : Bytes} {k : ℕ} {r : Reached} {new : Bytes} {c : Cursor} {m : ℕ} → ReachedIs ok b e out k r new →
    r ≡ Reached.To c m
    → (c.at ≡ e) × Kept ok b out k m new
reached_to {ok} {b} {e} {out} {k} {r} {new} R q = subst (λ (z : Reached). ReachedAnswer ok b e out k z new) q R.answer

pub reached_null : {x : Value} {e : ℕ} {out : Bytes} {k : ℕ} {r : Reached} {new : Bytes} → x ≡ vnull → ReachedIs true (encode_value vnull) e out k r new
    → ReachedIs (clean x) (encode_value x) e out k r new
unfolding clean
reached_null q R = reached_as (sym q) R

-- what was read has no date-time that is too large
pub raw-clean : {v : Edition} {lay : Bytes} {t : ℕ} {rec : Bytes} {c : ℕ} → AllBytes rec → (X : RawAt v lay t rec c) → clean X.value.tree ≡ true
raw-clean {rec = rec} {c = c} o X = fits-clean (value_back (dtype_of X.type.tree) rec o c X.value.tree X.value.end X.value.reads).fits

-- ---- casts

module _ (kind to : Leaf) (n : ℕ) {q : Converted} (h : value_of to q ≡ convert kind to n) {m : ℕ} (f : q ≡ Converted.Number m) where
  pub converted : vnumber to m ≡ cast_leaf to (vnumber kind n)
  unfolding cast_leaf
  converted = ap (value_of to) (sym f) ∙ h

pub cast_nested : (t : DataType) (x : Value) → is_nested t ≡ true → x ≡ cast_value t x
unfolding cast_value
cast_nested (leaf l) x e = clash (cc)
cast_nested (struct fs) x e = refl
cast_nested (list t) x e = refl
cast_nested (array w t) x e = refl

pub cast_leaf_lem : {v : Edition} {s : Bytes} {at : ℕ} (T : TypeAt v 16 s at) (x : Value) {p : Head} {l : LeafSpan} {c : Cursor} → head_res s p ≡ kind s at →
    p ≡ Head.Leaf l c
    → cast_leaf l.leaf x ≡ cast_value (dtype_of T.tree) x
unfolding dtype_of cast_value
cast_leaf_lem T x {l = l} h q = ap (λ (k : Leaf). cast_leaf k x) (sym (leaf_of-type l.leaf _)) ∙ ap (λ (c : ColumnType). cast_value (dtype_of c) x)
    (sym (leaf_at_lem T h q).0)
