-- Laws of what is stored, and of what no cast changes. Assumes nothing.
use Prim.Native.Nat.{ℕ, suc, ◌+◌, ◌≤◌}
use mathlib.Core.Path.{◌≡◌, refl, ap, sym, subst}
use mathlib.Core.Bool.{Bool, true, false}
use mathlib.Core.List.{[], ◌∷◌}
use native.Mathlib.Omega.{arith}
use lib.ListN.{length}
use Rattle.layout.specs.Bytes.{Bytes}
use Rattle.layout.specs.declared.leaf.Leaf.{Leaf}
use Rattle.layout.proofs.Ways.{clash}
use Rattle.store.specs.code.Overlay.{overlay}
use Rattle.store.specs.LittleEndian.{little_bytes}
use Rattle.store.proofs.Overlay.{length-little}
use Rattle.values.proofs.Leaves.{width_small}
use Rattle.values.specs.Value.{Value, vnull, vnumber, vtext, voverflow, vstruct, vlist, varray}
use Rattle.values.specs.Content.{width_of}
use Rattle.values.specs.Encode.{encode_value}
use Rattle.plan.specs.Run.{cast_leaf}
use Rattle.raw.specs.code.Number.{is_number}
use Rattle.raw.specs.code.Stored.{Stores, lead}

pub cast-kept : (k : Leaf) (v : Value) → is_number v ≡ false → cast_leaf k v ≡ v
unfolding cast_leaf is_number
cast-kept k vnull e = refl
cast-kept k (vnumber i n) e = clash (cc)
cast-kept k (vtext b) e = refl
cast-kept k voverflow e = refl
cast-kept k (vstruct vs) e = refl
cast-kept k (vlist vs) e = refl
cast-kept k (varray vs) e = refl

pub number_short : (k : Leaf) (n : ℕ) → length (encode_value (vnumber k n)) ≤ 9
unfolding encode_value
number_short k n = omega (arith, length-little (width_of k) n, width_small k)

pub stores_as : {out : Bytes} {k : ℕ} {u v : Value} {r : ℕ} {new : Bytes} → u ≡ v → Stores out k (encode_value u) r new → Stores out k (encode_value v) r new
stores_as {out} {k} {u} {v} {r} {new} e S = subst (λ (w : Value). Stores out k (encode_value w) r new) e S

pub lead-counted : (out : Bytes) (k m : ℕ) {c : Bool} → c ≡ true → {new : Bytes} → new ≡ overlay out k (1 ∷ little_bytes 2 m) → Stores out k (lead c m)
    (k + 3) new
lead-counted out k m e {new} g =
    subst (λ (c : Bool). Stores out k (lead c m) (k + 3) new) (sym e)
    (record { ends = ap (λ (i : ℕ). k + i) (let z : 3 ≡ suc (length (little_bytes 2 m)) = omega (arith, length-little 2 m) in z); stored = g })

pub lead_plain : (out : Bytes) (k m : ℕ) {c : Bool} → c ≡ false → {new : Bytes} → new ≡ overlay out k (1 ∷ []) → Stores out k (lead c m) (k + 1) new
lead_plain out k m e {new} g = subst (λ (c : Bool). Stores out k (lead c m) (k + 1) new) (sym e) (record { ends = refl; stored = g })

pub lead-short : (c : Bool) (m : ℕ) → length (lead c m) ≤ 3
lead-short true m = omega (arith, length-little 2 m)
lead-short false m = omega arith
