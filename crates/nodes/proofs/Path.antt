-- A path into a value or a type, number by number. Assumes nothing.
use Prim.Native.Nat.{ℕ, ◌+◌, ◌≤◌, ◌<◌}
use mathlib.Core.Path.{◌≡◌, refl, sym, ap, ◌∙◌}
use mathlib.Core.List.{List, [], ◌∷◌}
use native.Mathlib.Omega.{arith}
use native.Mathlib.Numerals.{add-one}
use lib.ListN.{length, get_or}
use lib.Seq.{slice, slice_empty, slice-cons}
use Rattle.layout.specs.Bytes.{Bytes}
use Rattle.layout.specs.declared.cursor.Cursor.{Cursor}
use Rattle.layout.specs.declared.edition.Edition.{Edition}
use Rattle.values.specs.Value.{Value, vnull, vnumber, vtext, voverflow, vstruct, vlist, varray}
use Rattle.walk.specs.code.Values.{opened, value_node}
use Rattle.nodes.specs.code.Raw.{RawAt, NodeOf, part_at}
use Rattle.nodes.specs.declared.raw.NodeAt.{NodeAt}
use Rattle.nodes.proofs.Node.{nowhere, standing}

-- the next number of a path, and what is left of it
pub path-next : (path : List ℕ) (i len : ℕ) → i < len → len ≤ length path → slice i len path ≡ get_or path i 0 ∷ slice (i + 1) len path
path-next path i len h l = slice-cons i len path 0 h l ∙ ap (λ (j : ℕ). get_or path i 0 ∷ slice j len path) (sym (add-one i))

pub path-end : (path : List ℕ) (i len : ℕ) → i ≤ len → len ≤ i → slice i len path ≡ []
path-end path i len h l = ap (λ (j : ℕ). slice j len path) (let e : i ≡ len = omega arith in e) ∙ slice_empty len path

-- ---- into a value

node-null : (p : List ℕ) → value_node vnull p ≡ vnull
unfolding value_node opened
node-null [] = refl
node-null (k ∷ p) = refl

-- the node at a path is in the part that its first number takes
pub node-part : (x : Value) (k : ℕ) (p : List ℕ) → value_node x (k ∷ p) ≡ value_node (part_at x k) p
unfolding value_node opened
node-part vnull k p = sym (node-null p)
node-part (vnumber i n) k p = sym (node-null p)
node-part (vtext b) k p = sym (node-null p)
node-part voverflow k p = sym (node-null p)
node-part (vstruct vs) k p = refl
node-part (vlist vs) k p = refl
node-part (varray vs) k p = refl

-- the value at t and c, and its node at the path p: what is left to find is the node at q of what stands at u and d
pub record Nearer (v : Edition) (lay rec : Bytes) (x : Value) (p : List ℕ) (u d : ℕ) (q : List ℕ) : Type 0 where
  pub raw : RawAt v lay u rec d
  pub is : value_node raw.value.tree q ≡ value_node x p

-- after the numbers before i
pub record Going (v : Edition) (lay : Bytes) (t : ℕ) (rec : Bytes) (c : ℕ) (path : List ℕ) (from len u d i : ℕ) : Type 0 where
  pub within : i ≤ len
  pub goes : (X : RawAt v lay t rec c) → Nearer v lay rec X.value.tree (slice from len path) u d (slice i len path)

pub going_start : {v : Edition} {lay : Bytes} {t : ℕ} {rec : Bytes} {c : ℕ} {path : List ℕ} {from len : ℕ} → from ≤ len → Going v lay t rec c path from
    len t c from
going_start h = record { within = h; goes = λ X. record { raw = X; is = refl } }

module _ {v : Edition} {lay : Bytes} {t : ℕ} {rec : Bytes} {c : ℕ} {path : List ℕ} {from len u d i : ℕ} (a : Going v lay t rec c path from len u d i) where
  pub going_end : len ≤ i → (X : RawAt v lay t rec c) → NodeOf v lay rec (value_node X.value.tree (slice from len path))
      (NodeAt.At (record { at = u }) (record { at = d }))
  unfolding value_node
  going_end h X =
      let N = a.goes X in
      standing (record { raw = N.raw; is = sym (ap (value_node N.raw.value.tree) (path-end path i len a.within h)) ∙ N.is })

  module _ (lt : i < len) (l : len ≤ length path) {r : NodeAt} (h : (Y : RawAt v lay u rec d) → NodeOf v lay rec
      (part_at Y.value.tree (get_or path i 0)) r) where
    step : (x : Value) → value_node x (slice i len path) ≡ value_node (part_at x (get_or path i 0)) (slice (i + 1) len path)
    step x = ap (value_node x) (path-next path i len lt l) ∙ node-part x (get_or path i 0) (slice (i + 1) len path)

    pub going_nowhere : r ≡ NodeAt.Null → (X : RawAt v lay t rec c) → NodeOf v lay rec (value_node X.value.tree (slice from len path)) NodeAt.Null
    going_nowhere e X =
        let N = a.goes X in
        nowhere (sym N.is ∙ step N.raw.value.tree ∙ ap (λ (x : Value). value_node x (slice (i + 1) len path)) ((h N.raw).none e) ∙ node-null
        (slice (i + 1) len path))

    pub going_more : {e f : Cursor} → r ≡ NodeAt.At e f → Going v lay t rec c path from len e.at f.at (i + 1)
    going_more {e} {f} q = record {
      within = omega arith;
      goes = λ X.
          let N = a.goes X in
          let M = (h N.raw).here e f q in
          record {
            raw = M.raw;
            is = ap (λ (x : Value). value_node x (slice (i + 1) len path)) M.is ∙ sym (step N.raw.value.tree) ∙ N.is;
          };
    }
