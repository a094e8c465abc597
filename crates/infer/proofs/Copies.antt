-- What the functions of src/form.rt store and answer. Assumes nothing.
use Prim.Native.Nat.{ℕ, ◌+◌, ◌-◌, ◌%◌, ◌/◌, ◌≤◌, ◌<◌}
use mathlib.Core.Path.{◌≡◌, refl, sym, ap, ◌∙◌}
use mathlib.Core.Bool.{Bool, true, false}
use native.Mathlib.Omega.{arith}
use lib.ListN.{length, set}
use lib.Seq.{slice, length-slice}
use borrow.Author.Tests.{le-leb, lt-leb}
use Rattle.store.specs.code.Overlay.{overlay}
use Rattle.store.specs.LittleEndian.{little_bytes}
use Rattle.store.proofs.Overlay.{length-little}
use Rattle.layout.specs.Bytes.{Bytes, AllBytes}
use Rattle.layout.specs.Tree.{dtype_of}
use Rattle.layout.specs.code.Answers.{head_res}
use Rattle.layout.specs.Layout.{kind, a_struct, a_list, an_array}
use Rattle.layout.specs.code.Stands.{TypeAt}
use Rattle.layout.specs.declared.cursor.Cursor.{Cursor}
use Rattle.layout.specs.declared.types.Head.{Head}
use Rattle.layout.specs.declared.types.LeafType.{LeafType as LeafSpan}
use Rattle.layout.specs.declared.edition.Edition.{Edition}
use Rattle.layout.specs.declared.columns.Siblings.TheVariants.{Free}
use Rattle.layout.proofs.Ways.{clash}
use Rattle.forms.specs.Form.{u16_bytes, u32_bytes, kind_form, form}
use Rattle.forms.proofs.Heads.{head_at, end-leaf}
use Rattle.forms.proofs.Leaves.{little-u32}
use Rattle.forms.proofs.Theorems.{read-readable}
use Rattle.forms.proofs.Writing.{extent, form-written, rest-leaf, none-stored}
use Rattle.nodes.specs.code.Typed.{SizeOf}
use Rattle.nodes.specs.declared.types.FormSize.{FormSize}
use Rattle.nodes.proofs.Sizes.{size-leaf}
use Rattle.infer.specs.code.Writing.{Fills, LeafCopied, CopiedIs, length_of, behind_of}
use Rattle.infer.specs.declared.form.Inferred.{Inferred}

-- no answer says nothing
pub untrue : {X : Type 0} → false ≡ true → X
untrue e = clash (cc)

pub copied : {v : Edition} {s : Bytes} {at : ℕ} (T : TypeAt v 16 s at) → AllBytes s → {z : FormSize} (depth : ℕ) (out : Bytes) (k : ℕ) {new : Bytes}
    → SizeOf (dtype_of T.tree) T.end z → z.deep ≤ depth → z.size ≤ 16384 → k + z.size ≤ length out → new ≡ overlay out k (form (dtype_of T.tree))
    → CopiedIs (dtype_of T.tree) depth out k (Inferred.Is z.size) new
copied {v} {s} {at} T o depth out k Z d l r e =
    record {
      parts = record {
        stored = e;
        long = Z.size;
        room = r;
        short = l;
        deep = omega (arith, Z.deep, d);
        readable = read-readable v Free 16 s at
            o T.reads;
      };
    }

-- ---- a leaf

pub leaf-filled : (s : Bytes) (a e : ℕ) → a ≤ e → e ≤ length s → (depth : ℕ) (out : Bytes) (k : ℕ) {new : Bytes} → 0 < depth → e - a ≤ 16384 → k +
    (e - a) ≤ length out
    → new ≡ overlay out k (slice a e s) → LeafCopied (slice a e s) depth out k (Inferred.Is (e - a)) new
leaf-filled s a e h i depth out k d l r w =
    let n : length (slice a e s) ≡ e - a = length-slice a e s i in
    record { parts = (sym n, omega arith, l, record { stored = w; room = omega arith }) }

module _ {v : Edition} {s : Bytes} {c : Cursor} (T : TypeAt v 16 s c.at) {p : Head} (e : head_res s p ≡ kind s c.at) {l : LeafSpan} {b : Cursor}
    (f : p ≡ Head.Leaf l b) where
  pub leaf-span : (c.at ≤ b.at) × (b.at ≤ length s)
  leaf-span =
      let (x, y) = rest-leaf T e f in
      let (u, w) = extent T in
      ((size-leaf T e f).0, omega arith)

  pub leaf-copied : AllBytes s → (depth : ℕ) (out : Bytes) (k : ℕ) {q : Inferred} {new : Bytes} → LeafCopied (slice c.at b.at s) depth out k q new
      → CopiedIs (dtype_of T.tree) depth out k q new
  leaf-copied o depth out k {q} {new} L = go q L
    where
      go : (q : Inferred) → LeafCopied (slice c.at b.at s) depth out k q new → CopiedIs (dtype_of T.tree) depth out k q new
      go (Inferred.Is len) L =
          let (n, d, m, F) = L.parts in
          let (h, i) = leaf-span in
          let z : length (slice c.at b.at s) ≡ b.at - c.at = length-slice c.at b.at s i in
          let Z = (size-leaf T e f).1 in
          let H = head_at T refl (end-leaf s (kind s c.at) c e f) in
          record {
            parts = record {
              stored = form-written T H o out k F.stored (none-stored new (k + (b.at - c.at)) (rest-leaf T e f).0);
              long = n ∙ z ∙ Z.size;
              room = omega (arith, n, F.room);
              short = m;
              deep = omega (arith, Z.deep, d);
              readable = read-readable v Free 16 s c.at o T.reads;
            };
          }
      go Inferred.Unknown L = record { parts = tt }

-- ---- what types begin with

pub struct-put : (n : ℕ) (out : Bytes) (k : ℕ) {a b c : Bytes} → k + 3 ≤ length out → a ≡ set out k 18 → b ≡ set a (k + 1) (n % 256) → c ≡ set b (k + 2)
    (n / 256)
    → Fills (kind_form (a_struct n)) out k c
unfolding kind_form u16_bytes overlay
struct-put n out k h p q r =
    let e : k + 2 ≡ k + 1 + 1 = omega arith in
    record {
      stored = r ∙ ap (λ (x : Bytes). set x (k + 2) (n / 256)) (q ∙ ap (λ (x : Bytes). set x (k + 1) (n % 256)) p)
          ∙ ap (λ (i : ℕ). set (set (set out k 18) (k + 1) (n % 256)) i (n / 256)) e;
      room = h;
    }

pub list_put : (out : Bytes) (k : ℕ) {a : Bytes} → k + 1 ≤ length out → a ≡ set out k 19 → Fills (kind_form a_list) out k a
unfolding kind_form overlay
list_put out k h p = record { stored = p; room = h }

pub array-put : (w : ℕ) (out : Bytes) (k : ℕ) {a b : Bytes} → w < 4294967296 → k + 5 ≤ length out → a ≡ set out k 20 → b ≡ overlay a (k + 1) (little_bytes 4 w)
    → Fills (kind_form (an_array w)) out k b
unfolding kind_form overlay
array-put w out k f h p q =
    let g : length (u32_bytes w) ≡ 4 = ap length (little-u32 w f) ∙ length-little 4 w in
    record {
      stored = q ∙ ap (λ (x : Bytes). overlay x (k + 1) (little_bytes 4 w)) p ∙ ap (λ (x : Bytes). overlay (set out k 20) (k + 1) x) (sym (little-u32 w f));
      room = omega arith;
    }

-- ---- behind a head

pub behind-long : (head : ℕ) {r : Inferred} {len : ℕ} → r ≡ Inferred.Is len → 16384 < head + len → Inferred.Unknown ≡ behind_of head r
unfolding length_of
behind-long head {len = len} e h = ap (λ (b : Bool). length_of b (head + len)) (sym (lt-leb (head + len) 16384 h)) ∙ ap (behind_of head) (sym e)

pub behind-short : (head : ℕ) {r : Inferred} {len : ℕ} → r ≡ Inferred.Is len → head + len ≤ 16384 → Inferred.Is (head + len) ≡ behind_of head r
unfolding length_of
behind-short head {len = len} e h = ap (λ (b : Bool). length_of b (head + len)) (sym (le-leb (head + len) 16384 h)) ∙ ap (behind_of head) (sym e)
