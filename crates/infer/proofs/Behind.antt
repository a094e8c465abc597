-- Forms that are written one behind another. Assumes nothing.
use Prim.Native.Nat.{ℕ, ◌+◌, ◌-◌, ◌≤◌, ◌<◌}
use mathlib.Core.Path.{◌≡◌, refl, sym, ap, subst, ◌∙◌}
use mathlib.Core.Bool.{Bool, true, false}
use mathlib.Core.List.{[], ◌++◌, append-nil, append_assoc}
use native.Mathlib.Omega.{arith}
use lib.Dec.{leb}
use lib.ListN.{length, length-append}
use borrow.Author.Tests.{leb-true, le-leb}
use Rattle.store.specs.code.Overlay.{overlay}
use Rattle.store.proofs.Overlay.{overlay-append, length-overlay}
use Rattle.layout.specs.Bytes.{Bytes}
use Rattle.layout.specs.Tree.{DataType, struct, list, array, Fields, fnil, fcons, count_fields}
use Rattle.layout.specs.Layout.{a_struct, a_list, an_array}
use Rattle.forms.specs.Form.{u16_bytes, u32_bytes, text_bytes, kind_form, form, form_fields}
use Rattle.forms.specs.code.Readable.{ShortText}
use Rattle.forms.specs.Depth.{depth_of, depth_of_fields}
use Rattle.plan.specs.Check.{within_limits}
use Rattle.plan.proofs.Results.{and-true}
use Rattle.infer.specs.code.Writing.{Writes, Fills, WritesFields, length_of, behind_of}
use Rattle.infer.specs.declared.form.Inferred.{Inferred}

-- an answer behind so many bytes: unknown, or the sum, no longer than a result may be
pub behind_split : (A : Inferred → Type 0) (head : ℕ) (r : Inferred) {q : Inferred} → q ≡ behind_of head r → A Inferred.Unknown →
    ((len : ℕ) → r ≡ Inferred.Is len → head + len ≤ 16384 → A (Inferred.Is (head + len))) → A q
unfolding length_of
behind_split A head (Inferred.Is len) {q} e u f = go (leb (head + len) 16384) refl e
  where
    go : (b : Bool) → leb (head + len) 16384 ≡ b → q ≡ length_of b (head + len) → A q
    go true g e = subst A (sym e) (f len refl (leb-true (head + len) 16384 g))
    go false g e = subst A (sym e) u
behind_split A head Inferred.Unknown e u f = subst A (sym e) u

-- a type that was written is within the limits of a result
pub limits : {t : DataType} {depth : ℕ} {out : Bytes} {k len : ℕ} {o : Bytes} → Writes t depth out k len o → depth ≤ 16 → within_limits t ≡ true
unfolding within_limits
limits {t} W h =
    let d = W.deep in
    let l = W.long in
    let s = W.short in
    and-true (le-leb (depth_of t) 16 (omega arith)) (le-leb (length (form t)) 16384 (omega arith))

-- ---- bytes behind bytes

module _ {a : Bytes} {out : Bytes} {k : ℕ} {o : Bytes} (F : Fills a out k o) where
  pub same_size : length o ≡ length out
  same_size = ap (λ (x : Bytes). length x) F.stored ∙ length-overlay out k a

  fills-then : (b : Bytes) {o' : Bytes} {m : ℕ} → m ≡ k + length a → o' ≡ overlay o m b → o' ≡ overlay out k (a ++ b)
  fills-then b {m = m} e f = f ∙ ap (λ (i : ℕ). overlay o i b) e ∙ ap (λ (x : Bytes). overlay x (k + length a) b) F.stored ∙ overlay-append out k a b

  fills-long : (b : Bytes) {head len : ℕ} → head ≡ length a → len ≡ length b → head + len ≡ length (a ++ b)
  fills-long b e f = let g = length-append a b in omega arith

  fills-room : (head len : ℕ) {m : ℕ} → head ≡ length a → m ≡ k + head → m + len ≤ length o → k + (head + len) ≤ length out
  fills-room head len e f g = let z = same_size in omega arith

module _ {depth : ℕ} {out : Bytes} {k len : ℕ} {o o' : Bytes} where
  pub list-writes : {t : DataType} → Fills (kind_form a_list) out k o → Writes t depth o (k + 1) len o' → 1 + len ≤ 16384 → Writes (list t) (depth + 1)
      out k (1 + len) o'
  unfolding form kind_form depth_of
  list-writes {t} F W h = record {
    stored = fills-then F (form t) refl W.stored;
    long = fills-long F (form t) refl W.long;
    room = fills-room F 1 len refl refl W.room;
    short = h;
    deep = let d = W.deep in omega arith;
    readable = W.readable;
  }

  pub array-writes : {w : ℕ} {t : DataType} → Fills (kind_form (an_array w)) out k o → Writes t depth o (k + 5) len o' → w < 4294967296 → 5 + len ≤ 16384
      → Writes (array w t) (depth + 1) out k (5 + len) o'
  unfolding form kind_form u32_bytes u16_bytes depth_of
  array-writes {t = t} F W w h = record {
    stored = fills-then F (form t) refl W.stored;
    long = fills-long F (form t) refl W.long;
    room = fills-room F 5 len refl refl W.room;
    short = h;
    deep = let d = W.deep in omega arith;
    readable = (w, W.readable);
  }

  pub struct-writes : {n : ℕ} {fs : Fields} → Fills (kind_form (a_struct n)) out k o → WritesFields fs depth o (k + 3) len o' → count_fields fs ≡ n → n <
      65536 → 3 + len ≤ 16384
      → Writes (struct fs) (depth + 1) out k (3 + len) o'
  unfolding form kind_form u16_bytes depth_of
  struct-writes {n} {fs} F W e l h = go (subst (λ (m : ℕ). Fills (kind_form (a_struct m)) out k o) (sym e) F)
    where
      go : Fills (kind_form (a_struct (count_fields fs))) out k o → Writes (struct fs) (depth + 1) out k (3 + len) o'
      go F = record {
        stored = fills-then F (form_fields fs) refl W.stored;
        long = fills-long F (form_fields fs) refl W.long;
        room = fills-room F 3 len refl refl W.room;
        short = h;
        deep = let d = W.deep in omega arith;
        readable = (omega arith, W.readable);
      }

  -- a name and a type
  pub column-writes : {n : Bytes} {t : DataType} {at : ℕ} → Fills (text_bytes n) out k o → at ≡ k + length (text_bytes n) → Writes t depth o at len o' →
      ShortText n → WritesFields (fcons n t fnil) depth out k (at - k + len) o'
  unfolding form_fields depth_of_fields
  column-writes {n} {t} {at} F e W s =
      let z : at - k ≡ length (text_bytes n) = omega arith in
      let y : at ≡ k + (at - k) = omega arith in
      let f : form t ≡ form t ++ [] = sym (append-nil (form t)) in
      record {
        stored = fills-then F (form t ++ []) e (W.stored ∙ ap (λ (b : Bytes). overlay o at b) f);
        long = fills-long F (form t ++ []) z (W.long ∙ ap (λ (b : Bytes). length b) f);
        room = fills-room F (at - k) len z y W.room;
        deep = let d = W.deep in omega arith;
        readable = (s, (W.readable, tt));
      }

-- ---- columns behind a column

pub fields-writes : {n : Bytes} {t : DataType} {fs : Fields} {depth : ℕ} {out : Bytes} {k a b : ℕ} {o o' : Bytes} → WritesFields (fcons n t fnil) depth
    out k a o → WritesFields fs depth o (k + a) b o'
    → WritesFields (fcons n t fs) depth out k (a + b) o'
unfolding form_fields depth_of_fields
fields-writes {n} {t} {fs} {depth} {out} {k} {a} {b} {o} {o'} C W =
    let x : form_fields (fcons n t fnil) ++ form_fields fs ≡ form_fields (fcons n t fs) =
    append_assoc (text_bytes n) (form t ++ []) (form_fields fs) ∙ ap (λ (z : Bytes). text_bytes n ++ (z ++ form_fields fs)) (append-nil (form t)) in
    let l = C.long in
    let F : Fills (form_fields (fcons n t fnil)) out k o = record { stored = C.stored; room = let r = C.room in omega arith } in
    record {
      stored = fills-then F (form_fields fs) (ap (λ (i : ℕ). k + i) l) W.stored ∙ ap (λ (z : Bytes). overlay out k z) x;
      long = fills-long F (form_fields fs) l W.long ∙ ap (λ (z : Bytes). length z) x;
      room = fills-room F a b l refl W.room;
      deep = let d = C.deep in let e = W.deep in omega arith;
      readable = (C.readable.0, (C.readable.1.0, W.readable));
    }

-- ---- what is left of the buffer behind a head

module _ {out : Bytes} {k : ℕ} {o : Bytes} where
  pub list_left : Fills (kind_form a_list) out k o → k + 1 ≤ length o
  unfolding kind_form
  list_left F = let r = F.room in let z = same_size F in omega arith

  pub array-left : (w : ℕ) → Fills (kind_form (an_array w)) out k o → k + 5 ≤ length o
  unfolding kind_form u32_bytes u16_bytes
  array-left w F = let r = F.room in let z = same_size F in omega arith

  pub struct_left : (n : ℕ) → Fills (kind_form (a_struct n)) out k o → k + 3 ≤ length o
  unfolding kind_form u16_bytes
  struct_left n F = let r = F.room in let z = same_size F in omega arith

  pub name-left : (n : Bytes) {at : ℕ} → (at ≡ k + length (text_bytes n)) × Fills (text_bytes n) out k o → (k ≤ at) × (at ≤ length o) × (length o ≡ length out)
  name-left n (e, F) = let r = F.room in let z = same_size F in (omega arith, omega arith, z)
