-- A form that stands in bytes is read as the type it was made of. Assumes nothing.
use Prim.Native.Nat.{ℕ, zero, suc, ◌+◌, ◌*◌, ◌/◌, ◌%◌, ◌≤◌, ◌<◌}
use mathlib.Core.Path.{◌≡◌, refl, sym, ap, ◌∙◌}
use mathlib.Core.List.{List, [], ◌∷◌, ◌++◌, append_assoc}
use mathlib.Core.Bool.{true}
use native.Mathlib.Omega.{arith}
use lib.ListN.{length, get_or, take, drop, length-append, length-drop}
use lib.Seq.{drop-drop, get_or-drop, drop-append_seam, take-append_seam}
use borrow.Author.Tests.{lt-ltb, le-leb, ne_eqb}
use Rattle.layout.specs.Bytes.{Bytes}
use Rattle.layout.specs.Parser.{ok, next, choose, byte, chunk, u16, u32}
use Rattle.layout.specs.Tree.{LeafType, datetime, decimal, Label, cnil, DataType, leaf}
use Rattle.layout.specs.Tree.{struct, list, array, Fields, fnil, fcons, count_fields, dtype_of, fields_of}
use Rattle.layout.specs.Layout.{Head, a_leaf, a_struct, a_list, an_array, text, unit, valid_decimal, decimal_params, leaf_head, datetime_head, decimal_head}
use Rattle.layout.specs.Layout.{struct_head, array_head, kind_of, kind, field_id, field_mark, label_rest, label, element_label, columns, body, struct_type, list_type}
use Rattle.layout.specs.Layout.{array_type, type}
use Rattle.layout.specs.declared.leaf.TimeUnit.{TimeUnit}
use Rattle.layout.specs.declared.leaf.Decimal.{Decimal}
use Rattle.layout.specs.declared.leaf.TimeUnit.TheVariants.{Nanoseconds, Microseconds, Milliseconds}
use Rattle.layout.specs.declared.edition.Edition.TheVariants.{One}
use Rattle.layout.specs.declared.columns.Siblings.TheVariants.{Free}
use Rattle.layout.proofs.FreeRule.{repeats_free}
use Rattle.layout.specs.Layout.{unit_code}
use Rattle.forms.specs.Form.{u16_bytes, u32_bytes, text_bytes, carried, leaf_form, kind_form, form, form_fields}
use Rattle.forms.specs.code.Readable.{ReadableLeaf, Readable, ReadableFields, labelled, labelled_fields, named}
use Rattle.forms.specs.Depth.{depth_of, depth_of_fields}
use Rattle.forms.proofs.Leaves.{LeafCase, plain, timed, scaled, leaf_case}

-- what stands behind a part
behind : (s : Bytes) (at : ℕ) (xs r : Bytes) → drop at s ≡ xs ++ r → drop (at + length xs) s ≡ r
behind s at xs r e = sym (drop-drop (length xs) at s) ∙ ap (λ (l : Bytes). drop (length xs) l) e ∙ drop-append_seam xs r

inside : (s : Bytes) (at : ℕ) {b : ℕ} {r : Bytes} → drop at s ≡ b ∷ r → at < length s
inside s at e = let h = ap length e in let g = length-drop at s in omega arith

byte_at : (s : Bytes) (at : ℕ) {b : ℕ} {r : Bytes} → drop at s ≡ b ∷ r → byte s at ≡ ok b (at + 1)
unfolding byte choose
byte_at s at {b} {r} e =
    let z : at + 0 ≡ at = omega arith in
    let h : get_or s at 0 ≡ b = ap (λ (i : ℕ). get_or s i 0) (sym z) ∙ sym (get_or-drop at s 0 0) ∙ ap (λ (l : Bytes). get_or l 0 0) e in
    rw (lt-ltb at (length s) (inside s at e), h)

chunk-at : (s : Bytes) (at : ℕ) (b r : Bytes) → at ≤ length s → drop at s ≡ b ++ r → chunk (length b) s at ≡ ok b (at + length b)
unfolding chunk choose
chunk-at s at b r l e =
    let h = ap length e ∙ length-append b r in
    let g = length-drop at s in
    let t : take (length b) (drop at s) ≡ b = ap (λ (x : Bytes). take (length b) x) e ∙ take-append_seam b r in
    rw (le-leb (at + length b) (length s) (omega arith), t)

text_at : (s : Bytes) (at : ℕ) (b r : Bytes) → length b ≤ 63 → drop at s ≡ text_bytes b ++ r → text s at ≡ ok b (at + length (text_bytes b))
unfolding text text_bytes next choose
text_at s at b r l e =
    let h = inside s at e in
    let z : at + 1 + length b ≡ at + suc (length b) = omega arith in
    rw (byte_at s at e, le-leb (length b) 63 l, chunk-at s (at + 1) b r (omega arith) (behind s at (length b ∷ []) (b ++ r) e), z)

u16-at : (s : Bytes) (at n : ℕ) (r : Bytes) → drop at s ≡ u16_bytes n ++ r → u16 s at ≡ ok n (at + 2)
unfolding u16 u16_bytes next
u16-at s at n r e =
    let f = behind s at (n % 256 ∷ []) _ e in
    let h : n % 256 + 256 * (n / 256) ≡ n = omega arith in
    let z : at + 1 + 1 ≡ at + 2 = omega arith in
    rw (byte_at s at e, byte_at s (at + 1) f, h, z)

two : (s : Bytes) (at n : ℕ) (r : Bytes) → drop at s ≡ u16_bytes n ++ r → drop (at + 2) s ≡ r
unfolding u16_bytes
two s at n r e = behind s at (u16_bytes n) r e

u32-at : (s : Bytes) (at n : ℕ) (r : Bytes) → drop at s ≡ u32_bytes n ++ r → u32 s at ≡ ok n (at + 4)
unfolding u32 u32_bytes next
u32-at s at n r e =
    let f = e ∙ append_assoc (u16_bytes (n % 65536)) (u16_bytes (n / 65536)) r in
    let g : drop (at + 2) s ≡ u16_bytes (n / 65536) ++ r = two s at (n % 65536) (u16_bytes (n / 65536) ++ r) f in
    let h : n % 65536 + 65536 * (n / 65536) ≡ n = omega arith in
    let z : at + 2 + 2 ≡ at + 4 = omega arith in
    rw (u16-at s at (n % 65536) (u16_bytes (n / 65536) ++ r) f, u16-at s (at + 2) (n / 65536) r g, h, z)

unit-at : (s : Bytes) (at : ℕ) (u : TimeUnit) {r : Bytes} → drop at s ≡ unit_code u ∷ r → unit s at ≡ ok u (at + 1)
unfolding unit next choose
unit-at s at Nanoseconds e = rw (byte_at s at e)
unit-at s at Microseconds e = rw (byte_at s at e)
unit-at s at Milliseconds e = rw (byte_at s at e)

timed-at : (s : Bytes) (at : ℕ) (u : TimeUnit) (z r : Bytes) → length z ≤ 63 → drop at s ≡ leaf_form (datetime u z) ++ r
    → kind s at ≡ ok (a_leaf (datetime u z)) (at + length (leaf_form (datetime u z)))
unfolding kind kind_of datetime_head next choose leaf_form carried
timed-at s at u z r l e =
    let f = behind s at (14 ∷ []) _ e in
    let g = behind s (at + 1) (unit_code u ∷ []) _ f in
    let y : at + 1 + 1 + length (text_bytes z) ≡ at + suc (suc (length (text_bytes z))) = omega arith in
    rw (byte_at s at e, unit-at s (at + 1) u f, text_at s (at + 1 + 1) z r l g, y)

scaled_at : (s : Bytes) (at : ℕ) (d : Decimal) (r : Bytes) → valid_decimal d.precision d.scale ≡ true → drop at s ≡ leaf_form (decimal d) ++ r
    → kind s at ≡ ok (a_leaf (decimal d)) (at + length (leaf_form (decimal d)))
unfolding kind kind_of decimal_head decimal_params next choose leaf_form carried
scaled_at s at d r h e =
    let f = behind s at (21 ∷ []) _ e in
    let g = behind s (at + 1) (d.precision ∷ []) _ f in
    let y : at + 1 + 1 + 1 ≡ at + 3 = omega arith in
    rw (byte_at s at e, byte_at s (at + 1) f, byte_at s (at + 1 + 1) g, h, y)

plain_at : (s : Bytes) (at : ℕ) (l : LeafType) (r : Bytes) → LeafCase l → ReadableLeaf l → drop at s ≡ leaf_form l ++ r → kind s at ≡ ok (a_leaf l)
    (at + length (leaf_form l))
unfolding kind kind_of next choose leaf_head
plain_at s at l r (plain k c b n p i f) h e =
    let g : drop at s ≡ c ∷ r = rw f at e in
    rw (
      f,
      byte_at s at g,
      ne_eqb c 14 n,
      ne_eqb c 18 (λ z. omega arith),
      ne_eqb c 19 (λ z. omega arith),
      ne_eqb c 20 (λ z. omega arith),
      ne_eqb c 21
          (λ z. omega arith),
      p,
      i,
    )
plain_at s at l r (timed u z i f) h e = let k : ReadableLeaf (datetime u z) = rw i at h in rw i (timed-at s at u z r k.0 (rw i at e))
plain_at s at l r (scaled d i f) h e = rw i (scaled_at s at d r (rw i at h) (rw i at e))

-- what a kind asks to be read
abbrev Shown : Head → Type 0
Shown (a_leaf l) = ReadableLeaf l
Shown (a_struct n) = Unit {0}
Shown a_list = Unit {0}
Shown (an_array w) = Unit {0}

kind_at : (s : Bytes) (at : ℕ) (k : Head) (r : Bytes) → Shown k → drop at s ≡ kind_form k ++ r → kind s at ≡ ok k (at + length (kind_form k))
unfolding kind kind_of struct_head array_head next choose kind_form u16_bytes u32_bytes
kind_at s at (a_leaf l) r h e = plain_at s at l r (leaf_case l) h e
kind_at s at (a_struct n) r h e =
    let z : at + 1 + 2 ≡ at + 3 = omega arith in
    rw (byte_at s at e, u16-at s (at + 1) n r (behind s at (18 ∷ []) _ e), z)
kind_at s at a_list r h e = rw (byte_at s at e)
kind_at s at (an_array w) r h e =
    let z : at + 1 + 4 ≡ at + 5 = omega arith in
    rw (byte_at s at e, u32-at s (at + 1) w r (behind s at (20 ∷ []) _ e), z)

label_at : (s : Bytes) (at : ℕ) (b r : Bytes) → length b ≤ 63 → drop at s ≡ text_bytes b ++ r → label One s at ≡ ok (named b) (at + length (text_bytes b))
unfolding label label_rest field_id field_mark next
label_at s at b r l e = rw (text_at s at b r l e)

-- one part and what is behind it, of a form
parts : (s : Bytes) (at : ℕ) (xs ys r : Bytes) → drop at s ≡ xs ++ ys ++ r → (drop at s ≡ xs ++ (ys ++ r)) × (drop (at + length xs) s ≡ ys ++ r)
parts s at xs ys r e = let f = e ∙ append_assoc xs ys r in (f, behind s at xs (ys ++ r) f)

ends : (at : ℕ) (xs ys : Bytes) → at + length xs + length ys ≡ at + length (xs ++ ys)
ends at xs ys = let h = length-append xs ys in omega arith

mutual
  unfolding form form_fields kind_form depth_of depth_of_fields labelled labelled_fields count_fields type body struct_type list_type array_type element_label
      columns next choose

  pub type_at : (t : DataType) (d : ℕ) (s : Bytes) (at : ℕ) (r : Bytes) → Readable t → depth_of t ≤ d → drop at s ≡ form t ++ r
      → type One Free d s at ≡ ok (labelled t) (at + length (form t))
  type_at (leaf l) zero s at r h p e = absurd (omega arith)
  type_at (leaf l) (suc d) s at r h p e = rw (kind_at s at (a_leaf l) r h e)
  type_at (struct fs) zero s at r h p e = absurd (omega arith)
  type_at (struct fs) (suc d) s at r h p e =
      let (f, g) = parts s at (kind_form (a_struct (count_fields fs))) (form_fields fs) r e in
      rw (
        kind_at s at (a_struct (count_fields fs)) (form_fields fs ++ r) tt f,
        fields_at fs d s _ r [] h.1 (omega arith) g,
        ends at
            (kind_form (a_struct (count_fields fs))) (form_fields fs),
      )
  type_at (list t) zero s at r h p e = absurd (omega arith)
  type_at (list t) (suc d) s at r h p e =
      let (f, g) = parts s at (kind_form a_list) (form t) r e in
      rw (kind_at s at a_list (form t ++ r) tt f, type_at t d s _ r h (omega arith) g, ends at (kind_form a_list) (form t))
  type_at (array w t) zero s at r h p e = absurd (omega arith)
  type_at (array w t) (suc d) s at r h p e =
      let (f, g) = parts s at (kind_form (an_array w)) (form t) r e in
      rw (kind_at s at (an_array w) (form t ++ r) tt f, type_at t d s _ r h.1 (omega arith) g, ends at (kind_form (an_array w)) (form t))

  pub fields_at : (fs : Fields) (d : ℕ) (s : Bytes) (at : ℕ) (r : Bytes) (earlier : List Label) → ReadableFields fs → depth_of_fields fs ≤ d → drop at s ≡
      form_fields fs ++ r
      → columns One Free (type One Free d) (count_fields fs) earlier s at ≡ ok (labelled_fields fs) (at + length (form_fields fs))
  fields_at fnil d s at r earlier h p e = let z : at ≡ at + 0 = omega arith in ap (λ (m : ℕ). ok cnil m) z
  fields_at (fcons n t fs) d s at r earlier h p e =
      let (f, g) = parts s at (text_bytes n) (form t ++ form_fields fs) r e in
      let (i, j) = parts s (at + length (text_bytes n)) (form t) (form_fields fs) r g in
      rw (
        label_at s at n _ h.0.0 f,
        type_at t d s _ _ h.1.0 (omega arith) i,
        repeats_free (named n) earlier,
        fields_at fs d s _ r
            (earlier ++ (named n ∷ [])) h.1.1 (omega arith) j,
      )
      (ap (λ (m : ℕ). ok (labelled_fields (fcons n t fs)) m) (ends (at + length (text_bytes n)) (form t) (form_fields fs) ∙ ends at (text_bytes n)
      (form t ++ form_fields fs)))

mutual
  unfolding dtype_of fields_of labelled labelled_fields

  pub dtype_labelled : (t : DataType) → dtype_of (labelled t) ≡ t
  dtype_labelled (leaf l) = refl
  dtype_labelled (struct fs) = ap struct (fields-labelled fs)
  dtype_labelled (list t) = ap list (dtype_labelled t)
  dtype_labelled (array w t) = ap (array w) (dtype_labelled t)

  pub fields-labelled : (fs : Fields) → fields_of (labelled_fields fs) ≡ fs
  fields-labelled fnil = refl
  fields-labelled (fcons n t fs) = rw (dtype_labelled t, fields-labelled fs)
