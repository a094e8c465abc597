-- Types with equal forms are equal, whatever stands behind, and comparing part with part decides it. Assumes nothing.
use Prim.Native.Nat.{ℕ, ◌/◌, ◌%◌, ◌≤◌}
use mathlib.Core.Path.{◌≡◌, refl, sym, ap, ap₂, ◌∙◌}
use mathlib.Core.List.{[], ◌∷◌, ◌++◌, append_assoc, append-nil}
use mathlib.Core.Bool.{Bool, true, false, ◌&&◌}
use native.Mathlib.Omega.{arith}
use lib.ListN.{length}
use lib.Dec.{eqb}
use borrow.Author.Tests.{eq-eqb, eqb-true}
use Rattle.layout.specs.Bytes.{Bytes, same_bytes}
use Rattle.layout.specs.Tree.{LeafType, leaf_type, datetime, decimal, DataType, leaf, struct, list, array, Fields, fnil, fcons, count_fields}
use Rattle.layout.specs.Layout.{Head, a_leaf, a_struct, a_list, an_array, plain_leaf}
use Rattle.layout.specs.declared.leaf.Leaf.{Leaf}
use Rattle.layout.specs.declared.leaf.Decimal.{Decimal}
use Rattle.layout.specs.declared.leaf.TimeUnit.{TimeUnit}
use Rattle.layout.specs.declared.leaf.TimeUnit.TheVariants.{Nanoseconds, Microseconds, Milliseconds}
use Rattle.layout.specs.declared.types.PlainLeaf.TheVariants.{Known}
use Rattle.layout.proofs.Ways.{clash}
use Rattle.layout.proofs.OfBytes.{same_bytes-refl, both, same_bytes_eq}
use Rattle.layout.specs.Layout.{unit_code}
use Rattle.forms.specs.Form.{u16_bytes, u32_bytes, text_bytes, leaf_form, kind_form, form, form_fields}
use Rattle.forms.specs.code.Heads.{head_of, rest_form}
use Rattle.forms.specs.Same.{equal_types, equal_fields}
use Rattle.forms.specs.code.Compare.{same_leaf, same_dtype, same_fields_of}
use Rattle.forms.proofs.Leaves.{LeafCase, plain, timed, scaled, leaf_case}

-- ---- each form is read in one way

head_eq : {a b : ℕ} {r q : Bytes} → a ∷ r ≡ b ∷ q → a ≡ b
head_eq e = cc

tail_eq : {a b : ℕ} {r q : Bytes} → a ∷ r ≡ b ∷ q → r ≡ q
tail_eq e = cc

append_eq : (b c : Bytes) {r q : Bytes} → length b ≡ length c → b ++ r ≡ c ++ q → (b ≡ c) × (r ≡ q)
append_eq [] [] h e = (refl, e)
append_eq [] (y ∷ c) h e = absurd (omega arith)
append_eq (x ∷ b) [] h e = absurd (omega arith)
append_eq (x ∷ b) (y ∷ c) h e = let (p, q) = append_eq b c (omega arith) (tail_eq e) in (ap₂ ◌∷◌ (head_eq e) p, q)

text_eq : (b c : Bytes) {r q : Bytes} → text_bytes b ++ r ≡ text_bytes c ++ q → (b ≡ c) × (r ≡ q)
unfolding text_bytes
text_eq b c e = append_eq b c (head_eq e) (tail_eq e)

u16_eq : (m n : ℕ) {r q : Bytes} → u16_bytes m ++ r ≡ u16_bytes n ++ q → (m ≡ n) × (r ≡ q)
unfolding u16_bytes
u16_eq m n e = (omega (arith, head_eq e, head_eq (tail_eq e)), tail_eq (tail_eq e))

u32_eq : (m n : ℕ) {r q : Bytes} → u32_bytes m ++ r ≡ u32_bytes n ++ q → (m ≡ n) × (r ≡ q)
unfolding u32_bytes
u32_eq m n {r} {q} e =
    let f : u16_bytes (m % 65536) ++ (u16_bytes (m / 65536) ++ r) ≡ u16_bytes (n % 65536) ++ (u16_bytes (n / 65536) ++ q)
    = sym (append_assoc (u16_bytes (m % 65536)) (u16_bytes (m / 65536)) r) ∙ e ∙ append_assoc (u16_bytes (n % 65536)) (u16_bytes (n / 65536)) q in
    let (a, g) = u16_eq (m % 65536) (n % 65536) f in
    let (b, h) = u16_eq (m / 65536) (n / 65536) g in
    (omega arith, h)

unit_eq : (u v : TimeUnit) → unit_code u ≡ unit_code v → u ≡ v
unit_eq Nanoseconds Nanoseconds e = refl
unit_eq Nanoseconds Microseconds e = clash (cc)
unit_eq Nanoseconds Milliseconds e = clash (cc)
unit_eq Microseconds Nanoseconds e = clash (cc)
unit_eq Microseconds Microseconds e = refl
unit_eq Microseconds Milliseconds e = clash (cc)
unit_eq Milliseconds Nanoseconds e = clash (cc)
unit_eq Milliseconds Microseconds e = clash (cc)
unit_eq Milliseconds Milliseconds e = refl

known_eq : {k l : Leaf} → Known k ≡ Known l → k ≡ l
known_eq e = cc

decimal_eq : {d e : Decimal} → d.precision ≡ e.precision → d.scale ≡ e.scale → d ≡ e
decimal_eq p q = λ i. record { precision = p i; scale = q i }

leaf_eq : (a b : LeafType) {r q : Bytes} → leaf_form a ++ r ≡ leaf_form b ++ q → (a ≡ b) × (r ≡ q)
leaf_eq a b {r} {q} e = go (leaf_case a) (leaf_case b)
  where
    go : LeafCase a → LeafCase b → (a ≡ b) × (r ≡ q)
    go (plain k c s n p i f) (plain k' c' s' n' p' i' f') =
        let g : c ∷ r ≡ c' ∷ q = rw (f, f') at e in
        let h : k ≡ k' = known_eq (sym p ∙ ap plain_leaf (head_eq g) ∙ p') in
        (i ∙ ap (λ (x : Leaf). leaf_type x []) h ∙ sym i', tail_eq g)
    go (plain k c s n p i f) (timed u z i' f') =
        let g : (c ∷ r) ≡ 14 ∷ (unit_code u ∷ (text_bytes z ++ q)) = rw (f, f') at e in
        absurd (n (head_eq g))
    go (plain k c s n p i f) (scaled d i' f') =
        let g : (c ∷ r) ≡ 21 ∷ (d.precision ∷ (d.scale ∷ q)) = rw (f, f') at e in
        absurd (omega (arith, head_eq g))
    go (scaled d i f) (plain k c s n p i' f') =
        let g : 21 ∷ (d.precision ∷ (d.scale ∷ r)) ≡ c ∷ q = rw (f, f') at e in
        absurd (omega (arith, head_eq g))
    go (timed u z i f) (scaled d i' f') =
        let g : 14 ∷ (unit_code u ∷ (text_bytes z ++ r)) ≡ 21 ∷ (d.precision ∷ (d.scale ∷ q)) = rw (f, f') at e in
        absurd (omega (arith, head_eq g))
    go (scaled d i f) (timed u z i' f') =
        let g : 21 ∷ (d.precision ∷ (d.scale ∷ r)) ≡ 14 ∷ (unit_code u ∷ (text_bytes z ++ q)) = rw (f, f') at e in
        absurd (omega (arith, head_eq g))
    go (scaled d i f) (scaled d' i' f') =
        let g : 21 ∷ (d.precision ∷ (d.scale ∷ r)) ≡ 21 ∷ (d'.precision ∷ (d'.scale ∷ q)) = rw (f, f') at e in
        (i ∙ ap decimal (decimal_eq (head_eq (tail_eq g)) (head_eq (tail_eq (tail_eq g)))) ∙ sym i', tail_eq (tail_eq (tail_eq g)))
    go (timed u z i f) (plain k c s n p i' f') =
        let g : 14 ∷ (unit_code u ∷ (text_bytes z ++ r)) ≡ c ∷ q = rw (f, f') at e in
        absurd (n (sym (head_eq g)))
    go (timed u z i f) (timed u' z' i' f') =
        let g : 14 ∷ (unit_code u ∷ (text_bytes z ++ r)) ≡ 14 ∷ (unit_code u' ∷ (text_bytes z' ++ q)) = rw (f, f') at e in
        let (h, t) = text_eq z z' (tail_eq (tail_eq g)) in
        (i ∙ ap₂ datetime (unit_eq u u' (head_eq (tail_eq g))) h ∙ sym i', t)

-- no leaf has the code of a struct, a list or an array
leaf-code : (l : LeafType) (r : Bytes) {c : ℕ} {q : Bytes} → leaf_form l ++ r ≡ c ∷ q → 18 ≤ c → c ≡ 21
leaf-code l r {c} {q} e m = go (leaf_case l)
  where
    go : LeafCase l → c ≡ 21
    go (plain k b s n p i f) =
        let g : b ∷ r ≡ c ∷ q = rw f at e in
        absurd (omega (arith, head_eq g))
    go (timed u z i f) =
        let g : 14 ∷ (unit_code u ∷ (text_bytes z ++ r)) ≡ c ∷ q = rw f at e in
        absurd (omega (arith, head_eq g))
    go (scaled d i f) =
        let g : 21 ∷ (d.precision ∷ (d.scale ∷ r)) ≡ c ∷ q = rw f at e in
        sym (head_eq g)

pub kind_eq : (k j : Head) {r q : Bytes} → kind_form k ++ r ≡ kind_form j ++ q → (k ≡ j) × (r ≡ q)
unfolding kind_form
kind_eq (a_leaf a) (a_leaf b) e = let (p, q) = leaf_eq a b e in (ap a_leaf p, q)
kind_eq (a_leaf a) (a_struct n) e = absurd (omega (arith, leaf-code a _ e (omega arith)))
kind_eq (a_leaf a) a_list e = absurd (omega (arith, leaf-code a _ e (omega arith)))
kind_eq (a_leaf a) (an_array w) e = absurd (omega (arith, leaf-code a _ e (omega arith)))
kind_eq (a_struct m) (a_leaf b) e = absurd (omega (arith, leaf-code b _ (sym e) (omega arith)))
kind_eq (a_struct m) (a_struct n) e = let (p, q) = u16_eq m n (tail_eq e) in (ap a_struct p, q)
kind_eq (a_struct m) a_list e = absurd (omega (arith, head_eq e))
kind_eq (a_struct m) (an_array w) e = absurd (omega (arith, head_eq e))
kind_eq a_list (a_leaf b) e = absurd (omega (arith, leaf-code b _ (sym e) (omega arith)))
kind_eq a_list (a_struct n) e = absurd (omega (arith, head_eq e))
kind_eq a_list a_list e = (refl, tail_eq e)
kind_eq a_list (an_array w) e = absurd (omega (arith, head_eq e))
kind_eq (an_array v) (a_leaf b) e = absurd (omega (arith, leaf-code b _ (sym e) (omega arith)))
kind_eq (an_array v) (a_struct n) e = absurd (omega (arith, head_eq e))
kind_eq (an_array v) a_list e = absurd (omega (arith, head_eq e))
kind_eq (an_array v) (an_array w) e = let (p, q) = u32_eq v w (tail_eq e) in (ap an_array p, q)

-- ---- types

pub form-kind : (t : DataType) → form t ≡ kind_form (head_of t) ++ rest_form t
unfolding form head_of rest_form kind_form
form-kind (leaf l) = sym (append-nil (leaf_form l))
form-kind (struct fs) = refl
form-kind (list t) = refl
form-kind (array w t) = refl

-- forms with bytes behind them that are equal begin alike
begins : (t u : DataType) (r q : Bytes) → form t ++ r ≡ form u ++ q → (head_of t ≡ head_of u) × (rest_form t ++ r ≡ rest_form u ++ q)
begins t u r q e =
    kind_eq (head_of t) (head_of u) (sym (append_assoc (kind_form (head_of t)) (rest_form t) r) ∙ (rw (form-kind t, form-kind u) at e) ∙ append_assoc
    (kind_form (head_of u)) (rest_form u) q)

fcons_eq : {n m : Bytes} {t u : DataType} {fs gs : Fields} → n ≡ m → t ≡ u → fs ≡ gs → fcons n t fs ≡ fcons m u gs
fcons_eq p q r = cc

mutual
  unfolding head_of rest_form form_fields count_fields

  pub form_eq : (t u : DataType) {r q : Bytes} → form t ++ r ≡ form u ++ q → (t ≡ u) × (r ≡ q)
  form_eq (leaf a) (leaf b) {r} {q} e = let (k, f) = begins (leaf a) (leaf b) r q e in let h : a ≡ b = cc in (ap leaf h, f)
  form_eq (leaf a) (struct gs) {r} {q} e = let (k, f) = begins (leaf a) (struct gs) r q e in clash (cc)
  form_eq (leaf a) (list u) {r} {q} e = let (k, f) = begins (leaf a) (list u) r q e in clash (cc)
  form_eq (leaf a) (array w u) {r} {q} e = let (k, f) = begins (leaf a) (array w u) r q e in clash (cc)
  form_eq (struct fs) (leaf b) {r} {q} e = let (k, f) = begins (struct fs) (leaf b) r q e in clash (cc)
  form_eq (struct fs) (struct gs) {r} {q} e =
      let (k, f) = begins (struct fs) (struct gs) r q e in
      let n : count_fields fs ≡ count_fields gs = cc in
      let (h, g) = fields_eq fs gs n f in (ap struct h, g)
  form_eq (struct fs) (list u) {r} {q} e = let (k, f) = begins (struct fs) (list u) r q e in clash (cc)
  form_eq (struct fs) (array w u) {r} {q} e = let (k, f) = begins (struct fs) (array w u) r q e in clash (cc)
  form_eq (list t) (leaf b) {r} {q} e = let (k, f) = begins (list t) (leaf b) r q e in clash (cc)
  form_eq (list t) (struct gs) {r} {q} e = let (k, f) = begins (list t) (struct gs) r q e in clash (cc)
  form_eq (list t) (list u) {r} {q} e = let (k, f) = begins (list t) (list u) r q e in let (h, g) = form_eq t u f in (ap list h, g)
  form_eq (list t) (array w u) {r} {q} e = let (k, f) = begins (list t) (array w u) r q e in clash (cc)
  form_eq (array v t) (leaf b) {r} {q} e = let (k, f) = begins (array v t) (leaf b) r q e in clash (cc)
  form_eq (array v t) (struct gs) {r} {q} e = let (k, f) = begins (array v t) (struct gs) r q e in clash (cc)
  form_eq (array v t) (list u) {r} {q} e = let (k, f) = begins (array v t) (list u) r q e in clash (cc)
  form_eq (array v t) (array w u) {r} {q} e =
      let (k, f) = begins (array v t) (array w u) r q e in
      let n : v ≡ w = cc in
      let (h, g) = form_eq t u f in (ap₂ array n h, g)

  pub fields_eq : (fs gs : Fields) {r q : Bytes} → count_fields fs ≡ count_fields gs → form_fields fs ++ r ≡ form_fields gs ++ q → (fs ≡ gs) × (r ≡ q)
  fields_eq fnil fnil c e = (refl, e)
  fields_eq fnil (fcons m u gs) c e = absurd (omega arith)
  fields_eq (fcons n t fs) fnil c e = absurd (omega arith)
  fields_eq (fcons n t fs) (fcons m u gs) {r} {q} c e =
      let (p, f) = text_eq n m (sym (append_assoc (text_bytes n) (form t ++ form_fields fs) r) ∙ e ∙ append_assoc (text_bytes m) (form u ++ form_fields gs) q) in
      let (p₁, g) = form_eq t u (sym (append_assoc (form t) (form_fields fs) r) ∙ f ∙ append_assoc (form u) (form_fields gs) q) in
      let (p₂, h) = fields_eq fs gs (omega arith) g in
      (fcons_eq p p₁ p₂, h)

-- ---- comparing

-- bytes with none behind them
alone : {x y : Bytes} → x ≡ y → x ++ [] ≡ y ++ []
alone e = ap (λ (b : Bytes). b ++ []) e

mutual
  unfolding same_dtype same_fields_of same_leaf

  pub same_dtype-refl : (t : DataType) → same_dtype t t ≡ true
  same_dtype-refl (leaf l) = same_bytes-refl (leaf_form l)
  same_dtype-refl (struct fs) = same_fields-refl fs
  same_dtype-refl (list t) = same_dtype-refl t
  same_dtype-refl (array w t) = rw (eq-eqb w w refl) (same_dtype-refl t)

  pub same_fields-refl : (fs : Fields) → same_fields_of fs fs ≡ true
  same_fields-refl fnil = refl
  same_fields-refl (fcons n t fs) = rw (same_bytes-refl n, same_dtype-refl t) (same_fields-refl fs)

mutual
  unfolding same_dtype same_fields_of same_leaf

  pub same_dtype_eq : (t u : DataType) → same_dtype t u ≡ true → t ≡ u
  same_dtype_eq (leaf l) (leaf m) e = ap leaf (leaf_eq l m (alone (same_bytes_eq (leaf_form l) (leaf_form m) e))).0
  same_dtype_eq (leaf l) (struct gs) e = clash (cc)
  same_dtype_eq (leaf l) (list u) e = clash (cc)
  same_dtype_eq (leaf l) (array x u) e = clash (cc)
  same_dtype_eq (struct fs) (leaf m) e = clash (cc)
  same_dtype_eq (struct fs) (struct gs) e = ap struct (same_fields_eq fs gs e)
  same_dtype_eq (struct fs) (list u) e = clash (cc)
  same_dtype_eq (struct fs) (array x u) e = clash (cc)
  same_dtype_eq (list t) (leaf m) e = clash (cc)
  same_dtype_eq (list t) (struct gs) e = clash (cc)
  same_dtype_eq (list t) (list u) e = ap list (same_dtype_eq t u e)
  same_dtype_eq (list t) (array x u) e = clash (cc)
  same_dtype_eq (array w t) (leaf m) e = clash (cc)
  same_dtype_eq (array w t) (struct gs) e = clash (cc)
  same_dtype_eq (array w t) (list u) e = clash (cc)
  same_dtype_eq (array w t) (array x u) e = let (p, q) = both (eqb w x) (same_dtype t u) e in ap₂ array (eqb-true w x p) (same_dtype_eq t u q)

  pub same_fields_eq : (fs gs : Fields) → same_fields_of fs gs ≡ true → fs ≡ gs
  same_fields_eq fnil fnil e = refl
  same_fields_eq fnil (fcons m u gs) e = clash (cc)
  same_fields_eq (fcons n t fs) fnil e = clash (cc)
  same_fields_eq (fcons n t fs) (fcons m u gs) e =
      let (p, f) = both (same_bytes n m) (same_dtype t u && same_fields_of fs gs) e in
      let (q, g) = both (same_dtype t u) (same_fields_of fs gs) f in
      fcons_eq (same_bytes_eq n m p) (same_dtype_eq t u q) (same_fields_eq fs gs g)

-- ---- as the document compares them

pub equal_types-refl : (t : DataType) → equal_types t t ≡ true
unfolding equal_types
equal_types-refl t = same_bytes-refl (form t)

pub equal_types_eq : (t u : DataType) → equal_types t u ≡ true → t ≡ u
unfolding equal_types
equal_types_eq t u e = (form_eq t u (alone (same_bytes_eq (form t) (form u) e))).0

pub equal_fields-refl : (fs : Fields) → equal_fields fs fs ≡ true
unfolding equal_fields
equal_fields-refl fnil = refl
equal_fields-refl (fcons n t fs) = rw (same_bytes-refl n, equal_types-refl t) (equal_fields-refl fs)

pub equal_fields_eq : (fs gs : Fields) → equal_fields fs gs ≡ true → fs ≡ gs
unfolding equal_fields
equal_fields_eq fnil fnil e = refl
equal_fields_eq fnil (fcons m u gs) e = clash (cc)
equal_fields_eq (fcons n t fs) fnil e = clash (cc)
equal_fields_eq (fcons n t fs) (fcons m u gs) e =
    let (p, f) = both (same_bytes n m) (equal_types t u && equal_fields fs gs) e in
    let (q, g) = both (equal_types t u) (equal_fields fs gs) f in
    fcons_eq (same_bytes_eq n m p) (equal_types_eq t u q) (equal_fields_eq fs gs g)

both_ways : (a b : Bool) → (a ≡ true → b ≡ true) → (b ≡ true → a ≡ true) → a ≡ b
both_ways true b f g = sym (f refl)
both_ways false true f g = g refl
both_ways false false f g = refl

-- comparing part with part is the same
pub same-is-equal : (t u : DataType) → same_dtype t u ≡ equal_types t u
same-is-equal t u =
    both_ways (same_dtype t u) (equal_types t u)
    (λ e. ap (equal_types t) (sym (same_dtype_eq t u e)) ∙ equal_types-refl t)
    (λ e. ap (same_dtype t) (sym (equal_types_eq t u e)) ∙ same_dtype-refl t)

pub same_fields-equal : (fs gs : Fields) → same_fields_of fs gs ≡ equal_fields fs gs
same_fields-equal fs gs =
    both_ways (same_fields_of fs gs) (equal_fields fs gs)
    (λ e. ap (equal_fields fs) (sym (same_fields_eq fs gs e)) ∙ equal_fields-refl fs)
    (λ e. ap (same_fields_of fs) (sym (equal_fields_eq fs gs e)) ∙ same_fields-refl fs)
