-- What a type that was read consists of: one rule for each kind, from the parsers. Assumes nothing.
use Prim.Native.Nat.{ℕ, zero, suc, ◌+◌, ◌*◌, ◌/◌, ◌%◌, ◌≤◌, ◌<◌}
use mathlib.Core.Path.{◌≡◌, refl, sym, ap, ◌∙◌}
use mathlib.Core.List.{List, [], ◌∷◌, ◌++◌}
use mathlib.Core.Bool.{Bool, true, false, not}
use native.Mathlib.Omega.{arith}
use lib.ListN.{length, get_or, take, drop}
use lib.Dec.{ltb, leb, eqb}
use borrow.Author.Tests.{ltb-true, leb-true, eqb-true}
use Rattle.layout.specs.Bytes.{Bytes, AllBytes}
use Rattle.layout.specs.Parser.{Res, refuse, ok, choose, byte, chunk, u16, u32, test}
use Rattle.layout.specs.Tree.{LeafType, leaf_type, datetime, decimal, Label, ColumnType, cleaf, cstruct, clist, carray, Columns, cnil, ccons}
use Rattle.layout.specs.Layout.{Head, a_leaf, a_struct, a_list, an_array, text, unit, valid_decimal, decimal_params, plain_leaf, leaf_head, datetime_head, decimal_head}
use Rattle.layout.specs.Layout.{struct_head, array_head, kind_of, kind, field_id, required_mark, field_mark, label_rest, label, element_label, repeats_any, columns}
use Rattle.layout.specs.Layout.{body, struct_type, list_type, array_type, type}
use Rattle.layout.specs.declared.leaf.TimeUnit.{TimeUnit}
use Rattle.layout.specs.declared.leaf.TimeUnit.TheVariants.{Nanoseconds, Microseconds, Milliseconds}
use Rattle.layout.specs.declared.leaf.Leaf.{Leaf}
use Rattle.layout.specs.declared.leaf.Decimal.{Decimal}
use Rattle.layout.specs.declared.types.PlainLeaf.{PlainLeaf}
use Rattle.layout.specs.declared.types.PlainLeaf.TheVariants.{Known, Unknown}
use Rattle.layout.specs.declared.edition.Edition.{Edition}
use Rattle.layout.specs.declared.edition.Edition.TheVariants.{One, Two, Three}
use Rattle.layout.specs.declared.columns.Siblings.{Siblings}
use Rattle.layout.proofs.Ways.{clash}
use Rattle.layout.proofs.View.{next-ok}
use Rattle.layout.specs.Layout.{unit_code}
use Rattle.forms.specs.Form.{u16_bytes, u32_bytes, text_bytes, carried, leaf_form, kind_form}
use Rattle.forms.specs.code.Readable.{ReadableLeaf}
use Rattle.forms.proofs.Leaves.{plain_form}
use Rattle.forms.proofs.Slices.{Stands, stands_eq, stands_one, stands-append, stands-length}
use Rattle.layout.proofs.OfBytes.{bytes-part}
use Rattle.store.proofs.Overlay.{slice-take}

-- a test that passed
pub chosen : {A : Type 0} (b : Bool) (x : Res A) (n : ℕ) {m : ℕ} {a : A} → choose b x (refuse n) ≡ ok a m → (b ≡ true) × (x ≡ ok a m)
unfolding choose
chosen true x n e = (refl, e)
chosen false x n e = clash (cc)

pub ok_eq : {A : Type 0} {a b : A} {m n : ℕ} → ok a m ≡ ok b n → (a ≡ b) × (m ≡ n)
ok_eq e = (cc, cc)

-- the number is k, or the other cases go on
case : {A P : Type 0} (c k : ℕ) (x y : Res A) {a : A} {m : ℕ} → choose (eqb c k) x y ≡ ok a m → (c ≡ k → x ≡ ok a m → P) → (y ≡ ok a m → P) → P
unfolding choose
case {A} {P} c k x y {a} {m} e f g = go (eqb c k) refl e
  where
    go : (t : Bool) → eqb c k ≡ t → choose t x y ≡ ok a m → P
    go true h e = f (eqb-true c k h) e
    go false h e = g e

module _ (s : Bytes) (at : ℕ) where
  pub byte-stands : {b m : ℕ} → byte s at ≡ ok b m → Stands s at m (b ∷ []) × (get_or s at 0 ≡ b)
  unfolding byte
  byte-stands {b} {m} e =
      let (h, f) = chosen (ltb at (length s)) _ _ e in
      let p : get_or s at 0 ≡ b = cc in
      let q : at + 1 ≡ m = cc in
      (stands_eq q (ap (λ (x : ℕ). x ∷ []) p) (stands_one at (ltb-true at (length s) h)), p)

  pub chunk-stands : (n : ℕ) {b : Bytes} {m : ℕ} → chunk n s at ≡ ok b m → Stands s at m b × ((take n (drop at s) ≡ b) × (at + n ≡ m))
  unfolding chunk
  chunk-stands n {b} {m} e =
      let (h, f) = chosen (leb (at + n) (length s)) _ _ e in
      let l : at + n ≤ length s = leb-true (at + n) (length s) h in
      let p : take n (drop at s) ≡ b = cc in
      let q : at + n ≡ m = cc in
      (stands_eq q p (record { from = omega arith; to = l; is = slice-take s at n l }), (p, q))

-- a name or a zone
pub text-stands : (s : Bytes) (at : ℕ) {b : Bytes} {m : ℕ} → text s at ≡ ok b m → Stands s at m (text_bytes b) × ((length b ≤ 63) × (AllBytes s → AllBytes b))
unfolding text text_bytes
text-stands s at {b} {m} e =
    let (n, i, h, f) = next-ok _ _ e in
    let (l, g) = chosen (leb n 63) _ _ f in
    let (p, z) = byte-stands s at h in
    let (q, (y, w)) = chunk-stands s i n g in
    let k : n ≡ length b = let x = stands-length q in omega arith in
    let r = leb-true n 63 l in
    (stands_eq refl (ap (λ (x : ℕ). x ∷ b) k) (stands-append p q), (omega arith, λ o. rw (← y) (bytes-part s i n o)))

-- ---- numbers

u16_of : (a b : ℕ) → a < 256 → u16_bytes (a + 256 * b) ≡ a ∷ b ∷ []
unfolding u16_bytes
u16_of a b h =
    let p : (a + 256 * b) % 256 ≡ a = omega arith in
    let q : (a + 256 * b) / 256 ≡ b = omega arith in
    rw (p, q)

u32_of : (a b : ℕ) → a < 65536 → u32_bytes (a + 65536 * b) ≡ u16_bytes a ++ u16_bytes b
unfolding u32_bytes
u32_of a b h =
    let p : (a + 65536 * b) % 65536 ≡ a = omega arith in
    let q : (a + 65536 * b) / 65536 ≡ b = omega arith in
    rw (p, q)

module _ (s : Bytes) where
  -- how far numbers reach
  byte-ends : (at : ℕ) {b m : ℕ} → byte s at ≡ ok b m → (m ≤ length s) × (at + 1 ≡ m)
  byte-ends at e = let (h, z) = byte-stands s at e in (h.to, stands-length h)

  pub u16-ends : (at : ℕ) {n m : ℕ} → u16 s at ≡ ok n m → (m ≤ length s) × (at + 2 ≡ m)
  unfolding u16
  u16-ends at {n} {m} e =
      let (a, i, h, f) = next-ok _ _ e in
      let (b, j, g, k) = next-ok _ _ f in
      let (p, q) = byte-ends at h in
      let (p', q') = byte-ends i g in
      let z : j ≡ m = cc in
      (omega arith, omega arith)

  pub u32-ends : (at : ℕ) {n m : ℕ} → u32 s at ≡ ok n m → (m ≤ length s) × (at + 4 ≡ m)
  unfolding u32
  u32-ends at {n} {m} e =
      let (a, i, h, f) = next-ok _ _ e in
      let (b, j, g, k) = next-ok _ _ f in
      let (p, q) = u16-ends at h in
      let (p', q') = u16-ends i g in
      let z : j ≡ m = cc in
      (omega arith, omega arith)

  module _ (o : AllBytes s) where
    pub u16-stands : (at : ℕ) {n m : ℕ} → u16 s at ≡ ok n m → Stands s at m (u16_bytes n) × (n < 65536)
    unfolding u16
    u16-stands at {n} {m} e =
        let (a, i, h, f) = next-ok _ _ e in
        let (b, j, g, k) = next-ok _ _ f in
        let (p, q) = byte-stands s at h in
        let (p', q') = byte-stands s i g in
        let y : j ≡ m = cc in
        let z : a + 256 * b ≡ n = cc in
        let l = o at in
        let l' = o i in
        (stands_eq y (sym (u16_of a b (omega arith)) ∙ ap u16_bytes z) (stands-append p p'), omega arith)

    pub u32-stands : (at : ℕ) {n m : ℕ} → u32 s at ≡ ok n m → Stands s at m (u32_bytes n) × (n < 4294967296)
    unfolding u32
    u32-stands at {n} {m} e =
        let (a, i, h, f) = next-ok _ _ e in
        let (b, j, g, k) = next-ok _ _ f in
        let (p, q) = u16-stands at h in
        let (p', q') = u16-stands i g in
        let y : j ≡ m = cc in
        let z : a + 65536 * b ≡ n = cc in
        (stands_eq y (sym (u32_of a b q) ∙ ap u32_bytes z) (stands-append p p'), omega arith)

-- ---- what a type begins with

pub unit-stands : (s : Bytes) (at : ℕ) {u : TimeUnit} {m : ℕ} → unit s at ≡ ok u m → Stands s at m (unit_code u ∷ [])
unfolding unit
unit-stands s at {u} {m} e =
    let (c, i, h, f) = next-ok _ _ e in
    let (p, q) = byte-stands s at h in
    case c 0 (ok Nanoseconds i) _ f (λ z y. coded c i p Nanoseconds z y) (λ f.
    case c 1 (ok Microseconds i) _ f (λ z y. coded c i p Microseconds z y) (λ f.
    case c 2 (ok Milliseconds i) _ f (λ z y. coded c i p Milliseconds z y) (λ f. clash (cc))))
  where
    coded : (c i : ℕ) → Stands s at i (c ∷ []) → (w : TimeUnit) → c ≡ unit_code w → ok w i ≡ ok u m → Stands s at m (unit_code u ∷ [])
    coded c i p w z y =
        let a : w ≡ u = cc in
        let b : i ≡ m = cc in
        stands_eq b (ap (λ (x : ℕ). x ∷ []) (z ∙ ap unit_code a)) p

scaled_as : {s : Bytes} {at x y j m : ℕ} {d : Decimal} → record { precision = x; scale = y } ≡ d → j ≡ m → Stands s at j (x ∷ y ∷ []) → valid_decimal x y ≡ true
    → Stands s at m (d.precision ∷ d.scale ∷ []) × (valid_decimal d.precision d.scale ≡ true)
scaled_as e f p t =
    (stands_eq f (ap (λ (d : Decimal). d.precision ∷ d.scale ∷ []) e) p, sym (ap (λ (d : Decimal). valid_decimal d.precision d.scale) e) ∙ t)

pub decimal-stands : (s : Bytes) (at : ℕ) {d : Decimal} {m : ℕ} → decimal_params s at ≡ ok d m
    → Stands s at m (d.precision ∷ d.scale ∷ []) × (valid_decimal d.precision d.scale ≡ true)
unfolding decimal_params
decimal-stands s at {d} {m} e =
    let (x, i, h, f) = next-ok _ _ e in
    let (y, j, g, f) = next-ok _ _ f in
    let (t, f) = chosen (valid_decimal x y) _ _ f in
    let p = (byte-stands s at h).0 in
    let q = (byte-stands s i g).0 in
    scaled_as (ok_eq f).0 (ok_eq f).1 (stands-append p q) t

pub data KindRead (s : Bytes) (at : ℕ) : Head → ℕ → Type 0 where
  kr_plain : {c m : ℕ} {l : Leaf} {k : LeafType} → byte s at ≡ ok c m → plain_leaf c ≡ Known l → leaf_type l [] ≡ k → KindRead s at (a_leaf k) m
  kr_timed : {i j m : ℕ} {u : TimeUnit} {z : Bytes} → byte s at ≡ ok 14 i → unit s i ≡ ok u j → text s j ≡ ok z m → KindRead s at (a_leaf (datetime u z)) m
  kr_scaled : {i m : ℕ} {d : Decimal} → byte s at ≡ ok 21 i → decimal_params s i ≡ ok d m → KindRead s at (a_leaf (decimal d)) m
  kr_struct : {i n m : ℕ} → byte s at ≡ ok 18 i → u16 s i ≡ ok n m → KindRead s at (a_struct n) m
  kr_list : {m : ℕ} → byte s at ≡ ok 19 m → KindRead s at a_list m
  kr_array : {i w m : ℕ} → byte s at ≡ ok 20 i → u32 s i ≡ ok w m → KindRead s at (an_array w) m

kr_is : {s : Bytes} {at : ℕ} {k k' : Head} {m m' : ℕ} → k ≡ k' → m ≡ m' → KindRead s at k m → KindRead s at k' m'
kr_is p q r = rw (← p, ← q) r

plain-read : (s : Bytes) (at c i : ℕ) (p : PlainLeaf) {k : Head} {m : ℕ} → byte s at ≡ ok c i → plain_leaf c ≡ p → leaf_head p s i ≡ ok k m → KindRead s at k m
unfolding leaf_head
plain-read s at c i (Known l) {k} {m} h q e =
    let y : i ≡ m = cc in
    let z : a_leaf (leaf_type l []) ≡ k = cc in
    kr_is z y (kr_plain h q refl)
plain-read s at c i Unknown h q e = clash (cc)

pub kind→ : (s : Bytes) (at : ℕ) {k : Head} {m : ℕ} → kind s at ≡ ok k m → KindRead s at k m
unfolding kind kind_of datetime_head decimal_head struct_head array_head
kind→ s at {k} {m} e =
    let (c, i, h, f) = next-ok _ _ e in
    case c 14 _ _ f (λ z f.
    let (u, j, h₁, f) = next-ok _ _ f in
    let (t, o, h₂, f) = next-ok _ _ f in
    let x : a_leaf (datetime u t) ≡ k = cc in
    let y : o ≡ m = cc in
    kr_is x y (kr_timed (rw z at h) h₁ h₂)) (λ f.
    case c 18 _ _ f (λ z f.
    let (n, o, h₁, f) = next-ok _ _ f in
    let x : a_struct n ≡ k = cc in
    let y : o ≡ m = cc in
    kr_is x y (kr_struct (rw z at h) h₁)) (λ f.
    case c 19 _ _ f (λ z f.
    let x : a_list ≡ k = cc in
    let y : i ≡ m = cc in
    kr_is x y (kr_list (rw z at h))) (λ f.
    case c 20 _ _ f (λ z f.
    let (n, o, h₁, f) = next-ok _ _ f in
    let x : an_array n ≡ k = cc in
    let y : o ≡ m = cc in
    kr_is x y (kr_array (rw z at h) h₁)) (λ f.
    case c 21 _ _ f (λ z f.
    let (d, o, h₁, f) = next-ok _ _ f in
    let x : a_leaf (decimal d) ≡ k = cc in
    let y : o ≡ m = cc in
    kr_is x y (kr_scaled (rw z at h) h₁)) (λ f.
    plain-read s at c i (plain_leaf c) h refl f)))))

-- what follows of a kind that was read
abbrev pub ReadableKind : Head → Type 0
ReadableKind (a_leaf l) = ReadableLeaf l
ReadableKind (a_struct n) = n < 65536
ReadableKind a_list = Unit {0}
ReadableKind (an_array w) = w < 4294967296

pub kind-ends : (s : Bytes) (at : ℕ) {k : Head} {m : ℕ} → KindRead s at k m → (m ≤ length s) × (at + length (kind_form k) ≡ m)
unfolding kind_form leaf_form carried text_bytes u16_bytes u32_bytes
kind-ends s at (kr_plain {c = c} {k = k} h q z) =
    let (p, y) = byte-ends s at h in
    let l : length (kind_form (a_leaf k)) ≡ 1 = ap length (ap leaf_form (sym z) ∙ (plain_form c q).0) in
    (p, omega arith)
kind-ends s at (kr_timed {u = u} h q z) =
    let (p, y) = byte-ends s at h in
    let a = unit-stands s _ q in
    let b = (text-stands s _ z).0 in
    let c = b.to in
    let i = stands-length a in
    let j = stands-length b in
    (omega arith, omega arith)
kind-ends s at (kr_scaled {d = d} h q) =
    let (p, y) = byte-ends s at h in
    let a = (decimal-stands s _ q).0 in
    let b = a.to in
    let c = stands-length a in
    (b, omega arith)
kind-ends s at (kr_struct h q) =
    let (p, y) = byte-ends s at h in
    let (a, b) = u16-ends s _ q in
    (omega arith, omega arith)
kind-ends s at (kr_list h) = let (p, y) = byte-ends s at h in (p, omega arith)
kind-ends s at (kr_array h q) =
    let (p, y) = byte-ends s at h in
    let (a, b) = u32-ends s _ q in
    (omega arith, omega arith)

module _ (s : Bytes) (o : AllBytes s) (at : ℕ) where
  pub kind-stands : {k : Head} {m : ℕ} → KindRead s at k m → Stands s at m (kind_form k) × ReadableKind k
  unfolding kind_form leaf_form carried
  kind-stands (kr_plain {c = c} {l = l} h q z) =
      let (p, y) = byte-stands s at h in
      rw (← z) (stands_eq refl (sym (plain_form c q).0) p, (plain_form c q).1)
  kind-stands (kr_timed h q z) =
      let (p, y) = byte-stands s at h in
      let a = unit-stands s _ q in
      let (b, (c, d)) = text-stands s _ z in
      (stands-append p (stands-append a b), (c, d o))
  kind-stands (kr_scaled h q) =
      let (p, y) = byte-stands s at h in
      let (a, b) = decimal-stands s _ q in
      (stands-append p a, b)
  kind-stands (kr_struct h q) =
      let (p, y) = byte-stands s at h in
      let (a, b) = u16-stands s o _ q in
      (stands-append p a, b)
  kind-stands (kr_list h) = let (p, y) = byte-stands s at h in (p, tt)
  kind-stands (kr_array h q) =
      let (p, y) = byte-stands s at h in
      let (a, b) = u32-stands s o _ q in
      (stands-append p a, b)

-- ---- labels

module _ (s : Bytes) where
  id-ends : (v : Edition) (at : ℕ) {n i : ℕ} → field_id v s at ≡ ok n i → at ≤ length s → (at ≤ i) × (i ≤ length s)
  unfolding field_id
  id-ends One at e h = let q = (ok_eq e).1 in (omega arith, omega arith)
  id-ends Two at e h = let (d, r) = u32-ends s at e in (omega arith, omega arith)
  id-ends Three at e h = let (d, r) = u32-ends s at e in (omega arith, omega arith)

  mark-ends : (v : Edition) (at : ℕ) {r : Bool} {i : ℕ} → field_mark v s at ≡ ok r i → at ≤ length s → (at ≤ i) × (i ≤ length s)
  unfolding field_mark required_mark
  mark-ends One at e h = let q = (ok_eq e).1 in (omega arith, omega arith)
  mark-ends Two at e h = let q = (ok_eq e).1 in (omega arith, omega arith)
  mark-ends Three at {r} {i} e h =
      let (m, j, f, g) = next-ok _ _ e in
      let (p, q) = byte-ends s at f in
      let c : j ≡ i = case m 0 _ _ g (λ z q. (ok_eq q).1) (λ q. case m 1 _ _ q (λ z q. (ok_eq q).1) (λ q. clash (cc))) in
      (omega arith, omega arith)

  pub label-ends : (v : Edition) (at : ℕ) {l : Label} {i : ℕ} → label v s at ≡ ok l i → (i ≤ length s) ×
      ((at + length (text_bytes l.name) ≤ i) × ((length l.name ≤ 63) × (AllBytes s → AllBytes l.name)))
  unfolding label label_rest
  label-ends v at {l} {i} e =
      let (b, j, h, f) = next-ok _ _ e in
      let (n, o, g, f) = next-ok _ _ f in
      let (r, u, x, k) = next-ok _ _ f in
      let p : b ≡ l.name = ap (λ (x : Label). x.name) (ok_eq k).0 in
      let q : u ≡ i = (ok_eq k).1 in
      let (a, c) = text-stands s at h in
      let y = stands-length a in
      let z = a.to in
      let d = id-ends v j g (omega arith) in
      let w = mark-ends v o x d.1 in
      rw (← p) (omega arith, (omega arith, c))

  pub element-ends : (v : Edition) (at : ℕ) {l : Label} {i : ℕ} → element_label v s at ≡ ok l i → at ≤ length s → (at ≤ i) × (i ≤ length s)
  unfolding element_label
  element-ends One at e h = let (p, q) = ok_eq e in (omega arith, omega arith)
  element-ends Two at e h = let (p, (q, r)) = label-ends Two at e in (omega arith, p)
  element-ends Three at e h = let (p, (q, r)) = label-ends Three at e in (omega arith, p)

  -- in version 1 a label is a name, and an element has none
  pub label-stands : (at : ℕ) {l : Label} {i : ℕ} → label One s at ≡ ok l i → Stands s at i (text_bytes l.name)
  unfolding label label_rest field_id field_mark
  label-stands at {l} {i} e =
      let (b, j, h, f) = next-ok _ _ e in
      let (n, o, g, f) = next-ok _ _ f in
      let (r, u, x, k) = next-ok _ _ f in
      let (p, q) = ok_eq k in
      stands_eq ((ok_eq g).1 ∙ (ok_eq x).1 ∙ q) (ap (λ (x : Label). text_bytes x.name) p) (text-stands s at h).0

  pub element-stands : (at : ℕ) {l : Label} {i : ℕ} → element_label One s at ≡ ok l i → at ≡ i
  unfolding element_label
  element-stands at e = (ok_eq e).1

-- ---- types and columns

mutual
  pub data TypeRead (v : Edition) (s : Bytes) : ℕ → ℕ → ColumnType → ℕ → Type 0 where
    tr_leaf : {d at e : ℕ} {l : LeafType} → KindRead s at (a_leaf l) e → TypeRead v s (suc d) at (cleaf l) e
    tr_struct : {d at n m e : ℕ} {cs : Columns} → KindRead s at (a_struct n) m → ColumnsRead v s d n m cs e → TypeRead v s (suc d) at (cstruct cs) e
    tr_list : {d at m i e : ℕ} {l : Label} {t : ColumnType} → KindRead s at a_list m → element_label v s m ≡ ok l i → TypeRead v s d i t e
        → TypeRead v s (suc d) at (clist l t) e
    tr_array : {d at w m i e : ℕ} {l : Label} {t : ColumnType} → KindRead s at (an_array w) m → element_label v s m ≡ ok l i → TypeRead v s d i t e
        → TypeRead v s (suc d) at (carray w l t) e

  pub data ColumnsRead (v : Edition) (s : Bytes) : ℕ → ℕ → ℕ → Columns → ℕ → Type 0 where
    cr_none : {d at : ℕ} → ColumnsRead v s d 0 at cnil at
    cr_column : {d n at i j e : ℕ} {l : Label} {t : ColumnType} {cs : Columns} → label v s at ≡ ok l i → TypeRead v s d i t j → ColumnsRead v s d n j cs e
        → ColumnsRead v s d (suc n) at (ccons l t cs) e

module _ {v : Edition} {s : Bytes} where
  type-is : {d at m m' : ℕ} {t t' : ColumnType} → t ≡ t' → m ≡ m' → TypeRead v s d at t m → TypeRead v s d at t' m'
  type-is p q r = rw (← p, ← q) r

  columns-is : {d n at m m' : ℕ} {cs cs' : Columns} → cs ≡ cs' → m ≡ m' → ColumnsRead v s d n at cs m → ColumnsRead v s d n at cs' m'
  columns-is p q r = rw (← p, ← q) r

-- a test that passed moves nothing
pub passed : (b : Bool) (s : Bytes) {j : ℕ} {u : Unit {0}} {o : ℕ} → test b 5 s j ≡ ok u o → j ≡ o
unfolding choose
passed true s e = cc
passed false s e = clash (cc)

module _ (v : Edition) (r : Siblings) (s : Bytes) where
  module _ (d : ℕ) (deeper : (at : ℕ) (t : ColumnType) (e : ℕ) → type v r d s at ≡ ok t e → TypeRead v s d at t e) where
    pub columns→ : (n : ℕ) (earlier : List Label) (at : ℕ) {cs : Columns} {e : ℕ} → columns v r (type v r d) n earlier s at ≡ ok cs e → ColumnsRead v s
        d n at cs e
    unfolding columns
    columns→ zero earlier at h = let (p, q) = ok_eq h in columns-is p q cr_none
    columns→ (suc n) earlier at h =
        let (l, i, h₁, f) = next-ok _ _ h in
        let (t, j, h₂, f) = next-ok _ _ f in
        let (u, k, h₃, f) = next-ok (test (not (repeats_any r l earlier)) 5 s j) _ f in
        let (cs, o, h₄, f) = next-ok _ _ f in
        let (p, q) = ok_eq f in
        let z : j ≡ k = passed (not (repeats_any r l earlier)) s h₃ in
        columns-is p q (cr_column h₁ (type-is refl z (deeper i t _ h₂)) (columns→ n (earlier ++ (l ∷ [])) k h₄))

    body→ : (k : Head) (at m : ℕ) {c : ColumnType} {e : ℕ} → KindRead s at k m → body v r (type v r d) k s m ≡ ok c e → TypeRead v s (suc d) at c e
    unfolding body struct_type list_type array_type
    body→ (a_leaf l) at m h g = let (p, q) = ok_eq g in type-is p q (tr_leaf h)
    body→ (a_struct n) at m h g =
        let (cs, o, h₁, f) = next-ok _ _ g in
        let (p, q) = ok_eq f in
        type-is p q (tr_struct h (columns→ n [] m h₁))
    body→ a_list at m h g =
        let (l, i, h₁, f) = next-ok _ _ g in
        let (t, o, h₂, f) = next-ok _ _ f in
        let (p, q) = ok_eq f in
        type-is p q (tr_list h h₁ (deeper i t _ h₂))
    body→ (an_array w) at m h g =
        let (l, i, h₁, f) = next-ok _ _ g in
        let (t, o, h₂, f) = next-ok _ _ f in
        let (p, q) = ok_eq f in
        type-is p q (tr_array h h₁ (deeper i t _ h₂))

  pub type→ : (d at : ℕ) {c : ColumnType} {e : ℕ} → type v r d s at ≡ ok c e → TypeRead v s d at c e
  unfolding type
  type→ zero at h = clash (cc)
  type→ (suc d) at h =
      let (k, m, h₁, g) = next-ok _ _ h in
      body→ d (λ at t e h. type→ d at h) k at m (kind→ s at h₁) g
