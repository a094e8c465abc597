-- The forms of leaves and numbers against the readers' table of codes and the stores' little-endian bytes. Assumes
-- nothing.
use Prim.Native.Nat.{ℕ, zero, suc, ◌+◌, ◌*◌, ◌/◌, ◌%◌, ◌<◌}
use mathlib.Core.Path.{◌≡◌, refl, sym, ap, ◌∙◌}
use mathlib.Core.List.{List, [], ◌∷◌}
use native.Mathlib.Omega.{arith}
use lib.ListN.{get_or}
use Rattle.store.specs.LittleEndian.{little_bytes}
use Rattle.layout.specs.Bytes.{Bytes}
use Rattle.layout.specs.Tree.{LeafType, leaf_type, null, boolean, integer, float, date, datetime, string, binary, categorical, decimal}
use Rattle.layout.specs.Layout.{plain_leaf, plain_leaves, integer_code, float_code, unit_code}
use Rattle.layout.specs.declared.leaf.TimeUnit.{TimeUnit}
use Rattle.layout.specs.declared.leaf.Leaf.{Leaf}
use Rattle.layout.specs.declared.leaf.Decimal.{Decimal}
use Rattle.layout.specs.declared.types.PlainLeaf.{PlainLeaf}
use Rattle.layout.specs.declared.types.PlainLeaf.TheVariants.{Known, Unknown}
use Rattle.layout.proofs.Leaves.{integer-coded, float-coded}
use Rattle.layout.proofs.Ways.{clash}
use Rattle.forms.specs.code.Readable.{ReadableLeaf}
use Rattle.forms.specs.Form.{u16_bytes, u32_bytes, text_bytes, carried, leaf_form}

-- ---- numbers that fit their field

high_byte : (n : ℕ) → n < 65536 → n / 256 ≡ n / 256 % 256
high_byte n h = omega arith

pub little-u16 : (n : ℕ) → n < 65536 → u16_bytes n ≡ little_bytes 2 n
unfolding u16_bytes little_bytes
little-u16 n h = ap (λ (b : ℕ). n % 256 ∷ b ∷ []) (high_byte n h)

pub little-u32 : (n : ℕ) → n < 4294967296 → u32_bytes n ≡ little_bytes 4 n
unfolding u32_bytes u16_bytes little_bytes
little-u32 n h =
    let p : n / 256 ≡ 256 * (n / 65536) + n % 65536 / 256 = omega arith in
    let q : n / 256 / 256 ≡ n / 65536 = omega arith in
    let a : n % 65536 % 256 ≡ n % 256 = omega arith in
    let b : n % 65536 / 256 ≡ n / 256 % 256 = omega arith in
    let c : n / 65536 % 256 ≡ n / 256 / 256 % 256 = ap (λ (m : ℕ). m % 256) (sym q) in
    let d : n / 65536 / 256 ≡ n / 256 / 256 / 256 % 256 = high_byte (n / 65536) (omega arith) ∙ ap (λ (m : ℕ). m / 256 % 256) (sym q) in
    rw (a, b, c, d)

-- ---- a leaf is its code alone, at whose place the readers' table has it, or a date-time, or a decimal

pub data LeafCase (l : LeafType) : Type 0 where
  plain : (k : Leaf) (code : ℕ) → code < 18 → (code ≡ 14 → ⊥) → plain_leaf code ≡ Known k → l ≡ leaf_type k [] → leaf_form l ≡ code ∷ [] → LeafCase l
  timed : (u : TimeUnit) (z : Bytes) → l ≡ datetime u z → leaf_form l ≡ 14 ∷ unit_code u ∷ text_bytes z → LeafCase l
  scaled : (d : Decimal) → l ≡ decimal d → leaf_form l ≡ 21 ∷ d.precision ∷ d.scale ∷ [] → LeafCase l

pub leaf_case : (l : LeafType) → LeafCase l
unfolding leaf_form carried
leaf_case null = plain Leaf.Null 0 (omega arith) (λ e. omega arith) refl refl refl
leaf_case boolean = plain Leaf.Boolean 1 (omega arith) (λ e. omega arith) refl refl refl
leaf_case (integer i) =
    let c = integer-coded i in
    plain (Leaf.Integer i) (integer_code i) (omega (arith, c.below)) (λ e. omega (arith, c.below)) c.stands refl refl
leaf_case (float f) =
    let c = float-coded f in
    plain (Leaf.Float f) (float_code f) (omega (arith, c.below)) (λ e. omega (arith, c.below)) c.stands refl refl
leaf_case date = plain Leaf.Date 13 (omega arith) (λ e. omega arith) refl refl refl
leaf_case (datetime u z) = timed u z refl refl
leaf_case string = plain Leaf.String 15 (omega arith) (λ e. omega arith) refl refl refl
leaf_case binary = plain Leaf.Binary 16 (omega arith) (λ e. omega arith) refl refl refl
leaf_case categorical = plain Leaf.Categorical 17 (omega arith) (λ e. omega arith) refl refl refl
leaf_case (decimal d) = scaled d refl refl

-- each leaf of a table, from code i on, has its place for its form, and is readable
abbrev Coded : List PlainLeaf → ℕ → Type 0
Coded [] i = Unit {0}
Coded (Known l ∷ xs) i = ((leaf_form (leaf_type l []) ≡ i ∷ []) × ReadableLeaf (leaf_type l [])) × Coded xs (suc i)
Coded (Unknown ∷ xs) i = Coded xs (suc i)

known_is : {k l : Leaf} → Known k ≡ Known l → k ≡ l
known_is e = cc

coded-at : (xs : List PlainLeaf) (i c : ℕ) {l : Leaf} → Coded xs i → get_or xs c Unknown ≡ Known l → (leaf_form (leaf_type l []) ≡ (i + c) ∷ []) ×
    ReadableLeaf (leaf_type l [])
coded-at [] i c h e = clash (cc)
coded-at (Known k ∷ xs) i zero h e = rw (← known_is e) (h.0.0 ∙ ap (λ (n : ℕ). n ∷ []) (let z : i ≡ i + 0 = omega arith in z), h.0.1)
coded-at (Unknown ∷ xs) i zero h e = clash (cc)
coded-at (Known k ∷ xs) i (suc c) h e =
    let (f, r) = coded-at xs (suc i) c h.1 e in
    (f ∙ ap (λ (n : ℕ). n ∷ []) (let z : suc i + c ≡ i + suc c = omega arith in z), r)
coded-at (Unknown ∷ xs) i (suc c) h e =
    let (f, r) = coded-at xs (suc i) c h e in
    (f ∙ ap (λ (n : ℕ). n ∷ []) (let z : suc i + c ≡ i + suc c = omega arith in z), r)

all_coded : Coded plain_leaves 0
unfolding leaf_form carried
all_coded = (
  (refl, tt),
  (
    (refl, tt),
    (
      (refl, tt),
      (
        (refl, tt),
        (
          (refl, tt),
          (
            (refl, tt),
            (
              (refl, tt),
              (
                (refl, tt),
                (
                  (refl, tt),
                  (
                    (refl, tt),
                    (
                      (refl, tt),
                      (
                        (refl, tt),
                        ((refl, tt), ((refl, tt), ((refl, tt), ((refl, tt), ((refl, tt), tt))))),
                      ),
                    ),
                  ),
                ),
              ),
            ),
          ),
        ),
      ),
    ),
  ),
)

pub plain_form : (c : ℕ) {l : Leaf} → plain_leaf c ≡ Known l → (leaf_form (leaf_type l []) ≡ c ∷ []) × ReadableLeaf (leaf_type l [])
plain_form c e =
    let (f, r) = coded-at plain_leaves 0 c all_coded e in
    (f ∙ ap (λ (n : ℕ). n ∷ []) (let z : 0 + c ≡ c = omega arith in z), r)
