-- What the test of a class says of a leaf.
use mathlib.Core.Path.{◌≡◌, refl, sym, ap, ◌∙◌}
use mathlib.Core.Bool.{Bool, true, false, not}
use Rattle.layout.specs.Tree.{LeafType, leaf_of, zone_of, null, datetime, string, categorical, decimal}
use Rattle.layout.specs.declared.leaf.Leaf.{Leaf}
use Rattle.layout.specs.declared.leaf.Decimal.{Decimal}
use Rattle.rules.specs.code.Choice.{when◌then◌else◌}
use Rattle.rules.specs.Classes.{is_datetime, unit, is_null, is_string, is_categorical, is_decimal}
use Rattle.rules.specs.Params.{decimal_of}
use Rattle.rules.proofs.EachLeaf.{row, rows, each-leaf, each-pair}
use Rattle.layout.proofs.Leaves.{type_of-leaf}

-- an equation where a test holds, computed at each kind or pair of kinds
pub where_test : {A : Type 0} (c : Leaf → Bool) (f g : Leaf → A) → ((d : Decimal) → row d (λ l. when c l then f l else g l) ≡ row d g) → (l : Leaf) → c l
    ≡ true → f l ≡ g l
where_test c f g e l q = sym (ap (λ (b : Bool). when b then f l else g l) q) ∙ each-leaf (λ l. when c l then f l else g l) g e l

pub where_pair : {A : Type 0} (c : Leaf → Leaf → Bool) (f g : Leaf → Leaf → A) → ((d e : Decimal) → rows d e (λ i t. when c i t then f i t else g i t) ≡
    rows d e g) → (i t : Leaf) → c i t ≡ true → f i t ≡ g i t
where_pair c f g e i t q = sym (ap (λ (b : Bool). when b then f i t else g i t) q) ∙ each-pair (λ i t. when c i t then f i t else g i t) g e i t

pub datetime-leaf : (l : Leaf) → is_datetime l ≡ true → l ≡ Leaf.Datetime (unit l)
datetime-leaf = where_test is_datetime (λ l. l) (λ l. Leaf.Datetime (unit l)) (λ d. refl)

-- the same of leaf types
pub null-type : (a : LeafType) → is_null (leaf_of a) ≡ true → a ≡ null
null-type a e = type_of-leaf a Leaf.Null (where_test is_null (λ l. l) (λ l. Leaf.Null) (λ d. refl) (leaf_of a) e)

pub string-type : (a : LeafType) → is_string (leaf_of a) ≡ true → a ≡ string
string-type a e = type_of-leaf a Leaf.String (where_test is_string (λ l. l) (λ l. Leaf.String) (λ d. refl) (leaf_of a) e)

pub categorical-type : (a : LeafType) → is_categorical (leaf_of a) ≡ true → a ≡ categorical
categorical-type a e = type_of-leaf a Leaf.Categorical (where_test is_categorical (λ l. l) (λ l. Leaf.Categorical) (λ d. refl) (leaf_of a) e)

pub datetime-type : (a : LeafType) → is_datetime (leaf_of a) ≡ true → a ≡ datetime (unit (leaf_of a)) (zone_of a)
datetime-type a e = type_of-leaf a (Leaf.Datetime (unit (leaf_of a))) (datetime-leaf (leaf_of a) e)

pub decimal-type : (a : LeafType) → is_decimal (leaf_of a) ≡ true → a ≡ decimal (decimal_of (leaf_of a))
decimal-type a e =
    type_of-leaf a (Leaf.Decimal (decimal_of (leaf_of a))) (where_test is_decimal (λ l. l) (λ l. Leaf.Decimal (decimal_of l)) (λ d. refl) (leaf_of a) e)

-- no other leaf has precision and scale
pub not-decimal : (l : Leaf) → is_decimal l ≡ false → decimal_of l ≡ record { precision = 0; scale = 0 }
not-decimal l e = where_test (λ l. not (is_decimal l)) decimal_of (λ l. record { precision = 0; scale = 0 }) (λ d. refl) l (ap not e)

pub datetime-not-decimal : (l : Leaf) → is_datetime l ≡ true → is_decimal l ≡ false
datetime-not-decimal = where_test is_datetime is_decimal (λ l. false) (λ d. refl)
