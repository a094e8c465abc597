-- An equation that antt computes at each leaf kind, or at each pair of kinds, holds at every leaf, or pair of leaves.
use mathlib.Core.Path.{◌≡◌, refl, sym, ap, ap₂, ◌∙◌}
use mathlib.Core.List.{List, [], ◌∷◌}
use Prim.Native.Nat.{ℕ, zero, suc, ◌+◌, ◌<◌}
use native.Mathlib.Nat.{add-zero, zero-add, add-suc, suc-add, le_of_suc-le-suc, not-suc-le-zero}
use lib.Dec.{lit<}
use lib.ListN.{get_or}
use Rattle.layout.specs.declared.leaf.TimeUnit.TheVariants.{Nanoseconds, Microseconds, Milliseconds}
use Rattle.layout.specs.declared.leaf.Leaf.{Leaf}
use Rattle.numeric.specs.declared.integers.Integer.TheVariants.{Int8, Int16, Int32, Int64, UInt8, UInt16, UInt32, UInt64}
use Rattle.numeric.specs.declared.floats.Format.TheVariants.{Binary16, Binary32, Binary64}
use Rattle.layout.specs.declared.leaf.Decimal.{Decimal}
use Rattle.rules.specs.Kinds.{kinds, kind_of}
use Rattle.rules.specs.Params.{decimal_of}

-- the kinds in the order of their numbers, with some decimal
abbrev pub leaves : Decimal → List Leaf
leaves d =
    Leaf.Null ∷ Leaf.Boolean
    ∷ Leaf.Integer Int8 ∷ Leaf.Integer Int16 ∷ Leaf.Integer Int32 ∷ Leaf.Integer Int64
    ∷ Leaf.Integer UInt8 ∷ Leaf.Integer UInt16 ∷ Leaf.Integer UInt32 ∷ Leaf.Integer UInt64
    ∷ Leaf.Float Binary16 ∷ Leaf.Float Binary32 ∷ Leaf.Float Binary64 ∷ Leaf.Date
    ∷ Leaf.Datetime Nanoseconds ∷ Leaf.Datetime Microseconds ∷ Leaf.Datetime Milliseconds
    ∷ Leaf.String ∷ Leaf.Binary ∷ Leaf.Categorical ∷ Leaf.Decimal d ∷ []

pub kind< : (l : Leaf) → kind_of l < kinds
kind< Leaf.Null = lit< tt
kind< Leaf.Boolean = lit< tt
kind< (Leaf.Integer Int8) = lit< tt
kind< (Leaf.Integer Int16) = lit< tt
kind< (Leaf.Integer Int32) = lit< tt
kind< (Leaf.Integer Int64) = lit< tt
kind< (Leaf.Integer UInt8) = lit< tt
kind< (Leaf.Integer UInt16) = lit< tt
kind< (Leaf.Integer UInt32) = lit< tt
kind< (Leaf.Integer UInt64) = lit< tt
kind< (Leaf.Float Binary16) = lit< tt
kind< (Leaf.Float Binary32) = lit< tt
kind< (Leaf.Float Binary64) = lit< tt
kind< Leaf.Date = lit< tt
kind< (Leaf.Datetime Nanoseconds) = lit< tt
kind< (Leaf.Datetime Microseconds) = lit< tt
kind< (Leaf.Datetime Milliseconds) = lit< tt
kind< Leaf.String = lit< tt
kind< Leaf.Binary = lit< tt
kind< Leaf.Categorical = lit< tt
kind< (Leaf.Decimal d) = lit< tt

abbrev pub leaf_at : Decimal → ℕ → Leaf
leaf_at d k = get_or (leaves d) k Leaf.Null

pub leaf_at_lem : (l : Leaf) → leaf_at (decimal_of l) (kind_of l) ≡ l
leaf_at_lem Leaf.Null = refl
leaf_at_lem Leaf.Boolean = refl
leaf_at_lem (Leaf.Integer Int8) = refl
leaf_at_lem (Leaf.Integer Int16) = refl
leaf_at_lem (Leaf.Integer Int32) = refl
leaf_at_lem (Leaf.Integer Int64) = refl
leaf_at_lem (Leaf.Integer UInt8) = refl
leaf_at_lem (Leaf.Integer UInt16) = refl
leaf_at_lem (Leaf.Integer UInt32) = refl
leaf_at_lem (Leaf.Integer UInt64) = refl
leaf_at_lem (Leaf.Float Binary16) = refl
leaf_at_lem (Leaf.Float Binary32) = refl
leaf_at_lem (Leaf.Float Binary64) = refl
leaf_at_lem Leaf.Date = refl
leaf_at_lem (Leaf.Datetime Nanoseconds) = refl
leaf_at_lem (Leaf.Datetime Microseconds) = refl
leaf_at_lem (Leaf.Datetime Milliseconds) = refl
leaf_at_lem Leaf.String = refl
leaf_at_lem Leaf.Binary = refl
leaf_at_lem Leaf.Categorical = refl
leaf_at_lem (Leaf.Decimal d) = refl

-- a kind's number tells the leaf, of decimals with precision and scale
pub kind_eq : (i t : Leaf) → kind_of i ≡ kind_of t → decimal_of i ≡ decimal_of t → i ≡ t
kind_eq i t e f = sym (leaf_at_lem i) ∙ ap₂ leaf_at f e ∙ leaf_at_lem t

-- f at each of the n numbers from i
abbrev pub from : {A : Type 0} → (ℕ → A) → ℕ → ℕ → List A
from f i zero = []
from f i (suc n) = f i ∷ from f (suc i) n

get_d_from : {A : Type 0} (f : ℕ → A) (d : A) (i n k : ℕ) → k < n → get_or (from f i n) k d ≡ f (i + k)
get_d_from f d i zero k h = absurd (not-suc-le-zero h)
get_d_from f d i (suc n) zero h = ap f (sym (add-zero i))
get_d_from f d i (suc n) (suc k) h = get_d_from f d (suc i) n k (le_of_suc-le-suc h) ∙ ap f (suc-add i k ∙ sym (add-suc i k))

-- f at each kind, with a decimal that stays a variable
abbrev pub row : {A : Type 0} → Decimal → (Leaf → A) → List A
row d f = from (λ k. f (leaf_at d k)) 0 kinds

abbrev pub rows : {A : Type 0} → Decimal → Decimal → (Leaf → Leaf → A) → List (List A)
rows d e f = row d (λ i. row e (λ t. f i t))

row_at : {A : Type 0} (f : Leaf → A) (l : Leaf) → get_or (row (decimal_of l) f) (kind_of l) (f Leaf.Null) ≡ f l
row_at f l =
    get_d_from (λ k. f (leaf_at (decimal_of l) k)) (f Leaf.Null) 0 kinds (kind_of l) (kind< l)
    ∙ ap (λ (k : ℕ). f (leaf_at (decimal_of l) k)) (zero-add (kind_of l))
    ∙ ap f (leaf_at_lem l)

pub each-leaf : {A : Type 0} (f g : Leaf → A) → ((d : Decimal) → row d f ≡ row d g) → (l : Leaf) → f l ≡ g l
each-leaf {A} f g e l =
    let q = e (decimal_of l) in
    sym (row_at f l)
    ∙ ap₂ (λ (xs : List A) (x : A). get_or xs (kind_of l) x) q (ap (λ (xs : List A). get_or xs 0 (f Leaf.Null)) q)
    ∙ row_at g l

pub each-pair : {A : Type 0} (f g : Leaf → Leaf → A) → ((d e : Decimal) → rows d e f ≡ rows d e g) → (i t : Leaf) → f i t ≡ g i t
each-pair f g q i t =
    each-leaf (λ t. f i t) (λ t. g i t) (λ e. each-leaf (λ i. row e (λ t. f i t)) (λ i. row e (λ t. g i t)) (λ d. q d e) i) t
