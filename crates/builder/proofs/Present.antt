-- A default that is put in is not null (a null value is not taken), so whether no required field would be null is told
-- by its parts. Assumes nothing.
use Prim.Native.Nat.{ℕ, zero, suc}
use mathlib.Core.Path.{◌≡◌, refl, sym, ap, ◌∙◌}
use mathlib.Core.Bool.{Bool, true, false, not}
use mathlib.Core.List.{List, [], ◌∷◌}
use Rattle.layout.specs.Parser.{choose}
use Rattle.layout.specs.Tree.{LeafType, ColumnType, cleaf, cstruct, clist, carray, leaf}
use Rattle.layout.specs.declared.columns.FieldId.{FieldId}
use Rattle.layout.proofs.Ways.{clash}
use Rattle.forms.specs.Same.{equal_types}
use Rattle.values.specs.Value.{Value, vnull, vnumber, vtext, voverflow, vstruct, vlist, varray, Values, vnil, vcons, is_null_value}
use Rattle.defaults.specs.Table.{Entry, Given, initial, partition, failed}
use Rattle.defaults.specs.Lookup.{Taken, refused, nothing, taken, unless_null, of_source, given_to, is_partition_of, is_initial_of, first_entry_of, get_default_value}
use Rattle.plan.specs.Result.{Result, gives, refuses, ◌>>=◌, demand}
use Rattle.plan.specs.Nullness.{Place, required, optional, novalue, Nullness, node, top_of, of_value}
use Rattle.plan.specs.Marks.{allowed, meets}
use Rattle.plan.proofs.Exact.{leaf-meets}
use Rattle.matching.specs.Default.{Defaults, Default, none, some, or_null, leaf_default, FieldDefaults, struct_default, build_iceberg_default_value, defaults_of}
use Rattle.builder.specs.code.Answers.{filled_in_of, default_made, fills_made}

-- ---- what a table gives

abbrev is_present : Value → Bool
is_present v = not (is_null_value v)

abbrev taken_present : Taken → Bool
taken_present (refused n) = true
taken_present nothing = true
taken_present (taken m v) = is_present v

-- what is asked for a default gives no null
pub record Present (d : Defaults) : Type 0 where
  pub always : (i : FieldId) → taken_present (d i) ≡ true

unless_present : (l : LeafType) (v : Value) → taken_present (unless_null l v) ≡ true
unfolding unless_null choose
unless_present l vnull = refl
unless_present l (vnumber k n) = refl
unless_present l (vtext b) = refl
unless_present l voverflow = refl
unless_present l (vstruct vs) = refl
unless_present l (vlist vs) = refl
unless_present l (varray vs) = refl

source_present : (l : LeafType) (vs : Values) (k : ℕ) → taken_present (of_source l vs k) ≡ true
unfolding of_source
source_present l vnil k = refl
source_present l (vcons v vs) zero = unless_present l v
source_present l (vcons v vs) (suc k) = source_present l vs k

given-present : (k : ℕ) (g : Given) → taken_present (given_to k g) ≡ true
unfolding given_to
given-present k (initial l v) = unless_present l v
given-present k (partition l vs) = source_present l vs k
given-present k failed = refl

chosen_present : (b : Bool) (x y : Taken) → taken_present x ≡ true → taken_present y ≡ true → taken_present (choose b x y) ≡ true
unfolding choose
chosen_present true x y p q = p
chosen_present false x y p q = q

first-present : (f : Entry → Bool) (k : ℕ) (es : List Entry) (r : Taken) → taken_present r ≡ true → taken_present (first_entry_of f (given_to k) es r) ≡ true
unfolding first_entry_of
first-present f k [] r h = h
first-present f k (e ∷ es) r h = chosen_present (f e) _ _ (given-present k e.given) (first-present f k es r h)

pub table-present : (es : List Entry) (k : ℕ) → Present (get_default_value es k)
unfolding get_default_value
table-present es k = record { always = λ i. first-present (is_partition_of i) k es _ (first-present (is_initial_of i) k es nothing refl) }

-- ---- a default's place

present-top : (v : Value) → is_present v ≡ true → top_of (of_value v) ≡ required
unfolding of_value
present-top vnull h = clash (cc)
present-top (vnumber k n) h = refl
present-top (vtext b) h = refl
present-top voverflow h = refl
present-top (vstruct vs) h = refl
present-top (vlist vs) h = refl
present-top (varray vs) h = refl

leaf-top : (l : LeafType) (t : Taken) (x : Value) → taken_present t ≡ true → leaf_default l t ≡ gives (some x) → top_of (of_value x) ≡ required
unfolding leaf_default demand
leaf-top l (refused n) x h e = clash (cc)
leaf-top l nothing x h e = clash (cc)
leaf-top l (taken m v) x h e = go (equal_types (leaf m) (leaf l)) e
  where
    go : (c : Bool) → demand c 28 (gives (some v)) ≡ gives (some x) → top_of (of_value x) ≡ required
    go true e = let z : v ≡ x = cc in ap (λ (y : Value). top_of (of_value y)) (sym z) ∙ present-top v h
    go false e = clash (cc)

struct-top : (X : Result FieldDefaults) (x : Value) → (X >>= λ g. gives (struct_default g)) ≡ gives (some x) → top_of (of_value x) ≡ required
unfolding ◌>>=◌ struct_default choose of_value
struct-top (refuses n) x e = clash (cc)
struct-top (gives g) x e = go g.any e
  where
    go : (c : Bool) → gives (choose c (some (vstruct g.values)) none) ≡ gives (some x) → top_of (of_value x) ≡ required
    go true e = let z : vstruct g.values ≡ x = cc in ap (λ (y : Value). top_of (of_value y)) (sym z)
    go false e = clash (cc)

pub default_top : (d : Defaults) → Present d → (i : FieldId) (t : ColumnType) (x : Value) → build_iceberg_default_value d i t ≡ gives (some x) → top_of
    (of_value x) ≡ required
unfolding build_iceberg_default_value
default_top d D i (cleaf l) x e = leaf-top l (d i) x (D.always i) e
default_top d D i (cstruct cs) x e = struct-top (defaults_of d cs) x e
default_top d D i (clist l t) x e = clash (cc)
default_top d D i (carray w l t) x e = clash (cc)

-- ---- 54 by the parts

-- a null: below it there is no value
null-meets : (r : Bool) (t : ColumnType) → meets (of_value vnull) r t ≡ not r
unfolding of_value meets allowed
null-meets false t = leaf-meets optional false t refl
null-meets true (cleaf l) = refl
null-meets true (cstruct cs) = refl
null-meets true (clist l t) = refl
null-meets true (carray w l t) = refl

-- what is not null: the places inside decide
present_meets : (n : Nullness) (r : Bool) (t : ColumnType) → top_of n ≡ required → meets n false t ≡ meets n r t
unfolding meets allowed
present_meets (node required ns) r (cleaf l) h = refl
present_meets (node required ns) r (cstruct cs) h = refl
present_meets (node required ns) r (clist l t) h = refl
present_meets (node required ns) r (carray w l t) h = refl
present_meets (node optional ns) r t h = clash (cc)
present_meets (node novalue ns) r t h = clash (cc)

pub fills_is : (x : Default) (r : Bool) (t : ColumnType) → ((v : Value) → gives x ≡ gives (some v) → top_of (of_value v) ≡ required)
    → fills_made r (default_made (filled_in_of t) (gives x)) ≡ meets (of_value (or_null x)) r t
unfolding default_made
fills_is none r t h = sym (null-meets r t)
fills_is (some v) r t h = present_meets (of_value v) r t (h v refl)

-- inside a leaf there is nothing
pub leaf-filled : (l : LeafType) (v : Value) → filled_in_of (cleaf l) v ≡ true
unfolding meets allowed
leaf-filled l v = go (top_of (of_value v))
  where
    go : (p : Place) → allowed p false ≡ true
    go required = refl
    go optional = refl
    go novalue = refl
