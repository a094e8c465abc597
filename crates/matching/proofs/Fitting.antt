-- A default fits its field, where the values of the table fit the types that stand beside them; and they do in every
-- table that was read. Assumes nothing.
use Prim.Native.Nat.{ℕ, zero, suc}
use mathlib.Core.Path.{◌≡◌, refl, sym, ◌∙◌}
use mathlib.Core.Bool.{Bool, true, false, not}
use mathlib.Core.List.{List, [], ◌∷◌, ◌++◌}
use lib.Dec.{eqb}
use Rattle.layout.specs.Bytes.{Bytes, AllBytes}
use Rattle.layout.specs.Parser.{Res, refuse, ok, choose, test}
use Rattle.layout.specs.Tree.{LeafType, Label, ColumnType, cleaf, cstruct, clist, carray, Columns, cnil, ccons, DataType, leaf, struct, Fields, dtype_of}
use Rattle.layout.specs.Tree.{fields_of}
use Rattle.layout.specs.declared.columns.FieldId.{FieldId}
use Rattle.layout.proofs.Ways.{clash}
use Rattle.layout.proofs.View.{next-ok}
use Rattle.forms.proofs.Equal.{equal_types_eq}
use Rattle.values.specs.Value.{Value, Values, is_null_value}
use Rattle.values.specs.Reading.{value, times}
use Rattle.values.specs.Fits.{Fits, fit_null, fit_struct, FitsAll, all_nil, all_cons, FitsEach, each_nil, each_cons}
use Rattle.values.proofs.Round.{value-fits}
use Rattle.plan.specs.Result.{gives}
use Rattle.plan.proofs.Results.{never_refused, gives_eq, bind_gives, demand-gives}
use Rattle.values.proofs.Inside.{renumber-ok}
use Rattle.defaults.specs.Table.{Given, initial, partition, failed, Entry, OwnedEntry, counts_for, entries_of, repeats_any_entry, initial_entry, loaded_entry}
use Rattle.defaults.specs.Table.{partition_entry, given_of, table_number, entry, owned_entry, entries, TableTree, counted_table, table_from, table}
use Rattle.defaults.specs.declared.read.EntryKind.{EntryKind}
use Rattle.defaults.specs.declared.read.EntryKind.TheVariants.{Initial, Partition}
use Rattle.defaults.specs.declared.read.TableVersion.{TableVersion}
use Rattle.defaults.specs.Lookup.{Taken, refused, nothing, taken, unless_null, of_source, given_to, is_partition_of, is_initial_of, first_entry_of, get_default_value}
use Rattle.matching.specs.Default.{Defaults, no_defaults, Default, none, some, or_null, leaf_default, FieldDefaults, struct_default, with_field}
use Rattle.matching.specs.Default.{build_iceberg_default_value, defaults_of, missing_value}
use Rattle.matching.proofs.Entries.{Match, unmatched, matched, match_of, of_match, first_match}

-- every value that is found fits the type that it is found with
pub record Good (d : Defaults) : Type 0 where
  pub fits : (i : FieldId) (l : LeafType) (x : Value) → d i ≡ taken l x → Fits (leaf l) x

pub good_none : Good no_defaults
good_none = record { fits = λ i l x e. clash (cc) }

-- ---- a field's default

leaf_fits : (l : LeafType) (e : Taken) {x : Default} → ((m : LeafType) (y : Value) → e ≡ taken m y → Fits (leaf m) y) → leaf_default l e ≡ gives x → Fits
    (leaf l) (or_null x)
unfolding leaf_default
leaf_fits l (refused n) g q = never_refused q refl
leaf_fits l nothing g q = rw (← gives_eq q) fit_null
leaf_fits l (taken m y) g q =
    let (c, q) = demand-gives _ _ _ q in
    rw (← gives_eq q, ← equal_types_eq (leaf m) (leaf l) c) (g m y refl)

struct-fits : {fs : Fields} (g : FieldDefaults) → FitsAll fs g.values → Fits (struct fs) (or_null (struct_default g))
unfolding struct_default choose
struct-fits {fs} g w = go g.any
  where
    go : (b : Bool) → Fits (struct fs) (or_null (choose b (some (Value.vstruct g.values)) none))
    go true = fit_struct w
    go false = fit_null

module _ (d : Defaults) (g : Good d) where
  mutual
    unfolding build_iceberg_default_value defaults_of dtype_of fields_of with_field

    default_fits : (t : ColumnType) (i : FieldId) {x : Default} → build_iceberg_default_value d i t ≡ gives x → Fits (dtype_of t) (or_null x)
    default_fits (cleaf l) i e = leaf_fits l (d i) (λ m z r. g.fits i m z r) e
    default_fits (cstruct cs) i e =
        let (y, p, q) = bind_gives _ _ e in
        rw (← gives_eq q) (struct-fits y (defaults-fit cs p))
    default_fits (clist l t) i e = rw (← gives_eq e) fit_null
    default_fits (carray w l t) i e = rw (← gives_eq e) fit_null

    defaults-fit : (cs : Columns) {y : FieldDefaults} → defaults_of d cs ≡ gives y → FitsAll (fields_of cs) y.values
    defaults-fit cnil e = rw (← gives_eq e) all_nil
    defaults-fit (ccons l t cs) e =
        let (x, p, e) = bind_gives _ _ e in
        let (y, q, e) = bind_gives _ _ e in
        rw (← gives_eq e) (all_cons (default_fits t l.id p) (defaults-fit cs q))

  pub missing-fits : (l : Label) (t : ColumnType) {x : Value} → missing_value d l t ≡ gives x → Fits (dtype_of t) x
  unfolding missing_value
  missing-fits l t e =
      let (x, p, q) = bind_gives _ _ e in
      rw (← gives_eq q) (default_fits t l.id p)

-- ---- a table's entries

-- every value of an entry fits the entry's type
pub data GivenFits : Given → Type 0 where
  g_initial : {l : LeafType} {x : Value} → Fits (leaf l) x → GivenFits (initial l x)
  g_partition : {l : LeafType} {xs : Values} → FitsEach (leaf l) xs → GivenFits (partition l xs)
  g_failed : GivenFits failed

pub data EntriesFit : List Entry → Type 0 where
  e_nil : EntriesFit []
  e_cons : {x : Entry} {es : List Entry} → GivenFits x.given → EntriesFit es → EntriesFit (x ∷ es)

taken_eq : {l m : LeafType} {x y : Value} → taken l x ≡ taken m y → (l ≡ m) × (x ≡ y)
taken_eq e = (cc, cc)

unless_null-fits : {l m : LeafType} {x y : Value} → Fits (leaf l) x → unless_null l x ≡ taken m y → Fits (leaf m) y
unfolding unless_null choose
unless_null-fits {l} {m} {x} {y} f e = go (is_null_value x) e
  where
    go : (b : Bool) → choose b nothing (taken l x) ≡ taken m y → Fits (leaf m) y
    go true e = clash (cc)
    go false e = let (p, q) = taken_eq e in rw (← p, ← q) f

source_fits : {l m : LeafType} {y : Value} {xs : Values} (k : ℕ) → FitsEach (leaf l) xs → of_source l xs k ≡ taken m y → Fits (leaf m) y
unfolding of_source
source_fits k each_nil e = clash (cc)
source_fits zero (each_cons f fs) e = unless_null-fits f e
source_fits (suc k) (each_cons f fs) e = source_fits k fs e

given-fits : {g : Given} (k : ℕ) {m : LeafType} {y : Value} → GivenFits g → given_to k g ≡ taken m y → Fits (leaf m) y
unfolding given_to
given-fits k (g_initial f) e = unless_null-fits f e
given-fits k (g_partition fs) e = source_fits k fs e
given-fits k g_failed e = clash (cc)

match_fits : (f : Entry → Bool) {es : List Entry} {g : Given} → EntriesFit es → match_of f es ≡ matched g → GivenFits g
unfolding first_entry_of choose
match_fits f e_nil e = clash (cc)
match_fits f {g = g} (e_cons {x} {es} h hs) e = go (f x) e (match_fits f hs)
  where
    go : (b : Bool) → choose b (matched x.given) (match_of f es) ≡ matched g → (match_of f es ≡ matched g → GivenFits g) → GivenFits g
    go true e ih = let p : x.given ≡ g = cc in rw (← p) h
    go false e ih = ih e

taken-fits : (k : ℕ) (c : Match) (r : Taken) {m : LeafType} {y : Value} → ((g : Given) → c ≡ matched g → GivenFits g) →
    (r ≡ taken m y → Fits (leaf m) y) → of_match (given_to k) r c ≡ taken m y → Fits (leaf m) y
taken-fits k unmatched r f h e = h e
taken-fits k (matched g) r f h e = given-fits k (f g refl) e

first_fits : (f : Entry → Bool) (k : ℕ) {es : List Entry} (r : Taken) {m : LeafType} {y : Value} → EntriesFit es → (r ≡ taken m y → Fits (leaf m) y) →
    first_entry_of f (given_to k) es r ≡ taken m y → Fits (leaf m) y
first_fits f k {es} r g h e = taken-fits k (match_of f es) r (λ x q. match_fits f g q) h (sym (first_match f (given_to k) es r) ∙ e)

pub entries_good : (es : List Entry) (k : ℕ) → EntriesFit es → Good (get_default_value es k)
unfolding get_default_value
entries_good es k g =
    record { fits = λ i l x e. first_fits (is_partition_of i) k _ g (λ e. first_fits (is_initial_of i) k nothing g (λ e. clash (cc)) e) e }

-- ---- what was read

ok_same : {A : Type 0} (P : A → Type 0) {a b : A} {m n : ℕ} → ok a m ≡ ok b n → P a → P b
ok_same P {a} {b} e p = let q : a ≡ b = cc in rw (← q) p

-- the same with owners
data OwnedFit : List OwnedEntry → Type 0 where
  o_nil : OwnedFit []
  o_cons : {x : OwnedEntry} {es : List OwnedEntry} → GivenFits x.entry.given → OwnedFit es → OwnedFit (x ∷ es)

owned-end : (x : OwnedEntry) {es : List OwnedEntry} → OwnedFit es → GivenFits x.entry.given → OwnedFit (es ++ (x ∷ []))
owned-end x o_nil g = o_cons g o_nil
owned-end x (o_cons h hs) g = o_cons h (owned-end x hs g)

own_fit : (n : ℕ) {es : List OwnedEntry} → OwnedFit es → EntriesFit (entries_of n es)
unfolding entries_of choose
own_fit n o_nil = e_nil
own_fit n (o_cons {x} {es} h hs) = go (counts_for n x.owner) (own_fit n hs)
  where
    go : (b : Bool) → EntriesFit (entries_of n es) → EntriesFit (choose b (x.entry ∷ entries_of n es) (entries_of n es))
    go true ih = e_cons h ih
    go false ih = ih

module _ (s : Bytes) (o : AllBytes s) where
  times-fit : (t : DataType) (n at : ℕ) {xs : Values} {m : ℕ} → times n (value t) s at ≡ ok xs m → FitsEach t xs
  unfolding times
  times-fit t zero at e = ok_same (FitsEach t) e each_nil
  times-fit t (suc n) at e =
      let (x, i, p, e) = next-ok _ _ e in
      let (xs, j, q, e) = next-ok _ _ e in
      ok_same (FitsEach t) e (each_cons (value-fits t s o at x i p) (times-fit t n i q))

  initial-fits : (at : ℕ) {g : Given} {m : ℕ} → initial_entry s at ≡ ok g m → GivenFits g
  unfolding initial_entry
  initial-fits at e =
      let (l, i, p, e) = next-ok _ _ e in
      let (x, j, q, e) = next-ok _ _ e in
      ok_same GivenFits e (g_initial (value-fits (leaf l) s o i x j q))

  loaded-fits : (at : ℕ) {g : Given} {m : ℕ} → loaded_entry s at ≡ ok g m → GivenFits g
  unfolding loaded_entry
  loaded-fits at e =
      let (l, i, p, e) = next-ok _ _ e in
      let (n, j, q, e) = next-ok _ _ e in
      let (xs, k, r, e) = next-ok _ _ e in
      ok_same GivenFits e (g_partition (times-fit (leaf l) n j r))

  -- one of two, or a refusal
  either : (x y : Bool) (p q : Res Given) {g : Given} {m : ℕ} → choose x p (choose y q (refuse 3)) ≡ ok g m → (p ≡ ok g m → GivenFits g) →
      (q ≡ ok g m → GivenFits g) → GivenFits g
  unfolding choose
  either true y p q e f h = f e
  either false true p q e f h = h e
  either false false p q e f h = clash (cc)

  partition-fits : (at : ℕ) {g : Given} {m : ℕ} → partition_entry s at ≡ ok g m → GivenFits g
  unfolding partition_entry
  partition-fits at e =
      let (b, i, p, e) = next-ok _ _ e in
      either (eqb b 0) (eqb b 1) (loaded_entry s i) (ok failed i) e (λ e. loaded-fits i e) (λ e. ok_same GivenFits e g_failed)

  given-of-fits : (k : EntryKind) (at : ℕ) {g : Given} {m : ℕ} → given_of k s at ≡ ok g m → GivenFits g
  unfolding given_of
  given-of-fits Initial at e = initial-fits at e
  given-of-fits Partition at e = partition-fits at e

  entry-fits : (at : ℕ) {x : Entry} {m : ℕ} → entry s at ≡ ok x m → GivenFits x.given
  unfolding entry
  entry-fits at e =
      let (i, a, p, e) = next-ok _ _ e in
      let (k, b, q, e) = next-ok _ _ e in
      let (g, c, r, e) = next-ok _ _ e in
      let r = renumber-ok table_number (given_of k s b) r in
      ok_same (λ (x : Entry). GivenFits x.given) e (given-of-fits k b r)

  owned-fits : (v : TableVersion) (at : ℕ) {x : OwnedEntry} {m : ℕ} → owned_entry v s at ≡ ok x m → GivenFits x.entry.given
  unfolding owned_entry
  owned-fits v at e =
      let (o, i, p, e) = next-ok _ _ e in
      let (x, j, q, e) = next-ok _ _ e in
      ok_same (λ (x : OwnedEntry). GivenFits x.entry.given) e (entry-fits i q)

  entries_fit : (v : TableVersion) (n : ℕ) (earlier : List OwnedEntry) (at : ℕ) {es : List OwnedEntry} {m : ℕ} → OwnedFit earlier
      → entries v n earlier s at ≡ ok es m → OwnedFit es
  unfolding entries
  entries_fit v zero earlier at h e = ok_same OwnedFit e h
  entries_fit v (suc n) earlier at h e =
      let (x, i, p, e) = next-ok _ _ e in
      let (u, j, q, e) = next-ok (test (not (repeats_any_entry x earlier)) 5 s i) _ e in
      entries_fit v n (earlier ++ (x ∷ [])) j (owned-end x h (owned-fits v at p)) e

  pub table_good : {t : TableTree} {m : ℕ} (k owner : ℕ) → table s ≡ ok t m → Good (get_default_value (entries_of owner t.entries) k)
  unfolding table table_from counted_table
  table_good {t} k owner e =
      let (u, i, p, e) = next-ok _ _ e in
      let (v, j, p, e) = next-ok _ _ e in
      let (n, a, p, e) = next-ok _ _ e in
      let (xs, b, q, e) = next-ok _ _ e in
      let (u, c, p, e) = next-ok _ _ e in
      entries_good (entries_of owner t.entries) k (own_fit owner (ok_same (λ (t : TableTree). OwnedFit t.entries) e (entries_fit v n [] a o_nil q)))
