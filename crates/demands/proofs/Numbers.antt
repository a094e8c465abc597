-- With which numbers a build can refuse, over trees; a column's refusal has the column's position. Assumes nothing.
use Prim.Native.Nat.{ℕ, zero, suc, ◌+◌, ◌≤◌}
use mathlib.Core.Path.{◌≡◌, refl}
use mathlib.Core.Bool.{Bool, true, false, ◌&&◌, ◌||◌}
use mathlib.Core.List.{List, [], ◌∷◌}
use native.Mathlib.Omega.{arith}
use lib.ListN.{length}
use lib.Dec.{leb}
use borrow.Author.Tests.{leb-true}
use Rattle.layout.specs.Parser.{choose}
use Rattle.layout.specs.Tree.{LeafType, leaf_of, zone_of, Label, ColumnType, cleaf, cstruct, clist, carray, Columns, cnil, ccons, count_columns, dtype_of}
use Rattle.layout.specs.Find.{Lookup, absent, present, counterpart}
use Rattle.layout.specs.declared.columns.FieldId.{FieldId}
use Rattle.layout.specs.declared.columns.Position.{Position}
use Rattle.layout.specs.declared.matching.Matching.{Matching}
use Rattle.layout.specs.declared.matching.Matching.TheVariants.{ByName, ByNumber}
use Rattle.rules.specs.declared.policy.Policy.{Policy}
use Rattle.rules.specs.declared.policy.ExtraColumnsPolicy.{ExtraColumnsPolicy}
use Rattle.rules.specs.declared.policy.ExtraColumnsPolicy.TheVariants.{Ignore, Raise}
use Rattle.rules.specs.declared.outcome.CastOption.{CastOption}
use Rattle.rules.specs.code.Choice.{when◌then◌else◌}
use Rattle.rules.specs.Outcomes.{Verdict, untouched, refused, cast, need}
use Rattle.rules.specs.Params.{params_of, same_as_utc, widened}
use Rattle.rules.specs.Classes.{is_null, is_integer, is_float, is_datetime, unit, is_categorical, is_string, is_decimal}
use Rattle.rules.specs.Promotion.{holds}
use Rattle.rules.specs.Chain.{same_type, wider, unit_allowed, chain}
use Rattle.rules.specs.Pairs.{pair_rule}
use Rattle.values.specs.Value.{Value, Values, vnil, vcons, is_null_value}
use Rattle.values.specs.Filled.{required_of}
use Rattle.values.proofs.Unmarked.{Unmarked, UnmarkedAll}
use Rattle.plan.specs.Result.{Result, gives, refuses, demand, Answer, accepted, refused_at, placed}
use Rattle.plan.specs.Selector.{Selector, constant, Selectors}
use Rattle.plan.specs.Encode.{encode_plan}
use Rattle.plan.specs.Read.{longest_plan}
use Rattle.plan.proofs.Results.{both}
use Rattle.defaults.specs.Table.{Given, initial, partition, failed, Entry}
use Rattle.defaults.specs.Lookup.{Taken, refused as refusedTaken, nothing, taken, unless_null, of_source, given_to, first_entry_of, is_partition_of, is_initial_of}
use Rattle.defaults.specs.Lookup.{get_default_value}
use Rattle.matching.specs.Default.{Defaults, no_defaults, leaf_default, build_iceberg_default_value, defaults_of, missing_value}
use Rattle.matching.specs.Build.{leaf_part, struct_part, list_part, array_part, unless_null_type, same_element, distinct, distinct_names, missing, ruled, sought}
use Rattle.matching.specs.Build.{attach_transforms, attach_fields, is_absent, extra_column_err, extra_columns, build_column_selector, build_from, build}
use Rattle.matching.specs.Build.{keeps_required, fills_required}
use Rattle.matching.specs.Calls.{room_for, written_plan}
use Rattle.matching.proofs.Required.{keeps-optional}
use Rattle.matching.proofs.Unmarked.{struct-bare, list-bare, array-bare, column-bare, fills_unmarked}
use Rattle.demands.specs.Refusals.{is_in, pair_refusals, extra_refusals, column_refusals}
use Rattle.demands.proofs.Refusing.{all, all_in, ResultIn, in_gives, in_refuses, bind_in, demand_in, result_choose_in, Answers, in_accepted}
use Rattle.demands.proofs.Refusing.{in_refused_at, placed_in, answered_in, answers_as, ColumnRefusal, BuildRefusal, by_extra, by_column}

-- a target column refuses with a number of its list
abbrev ColumnIn : {A : Type 0} → Matching → Result A → Type 0
ColumnIn v r = ResultIn (column_refusals v) r

-- ---- leaf pairs

data VerdictIn (ns : List ℕ) : Verdict → Type 0 where
  in_untouched : VerdictIn ns untouched
  in_refused : {n : ℕ} → is_in n ns ≡ true → VerdictIn ns (refused n)
  in_cast : {o : CastOption} → VerdictIn ns (cast o)

test_in : {ns : List ℕ} (b : Bool) {x y : Verdict} → VerdictIn ns x → VerdictIn ns y → VerdictIn ns (when b then x else y)
test_in true o p = o
test_in false o p = p

need_in : {ns : List ℕ} (b : Bool) (n : ℕ) {x : Verdict} → is_in n ns ≡ true → VerdictIn ns x → VerdictIn ns (need b n x)
need_in b n e o = test_in b o (in_refused e)

pair_in : (p : Policy) (i t : LeafType) → VerdictIn pair_refusals (pair_rule p i t)
unfolding pair_rule chain is_in
pair_in p i t =
    let a = leaf_of i in
    let b = leaf_of t in
    let z = params_of a (zone_of i) b (zone_of t) in
    test_in (same_type z a b) in_untouched
    (test_in (is_null a) (need_in p.null_upcast 15 refl in_cast)
    (test_in (is_integer a && is_integer b) (need_in p.integer_upcast 16 refl (need_in (holds b a) 17 refl in_cast))
    (test_in (is_float a && is_float b && wider b a) (need_in p.float_upcast 18 refl in_cast)
    (test_in (is_float a && is_float b) (need_in p.float_downcast 19 refl in_cast)
    (test_in (is_integer a && is_float b) (need_in p.integer_to_float_cast 20 refl in_cast)
    (test_in (is_datetime a && is_datetime b)
    (need_in (p.datetime_convert_timezone || same_as_utc z) 21 refl (need_in (unit_allowed p (unit a) (unit b)) 22 refl in_cast))
    (test_in (is_categorical a && is_string b) (need_in p.categorical_to_string 23 refl in_cast)
    (test_in (is_decimal a && is_decimal b && widened z) (need_in p.decimal_widening 51 refl in_cast)
    (in_refused refl)))))))))

-- ---- defaults

-- a value that is taken may have another type: 28
pub data TakenIn (ns : List ℕ) : Taken → Type 0 where
  in_failed : {n : ℕ} → is_in n ns ≡ true → TakenIn ns (refusedTaken n)
  in_nothing : TakenIn ns nothing
  in_taken : {l : LeafType} {v : Value} → is_in 28 ns ≡ true → TakenIn ns (taken l v)

pub record DefaultsIn (ns : List ℕ) (d : Defaults) : Type 0 where
  pub at : (i : FieldId) → TakenIn ns (d i)

pub none_in : (ns : List ℕ) → DefaultsIn ns no_defaults
none_in ns = record { at = λ i. in_nothing }

-- what a table gives, by number
abbrev Looked : Taken → Type 0
Looked x = TakenIn (column_refusals ByNumber) x

unless_in : (l : LeafType) (v : Value) → Looked (unless_null l v)
unfolding unless_null choose is_in
unless_in l v = go (is_null_value v)
  where
    go : (b : Bool) → Looked (choose b nothing (taken l v))
    go true = in_nothing
    go false = in_taken refl

source_in : (l : LeafType) (vs : Values) (k : ℕ) → Looked (of_source l vs k)
unfolding of_source
source_in l vnil k = in_nothing
source_in l (vcons v vs) zero = unless_in l v
source_in l (vcons v vs) (suc k) = source_in l vs k

given_in : (k : ℕ) (g : Given) → Looked (given_to k g)
unfolding given_to is_in
given_in k (initial l v) = unless_in l v
given_in k (partition l vs) = source_in l vs k
given_in k failed = in_failed refl

first_in : (f : Entry → Bool) (k : ℕ) (es : List Entry) {r : Taken} → Looked r → Looked (first_entry_of f (given_to k) es r)
unfolding first_entry_of choose
first_in f k [] o = o
first_in f k (e ∷ es) {r} o = go (f e) (first_in f k es o)
  where
    go : (b : Bool) → Looked (first_entry_of f (given_to k) es r) → Looked (choose b (given_to k e.given) (first_entry_of f (given_to k) es r))
    go true p = given_in k e.given
    go false p = p

pub lookup_in : (es : List Entry) (k : ℕ) → DefaultsIn (column_refusals ByNumber) (get_default_value es k)
unfolding get_default_value
lookup_in es k = record { at = λ i. first_in (is_partition_of i) k es (first_in (is_initial_of i) k es in_nothing) }

leaf_default_in : {ns : List ℕ} (l : LeafType) {x : Taken} → TakenIn ns x → ResultIn ns (leaf_default l x)
unfolding leaf_default
leaf_default_in l (in_failed e) = in_refuses e
leaf_default_in l in_nothing = in_gives
leaf_default_in l (in_taken e) = demand_in _ 28 e in_gives

module _ {ns : List ℕ} {d : Defaults} (o : DefaultsIn ns d) where
  mutual
    unfolding build_iceberg_default_value defaults_of

    default-in : (t : ColumnType) (i : FieldId) → ResultIn ns (build_iceberg_default_value d i t)
    default-in (cleaf l) i = leaf_default_in l (o.at i)
    default-in (cstruct cs) i = bind_in (defaults-in cs) (λ g. in_gives)
    default-in (clist l t) i = in_gives
    default-in (carray w l t) i = in_gives

    defaults-in : (cs : Columns) → ResultIn ns (defaults_of d cs)
    defaults-in cnil = in_gives
    defaults-in (ccons l t cs) = bind_in (default-in t l.id) (λ x. bind_in (defaults-in cs) (λ g. in_gives))

  missing-in : (insert : Bool) (n : ℕ) (l : Label) (u : ColumnType) → is_in n ns ≡ true
      → ((x : Value) → ResultIn {A = Selector} ns (demand (fills_required l u x) 54 (gives (constant l.name (dtype_of u) x)))) → ResultIn ns
      (missing d insert n l u)
  unfolding missing missing_value
  missing-in insert n l u e f = demand_in insert n e (bind_in (bind_in (default-in u l.id) (λ x. in_gives)) f)

-- ---- a target column

-- the numbers that both ways of matching have
abbrev shared : List ℕ
shared = 11 ∷ 13 ∷ 14 ∷ pair_refusals

in_both : (v : Matching) (n : ℕ) → is_in n shared ≡ true → is_in n (column_refusals v) ≡ true
unfolding all is_in
in_both ByName n e = all_in (λ m. is_in m (column_refusals ByName)) shared n refl e
in_both ByNumber n e = all_in (λ m. is_in m (column_refusals ByNumber)) shared n refl e

module _ (v : Matching) where
  ruled-in : {x : Verdict} (k : Position) (u : LeafType) → VerdictIn pair_refusals x → ColumnIn v (ruled x k u)
  unfolding ruled all is_in
  ruled-in k u in_untouched = in_gives
  ruled-in k u (in_refused {n = n} e) = in_refuses (in_both v n (all_in (λ m. is_in m shared) pair_refusals n refl e))
  ruled-in k u in_cast = in_gives

  mismatch : {A : Type 0} → ColumnIn {A = A} v (refuses 24)
  unfolding is_in
  mismatch = in_refuses (in_both v 24 refl)

  leaf-part-in : (t : ColumnType) → ColumnIn v (leaf_part t)
  unfolding leaf_part
  leaf-part-in (cleaf l) = in_gives
  leaf-part-in (cstruct cs) = mismatch
  leaf-part-in (clist l t) = mismatch
  leaf-part-in (carray w l t) = mismatch

  struct-part-in : (t : ColumnType) → ColumnIn v (struct_part t)
  unfolding struct_part
  struct-part-in (cleaf l) = mismatch
  struct-part-in (cstruct cs) = in_gives
  struct-part-in (clist l t) = mismatch
  struct-part-in (carray w l t) = mismatch

  list-part-in : (t : ColumnType) → ColumnIn v (list_part t)
  unfolding list_part
  list-part-in (cleaf l) = mismatch
  list-part-in (cstruct cs) = mismatch
  list-part-in (clist l t) = in_gives
  list-part-in (carray w l t) = mismatch

  array-part-in : (w : ℕ) (t : ColumnType) → ColumnIn v (array_part w t)
  unfolding array_part is_in
  array-part-in w (cleaf l) = mismatch
  array-part-in w (cstruct cs) = mismatch
  array-part-in w (clist l t) = mismatch
  array-part-in w (carray x l t) = demand_in _ 24 (in_both v 24 refl) in_gives

  unless-null-in : (p : Policy) (k : Position) (u t : ColumnType) {r : Result Selector} → ColumnIn v r → ColumnIn v (unless_null_type v p k u t r)
  unfolding unless_null_type is_in
  unless-null-in p k u t o = result_choose_in _ (demand_in p.null_upcast 15 (in_both v 15 refl) in_gives) o

  sought-in : (x : Lookup) {r : Result Selector} {f : Position → Label → ColumnType → Result Selector} → ColumnIn v r
      → ((k : Position) (l : Label) (t : ColumnType) → ColumnIn v (f k l t)) → ColumnIn v (sought x r f)
  unfolding sought
  sought-in absent o g = o
  sought-in (present k l t) o g = g k l t

-- 12 is tested by name alone, 25 by number alone
distinct_in : (v : Matching) (cs : Columns) {A : Type 0} {r : Result A} → ColumnIn v r → ColumnIn v (demand (distinct v cs) 12 r)
unfolding distinct demand is_in
distinct_in ByName cs o = demand_in (distinct_names cs) 12 refl o
distinct_in ByNumber cs o = o

element_in_lem : (v : Matching) (a b : Label) {A : Type 0} {r : Result A} → ColumnIn v r → ColumnIn v (demand (same_element v a b) 25 r)
unfolding same_element demand is_in
element_in_lem ByName a b o = o
element_in_lem ByNumber a b o = demand_in (same_element ByNumber a b) 25 refl o

-- 54 and 55 are met by number alone: by name no column of the target is required
kept_in : (v : Matching) (a : Label) (t : ColumnType) (b : Label) {A : Type 0} {r : Result A} → (v ≡ ByName → b.required ≡ false) → ColumnIn v r
    → ColumnIn v (demand (keeps_required a t b) 55 r)
unfolding demand is_in
kept_in ByName a t b m o = rw (keeps-optional a t b (m refl)) o
kept_in ByNumber a t b m o = demand_in (keeps_required a t b) 55 refl o

filled_in : (v : Matching) (b : Label) (u : ColumnType) → (v ≡ ByName → (b.required ≡ false) × Unmarked required_of u) → (x : Value) {A : Type 0}
    {r : Result A} → ColumnIn v r
    → ColumnIn v (demand (fills_required b u x) 54 r)
unfolding demand is_in
filled_in ByName b u m x o = let (e, h) = m refl in rw (fills_unmarked b u x e h) o
filled_in ByNumber b u m x o = demand_in (fills_required b u x) 54 refl o

-- ---- extra columns

module _ (v : Matching) where
  extra-from : (fs gs : Columns) (i count : ℕ) → i + count_columns fs ≤ count
      → Answers (λ x. Unit {0}) (ColumnRefusal extra_refusals count) (extra_column_err v fs gs i)
  unfolding extra_column_err count_columns choose is_in
  extra-from cnil gs i count h = in_accepted tt
  extra-from (ccons l t fs) gs i count h = go (is_absent (counterpart v l gs)) (extra-from fs gs (i + 1) count (omega (arith, h)))
    where
      go : (b : Bool) {x : Answer (Unit {0})} → Answers (λ x. Unit {0}) (ColumnRefusal extra_refusals count) x
          → Answers (λ x. Unit {0}) (ColumnRefusal extra_refusals count) (choose b (refused_at 53 i) x)
      go true o = in_refused_at {k = i} (record { among = refl; place = omega (arith, h) })
      go false o = o

  extra-in : (e : ExtraColumnsPolicy) (fs gs : Columns) → Answers (λ x. Unit {0}) (ColumnRefusal extra_refusals (count_columns fs)) (extra_columns e v fs gs)
  unfolding extra_columns
  extra-in Ignore fs gs = in_accepted tt
  extra-in Raise fs gs = extra-from fs gs 0 (count_columns fs) (omega arith)

module _ (v : Matching) (p : Policy) where
  mutual
    unfolding attach_transforms attach_fields is_in

    attach-in : (u : ColumnType) (d : Defaults) (k : Position) (t : ColumnType) → DefaultsIn (column_refusals v) d → (v ≡ ByName → Unmarked required_of u)
        → ColumnIn v (attach_transforms v p d u k t)
    attach-in (cleaf u) d k t o m = bind_in (leaf-part-in v t) (λ l. ruled-in v k u (pair_in p l u))
    attach-in (cstruct gs) d k t o m =
        unless-null-in v p k (cstruct gs) t
        (bind_in (struct-part-in v t) (λ fs.
        distinct_in v gs (distinct_in v fs (demand_in _ 13 (in_both v 13 refl) (bind_in (fields_in gs d fs o (λ q. struct-bare (m q))) (λ ss. in_gives))))))
    attach-in (clist l u) d k t o m =
        unless-null-in v p k (clist l u) t
        (bind_in (list-part-in v t) (λ e.
        element_in_lem v e.label l (kept_in v e.label e.type l (λ q. (list-bare (m q)).0)
        (bind_in (attach-in u no_defaults _ e.type (none_in (column_refusals v)) (λ q. (list-bare (m q)).1)) (λ s. in_gives)))))
    attach-in (carray w l u) d k t o m =
        unless-null-in v p k (carray w l u) t
        (bind_in (array-part-in v w t) (λ e.
        element_in_lem v e.label l (kept_in v e.label e.type l (λ q. (array-bare (m q)).0)
        (bind_in (attach-in u no_defaults _ e.type (none_in (column_refusals v)) (λ q. (array-bare (m q)).1)) (λ s. in_gives)))))

    fields_in : (gs : Columns) (d : Defaults) (fs : Columns) → DefaultsIn (column_refusals v) d → (v ≡ ByName → UnmarkedAll required_of gs)
        → ColumnIn v (attach_fields v p d gs fs)
    fields_in cnil d fs o m = in_gives
    fields_in (ccons l u gs) d fs o m =
        bind_in
        (sought-in v _ (missing-in o _ 14 l u (in_both v 14 refl) (λ x. filled_in v l u (λ q. ((column-bare (m q)).0, (column-bare (m q)).1.0)) x in_gives))
        (λ k a t. kept_in v a t l (λ q. (column-bare (m q)).0) (bind_in (attach-in u d k t o (λ q. (column-bare (m q)).1.0)) (λ s. in_gives)))) (λ s.
        bind_in (fields_in gs d fs o (λ q. (column-bare (m q)).1.1)) (λ ss. in_gives))

  -- ---- the build

  module _ (d : Defaults) (o : DefaultsIn (column_refusals v) d) (fs : Columns) where
    column-in : (l : Label) (u : ColumnType) → (v ≡ ByName → (l.required ≡ false) × Unmarked required_of u) → ColumnIn v (build_column_selector v p d l u fs)
    unfolding build_column_selector is_in
    column-in l u m =
        sought-in v _ (missing-in o _ 11 l u (in_both v 11 refl) (λ x. filled_in v l u m x in_gives))
        (λ k a t. kept_in v a t l (λ q. (m q).0) (bind_in (attach-in u d k t o (λ q. (m q).1)) (λ s. in_gives)))

    pub from_in : (gs : Columns) (i count : ℕ) → i + count_columns gs ≤ count → (v ≡ ByName → UnmarkedAll required_of gs)
        → Answers (λ ss. Unit {0}) (ColumnRefusal (column_refusals v) count) (build_from v p d gs fs i)
    unfolding build_from count_columns
    from_in cnil i count h m = in_accepted tt
    from_in (ccons l u gs) i count h m =
        placed_in i (column-in l u (λ q. ((column-bare (m q)).0, (column-bare (m q)).1.0))) (λ n e. record { among = e; place = omega (arith, h) })
        (λ s. answered_in (from_in gs (i + 1) count (omega (arith, h)) (λ q. (column-bare (m q)).1.1)) (λ n k r. r) (λ ss x. in_accepted tt))

    pub build_in : (to : Columns) → (v ≡ ByName → UnmarkedAll required_of to)
        → Answers (λ ss. Unit {0}) (BuildRefusal v (count_columns fs) (count_columns to)) (build v p d fs to)
    unfolding build
    build_in to m =
        answered_in (extra-in v p.extra_columns fs to) (λ n k r. by_extra r) (λ x u.
        answers_as (from_in to 0 (count_columns to) (omega arith) m) (λ n k r. by_column r))

-- 27, and what is written is no longer than a plan may be
pub plan-written_in : (space : ℕ) (ss : Selectors) {P : ℕ → ℕ → Type 0} → P 27 0 → Answers (λ b. length b ≤ longest_plan) P (written_plan space ss)
unfolding written_plan room_for placed demand
plan-written_in space ss {P} p = go (room_for space (encode_plan ss)) refl
  where
    go : (c : Bool) → room_for space (encode_plan ss) ≡ c
        → Answers (λ b. length b ≤ longest_plan) P (placed 0 (demand c 27 (gives (encode_plan ss))) (λ b. accepted b))
    go true q = in_accepted (leb-true _ _ (both (leb (length (encode_plan ss)) space) q).1)
    go false q = in_refused_at p
