-- A build by number is refused for a listed reason alone. Assumes nothing.
use Prim.Native.Nat.{ℕ, zero, suc, ◌+◌}
use mathlib.Core.Path.{◌≡◌, refl, sym, ap}
use mathlib.Core.Bool.{Bool, true, false, not, ◌&&◌, ◌||◌}
use mathlib.Core.List.{List, [], ◌∷◌}
use lib.Dec.{eqb}
use borrow.Author.Tests.{eqb-true, eqb-false}
use Rattle.layout.specs.Parser.{choose}
use Rattle.layout.specs.Tree.{LeafType, leaf_of, Label, ColumnType, cleaf, cstruct, clist, carray, Columns, cnil, ccons}
use Rattle.layout.specs.Find.{Lookup, absent, present as found, counterpart}
use Rattle.layout.specs.declared.columns.FieldId.{FieldId}
use Rattle.layout.specs.declared.columns.Position.{Position}
use Rattle.layout.specs.declared.matching.Matching.TheVariants.{ByNumber}
use Rattle.layout.proofs.Ways.{clash}
use Rattle.forms.specs.Same.{equal_types}
use Rattle.rules.specs.declared.policy.Policy.{Policy}
use Rattle.rules.specs.declared.policy.MissingColumnsPolicy.{MissingColumnsPolicy}
use Rattle.rules.specs.declared.policy.ExtraColumnsPolicy.{ExtraColumnsPolicy}
use Rattle.rules.specs.Classes.{is_null}
use Rattle.rules.specs.Outcomes.{Verdict, untouched}
use Rattle.rules.specs.Pairs.{pair_rule}
use Rattle.values.specs.Value.{Value, Values, vnil, vcons, is_null_value}
use Rattle.plan.specs.Result.{Result, gives, refuses, ◌>>=◌, demand, Answer, accepted, refused_at, placed, answered}
use Rattle.plan.proofs.Results.{gives_eq, true≠false, both, demand-gives}
use Rattle.defaults.specs.Table.{Given, initial, partition, failed, Entry}
use Rattle.defaults.specs.Lookup.{Taken, refused, nothing, taken, unless_null, of_source, given_to, is_partition_of, is_initial_of, first_entry_of}
use Rattle.defaults.specs.Lookup.{get_default_value}
use Rattle.matching.specs.Default.{no_defaults, leaf_default, build_iceberg_default_value, defaults_of, missing_value}
use Rattle.matching.specs.Build.{Element, leaf_part, struct_part, list_part, array_part, unless_null_type, renamed, element_default_id, same_element, is_absent, distinct}
use Rattle.matching.specs.Build.{is_null_type, keeps_required, fills_required, no_extra_of, ignores, inserts, missing, ruled, sought, first, array_selector}
use Rattle.matching.specs.Build.{attach_transforms, attach_fields, build_column_selector}
use Rattle.matching.specs.Build.{extra_columns, build_from, build}
use Rattle.matching.specs.Extra.{FirstExtra, first-here, first-later}
use Rattle.matching.proofs.Extra.{columns-refused}
use Rattle.matching.proofs.Entries.{Match, unmatched, matched, match_of, of_match, partition-is, initial-is}
use Rattle.iceberg.specs.Specification.{Metadata, Lacks, present}
use Rattle.iceberg.specs.Differences.{nested_struct, nested_list, nested_array, Place, outside, inside, OneIsAny, incoming_is-any, target_is-any}
use Rattle.iceberg.specs.Stated.{stated}
use Rattle.iceberg.specs.Refusals.{Optional, not-required, of_null_type, list-optional, array-optional, optional-selected, missing-required}
use Rattle.iceberg.specs.Refusals.{EntryOf, entry_here, entry-there, TypeGiven, of_initial, of_partition, nested_for_leaf, leaf_for_nested}
use Rattle.iceberg.specs.Refusals.{list_for_struct, array_for_struct, struct_for_list, array_for_list, struct_for_array, list_for_array, Extra}
use Rattle.iceberg.specs.Refusals.{extra_here, extra_there, NoDefaultFor, partition-failed, default-type, for-a-field, NoDefaultIn, for-first, for-later}
use Rattle.iceberg.specs.Refusals.{Refuses, leaf-pair, other-kind, other_width, list-ids, array-ids, in_list, in_array, extra_field, in_struct}
use Rattle.iceberg.specs.Refusals.{RefusesAny, at-selected, missing-raised, missing-default, at-later, RefusesBuild, extra_column, at-a-column}
use Rattle.iceberg.proofs.Facts.{asked, found_first}
use Rattle.iceberg.proofs.Reading.{value_at_lem}
use Rattle.iceberg.proofs.Selecting.{id_eq, counterpart_selected, counterpart_lacks}

-- ---- what a result that was refused went through

refuses_eq : {A : Type 0} {m n : ℕ} → ◌≡◌ {A = Result A} (refuses m) (refuses n) → m ≡ n
refuses_eq e = cc

never_given : {A X : Type 0} {a : A} {n : ℕ} → gives a ≡ refuses n → X
never_given e = clash (cc)

bind_refused : {A B X : Type 0} (r : Result A) (f : A → Result B) {n : ℕ} → (r >>= f) ≡ refuses n → (r ≡ refuses n → X)
    → ((a : A) → r ≡ gives a → f a ≡ refuses n → X) → X
unfolding ◌>>=◌
bind_refused (gives a) f e x y = y a refl e
bind_refused (refuses m) f e x y = x (ap refuses (refuses_eq e))

demand-refused : {A X : Type 0} (b : Bool) (m : ℕ) (r : Result A) {n : ℕ} → demand b m r ≡ refuses n → (b ≡ false → m ≡ n → X) → (b ≡ true → r ≡ refuses n → X)
    → X
unfolding demand
demand-refused true m r e x y = y refl e
demand-refused false m r e x y = x refl (refuses_eq e)

-- ---- where a default comes from

data Origin (es : List Entry) (i : FieldId) : Taken → Type 0 where
  from-failed : EntryOf es i failed → Origin es i (refused 26)
  from_nothing : Origin es i nothing
  from-given : {g : Given} {l : LeafType} {y : Value} → EntryOf es i g → TypeGiven g l → Origin es i (taken l y)

entry_of : (f : Entry → Bool) (i : FieldId) → ((x : Entry) → f x ≡ true → x.id ≡ i) → (es : List Entry) {g : Given} → match_of f es ≡ matched g → EntryOf es i g
unfolding first_entry_of choose
entry_of f i h [] e = clash (cc)
entry_of f i h (x ∷ es) {g} e = go (f x) refl e (λ e. entry_of f i h es e)
  where
    go : (b : Bool) → f x ≡ b → choose b (matched x.given) (match_of f es) ≡ matched g → (match_of f es ≡ matched g → EntryOf es i g) → EntryOf (x ∷ es) i g
    go true q e ih = let r : x.given ≡ g = cc in entry_here (h x q) r
    go false q e ih = entry-there (ih e)

partition_of_lem : (i : FieldId) (es : List Entry) {g : Given} → match_of (is_partition_of i) es ≡ matched g → EntryOf es i g
partition_of_lem i es e = entry_of (is_partition_of i) i (λ x q. id_eq (eqb-true _ _ (both (eqb x.id.0 i.0) q).0)) es e

initial_of_lem : (i : FieldId) (es : List Entry) {g : Given} → match_of (is_initial_of i) es ≡ matched g → EntryOf es i g
initial_of_lem i es e = entry_of (is_initial_of i) i (λ x q. id_eq (eqb-true _ _ (both (eqb x.id.0 i.0) q).0)) es e

module _ (es : List Entry) (i : FieldId) where
  value-origin : {g : Given} (l : LeafType) (v : Value) (b : Bool) → EntryOf es i g → TypeGiven g l → Origin es i (choose b nothing (taken l v))
  unfolding choose
  value-origin l v true h t = from_nothing
  value-origin l v false h t = from-given h t

  source-origin : {g : Given} (l : LeafType) (xs : Values) (k : ℕ) → EntryOf es i g → TypeGiven g l → Origin es i (of_source l xs k)
  unfolding of_source unless_null
  source-origin l vnil k h t = from_nothing
  source-origin l (vcons v vs) zero h t = value-origin l v (is_null_value v) h t
  source-origin l (vcons v vs) (suc k) h t = source-origin l vs k h t

  origin : (k : ℕ) → Origin es i (get_default_value es k i)
  unfolding given_to unless_null
  origin k = rw (found_first es k i) (go (match_of (is_partition_of i) es) refl (match_of (is_initial_of i) es) refl)
    where
      go : (c : Match) → match_of (is_partition_of i) es ≡ c → (d : Match) → match_of (is_initial_of i) es ≡ d
          → Origin es i (of_match (given_to k) (of_match (given_to k) nothing d) c)
      go (matched (partition m xs)) p d q = source-origin m xs k (partition_of_lem i es p) of_partition
      go (matched failed) p d q = from-failed (partition_of_lem i es p)
      go (matched (initial m w)) p d q = true≠false (partition-is i es p) refl
      go unmatched p (matched (initial m w)) q = value-origin m w (is_null_value w) (initial_of_lem i es q) of_initial
      go unmatched p (matched (partition m xs)) q = true≠false (initial-is i es q) refl
      go unmatched p (matched failed) q = true≠false (initial-is i es q) refl
      go unmatched p unmatched q = from_nothing

-- ---- what the types and the policy say

raises : (m : MissingColumnsPolicy) → inserts m ≡ false → m ≡ MissingColumnsPolicy.Raise
raises MissingColumnsPolicy.Insert e = clash (cc)
raises MissingColumnsPolicy.Raise e = refl

raises_extra : (m : ExtraColumnsPolicy) → ignores m ≡ false → m ≡ ExtraColumnsPolicy.Raise
raises_extra ExtraColumnsPolicy.Ignore e = clash (cc)
raises_extra ExtraColumnsPolicy.Raise e = refl

not-false : (a : Bool) → not a ≡ false → a ≡ true
not-false true e = refl
not-false false e = clash (cc)

neither : (a b : Bool) → (a || b) ≡ false → (a ≡ false) × (b ≡ false)
neither true b e = clash (cc)
neither false b e = (refl, e)

has_extra : (fs gs : Columns) → no_extra_of ByNumber fs gs ≡ false → Extra fs gs
unfolding no_extra_of
has_extra cnil gs e = clash (cc)
has_extra (ccons l t fs) gs e = go (counterpart ByNumber l gs) refl e (λ e. has_extra fs gs e)
  where
    go : (x : Lookup) → counterpart ByNumber l gs ≡ x → (not (is_absent x) && no_extra_of ByNumber fs gs) ≡ false → (no_extra_of ByNumber fs gs ≡ false → Extra fs gs)
        → Extra (ccons l t fs) gs
    go absent q e ih = extra_here (counterpart_lacks l gs q)
    go (found k a u) q e ih = extra_there (ih e)

absent-is : (x : Lookup) → is_absent x ≡ true → x ≡ absent
absent-is absent e = refl
absent-is (found k l t) e = clash (cc)

first_extra : {gs fs : Columns} {i j : ℕ} → FirstExtra ByNumber gs fs i j → Extra fs gs
first_extra (first-here {l = l} q) = extra_here (counterpart_lacks l _ (absent-is _ q))
first_extra (first-later q f) = extra_there (first_extra f)

unpaired : (a b : Label) → same_element ByNumber a b ≡ false → (a.id ≡ b.id → ⊥) × (OneIsAny a b → ⊥)
unfolding same_element
unpaired a b e =
    let (e, r) = neither (eqb a.id.0 b.id.0 || eqb a.id.0 element_default_id) (eqb b.id.0 element_default_id) e in
    let (p, q) = neither (eqb a.id.0 b.id.0) (eqb a.id.0 element_default_id) e in
    ((λ s. eqb-false _ _ p (ap (λ (i : FieldId). i.0) s)), λ o. any q r o)
  where
    any : eqb a.id.0 element_default_id ≡ false → eqb b.id.0 element_default_id ≡ false → OneIsAny a b → ⊥
    any q r (incoming_is-any s) = eqb-false _ _ q s
    any q r (target_is-any s) = eqb-false _ _ r s

-- a required column that an optional one meets
mark_lost : (a : Label) (t : ColumnType) (b : Label) → keeps_required a t b ≡ false → (b.required ≡ true) × Optional a t
unfolding keeps_required is_null_type
mark_lost a t b e = go b.required refl a.required refl e
  where
    nulls : (t : ColumnType) → not (is_null_type t) ≡ false → Optional a t
    nulls (cleaf l) e = of_null_type (not-false (is_null (leaf_of l)) e)
    nulls (cstruct cs) e = clash (cc)
    nulls (clist l u) e = clash (cc)
    nulls (carray w l u) e = clash (cc)

    go : (r : Bool) → b.required ≡ r → (x : Bool) → a.required ≡ x → (not r || (x && not (is_null_type t))) ≡ false → (b.required ≡ true) × Optional a t
    go true q true h e = (q, nulls t e)
    go true q false h e = (q, not-required h)
    go false q x h e = clash (cc)

-- ---- the builder

module _ (p : Policy) (nulls : Bool) (es : List Entry) (k : ℕ) (empties : FieldId → Bool) where
  abbrev M : Metadata
  M = stated nulls es k empties

  leaf-default-refused : {i : FieldId} {t : Taken} {n : ℕ} (l : LeafType) → Origin es i t → leaf_default l t ≡ refuses n → NoDefaultFor es n i (cleaf l)
  unfolding leaf_default equal_types
  leaf-default-refused l (from-failed h) e = rw (← refuses_eq e) (partition-failed h)
  leaf-default-refused l from_nothing e = never_given e
  leaf-default-refused l (from-given h t) e = demand-refused _ _ _ e (λ q r. rw (← r) (default-type h t q)) (λ q r. never_given r)

  mutual
    unfolding build_iceberg_default_value defaults_of

    default_refused : (t : ColumnType) (i : FieldId) {n : ℕ} → build_iceberg_default_value (get_default_value es k) i t ≡ refuses n → NoDefaultFor es n i t
    default_refused (cleaf l) i e = leaf-default-refused l (origin es i k) e
    default_refused (cstruct cs) i e = bind_refused _ _ e (λ r. for-a-field (defaults-refused cs r)) (λ g q r. never_given r)
    default_refused (clist l t) i e = never_given e
    default_refused (carray w l t) i e = never_given e

    defaults-refused : (cs : Columns) {n : ℕ} → defaults_of (get_default_value es k) cs ≡ refuses n → NoDefaultIn es n cs
    defaults-refused cnil e = never_given e
    defaults-refused (ccons l t cs) e =
        bind_refused _ _ e (λ r. for-first (default_refused t l.id r))
        (λ x q e. bind_refused _ _ e (λ r. for-later (defaults-refused cs r)) (λ g q r. never_given r))

  mutual
    unfolding build_iceberg_default_value defaults_of leaf_default

    none-refused : (t : ColumnType) (i : FieldId) {n : ℕ} → build_iceberg_default_value no_defaults i t ≡ refuses n → ⊥
    none-refused (cleaf l) i e = never_given e
    none-refused (cstruct cs) i e = bind_refused _ _ e (λ r. nones-refused cs r) (λ g q r. never_given r)
    none-refused (clist l t) i e = never_given e
    none-refused (carray w l t) i e = never_given e

    nones-refused : (cs : Columns) {n : ℕ} → defaults_of no_defaults cs ≡ refuses n → ⊥
    nones-refused cnil e = never_given e
    nones-refused (ccons l t cs) e =
        bind_refused _ _ e (λ r. none-refused t l.id r) (λ x q e. bind_refused _ _ e (λ r. nones-refused cs r) (λ g q r. never_given r))

  module _ (m : MissingColumnsPolicy) (r : ℕ) where
    default-missing : (q : Place) {n : ℕ} (b : Label) (u : ColumnType) {gs fs : Columns} → Lacks fs b.id → missing_value (asked es k q) b u ≡ refuses n
        → RefusesAny p es M q m r n (ccons b u gs) fs
    unfolding missing_value
    default-missing outside b u l e = bind_refused _ _ e (λ s. missing-default l (default_refused u b.id s)) (λ x q s. never_given s)
    default-missing inside b u l e = bind_refused _ _ e (λ s. absurd (none-refused u b.id s)) (λ x q s. never_given s)

    -- a column that was found, or else is missing
    column-refused : (q : Place) {n : ℕ} (b : Label) (u : ColumnType) {gs : Columns} (fs : Columns)
        → ((j : Position) (t : ColumnType) → attach_transforms ByNumber p (asked es k q) u j t ≡ refuses n → Refuses p es M q n u t)
        → sought (counterpart ByNumber b fs) (missing (asked es k q) (inserts m) r b u)
        (λ j a t. demand (keeps_required a t b) 55 (attach_transforms ByNumber p (asked es k q) u j t >>= λ s. gives (renamed ByNumber b a s))) ≡ refuses n
        → RefusesAny p es M q m r n (ccons b u gs) fs
    unfolding sought missing fills_required present
    column-refused q {n} b u {gs} fs step e = go (counterpart ByNumber b fs) refl e
      where
        go : (x : Lookup) → counterpart ByNumber b fs ≡ x
            → sought x (missing (asked es k q) (inserts m) r b u)
            (λ j a t. demand (keeps_required a t b) 55 (attach_transforms ByNumber p (asked es k q) u j t >>= λ s. gives (renamed ByNumber b a s))) ≡ refuses n
            → RefusesAny p es M q m r n (ccons b u gs) fs
        go absent h e =
            let l = counterpart_lacks b fs h in
            demand-refused _ _ _ e (λ i s. rw (← s) (missing-raised l (raises m i)))
            (λ i e. bind_refused _ _ e (λ s. default-missing q b u l s)
            (λ y g e. demand-refused _ _ _ e (λ f s. rw (← s) (missing-required l (value_at_lem nulls es k empties q b u refl g).reads f)) (λ f s. never_given s)))
        go (found j a t) h e =
            let x = counterpart_selected b fs h in
            demand-refused _ _ _ e (λ f s. let (r, o) = mark_lost a t b f in rw (← s) (optional-selected x r o))
            (λ f e. bind_refused _ _ e (λ s. at-selected x (step j t s)) (λ y q s. never_given s))

  -- ---- types

  leaf-refused : (q : Place) (m : LeafType) (j : Position) (t : ColumnType) {n : ℕ} → (leaf_part t >>= λ l. ruled (pair_rule p l m) j m) ≡ refuses n
      → Refuses p es M q n (cleaf m) t
  unfolding leaf_part ruled ◌>>=◌
  leaf-refused q m j (cleaf l) {n} e = go (pair_rule p l m) refl e
    where
      go : (v : Verdict) → pair_rule p l m ≡ v → ruled v j m ≡ refuses n → Refuses p es M q n (cleaf m) (cleaf l)
      go untouched h e = never_given e
      go (Verdict.refused i) h e = rw (← refuses_eq e) (leaf-pair h)
      go (Verdict.cast o) h e = never_given e
  leaf-refused q m j (cstruct fs) e = rw (← refuses_eq e) (other-kind (nested_for_leaf nested_struct))
  leaf-refused q m j (clist a t) e = rw (← refuses_eq e) (other-kind (nested_for_leaf nested_list))
  leaf-refused q m j (carray w a t) e = rw (← refuses_eq e) (other-kind (nested_for_leaf nested_array))

  struct-refused : (q : Place) (gs : Columns) (j : Position) (t : ColumnType) {n : ℕ}
      → ((fs : Columns) → attach_fields ByNumber p (asked es k q) gs fs ≡ refuses n → Refuses p es M q n (cstruct gs) (cstruct fs))
      → attach_transforms ByNumber p (asked es k q) (cstruct gs) j t ≡ refuses n → Refuses p es M q n (cstruct gs) t
  unfolding attach_transforms unless_null_type choose struct_part distinct ◌>>=◌
  struct-refused q gs j (cleaf l) ih e = rw (← refuses_eq e) (other-kind (leaf_for_nested nested_struct))
  struct-refused q gs j (clist a t) ih e = rw (← refuses_eq e) (other-kind list_for_struct)
  struct-refused q gs j (carray w a t) ih e = rw (← refuses_eq e) (other-kind array_for_struct)
  struct-refused q gs j (cstruct fs) ih e =
      demand-refused true 12 _ e (λ h i. clash (cc)) (λ h e.
      demand-refused true 12 _ e (λ h i. clash (cc)) (λ h e.
      demand-refused (ignores p.extra_struct_fields || no_extra_of ByNumber fs gs) 13 _ e
      (λ h i. let (x, y) = neither _ _ h in rw (← i) (extra_field (raises_extra _ x) (has_extra fs gs y)))
      (λ h e. bind_refused (attach_fields ByNumber p (asked es k q) gs fs) _ e (λ s. ih fs s) (λ x y s. never_given s))))

  list-refused : (q : Place) (b : Label) (u : ColumnType) (j : Position) (t : ColumnType) {n : ℕ}
      → ((t : ColumnType) → attach_transforms ByNumber p no_defaults u first t ≡ refuses n → Refuses p es M inside n u t)
      → attach_transforms ByNumber p (asked es k q) (clist b u) j t ≡ refuses n → Refuses p es M q n (clist b u) t
  unfolding attach_transforms unless_null_type choose list_part ◌>>=◌
  list-refused q b u j (cleaf l) ih e = rw (← refuses_eq e) (other-kind (leaf_for_nested nested_list))
  list-refused q b u j (cstruct fs) ih e = rw (← refuses_eq e) (other-kind struct_for_list)
  list-refused q b u j (carray w a t) ih e = rw (← refuses_eq e) (other-kind array_for_list)
  list-refused q b u j (clist a t) ih e =
      demand-refused (same_element ByNumber a b) 25 _ e (λ h i. let (x, y) = unpaired a b h in rw (← i) (list-ids x y))
      (λ h e. demand-refused (keeps_required a t b) 55 _ e (λ f s. let (r, o) = mark_lost a t b f in rw (← s) (list-optional r o))
      (λ f e. bind_refused (attach_transforms ByNumber p no_defaults u first t) _ e (λ s. in_list (ih t s)) (λ x y s. never_given s)))

  -- the element of an array of the same width
  array_element_lem : (q : Place) (w : ℕ) (b : Label) (u : ColumnType) (j : Position) (v : Element) {n : ℕ}
      → ((t : ColumnType) → attach_transforms ByNumber p no_defaults u first t ≡ refuses n → Refuses p es M inside n u t)
      → demand (same_element ByNumber v.label b) 25
      (demand (keeps_required v.label v.type b) 55
      (attach_transforms ByNumber p no_defaults u first v.type >>= λ s. gives (array_selector j (renamed ByNumber b v.label s)))) ≡ refuses n
      → Refuses p es M q n (carray w b u) (carray w v.label v.type)
  array_element_lem q w b u j v ih e =
      demand-refused (same_element ByNumber v.label b) 25 _ e (λ h i. let (x, y) = unpaired v.label b h in rw (← i) (array-ids x y))
      (λ h e. demand-refused (keeps_required v.label v.type b) 55 _ e
      (λ f s. let (r, o) = mark_lost v.label v.type b f in rw (← s) (array-optional r o))
      (λ f e. bind_refused (attach_transforms ByNumber p no_defaults u first v.type) _ e (λ s. in_array (ih v.type s)) (λ x y s. never_given s)))

  array-refused : (q : Place) (w : ℕ) (b : Label) (u : ColumnType) (j : Position) (t : ColumnType) {n : ℕ}
      → ((t : ColumnType) → attach_transforms ByNumber p no_defaults u first t ≡ refuses n → Refuses p es M inside n u t)
      → attach_transforms ByNumber p (asked es k q) (carray w b u) j t ≡ refuses n → Refuses p es M q n (carray w b u) t
  unfolding attach_transforms unless_null_type choose array_part
  array-refused q w b u j (cleaf l) ih e =
      bind_refused _ _ e (λ s. rw (← refuses_eq s) (other-kind (leaf_for_nested nested_array))) (λ v h s. never_given (sym h))
  array-refused q w b u j (cstruct fs) ih e = bind_refused _ _ e (λ s. rw (← refuses_eq s) (other-kind struct_for_array)) (λ v h s. never_given (sym h))
  array-refused q w b u j (clist a t) ih e = bind_refused _ _ e (λ s. rw (← refuses_eq s) (other-kind list_for_array)) (λ v h s. never_given (sym h))
  array-refused q w b u j (carray x a t) ih e =
      bind_refused _ _ e (λ s. demand-refused (eqb x w) 24 _ s (λ h i. rw (← i) (other_width (λ z. eqb-false _ _ h z))) (λ h s. never_given s))
      (λ v h e.
      let (c, z) = demand-gives (eqb x w) 24 _ h in
      rw (eqb-true x w c) (rw (← gives_eq z) at (array_element_lem q w b u j v ih e)))

  -- ---- columns

  mutual
    unfolding attach_transforms attach_fields

    type-refused : (u : ColumnType) (q : Place) (j : Position) (t : ColumnType) {n : ℕ} → attach_transforms ByNumber p (asked es k q) u j t ≡ refuses n
        → Refuses p es M q n u t
    type-refused (cleaf m) q j t e = leaf-refused q m j t e
    type-refused (cstruct gs) q j t e = struct-refused q gs j t (λ fs s. in_struct (fields-refused gs q fs s)) e
    type-refused (clist b u) q j t e = list-refused q b u j t (λ t s. type-refused u inside first t s) e
    type-refused (carray w b u) q j t e = array-refused q w b u j t (λ t s. type-refused u inside first t s) e

    fields-refused : (gs : Columns) (q : Place) (fs : Columns) {n : ℕ} → attach_fields ByNumber p (asked es k q) gs fs ≡ refuses n
        → RefusesAny p es M q p.missing_struct_fields 14 n gs fs
    fields-refused cnil q fs e = never_given e
    fields-refused (ccons b u gs) q fs e =
        bind_refused _ _ e (λ s. column-refused p.missing_struct_fields 14 q b u fs (λ j t s. type-refused u q j t s) s)
        (λ x h e. bind_refused _ _ e (λ s. at-later (fields-refused gs q fs s)) (λ y h s. never_given s))

  placed-refused : {A B X : Type 0} (i : ℕ) (r : Result A) (f : A → Answer B) {n j : ℕ} → placed i r f ≡ refused_at n j → (r ≡ refuses n → X)
      → ((a : A) → r ≡ gives a → f a ≡ refused_at n j → X) → X
  unfolding placed
  placed-refused i (gives a) f e x y = y a refl e
  placed-refused i (refuses m) f {n} e x y = let q : m ≡ n = cc in x (ap refuses q)

  answered-refused : {A B : Type 0} (r : Answer A) (f : A → B) {n j : ℕ} → answered r (λ a. accepted (f a)) ≡ refused_at n j → r ≡ refused_at n j
  unfolding answered
  answered-refused (accepted a) f e = clash (cc)
  answered-refused (refused_at m i) f {n} {j} e = let q : m ≡ n = cc in let r : i ≡ j = cc in rw (q, r)

  tops-refused : (gs fs : Columns) (i : ℕ) {n j : ℕ} → build_from ByNumber p (get_default_value es k) gs fs i ≡ refused_at n j
      → RefusesAny p es M outside p.missing_columns 11 n gs fs
  unfolding build_from build_column_selector
  tops-refused cnil fs i e = clash (cc)
  tops-refused (ccons b u gs) fs i e =
      placed-refused i _ _ e (λ s. column-refused p.missing_columns 11 outside b u fs (λ j t s. type-refused u outside j t s) s)
      (λ x h e. at-later (tops-refused gs fs (i + 1) (answered-refused _ _ e)))

  -- a build that is refused with n is refused for a listed reason
  pub build-refused : (Γ Δ : Columns) {n j : ℕ} → build ByNumber p (get_default_value es k) Γ Δ ≡ refused_at n j
      → RefusesBuild p es M n Δ Γ
  unfolding build answered
  build-refused Γ Δ {n} {j} e = go (extra_columns p.extra_columns ByNumber Γ Δ) refl e
    where
      go : (x : Answer (Unit {0})) → extra_columns p.extra_columns ByNumber Γ Δ ≡ x
          → answered x (λ u. build_from ByNumber p (get_default_value es k) Δ Γ 0) ≡ refused_at n j → RefusesBuild p es M n Δ Γ
      go (accepted u) q e = at-a-column (tops-refused Δ Γ 0 e)
      go (refused_at m i) q e =
          let (r, (s, f)) = columns-refused p.extra_columns ByNumber Γ Δ q in
          let z : m ≡ n = cc in
          rw (← z, s) (extra_column r (first_extra f))
