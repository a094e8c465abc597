-- Document 02, L6, over trees: a build keeps what it gives when its policy is loosened, for both ways of matching and
-- any defaults. Assumes nothing.
use Prim.Native.Nat.{ℕ, ◌+◌}
use mathlib.Core.Path.{◌≡◌, refl}
use mathlib.Core.Bool.{Bool, ◌&&◌}
use Rattle.layout.specs.Tree.{LeafType, Label, ColumnType, cleaf, cstruct, clist, carray, Columns, cnil, ccons}
use Rattle.layout.specs.Find.{Lookup, absent, present, counterpart}
use Rattle.layout.specs.declared.columns.Position.{Position}
use Rattle.layout.specs.declared.matching.Matching.{Matching}
use Rattle.layout.proofs.Ways.{clash}
use Rattle.rules.specs.declared.policy.Policy.{Policy}
use Rattle.rules.specs.declared.policy.MissingColumnsPolicy.{MissingColumnsPolicy}
use Rattle.rules.specs.declared.policy.MissingColumnsPolicy.TheVariants.{Insert}
use Rattle.rules.specs.declared.policy.ExtraColumnsPolicy.{ExtraColumnsPolicy}
use Rattle.rules.specs.declared.policy.ExtraColumnsPolicy.TheVariants.{Ignore}
use Rattle.rules.specs.Outcomes.{Verdict, untouched, refused}
use Rattle.rules.specs.Allows.{◌⇒◌, Allows}
use Rattle.rules.proofs.Loosen.{Keeps, or_implies, rule_loosened}
use Rattle.plan.specs.Result.{Result}
use Rattle.plan.specs.Selector.{Selector}
use Rattle.plan.proofs.Kept.{Kept, KeptAnswer, same, refusing, by_bind, by_test, by_demand, by_choice, same_answer, passing, by_place, by_answer}
use Rattle.matching.specs.Default.{Defaults, no_defaults}
use Rattle.matching.specs.Build.{is_null_type, is_by_name, unless_null_type, same_element, distinct, no_extra_of, ignores, inserts, keeps_required, missing, ruled}
use Rattle.matching.specs.Build.{first, sought, extra_column_err, extra_columns}
use Rattle.matching.specs.Build.{attach_transforms, attach_fields, build_column_selector, build_from, build}

-- a lookup
by_sought : (l : Lookup) {x y : Result Selector} (f g : Position → Label → ColumnType → Result Selector) → Kept x y
    → ((k : Position) (m : Label) (t : ColumnType) → Kept (f k m t) (g k m t)) → Kept (sought l x f) (sought l y g)
unfolding sought
by_sought absent f g k h = k
by_sought (present i m t) f g k h = h i m t

-- a leaf pair
ruled-kept : {v w : Verdict} (k : Position) (u : LeafType) → Keeps v w → Kept (ruled v k u) (ruled w k u)
unfolding ruled
ruled-kept {v = untouched} k u h = rw (h.kept tt) (same _)
ruled-kept {v = refused n} {w = w} k u h = refusing n (ruled w k u)
ruled-kept {v = Verdict.cast o} k u h = rw (h.kept tt) (same _)

-- ---- Insert above Raise, Ignore above Raise

still_inserts : (a b : MissingColumnsPolicy) → (a ≡ Insert → b ≡ Insert) → inserts a ⇒ inserts b
still_inserts MissingColumnsPolicy.Insert b h e = rw (h refl)
still_inserts MissingColumnsPolicy.Raise b h e = clash (cc)

still_ignores : (a b : ExtraColumnsPolicy) → (a ≡ Ignore → b ≡ Ignore) → ignores a ⇒ ignores b
still_ignores ExtraColumnsPolicy.Ignore b h e = rw (h refl)
still_ignores ExtraColumnsPolicy.Raise b h e = clash (cc)

-- 53
extra_kept : (a b : ExtraColumnsPolicy) (v : Matching) (fs gs : Columns) → (a ≡ Ignore → b ≡ Ignore) → KeptAnswer (extra_columns a v fs gs)
    (extra_columns b v fs gs)
unfolding extra_columns
extra_kept ExtraColumnsPolicy.Ignore b v fs gs h = rw (h refl) (same_answer _)
extra_kept ExtraColumnsPolicy.Raise ExtraColumnsPolicy.Ignore v fs gs h = passing (extra_column_err v fs gs 0)
extra_kept ExtraColumnsPolicy.Raise ExtraColumnsPolicy.Raise v fs gs h = same_answer _

-- ---- the builders

module _ (v : Matching) {p q : Policy} (A : Allows p q) where
  unless-null : (k : Position) (u t : ColumnType) {x y : Result Selector} → Kept x y
      → Kept (unless_null_type v p k u t x) (unless_null_type v q k u t y)
  unfolding unless_null_type
  unless-null k u t h = by_choice (is_by_name v && is_null_type t) (by_test _ _ 15 A.null_upcast_of (same _)) h

  missing-kept : (d : Defaults) (a b : MissingColumnsPolicy) (n : ℕ) (l : Label) (u : ColumnType) → (a ≡ Insert → b ≡ Insert)
      → Kept (missing d (inserts a) n l u) (missing d (inserts b) n l u)
  unfolding missing
  missing-kept d a b n l u h = by_test (inserts a) (inserts b) n (still_inserts a b h) (same _)

  mutual
    unfolding attach_transforms attach_fields

    attach-kept : (u : ColumnType) (d : Defaults) (k : Position) (t : ColumnType)
        → Kept (attach_transforms v p d u k t) (attach_transforms v q d u k t)
    attach-kept (cleaf u) d k t = by_bind _ _ (same _) (λ l. ruled-kept k u (rule_loosened A l u))
    attach-kept (cstruct gs) d k t =
        unless-null k (cstruct gs) t
        (by_bind _ _ (same _) (λ fs.
        by_demand (distinct v gs) 12
        (by_demand (distinct v fs) 12
        (by_test _ _ 13 (or_implies _ _ (no_extra_of v fs gs) (still_ignores _ _ A.extra_struct_fields_of))
        (by_bind _ _ (fields-kept gs d fs) (λ ss. same _))))))
    attach-kept (clist l u) d k t =
        unless-null k (clist l u) t
        (by_bind _ _ (same _) (λ e.
        by_demand (same_element v e.label l) 25
        (by_demand (keeps_required e.label e.type l) 55
        (by_bind _ _ (attach-kept u no_defaults first e.type) (λ s. same _)))))
    attach-kept (carray w l u) d k t =
        unless-null k (carray w l u) t
        (by_bind _ _ (same _) (λ e.
        by_demand (same_element v e.label l) 25
        (by_demand (keeps_required e.label e.type l) 55
        (by_bind _ _ (attach-kept u no_defaults first e.type) (λ s. same _)))))

    fields-kept : (gs : Columns) (d : Defaults) (fs : Columns) → Kept (attach_fields v p d gs fs) (attach_fields v q d gs fs)
    fields-kept cnil d fs = same _
    fields-kept (ccons l u gs) d fs =
        by_bind _ _
        (by_sought (counterpart v l fs) _ _ (missing-kept d _ _ 14 l u A.missing-struct_fields)
        (λ k m t. by_demand (keeps_required m t l) 55 (by_bind _ _ (attach-kept u d k t) (λ s. same _))))
        (λ s. by_bind _ _ (fields-kept gs d fs) (λ ss. same _))

  column-kept : (d : Defaults) (l : Label) (u : ColumnType) (fs : Columns)
      → Kept (build_column_selector v p d l u fs) (build_column_selector v q d l u fs)
  unfolding build_column_selector
  column-kept d l u fs =
      by_sought (counterpart v l fs) _ _ (missing-kept d _ _ 11 l u A.missing-columns)
      (λ k m t. by_demand (keeps_required m t l) 55 (by_bind _ _ (attach-kept u d k t) (λ s. same _)))

  from-kept : (gs : Columns) (d : Defaults) (fs : Columns) (i : ℕ) → KeptAnswer (build_from v p d gs fs i) (build_from v q d gs fs i)
  unfolding build_from
  from-kept cnil d fs i = same_answer _
  from-kept (ccons l u gs) d fs i =
      by_place i _ _ (column-kept d l u fs) (λ s. by_answer _ _ (from-kept gs d fs (i + 1)) (λ ss. same_answer _))

  pub build-kept : (d : Defaults) (incoming target : Columns)
      → KeptAnswer (build v p d incoming target) (build v q d incoming target)
  unfolding build
  build-kept d incoming target =
      by_answer _ _ (extra_kept _ _ v incoming target A.extra_columns_of) (λ x. from-kept target d incoming 0)
