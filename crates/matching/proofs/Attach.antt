-- Both builders as a relation, one rule for each way to take a column to its target, and that they keep to it. Assumes
-- nothing.
use Prim.Native.Nat.{ℕ, ◌+◌}
use mathlib.Core.Path.{◌≡◌, refl, ap}
use mathlib.Core.Bool.{Bool, true, false, ◌&&◌}
use borrow.Author.Tests.{eqb-true}
use Rattle.layout.specs.Parser.{choose}
use Rattle.layout.specs.Tree.{LeafType, leaf_of, Label, ColumnType, cleaf, cstruct, clist, carray, Columns, cnil, ccons, DataType, leaf, dtype_of}
use Rattle.layout.specs.Find.{Lookup, absent, present, counterpart}
use Rattle.layout.specs.declared.columns.Position.{Position}
use Rattle.layout.specs.declared.matching.Matching.{Matching}
use Rattle.layout.proofs.Ways.{clash}
use Rattle.rules.specs.declared.policy.Policy.{Policy}
use Rattle.rules.specs.declared.outcome.CastOption.{CastOption}
use Rattle.rules.specs.declared.outcome.CastOption.TheVariants.{NonStrict}
use Rattle.rules.specs.Outcomes.{Verdict, untouched, refused}
use Rattle.rules.specs.Classes.{is_null}
use Rattle.rules.specs.Pairs.{pair_rule}
use Rattle.rules.proofs.PairRule.{untouched-equal}
use Rattle.rules.proofs.Casts.{casts, casts-pass}
use Rattle.values.specs.Value.{Value}
use Rattle.plan.specs.Result.{Result, gives, ◌>>=◌, demand, accepted}
use Rattle.plan.specs.Selector.{Selector, position, constant, cast, Selectors, snil, scons}
use Rattle.plan.specs.Check.{cast_fits_of, from_null_of}
use Rattle.plan.proofs.Results.{never_refused, gives_eq, accepted_eq, both, bind_gives, demand-gives, placed-accepted, answered-accepted}
use Rattle.matching.specs.Default.{Defaults, no_defaults, missing_value}
use Rattle.matching.specs.Build.{leaf_part, struct_part, Element, list_part, array_part, is_null_type, is_by_name, unless_null_type, renamed, same_element, distinct}
use Rattle.matching.specs.Build.{extra_columns, inserts, keeps_required, fills_required, missing, ruled, struct_selector, list_selector, array_selector, first}
use Rattle.matching.specs.Build.{sought, attach_transforms, attach_fields, build_column_selector, build_from, build}

module _ (v : Matching) where
  mutual
    -- `Attach d u k t s`: s takes position k, of type t, to type u
    pub data Attach : Defaults → ColumnType → Position → ColumnType → Selector → Type 0 where
      a-same : {d : Defaults} {k : Position} {l : LeafType} → Attach d (cleaf l) k (cleaf l) (position k)
      a-cast : {d : Defaults} {k : Position} {t u : ColumnType} {x : DataType} {o : CastOption} → cast_fits_of (dtype_of t) x o ≡ true → dtype_of u ≡ x →
          Attach d u k t (cast (position k) x o)
      a_struct_lem : {d : Defaults} {k : Position} {fs gs : Columns} {ss : Selectors} {s : Selector} → distinct v fs ≡ true → AttachAll d gs fs ss →
          struct_selector k fs ss ≡ s
          → Attach d (cstruct gs) k (cstruct fs) s
      a_list_lem : {d : Defaults} {k : Position} {a b : Label} {t u : ColumnType} {e s : Selector} → same_element v a b ≡ true → keeps_required a t b ≡ true
          → Attach no_defaults u first t e → list_selector k (renamed v b a e) ≡ s → Attach d (clist b u) k (clist a t) s
      a_array : {d : Defaults} {k : Position} {w : ℕ} {a b : Label} {t u : ColumnType} {e s : Selector} → same_element v a b ≡ true → keeps_required a t b ≡ true
          → Attach no_defaults u first t e → array_selector k (renamed v b a e) ≡ s → Attach d (carray w b u) k (carray w a t) s

    -- `AttachAll d gs fs ss`: ss takes the columns fs to the columns gs
    pub data AttachAll : Defaults → Columns → Columns → Selectors → Type 0 where
      a_nil : {d : Defaults} {fs : Columns} → AttachAll d cnil fs snil
      a-found : {d : Defaults} {a b : Label} {k : Position} {t u : ColumnType} {gs fs : Columns} {s x : Selector} {ss : Selectors} → counterpart v b fs
          ≡ present k a t
          → keeps_required a t b ≡ true → Attach d u k t s → renamed v b a s ≡ x → AttachAll d gs fs ss → AttachAll d (ccons b u gs) fs (scons x ss)
      a-missing : {d : Defaults} {b : Label} {u : ColumnType} {gs fs : Columns} {y : Value} {x : Selector} {ss : Selectors} → counterpart v b fs ≡
          absent → missing_value d b u ≡ gives y
          → fills_required b u y ≡ true → constant b.name (dtype_of u) y ≡ x → AttachAll d gs fs ss → AttachAll d (ccons b u gs) fs (scons x ss)

-- ---- the parts of an incoming type

leaf-is : (t : ColumnType) {l : LeafType} → leaf_part t ≡ gives l → t ≡ cleaf l
unfolding leaf_part
leaf-is (cleaf l) e = ap cleaf (gives_eq e)
leaf-is (cstruct cs) e = never_refused e refl
leaf-is (clist l t) e = never_refused e refl
leaf-is (carray w l t) e = never_refused e refl

struct_is : (t : ColumnType) {cs : Columns} → struct_part t ≡ gives cs → t ≡ cstruct cs
unfolding struct_part
struct_is (cleaf l) e = never_refused e refl
struct_is (cstruct cs) e = ap cstruct (gives_eq e)
struct_is (clist l t) e = never_refused e refl
struct_is (carray w l t) e = never_refused e refl

list-is : (t : ColumnType) {e : Element} → list_part t ≡ gives e → t ≡ clist e.label e.type
unfolding list_part
list-is (cleaf l) e = never_refused e refl
list-is (cstruct cs) e = never_refused e refl
list-is (clist l t) e = ap (λ (e : Element). clist e.label e.type) (gives_eq e)
list-is (carray w l t) e = never_refused e refl

array-is : (w : ℕ) (t : ColumnType) {e : Element} → array_part w t ≡ gives e → t ≡ carray w e.label e.type
unfolding array_part
array-is w (cleaf l) e = never_refused e refl
array-is w (cstruct cs) e = never_refused e refl
array-is w (clist l t) e = never_refused e refl
array-is w (carray x l t) e =
    let (c, q) = demand-gives _ _ _ e in
    rw (eqb-true x w c) (ap (λ (e : Element). carray w e.label e.type) (gives_eq q))

-- ---- a null column

-- null goes NonStrict to the type u, which is nested
abbrev FromNull : DataType → Type 0
FromNull u = (l : LeafType) → is_null (leaf_of l) ≡ true → cast_fits_of (leaf l) u NonStrict ≡ true

null-struct : (cs : Columns) → FromNull (dtype_of (cstruct cs))
unfolding cast_fits_of from_null_of dtype_of
null-struct cs l e = rw e

null-list : (a : Label) (t : ColumnType) → FromNull (dtype_of (clist a t))
unfolding cast_fits_of from_null_of dtype_of
null-list a t l e = rw e

null-array : (w : ℕ) (a : Label) (t : ColumnType) → FromNull (dtype_of (carray w a t))
unfolding cast_fits_of from_null_of dtype_of
null-array w a t l e = rw e

null_cast_lem : (u : DataType) (t : ColumnType) → FromNull u → is_null_type t ≡ true → cast_fits_of (dtype_of t) u NonStrict ≡ true
unfolding is_null_type dtype_of
null_cast_lem u (cleaf l) c q = c l q
null_cast_lem u (cstruct cs) c q = clash (cc)
null_cast_lem u (clist l t) c q = clash (cc)
null_cast_lem u (carray w l t) c q = clash (cc)

-- ---- the builders keep to the relation

module _ (v : Matching) (p : Policy) where
  leaf-attached : (d : Defaults) (k : Position) (b a : LeafType) {s : Selector} → ruled (pair_rule p a b) k b ≡ gives s → Attach v d (cleaf b) k (cleaf a) s
  unfolding ruled cast_fits_of dtype_of
  leaf-attached d k b a {s} e = go (pair_rule p a b) refl e
    where
      go : (r : Verdict) → pair_rule p a b ≡ r → ruled r k b ≡ gives s → Attach v d (cleaf b) k (cleaf a) s
      go untouched q e = rw (untouched-equal p a b q, ← gives_eq e) a-same
      go (refused n) q e = never_refused e refl
      go (Verdict.cast o) q e = rw (← gives_eq e) (a-cast (casts-pass a b o (casts p a b o q)) refl)

  -- a null column is cast, another goes on
  unless-null : (d : Defaults) (k : Position) (u t : ColumnType) (r : Result Selector) {s : Selector} → unless_null_type v p k u t r ≡ gives s → FromNull
      (dtype_of u)
      → (r ≡ gives s → Attach v d u k t s) → Attach v d u k t s
  unfolding unless_null_type choose
  unless-null d k u t r {s} e c h = go (is_by_name v && is_null_type t) refl e
    where
      go : (b : Bool) → (is_by_name v && is_null_type t) ≡ b → choose b (demand p.null_upcast 15 (gives (cast (position k) (dtype_of u) NonStrict))) r ≡
          gives s → Attach v d u k t s
      go true q e = rw (← gives_eq (demand-gives _ _ _ e).1) (a-cast (null_cast_lem (dtype_of u) t c (both (is_by_name v) q).1) refl)
      go false q e = h e

  -- a column that was found, or else is missing
  module _ (d : Defaults) (insert : Bool) (n : ℕ) (b : Label) (u : ColumnType) (f : Position → ColumnType → Result Selector)
      (step : (k : Position) (t : ColumnType) (s : Selector) → f k t ≡ gives s → Attach v d u k t s) where
    column-attached : {gs fs : Columns} {s : Selector} {ss : Selectors} (x : Lookup) → counterpart v b fs ≡ x
        → sought x (missing d insert n b u) (λ k a t. demand (keeps_required a t b) 55 (f k t >>= λ s. gives (renamed v b a s))) ≡ gives s
        → AttachAll v d gs fs ss → AttachAll v d (ccons b u gs) fs (scons s ss)
    unfolding sought missing
    column-attached absent q e rest =
        let (i, e) = demand-gives _ _ _ e in
        let (y, p, e) = bind_gives _ _ e in
        let (m, e) = demand-gives _ _ _ e in
        a-missing q p m (gives_eq e) rest
    column-attached (present k a t) q e rest =
        let (m, e) = demand-gives _ _ _ e in
        let (s, p, e) = bind_gives (f k t) _ e in
        a-found q m (step k t s p) (gives_eq e) rest

  mutual
    unfolding attach_transforms attach_fields

    pub attach_transforms→ : (u : ColumnType) (d : Defaults) (k : Position) (t : ColumnType) {s : Selector} → attach_transforms v p d u k t ≡ gives s →
        Attach v d u k t s
    attach_transforms→ (cleaf b) d k t e =
        let (a, q, r) = bind_gives _ _ e in
        rw (leaf-is t q) (leaf-attached d k b a r)
    attach_transforms→ (cstruct gs) d k t e = unless-null d k (cstruct gs) t _ e (null-struct gs) (λ e.
        let (fs, q, e) = bind_gives (struct_part t) _ e in
        let (c, e) = demand-gives _ _ _ e in
        let (c, e) = demand-gives _ _ _ e in
        let (x, e) = demand-gives _ _ _ e in
        let (ss, r, e) = bind_gives (attach_fields v p d gs fs) _ e in
        rw (struct_is t q) (a_struct_lem c (attach_fields→ gs d fs r) (gives_eq e)))
    attach_transforms→ (clist b u) d k t e = unless-null d k (clist b u) t _ e (null-list b u) (λ e.
        let (x, q, e) = bind_gives (list_part t) _ e in
        let (c, e) = demand-gives _ _ _ e in
        let (m, e) = demand-gives _ _ _ e in
        let (s, r, e) = bind_gives (attach_transforms v p no_defaults u first x.type) _ e in
        rw (list-is t q) (a_list_lem c m (attach_transforms→ u no_defaults first x.type r) (gives_eq e)))
    attach_transforms→ (carray w b u) d k t e = unless-null d k (carray w b u) t _ e (null-array w b u) (λ e.
        let (x, q, e) = bind_gives (array_part w t) _ e in
        let (c, e) = demand-gives _ _ _ e in
        let (m, e) = demand-gives _ _ _ e in
        let (s, r, e) = bind_gives (attach_transforms v p no_defaults u first x.type) _ e in
        rw (array-is w t q) (a_array c m (attach_transforms→ u no_defaults first x.type r) (gives_eq e)))

    pub attach_fields→ : (gs : Columns) (d : Defaults) (fs : Columns) {ss : Selectors} → attach_fields v p d gs fs ≡ gives ss → AttachAll v d gs fs ss
    attach_fields→ cnil d fs e = rw (← gives_eq e) a_nil
    attach_fields→ (ccons b u gs) d fs e =
        let (s, q, e) = bind_gives _ _ e in
        let (ss, r, e) = bind_gives (attach_fields v p d gs fs) _ e in
        rw (← gives_eq e) (column-attached d (inserts p.missing_struct_fields) 14 b u (λ k t. attach_transforms v p d u k t)
        (λ k t s h. attach_transforms→ u d k t h) (counterpart v b fs) refl q (attach_fields→ gs d fs r))

  buildFrom→ : (gs : Columns) (d : Defaults) (fs : Columns) (i : ℕ) {ss : Selectors} → build_from v p d gs fs i ≡ accepted ss → AttachAll v d gs fs ss
  unfolding build_from build_column_selector
  buildFrom→ cnil d fs i e = rw (← accepted_eq e) a_nil
  buildFrom→ (ccons b u gs) d fs i e =
      let (s, q, e) = placed-accepted _ _ _ e in
      let (ss, r, e) = answered-accepted (build_from v p d gs fs (i + 1)) _ e in
      rw (← accepted_eq e) (column-attached d (inserts p.missing_columns) 11 b u (λ k t. attach_transforms v p d u k t)
      (λ k t s h. attach_transforms→ u d k t h) (counterpart v b fs) refl q (buildFrom→ gs d fs (i + 1) r))

  pub build→ : (d : Defaults) (Γ Δ : Columns) {ss : Selectors} → build v p d Γ Δ ≡ accepted ss → AttachAll v d Δ Γ ss
  unfolding build
  build→ d Γ Δ e =
      let (x, q, e) = answered-accepted (extra_columns p.extra_columns v Γ Δ) _ e in
      buildFrom→ Δ d Γ 0 e
