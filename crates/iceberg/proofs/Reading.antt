-- A plan built by number reads a record by the specification's rules and the listed differences. Assumes nothing.
use Prim.Native.Nat.{ℕ}
use mathlib.Core.Path.{◌≡◌, refl, ap}
use mathlib.Core.Bool.{Bool, true, false, ◌&&◌, ◌||◌, not}
use mathlib.Core.List.{List, []}
use lib.Dec.{eqb}
use borrow.Author.Tests.{eqb-true, eqb-false}
use Rattle.layout.specs.Tree.{LeafType, Label, ColumnType, cleaf, cstruct, clist, carray, Columns, DataType, struct, list, array, Fields, dtype_of, fields_of}
use Rattle.layout.specs.declared.columns.FieldId.{FieldId}
use Rattle.layout.specs.declared.columns.Position.{Position}
use Rattle.layout.specs.declared.matching.Matching.TheVariants.{ByNumber}
use Rattle.layout.proofs.Ways.{clash}
use Rattle.rules.specs.declared.policy.Policy.{Policy}
use Rattle.rules.specs.declared.outcome.CastOption.{CastOption}
use Rattle.values.specs.Value.{Value, vnull, Values, is_null_value}
use Rattle.values.specs.Fits.{Fits, fit_null, fit_struct, fit_list, fit_array, FitsAll, FitsEach, each_nil, each_cons}
use Rattle.plan.specs.Result.{gives, accepted}
use Rattle.plan.specs.Selector.{Selector, Selectors}
use Rattle.plan.specs.Check.{cast_fits_of}
use Rattle.plan.specs.Run.{map_values, on_struct, on_list, on_array, evals}
use Rattle.plan.proofs.Results.{true≠false}
use Rattle.defaults.specs.Table.{Entry}
use Rattle.defaults.specs.Lookup.{get_default_value}
use Rattle.matching.specs.Default.{Defaults, missing_value}
use Rattle.matching.specs.Build.{is_null_type, same_element, element_default_id, keeps_required, fills_required, build}
use Rattle.matching.specs.Due.{due_leaf, or_else_null, from_counterpart, due, dues}
use Rattle.matching.proofs.Lookup.{counterpart-at}
use Rattle.matching.proofs.Attach.{Attach, a-same, a-cast, a_struct_lem, a_list_lem, a_array, AttachAll, a_nil, a-found, a-missing, build→}
use Rattle.matching.proofs.Right.{at-fits, from_null-value, attach_all_due}
use Rattle.iceberg.specs.Specification.{Metadata, present, may_become, promotes}
use Rattle.iceberg.specs.Differences.{Differences, Place, outside, inside, incoming_is-any, target_is-any, Reads', reads-leaf', reads-null'}
use Rattle.iceberg.specs.Differences.{reads-struct', reads-list', any-element, array-read, leaf-converted, AllRead, reads-nil', reads-selected'}
use Rattle.iceberg.specs.Differences.{reads-missing', ReadsEach', reads-none', reads-more'}
use Rattle.iceberg.specs.Stated.{stated}
use Rattle.iceberg.proofs.Selecting.{id_eq, counterpart_selected, counterpart_lacks, null-due}
use Rattle.iceberg.proofs.Facts.{asked}
use Rattle.iceberg.proofs.Missing.{Reading, null_is, value-outside, value-inside}

module _ (M : Metadata) where
  -- with some differences or none, the value or the elements read so
  record OneReads (p : Place) (u t : ColumnType) (x y : Value) : Type 0 where
    differences : Differences
    reads : Reads' due_leaf M p differences u t x y

  record EachReads (u t : ColumnType) (xs ys : Values) : Type 0 where
    differences : Differences
    reads : ReadsEach' due_leaf M differences u t xs ys

  -- ---- leaves

  null-reads : {p : Place} {u t : ColumnType} {x y : Value} → x ≡ vnull → (x ≡ vnull → y ≡ vnull) → OneReads p u t x y
  null-reads p q = rw (p, q p) (record { differences = []; reads = reads-null' })

  leaf-reads : (p : Place) (l m : LeafType) (x : Value) → OneReads p (cleaf m) (cleaf l) x (due_leaf l m x)
  leaf-reads p l m x = go (is_null_value x) refl (promotes l m) refl
    where
      null-stays : x ≡ vnull → due_leaf l m x ≡ vnull
      null-stays e = rw e (null-due l m)

      go : (n : Bool) → is_null_value x ≡ n → (b : Bool) → promotes l m ≡ b → OneReads p (cleaf m) (cleaf l) x (due_leaf l m x)
      go true e b f = null-reads (null_is M x e) null-stays
      go false e true f = record { differences = _; reads = reads-leaf' f refl }
      go false e false f = record { differences = _; reads = leaf-converted f (λ q. true≠false (ap is_null_value q) e) refl }

  cast-reads : (p : Place) (d : Defaults) (t u : ColumnType) (o : CastOption) {x : Value} → cast_fits_of (dtype_of t) (dtype_of u) o ≡ true → Fits (dtype_of t) x
      → OneReads p u t x (due ByNumber d u t x)
  unfolding cast_fits_of dtype_of due on_struct on_list on_array
  cast-reads p d (cleaf a) (cleaf b) o {x} r h = leaf-reads p a b x
  cast-reads p d (cleaf a) (cstruct gs) o r h = null-reads (from_null-value a o r h) (λ p. rw p)
  cast-reads p d (cleaf a) (clist l u) o r h = null-reads (from_null-value a o r h) (λ p. rw p)
  cast-reads p d (cleaf a) (carray w l u) o r h = null-reads (from_null-value a o r h) (λ p. rw p)
  cast-reads p d (cstruct fs) u o r h = true≠false r refl
  cast-reads p d (clist l t) u o r h = true≠false r refl
  cast-reads p d (carray w l t) u o r h = true≠false r refl

  -- ---- structs, lists and arrays

  struct-reads : {p : Place} {gs fs : Columns} {F : Fields} {x : Value} (f : Values → Values)
      → ((xs : Values) → FitsAll F xs → AllRead due_leaf M p gs fs xs (f xs)) → Fits (struct F) x → OneReads p (cstruct gs) (cstruct fs) x (on_struct f x)
  unfolding on_struct
  struct-reads f h fit_null = record { differences = _; reads = reads-null' }
  struct-reads f h (fit_struct a) = record { differences = _; reads = reads-struct' (h _ a).reads }

  each-reads : {u t : ColumnType} {T : DataType} {xs : Values} (f : Value → Value) → ((x : Value) → Fits T x → OneReads inside u t x (f x)) → FitsEach T xs
      → EachReads u t xs (map_values f xs)
  unfolding map_values
  each-reads f h each_nil = record { differences = _; reads = reads-none' }
  each-reads f h (each_cons a hs) = record { differences = _; reads = reads-more' (h _ a).reads (each-reads f h hs).reads refl }

  paired-reads : {p : Place} {a b : Label} {u t : ColumnType} {xs ys : Values} → same_element ByNumber a b ≡ true → may_become a b ≡ true
      → EachReads u t xs ys → OneReads p (clist b u) (clist a t) (Value.vlist xs) (Value.vlist ys)
  unfolding same_element
  paired-reads {p} {a} {b} {u} {t} {xs} {ys} e w E =
      go (eqb a.id.0 b.id.0) refl (eqb a.id.0 element_default_id) refl (eqb b.id.0 element_default_id) refl e
    where
      differ : eqb a.id.0 b.id.0 ≡ false → a.id ≡ b.id → ⊥
      differ q r = eqb-false _ _ q (ap (λ (i : FieldId). i.0) r)

      go : (x : Bool) → eqb a.id.0 b.id.0 ≡ x → (y : Bool) → eqb a.id.0 element_default_id ≡ y → (z : Bool) → eqb b.id.0 element_default_id ≡ z
          → (x || y || z) ≡ true → OneReads p (clist b u) (clist a t) (Value.vlist xs) (Value.vlist ys)
      go true q y r z s e = record { differences = _; reads = reads-list' (id_eq (eqb-true _ _ q)) w E.reads }
      go false q true r z s e = record { differences = _; reads = any-element (differ q) (incoming_is-any (eqb-true _ _ r)) E.reads }
      go false q false r true s e = record { differences = _; reads = any-element (differ q) (target_is-any (eqb-true _ _ s)) E.reads }
      go false q false r false s e = clash (cc)

  list-reads : {p : Place} {a b : Label} {u t : ColumnType} {T : DataType} {x : Value} (f : Value → Value) → same_element ByNumber a b ≡ true
      → may_become a b ≡ true → ((x : Value) → Fits T x → OneReads inside u t x (f x)) → Fits (list T) x → OneReads p (clist b u) (clist a t) x (on_list f x)
  unfolding on_list
  list-reads f e w h fit_null = record { differences = _; reads = reads-null' }
  list-reads f e w h (fit_list c a) = paired-reads e w (each-reads f h a)

  array-reads : {p : Place} {w : ℕ} {a b : Label} {u t : ColumnType} {T : DataType} {x : Value} (f : Value → Value)
      → ((x : Value) → Fits T x → OneReads inside u t x (f x)) → Fits (array w T) x → OneReads p (carray w b u) (carray w a t) x (on_array f x)
  unfolding on_array
  array-reads f h fit_null = record { differences = _; reads = reads-null' }
  array-reads f h (fit_array c a) = record { differences = _; reads = array-read (each-reads f h a).reads }

-- ---- a plan

kept-mark : (a : Label) (t : ColumnType) (b : Label) → keeps_required a t b ≡ true → may_become a b ≡ true
unfolding keeps_required may_become
kept-mark a t b e = go b.required a.required (not (is_null_type t)) e
  where
    go : (r x n : Bool) → (not r || (x && n)) ≡ true → (not r || x) ≡ true
    go true true n e = refl
    go true false n e = e
    go false x n e = refl

module _ (nulls : Bool) (es : List Entry) (k : ℕ) (empties : FieldId → Bool) where
  pub value_at_lem : (p : Place) {d : Defaults} (b : Label) (u : ColumnType) {y : Value} → d ≡ asked es k p → missing_value d b u ≡ gives y
      → Reading (stated nulls es k empties) p b.id u y
  value_at_lem outside b u q e = value-outside nulls es k empties b u (rw q at e)
  value_at_lem inside b u q e = value-inside (stated nulls es k empties) b u (rw q at e)

  mutual
    unfolding due dues dtype_of fields_of from_counterpart or_else_null present fills_required

    attach-reads : {d : Defaults} {u t : ColumnType} {j : Position} {s : Selector} {x : Value} → Attach ByNumber d u j t s → (p : Place) → d ≡ asked es k p
        → Fits (dtype_of t) x → OneReads (stated nulls es k empties) p u t x (due ByNumber d u t x)
    attach-reads {x = x} (a-same {l = l}) p q h = leaf-reads (stated nulls es k empties) p l l x
    attach-reads (a-cast {d} {k = j} {t} {u} {o = o} r e) p q h = cast-reads (stated nulls es k empties) p d t u o (rw (← e) at r) h
    attach-reads (a_struct_lem c a r) p q h = struct-reads (stated nulls es k empties) _ (λ xs y. attachAll-reads a p q y) h
    attach-reads (a_list_lem {a = x} {b} {t} c m a r) p q h = list-reads (stated nulls es k empties) _ c (kept-mark x t b m) (λ y z. attach-reads a inside refl z) h
    attach-reads (a_array c m a r) p q h = array-reads (stated nulls es k empties) _ (λ y z. attach-reads a inside refl z) h

    attachAll-reads : {d : Defaults} {gs fs : Columns} {ss : Selectors} {xs : Values} → AttachAll ByNumber d gs fs ss → (p : Place) → d ≡ asked es k p
        → FitsAll (fields_of fs) xs → AllRead due_leaf (stated nulls es k empties) p gs fs xs (dues ByNumber d gs fs xs)
    attachAll-reads a_nil p q h = record { differences = []; reads = reads-nil' }
    attachAll-reads (a-found {a = a} {b} {t = t} {fs = fs} e m x r rest) p q h =
        let R = attach-reads x p q (at-fits (counterpart-at ByNumber b fs e).place h) in
        let S = attachAll-reads rest p q h in
        rw e (record { differences = _; reads = reads-selected' (counterpart_selected b fs e) (kept-mark a t b m) R.reads S.reads refl })
    attachAll-reads (a-missing {b = b} {u} {fs = fs} e y m r rest) p q h =
        let R = value_at_lem p b u q y in
        let S = attachAll-reads rest p q h in
        rw (e, y) (record { differences = _; reads = reads-missing' (counterpart_lacks b fs e) m R.reads S.reads refl })

  pub built-reads : (p : Policy) (Γ Δ : Columns) {ss : Selectors} {ρ : Values} → build ByNumber p (get_default_value es k) Γ Δ ≡ accepted ss
      → FitsAll (fields_of Γ) ρ → AllRead due_leaf (stated nulls es k empties) outside Δ Γ ρ (evals ρ ss)
  built-reads p Γ Δ built h =
      let a = build→ ByNumber p (get_default_value es k) Γ Δ built in
      rw (attach_all_due ByNumber a h) (attachAll-reads a outside refl h)
