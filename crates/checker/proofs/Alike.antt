-- What the functions of src/same.rt answer on each way. Assumes nothing.
use Prim.Native.Nat.{ℕ, suc, ◌+◌, ◌-◌, ◌≤◌, ◌<◌}
use mathlib.Core.Path.{◌≡◌, refl, sym, ap, ◌∙◌, subst}
use mathlib.Core.Bool.{Bool, true, false, ◌&&◌}
use mathlib.Core.List.{[]}
use native.Mathlib.Omega.{arith}
use Rattle.layout.specs.Bytes.{Bytes, same_bytes}
use Rattle.layout.specs.Parser.{ok}
use Rattle.layout.specs.Tree.{Label, Columns, DataType, struct, list, array, Fields, fcons, count_fields, dtype_of, fields_of}
use Rattle.layout.specs.Layout.{Head, kind, a_leaf, a_struct, a_list, an_array, label, columns as columns_of_of, type}
use Rattle.layout.specs.code.Answers.{span_at, label_res}
use Rattle.layout.specs.code.Stands.{TypeAt, ColumnsAt}
use Rattle.layout.specs.declared.columns.Label.{Label as LabelSpan}
use Rattle.layout.specs.declared.columns.Labelled.{Labelled}
use Rattle.layout.specs.declared.columns.Siblings.TheVariants.{Free}
use Rattle.layout.specs.declared.cursor.Cursor.{Cursor}
use Rattle.layout.specs.declared.edition.Edition.{Edition}
use borrow.Author.Tests.{eq-eqb}
use Rattle.layout.proofs.Ways.{clash}
use Rattle.layout.proofs.View.{same-columns, label_got, no_column}
use Rattle.forms.specs.code.Heads.{head_of}
use Rattle.forms.specs.code.Compare.{same_dtype, same_fields_of}
use Rattle.forms.specs.code.Labelled.{ElementAt, ColumnAt}
use Rattle.forms.specs.code.Answers.{end_of, same_of}
use Rattle.forms.specs.declared.compare.Same.{Same}
use Rattle.forms.proofs.Read.{ok_eq}
use Rattle.forms.proofs.Equal.{same_dtype_eq}
use Rattle.forms.proofs.Heads.{head_at}
use Rattle.forms.proofs.Comparing.{struct_known, list-known, array_known, StructIs, ListIs, ArrayIs, split, Split}
use Rattle.plan.specs.Check.{Column, column}
use Rattle.walk.specs.code.Stands.{SelectorAt}
use Rattle.walk.specs.declared.walk.Walk.{Walk}
use Rattle.plan.proofs.Results.{true≠false}
use Rattle.nodes.specs.code.Typed.{TypeIs}
use Rattle.checker.specs.code.TypesAt.{PartOf, NamedAt, MappedAt, ResolvedAt, head_kind, TypeHeadIs}
use Rattle.walk.specs.code.Children.{PassedTo}
use Rattle.checker.specs.code.Same.{ends_from, ends_of, code_of}
use Rattle.checker.specs.declared.same.Ends.{Ends}
use Rattle.checker.specs.declared.same.HeadCode.{HeadCode}
use Rattle.checker.specs.declared.place.TypeHead.{TypeHead}
use Rattle.checker.specs.declared.resolve.Source.{Source}
use Rattle.checker.specs.declared.resolve.Resolved.{Resolved}
use Rattle.checker.proofs.Fields.{column-there}
use Rattle.checker.proofs.Headed.{from-mapping}
use Rattle.walk.proofs.Children.{ChildAt}
use Rattle.checker.proofs.Children.{made_more, made-named}
use Rattle.checker.proofs.Fitting.{is_struct_mapping, is_list_mapping, is-array, element_part, array_element-part, drop_fields, drop-next, drop_all}

-- ---- answers

pub ends_from_lem : (b : Bool) (e f : ℕ) → ends_from (same_of b e f) ≡ ends_of b f
unfolding same_of ends_of
ends_from_lem true e f = refl
ends_from_lem false e f = refl

pub ends_at : (b : Bool) (e : ℕ) {x : Cursor} → ends_of b e ≡ Ends.At x → (b ≡ true) × (x.at ≡ e)
unfolding ends_of
ends_at true e {x} h = let q : record { at = e } ≡ x = cc in (refl, sym (ap (λ (c : Cursor). c.at) q))
ends_at false e h = clash (cc)

pub ends_differ : (b : Bool) (e : ℕ) → ends_of b e ≡ Ends.Differ → b ≡ false
unfolding ends_of
ends_differ true e h = clash (cc)
ends_differ false e h = refl

-- types that are not the same
pub differ : (t u : DataType) (e : ℕ) → (t ≡ u → ⊥) → Ends.Differ ≡ ends_of (same_dtype t u) e
unfolding ends_of
differ t u e f = go (same_dtype t u) refl
  where
    go : (b : Bool) → same_dtype t u ≡ b → Ends.Differ ≡ ends_of b e
    go true p = absurd (f (same_dtype_eq t u p))
    go false p = refl

-- a type in bytes
pub raw-ends : {v : Edition} {s : Bytes} {at : ℕ} {t : DataType} (T : TypeIs v s at t) {w : Edition} {d : ℕ} {b : Bytes} {bt : ℕ} (Q : TypeAt w d b bt)
    {x : Same} {r : Ends}
    → x ≡ same_of (same_dtype (dtype_of T.type.tree) (dtype_of Q.tree)) T.type.end Q.end → r ≡ ends_from x → r ≡ ends_of
    (same_dtype t (dtype_of Q.tree)) Q.end
raw-ends T Q e f = f ∙ ap ends_from e ∙ ends_from_lem _ _ _ ∙ ap (λ (u : DataType). ends_of (same_dtype u (dtype_of Q.tree)) Q.end) T.is

-- ---- heads

code_same : (j k : Head) → (code_of j).code ≡ (code_of k).code → (code_of j).number ≡ (code_of k).number → 0 < (code_of j).code → j ≡ k
code_same (a_leaf l) k a b f = absurd (omega arith)
code_same (a_struct n) (a_leaf l) a b f = absurd (omega arith)
code_same (a_struct n) (a_struct m) a b f = ap a_struct b
code_same (a_struct n) a_list a b f = absurd (omega arith)
code_same (a_struct n) (an_array w) a b f = absurd (omega arith)
code_same a_list (a_leaf l) a b f = absurd (omega arith)
code_same a_list (a_struct m) a b f = absurd (omega arith)
code_same a_list a_list a b f = refl
code_same a_list (an_array w) a b f = absurd (omega arith)
code_same (an_array x) (a_leaf l) a b f = absurd (omega arith)
code_same (an_array x) (a_struct m) a b f = absurd (omega arith)
code_same (an_array x) a_list a b f = absurd (omega arith)
code_same (an_array x) (an_array w) a b f = ap an_array b

module _ {incoming plan : Bytes} {t : DataType} {h : TypeHead} (H : TypeHeadIs incoming plan t h) {a b : HeadCode}
    (x : (i p : Bytes) → a ≡ code_of (head_kind i p h))
    {v : Edition} {d : ℕ} {s : Bytes} {at : ℕ} (Q : TypeAt v d s at) (y : (w : Edition) (e : ℕ) (R : TypeAt w e s at) → b ≡ code_of
    (head_of (dtype_of R.tree))) where
  left-code : a ≡ code_of (head_of t)
  left-code = x incoming plan ∙ ap code_of H.kind

  right-code : b ≡ code_of (head_of (dtype_of Q.tree))
  right-code = y v d Q

  same_code : t ≡ dtype_of Q.tree → a ≡ b
  same_code e = left-code ∙ ap (λ (u : DataType). code_of (head_of u)) e ∙ sym right-code

  pub codes_differ : (a.code ≡ b.code → ⊥) → Ends.Differ ≡ ends_of (same_dtype t (dtype_of Q.tree)) Q.end
  codes_differ f = differ t _ _ (λ e. f (ap (λ (c : HeadCode). c.code) (same_code e)))

  pub numbers_differ : (a.number ≡ b.number → ⊥) → Ends.Differ ≡ ends_of (same_dtype t (dtype_of Q.tree)) Q.end
  numbers_differ f = differ t _ _ (λ e. f (ap (λ (c : HeadCode). c.number) (same_code e)))

  module _ (e : a.code ≡ b.code) (f : a.number ≡ b.number) {c g : Cursor} (ce : c.at ≡ at) (z : g ≡ end_of (kind s c.at) c) where
    -- the target's head, where ours is no leaf
    head-there : {k : Head} → head_of t ≡ k → 0 < (code_of k).code → kind s at ≡ ok k g.at
    head-there {k} p n =
        let q : k ≡ head_of (dtype_of Q.tree) = code_same k _
        (ap (λ (j : Head). (code_of j).code) (sym p) ∙ ap (λ (c : HeadCode). c.code) (sym left-code) ∙ e ∙ ap (λ (c : HeadCode). c.code) right-code)
        (ap (λ (j : Head). (code_of j).number) (sym p) ∙ ap (λ (c : HeadCode). c.number) (sym left-code) ∙ f ∙ ap (λ (c : HeadCode). c.number) right-code) n in
        (head_at Q ce z).reads ∙ ap (λ (j : Head). ok j g.at) (sym q)

    pub struct-there : {n : ℕ} → h ≡ TypeHead.Struct n → StructIs v d s at Q n g.at
    struct-there {n} i = struct_known Q (head-there (sym H.kind ∙ ap (head_kind incoming plan) i) (omega arith))

    pub list-there : h ≡ TypeHead.List → ListIs v d s at Q g.at
    list-there i = list-known Q (head-there (sym H.kind ∙ ap (head_kind incoming plan) i) (omega arith))

    pub array-there : {w : ℕ} → h ≡ TypeHead.Array w → ArrayIs v d s at Q w g.at
    array-there i = array_known Q (head-there (sym H.kind ∙ ap (head_kind incoming plan) i) (omega arith))

    module _ {m : Edition} {n : ℕ} {q : Resolved} (R : ResolvedAt incoming m n plan q t) {r : Ends} where
      pub structs_same : {k : ℕ} → q.source ≡ Source.Mapped → (i : h ≡ TypeHead.Struct k)
          → ((fs : Fields) (C : ColumnsAt v (d - 1) s k g.at) → MappedAt incoming m n plan q.walk (struct fs) → count_fields fs ≡ k
          → r ≡ ends_of (same_fields_of fs (fields_of C.columns)) C.end)
          → r ≡ ends_of (same_dtype t (dtype_of Q.tree)) Q.end
      unfolding same_dtype dtype_of
      structs_same y i o =
          let (fs, (p, c)) = is_struct_mapping H i in
          let S = struct-there i in
          o fs S.inner (subst (λ (u : DataType). MappedAt incoming m n plan q.walk u) p (from-mapping R y)) c
          ∙ ap (λ (j : ℕ). ends_of (same_fields_of fs (fields_of S.inner.columns)) j) (sym S.ends)
          ∙ ap (λ (u : DataType). ends_of (same_dtype (struct fs) u) Q.end) (sym (ap dtype_of S.is))
          ∙ ap (λ (u : DataType). ends_of (same_dtype u (dtype_of Q.tree)) Q.end) (sym p)

      pub lists_same : (i : h ≡ TypeHead.List)
          → ((u : DataType) (a : Column) (E : ElementAt v (d - 1) s g.at) → ResolvedAt incoming m n plan q u → PartOf u 0 a → r ≡ ends_of
          (same_dtype a.type (dtype_of E.inner.tree)) E.inner.end)
          → r ≡ ends_of (same_dtype t (dtype_of Q.tree)) Q.end
      unfolding same_dtype dtype_of
      lists_same i o =
          let (u, p) = is_list_mapping H i in
          let S = list-there i in
          o t (column [] u) S.element R (subst (λ (y : DataType). PartOf y 0 (column [] u)) (sym p) (element_part u))
          ∙ ap (λ (j : ℕ). ends_of (same_dtype u (dtype_of S.element.inner.tree)) j) (sym S.ends)
          ∙ ap (λ (y : DataType). ends_of (same_dtype (list u) y) Q.end) (sym (ap dtype_of S.is))
          ∙ ap (λ (y : DataType). ends_of (same_dtype y (dtype_of Q.tree)) Q.end) (sym p)

      pub arrays_same : {w : ℕ} (i : h ≡ TypeHead.Array w)
          → ((u : DataType) (a : Column) (E : ElementAt v (d - 1) s g.at) → ResolvedAt incoming m n plan q u → PartOf u 0 a → r ≡ ends_of
          (same_dtype a.type (dtype_of E.inner.tree)) E.inner.end)
          → r ≡ ends_of (same_dtype t (dtype_of Q.tree)) Q.end
      unfolding same_dtype dtype_of
      arrays_same {w} i o =
          let (u, p) = is-array H i in
          let S = array-there i in
          o t (column [] u) S.element R (subst (λ (y : DataType). PartOf y 0 (column [] u)) (sym p) (array_element-part w u))
          ∙ ap (λ (j : ℕ). ends_of (same_dtype u (dtype_of S.element.inner.tree)) j) (sym S.ends)
          ∙ ap (λ (b : Bool). ends_of (b && same_dtype u (dtype_of S.element.inner.tree)) Q.end) (sym (eq-eqb w w refl))
          ∙ ap (λ (y : DataType). ends_of (same_dtype (array w u) y) Q.end) (sym (ap dtype_of S.is))
          ∙ ap (λ (y : DataType). ends_of (same_dtype y (dtype_of Q.tree)) Q.end) (sym p)

-- ---- same_field

name_of : {v : Edition} {d : ℕ} {s : Bytes} {at : ℕ} (E : ColumnAt v d s at) {q : Labelled} {l : LabelSpan} {c : Cursor} → label_res s q ≡ label v s at →
    q ≡ Labelled.Is l c → E.label.name ≡ span_at s l.name
name_of {s = s} E e f = ap (λ (x : Label). x.name) (ok_eq (sym E.labelled ∙ label_got s e f)).0

module _ {v : Edition} {d : ℕ} {s : Bytes} {at : ℕ} (E : ColumnAt v d s at) {q : Labelled} {l : LabelSpan} {c : Cursor}
    (e : label_res s q ≡ label v s at) (f : q ≡ Labelled.Is l c) (a : Column)
    {b : Bool} (g : b ≡ same_bytes a.name (span_at s l.name)) where
  so : same_bytes a.name E.label.name ≡ b
  so = ap (λ (n : Bytes). same_bytes a.name n) (name_of E e f) ∙ sym g

  pub field-differs : b ≡ false → Ends.Differ ≡ ends_of (same_bytes a.name E.label.name && same_dtype a.type (dtype_of E.inner.tree)) E.inner.end
  unfolding ends_of
  field-differs h = rw (so, h)

  pub field-goes : b ≡ true → {r : Ends} → r ≡ ends_of (same_dtype a.type (dtype_of E.inner.tree)) E.inner.end
      → r ≡ ends_of (same_bytes a.name E.label.name && same_dtype a.type (dtype_of E.inner.tree)) E.inner.end
  field-goes h i = rw (so, h) i

-- ---- same_fields

abbrev pub columns_as : {v : Edition} {d : ℕ} {s : Bytes} {n m at to : ℕ} → n ≡ m → at ≡ to → ColumnsAt v d s n at → ColumnsAt v d s m to
columns_as {v} {d} {s} {n} {m} {at} {to} e g P =
    record {
      columns = P.columns;
      end = P.end;
      reads = sym (ap (λ (k : ℕ). columns_of_of v Free (type v Free d) k [] s at) e ∙ ap
          (λ (o : ℕ). columns_of_of v Free (type v Free d) m [] s o) g) ∙ P.reads;
    }

pub record Matching (incoming : Bytes) (v : Edition) (n : ℕ) (plan : Bytes) (w : Walk) (count : ℕ) (target : Bytes) (vt : Edition)
    (depth base from at k : ℕ) : Type 0 where
  pub some : Fields
  pub start : MappedAt incoming v n plan w (struct some)
  pub counted : count_fields some ≡ count
  pub within : k ≤ count
  pub passed : PassedTo plan w.at k from
  pub rest : ColumnsAt vt depth target (count - k) at
  pub keeps : (fs : Fields) (Q : ColumnsAt vt depth target count base) → MappedAt incoming v n plan w (struct fs) → count_fields fs ≡ count
      → ends_of (same_fields_of fs (fields_of Q.columns)) Q.end ≡ ends_of (same_fields_of (drop_fields k fs) (fields_of rest.columns)) rest.end

module _ {incoming : Bytes} {v : Edition} {n : ℕ} {plan : Bytes} {w : Walk} {count : ℕ} {target : Bytes} {vt : Edition} {depth base : ℕ} where
  pub matching_start : {fs : Fields} → MappedAt incoming v n plan w (struct fs) → count_fields fs ≡ count → ColumnsAt vt depth target count base → {from : ℕ}
      → PassedTo plan w.at 0 from
      → Matching incoming v n plan w count target vt depth base from base 0
  unfolding drop_fields
  matching_start {fs} R c C B = record {
    some = fs;
    start = R;
    counted = c;
    within = omega arith;
    passed = B;
    rest = columns_as (let e : count ≡ count - 0 = omega arith in e) refl C;
    keeps = λ gs Q S c.
        let z = same-columns Q C in
        ap (λ (j : ℕ). ends_of (same_fields_of gs (fields_of Q.columns)) j) z.1 ∙ ap (λ (cs : Columns). ends_of (same_fields_of gs (fields_of cs)) C.end) z.0;
  }

  module _ {from at k : ℕ} (O : Matching incoming v n plan w count target vt depth base from at k) where
    pub matching_end : count ≤ k → (fs : Fields) (Q : ColumnsAt vt depth target count base) → MappedAt incoming v n plan w (struct fs) → count_fields fs ≡ count
        → Ends.At (record { at = at }) ≡ ends_of (same_fields_of fs (fields_of Q.columns)) Q.end
    unfolding ends_of same_fields_of fields_of
    matching_end h fs Q R c =
        let e = no_column O.rest (let z : count - k ≡ 0 = omega arith in z) in
        let d = drop_all fs k (omega arith) in
        let z : ends_of (same_fields_of (drop_fields k fs) (fields_of O.rest.columns)) O.rest.end ≡ Ends.At (record { at = at }) = rw (d, e.0, e.1) in
        sym (O.keeps fs Q R c ∙ z)

    module _ (h : k < count) where
      pub matching-first : Split vt depth target (count - k) at O.rest
      matching-first = split O.rest (λ z. omega arith)

      below : k < count_fields O.some
      below = let c = O.counted in omega arith

      module _ {x : Walk} (g : ChildAt w k from x) where
        pub matching-asks : (a : Column) × NamedAt incoming v n plan x a
        matching-asks = let (a, e) = column-there O.some k below in (a, made-named O.start O.passed below g O.start e)

        module _ {f : Ends} (F : (a : Column) (E : ColumnAt vt depth target at) → NamedAt incoming v n plan x a
            → f ≡ ends_of (same_bytes a.name E.label.name && same_dtype a.type (dtype_of E.inner.tree)) E.inner.end) where
          record Here (fs : Fields) (Q : ColumnsAt vt depth target count base) : Type 0 where
            names : Bool
            types : Bool
            answers : f ≡ ends_of (names && types) matching-first.first.inner.end
            is : ends_of (same_fields_of fs (fields_of Q.columns)) Q.end
                ≡ ends_of (names && (types && same_fields_of (drop_fields (suc k) fs) (fields_of matching-first.tail.columns))) matching-first.tail.end

          here : (fs : Fields) (Q : ColumnsAt vt depth target count base) → MappedAt incoming v n plan w (struct fs) → count_fields fs ≡ count → Here fs Q
          unfolding same_fields_of fields_of
          here fs Q R c =
              let (a, e) = column-there fs k (omega arith) in
              let S = matching-first in
              record {
                names = same_bytes a.name S.first.label.name;
                types = same_dtype a.type (dtype_of S.first.inner.tree);
                answers = F a S.first (made-named O.start O.passed below g R e);
                is = O.keeps fs Q R c ∙ ap (λ (gs : Fields). ends_of (same_fields_of gs (fields_of O.rest.columns)) O.rest.end) (drop-next fs k e)
                    ∙ ap (λ (cs : Columns). ends_of (same_fields_of (fcons a.name a.type (drop_fields (suc k) fs)) (fields_of cs)) O.rest.end) S.is
                    ∙ ap (λ (j : ℕ). ends_of (same_bytes a.name S.first.label.name &&
                    (same_dtype a.type (dtype_of S.first.inner.tree) && same_fields_of (drop_fields (suc k) fs) (fields_of S.tail.columns))) j)
                    (sym S.ends);
              }

          pub matching-no : f ≡ Ends.Differ → (fs : Fields) (Q : ColumnsAt vt depth target count base) → MappedAt incoming v n plan w (struct fs)
              → count_fields fs ≡ count
              → Ends.Differ ≡ ends_of (same_fields_of fs (fields_of Q.columns)) Q.end
          unfolding ends_of
          matching-no e fs Q R c =
              let H = here fs Q R c in
              sym (H.is ∙ none H.names H.types (same_fields_of (drop_fields (suc k) fs) (fields_of matching-first.tail.columns))
              (ends_differ (H.names && H.types) matching-first.first.inner.end (sym H.answers ∙ e)) matching-first.tail.end)
            where
              none : (x y z : Bool) → (x && y) ≡ false → (j : ℕ) → ends_of (x && (y && z)) j ≡ Ends.Differ
              none true true z p j = true≠false refl p
              none true false z p j = refl
              none false y z p j = refl

          -- where the first column ends
          at-end : {y : Cursor} → f ≡ Ends.At y → matching-first.first.inner.end ≡ y.at
          at-end e =
              let (a, N) = matching-asks in
              sym (ends_at (same_bytes a.name matching-first.first.label.name && same_dtype a.type (dtype_of matching-first.first.inner.tree))
              matching-first.first.inner.end (sym (F a matching-first.first N) ∙ e)).1

          pub matching-more : {y : Cursor} → f ≡ Ends.At y → {d : ℕ} → ((P : SelectorAt plan from) → d ≡ P.end)
              → Matching incoming v n plan w count target vt depth base d y.at (k + 1)
          matching-more {y} e s = record {
            some = O.some;
            start = O.start;
            counted = O.counted;
            within = omega arith;
            passed = made_more O.start O.passed below s;
            rest = columns_as (let z : count - k - 1 ≡ count - (k + 1) = omega arith in z) (at-end e) matching-first.tail;
            keeps = λ fs Q R c.
                let H = here fs Q R c in
                let z : suc k ≡ k + 1 = omega arith in
                H.is ∙ all H.names H.types (same_fields_of (drop_fields (suc k) fs) (fields_of matching-first.tail.columns))
                (ends_at (H.names && H.types) matching-first.first.inner.end (sym H.answers ∙ e)).0 matching-first.tail.end
                ∙ ap (λ (j : ℕ). ends_of (same_fields_of (drop_fields j fs) (fields_of matching-first.tail.columns)) matching-first.tail.end) z;
          }
            where
              all : (x y z : Bool) → (x && y) ≡ true → (j : ℕ) → ends_of (x && (y && z)) j ≡ ends_of z j
              all true true z p j = refl
              all true false z p j = true≠false p refl
              all false y z p j = true≠false p refl
