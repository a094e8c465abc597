-- The nulls of a value, by what its type begins with: which places the table must have. Assumes nothing.
use Prim.Native.Nat.{ℕ, suc, ◌+◌, ◌-◌, ◌≤◌, ◌<◌}
use mathlib.Core.Path.{◌≡◌, refl, sym, ap, ◌∙◌, subst}
use mathlib.Core.Bool.{false}
use mathlib.Core.List.{List, [], ◌∷◌}
use native.Mathlib.Decide.{ℕ_discrete}
use native.Mathlib.Omega.{arith}
use Rattle.layout.specs.Bytes.{Bytes}
use Rattle.layout.specs.Parser.{ok}
use Rattle.layout.specs.Tree.{Label, Columns, cnil, dtype_of, fields_of}
use Rattle.layout.specs.Layout.{a_struct, a_list, an_array, kind, label as label_of, element_label, columns as columns_of_of, type as type_of, deepest}
use Rattle.layout.specs.code.Answers.{head_res, label_res, label_at, moved_of}
use Rattle.layout.specs.code.Stands.{TypeAt}
use Rattle.layout.specs.declared.columns.Label.{Label as LabelSpan}
use Rattle.layout.specs.declared.columns.Labelled.{Labelled}
use Rattle.layout.specs.declared.columns.Siblings.TheVariants.{Free}
use Rattle.layout.specs.declared.cursor.Cursor.{Cursor}
use Rattle.layout.specs.declared.cursor.Moved.{Moved}
use Rattle.layout.specs.declared.edition.Edition.TheVariants.{One}
use Rattle.layout.specs.declared.types.Head.{Head as HeadSpan}
use Rattle.layout.proofs.Ways.{clash, moved_to}
use Rattle.layout.proofs.View.{label_got, same_type_lem, same-columns}
use Rattle.values.specs.Value.{Value, vnull, vstruct, vlist, varray, Values, vcons, is_null_value}
use Rattle.values.specs.Reading.{value, values as values_of}
use Rattle.values.specs.code.Answers.{value_moved}
use Rattle.values.specs.declared.read.ValueRead.{ValueRead}
use Rattle.values.proofs.Inside.{value-passed}
use Rattle.plan.specs.Run.{value_at}
use Rattle.nodes.specs.code.Raw.{RawAt, RowAt, ElementsAt}
use Rattle.nodes.proofs.Rows.{first-column, FirstOf, first_of_lem}
use Rattle.overflow.specs.code.Some.{some_part, some_sought}
use Rattle.overflow.specs.code.Seek.{RawIn}
use Rattle.overflow.specs.declared.scan.Sought.{Sought}
use Rattle.overflow.proofs.Asking.{raw_of}
use Rattle.overflow.proofs.Raw.{LeafValue}
use Rattle.overflow.proofs.Scanning.{Scanning, scanning_none, scanning_all, scanning_raw, scanning-more}
use Rattle.nullness.specs.code.Nulls.{FieldStart, ElementStart, PartStart, p_field, p_list, p_array, Inside, i_here, i_part, IsNull, NullsOf, EachOf}
use Rattle.nullness.specs.code.Nulls.{RowOf, Grown}
use Rattle.nullness.proofs.NullsTable.{nulls_of_more}

-- ---- one value

element-each : {s : Bytes} {nulls : List ℕ} {vs : Values} {m b a : ℕ} {l : Label} → element_label One s m ≡ ok l b → EachOf s nulls b vs → ElementStart s
    m a → EachOf s nulls a vs
element-each {s} {nulls} {vs} {b = b} {a} {l} f E F =
    let z : ok l b ≡ ok F.label a = sym f ∙ F.labelled in
    let c : b ≡ a = cc in
    subst (λ (d : ℕ). EachOf s nulls d vs) c E

module _ {s : Bytes} {nulls : List ℕ} {t : ℕ} where
  pub nulls_as : {x y : Value} → x ≡ y → NullsOf s nulls t x → NullsOf s nulls t y
  nulls_as e N = subst (λ (z : Value). NullsOf s nulls t z) e N

  pub each_as : {x : Value} {us vs : Values} → x ≡ vlist us → x ≡ vlist vs → EachOf s nulls t us → EachOf s nulls t vs
  each_as {us = us} {vs} e f E = let z : us ≡ vs = cc in subst (λ (ws : Values). EachOf s nulls t ws) z E

module _ {s : Bytes} {nulls : List ℕ} {t : ℕ} {x : Value} where
  pub null_nulls : x ≡ vnull → IsNull nulls t → NullsOf s nulls t x
  unfolding some_sought some_part
  null_nulls e h = record { clean = λ p o I u. go p o I u }
    where
      go : (p : List ℕ) (o : ℕ) → Inside s t p o → (IsNull nulls o → ⊥) → some_sought Sought.Null p x ≡ false
      go [] o i_here u = absurd (u h)
      go (k ∷ p) o I u = ap (λ (y : Value). some_part k (λ z. some_sought Sought.Null p z) y) e

  -- of a value that is present, by its parts
  parts-nulls : is_null_value x ≡ false
      → ((k b : ℕ) → PartStart s t k b → (p : List ℕ) (o : ℕ) → Inside s b p o → (IsNull nulls o → ⊥) → some_part k (λ z. some_sought Sought.Null p z) x ≡ false)
      → NullsOf s nulls t x
  unfolding some_sought
  parts-nulls e h = record { clean = λ p o I u. go p o I u }
    where
      go : (p : List ℕ) (o : ℕ) → Inside s t p o → (IsNull nulls o → ⊥) → some_sought Sought.Null p x ≡ false
      go [] o I u = e
      go (k ∷ p) o (i_part {m = b} P I) u = h k b P p o I u

  pub leaf_nulls : LeafValue x → NullsOf s nulls t x
  leaf_nulls L = parts-nulls L.present (λ k b P p o I u. L.part k _)

  module _ {vs : Values} {h : HeadSpan} (g : head_res s h ≡ kind s t) where
    pub struct_nulls : {n : ℕ} {d : Cursor} → h ≡ HeadSpan.Struct n d → x ≡ vstruct vs → RowOf s nulls n d.at vs → NullsOf s nulls t x
    unfolding some_part
    struct_nulls {n} {d} j e R =
        parts-nulls (ap is_null_value e) (λ k b P p o I u. ap (λ (y : Value). some_part k (λ z. some_sought Sought.Null p z) y) e ∙ (field k b P).clean p o I u)
      where
        q : kind s t ≡ ok (a_struct n) d.at
        q = sym g ∙ ap (head_res s) j

        field : (k b : ℕ) → PartStart s t k b → NullsOf s nulls b (value_at vs k)
        field k b (p_field {n = i} {m = m} f lt F) =
            let z : ok (a_struct i) m ≡ ok (a_struct n) d.at = sym f ∙ q in
            let a : i ≡ n = cc in
            let c : m ≡ d.at = cc in
            R.field k b (omega (arith, lt)) (subst (λ (o : ℕ). FieldStart s o k b) c F)
        field k b (p_list f F) = let z = sym f ∙ q in clash (cc)
        field k b (p_array f F) = let z = sym f ∙ q in clash (cc)

    module _ {d b : Cursor} {l : LabelSpan} {y : Labelled} (f : label_res s y ≡ element_label One s d.at) (r : y ≡ Labelled.Is l b)
        (E : EachOf s nulls b.at vs) where
      pub list-nulls : h ≡ HeadSpan.List d → x ≡ vlist vs → NullsOf s nulls t x
      unfolding some_part
      list-nulls j e =
          parts-nulls (ap is_null_value e) (λ k b P p o I u. ap (λ (y : Value). some_part k (λ z. some_sought Sought.Null p z) y) e ∙ (each k b P).clean p o I u)
        where
          q : kind s t ≡ ok a_list d.at
          q = sym g ∙ ap (head_res s) j

          each : (k a : ℕ) → PartStart s t k a → EachOf s nulls a vs
          each k a (p_field p lt F) = let z = sym p ∙ q in clash (cc)
          each k a (p_list {m = m} p F) =
              let z : ok a_list m ≡ ok a_list d.at = sym p ∙ q in
              let c : m ≡ d.at = cc in
              element-each (label_got s f r) E (subst (λ (o : ℕ). ElementStart s o a) c F)
          each k a (p_array p F) = let z = sym p ∙ q in clash (cc)

      pub array-nulls : {w : ℕ} → h ≡ HeadSpan.Array w d → x ≡ varray vs → NullsOf s nulls t x
      unfolding some_part
      array-nulls {w} j e =
          parts-nulls (ap is_null_value e) (λ k b P p o I u. ap (λ (y : Value). some_part k (λ z. some_sought Sought.Null p z) y) e ∙ (each k b P).clean p o I u)
        where
          q : kind s t ≡ ok (an_array w) d.at
          q = sym g ∙ ap (head_res s) j

          each : (k a : ℕ) → PartStart s t k a → EachOf s nulls a vs
          each k a (p_field p lt F) = let z = sym p ∙ q in clash (cc)
          each k a (p_list p F) = let z = sym p ∙ q in clash (cc)
          each k a (p_array {w = i} {m = m} p F) =
              let z : ok (an_array i) m ≡ ok (an_array w) d.at = sym p ∙ q in
              let c : m ≡ d.at = cc in
              element-each (label_got s f r) E (subst (λ (o : ℕ). ElementStart s o a) c F)

-- ---- the loop over elements: the table has the nulls of the first i of n

pub record Elements (s : Bytes) (n t c : ℕ) (nulls : List ℕ) (i at : ℕ) : Type 0 where
  pub all : Scanning One s n t s c (λ x. false) i at
  pub clean : (p : List ℕ) (o : ℕ) → Inside s t p o → (IsNull nulls o → ⊥) → Scanning One s n t s c (λ x. some_sought Sought.Null p x) i at

module _ {s : Bytes} {n t c : ℕ} {nulls : List ℕ} where
  pub elements-none : ElementsAt One s n t s c → Elements s n t c nulls 0 c
  elements-none X = record { all = scanning_none _ X; clean = λ p o I u. scanning_none _ X }

  module _ {i at : ℕ} (F : Elements s n t c nulls i at) where
    pub elements-all : n ≤ i → (X : ElementsAt One s n t s c) → EachOf s nulls t X.values.values
    elements-all h X = record { clean = λ p o I u. sym (scanning_all (F.clean p o I u) h X) }

    pub elements-raw : i < n → RawAt One s t s at
    elements-raw h = scanning_raw F.all h

    pub elements-more : i < n → {more : List ℕ} → Grown nulls more → ((X : RawAt One s t s at) → NullsOf s more t X.value.tree)
        → {q : Moved} → ((Q : TypeAt One deepest s t) → q ≡ moved_of (value (dtype_of Q.tree) s at)) → {d : Cursor} → q ≡ Moved.To d → Elements s n t c
        more (i + 1) d.at
    elements-more h G N m e = record {
      all = scanning-more F.all h {r = false} (λ X. refl) m refl e;
      clean = λ p o I u. scanning-more (F.clean p o I (λ z. u (G.keeps o z))) h {r = false} (λ X. sym ((N X).clean p o I u)) m refl e;
    }

-- ---- the loop over fields: the table has the nulls of the first i of n

pub record Row (s : Bytes) (n t c : ℕ) (nulls : List ℕ) (i at to : ℕ) : Type 0 where
  pub within : i ≤ n
  pub whole : RowAt One s n t s c
  pub left : RowAt One s (n - i) at s to
  pub same : (j : ℕ) → value_at whole.values.values (i + j) ≡ value_at left.values.values j
  pub starts : (k o : ℕ) → FieldStart s t (i + k) o → FieldStart s at k o
  pub fields : (k o : ℕ) → k < i → FieldStart s t k o → NullsOf s nulls o (value_at whole.values.values k)

-- the same columns and values, by another count and other offsets
abbrev row_as : {s : Bytes} {n m t u c d : ℕ} → n ≡ m → t ≡ u → c ≡ d → RowAt One s n t s c → RowAt One s m u s d
row_as {s} {m = m} {t} {c = c} e f g X = record {
  columns = record {
    columns = X.columns.columns;
    end = X.columns.end;
    reads = ap (λ (o : ℕ). columns_of_of One Free (type_of One Free deepest) m [] s o) (sym f) ∙ ap
        (λ (k : ℕ). columns_of_of One Free (type_of One Free deepest) k [] s t) (sym e) ∙ X.columns.reads;
  };
  values = record {
    values = X.values.values;
    end = X.values.end;
    reads = ap (λ (o : ℕ). values_of (fields_of X.columns.columns) s o) (sym g) ∙
        X.values.reads;
  };
}

abbrev raw_as : {s : Bytes} {t u c : ℕ} → t ≡ u → RawAt One s t s c → RawAt One s u s c
raw_as {s} e X = record {
  type = record { tree = X.type.tree; end = X.type.end; reads = ap (λ (o : ℕ). type_of One Free deepest s o) (sym e) ∙ X.type.reads };
  value = X.value;
}

same_row : {s : Bytes} {n t c : ℕ} (X Y : RowAt One s n t s c) → X.values.values ≡ Y.values.values
same_row {s} {c = c} X Y =
    let e = (same-columns X.columns Y.columns).0 in
    let z : ok X.values.values X.values.end ≡ ok Y.values.values Y.values.end =
    sym X.values.reads ∙ ap (λ (cs : Columns). values_of (fields_of cs) s c) e ∙ Y.values.reads in
    cc

-- the first field stands behind its label, the others behind its type
field-first : {s : Bytes} {at o e : ℕ} {l : Label} → label_of One s at ≡ ok l e → FieldStart s at 0 o → o ≡ e
unfolding columns_of_of
field-first {s} {at} {o} {e} {l} f F =
    let z : ok cnil at ≡ ok F.before F.start = F.passed in
    let y : at ≡ F.start = cc in
    let w : ok F.label o ≡ ok l e = sym F.labelled ∙ ap (λ (i : ℕ). label_of One s i) (sym y) ∙ f in
    cc

field-later : {s : Bytes} {at k o e : ℕ} {l : Label} → label_of One s at ≡ ok l e → (T : TypeAt One deepest s e) → FieldStart s at (suc k) o → FieldStart
    s T.end k o
field-later {s} {at} {k} {o} {e} {l} f T F =
    let G = first-column One deepest s k at F.before F.start F.passed in
    let z : ok G.label G.start ≡ ok l e = sym G.labelled ∙ f in
    let y : G.start ≡ e = cc in
    let H : TypeAt One deepest s e = record {
      tree = G.head.tree;
      end = G.head.end;
      reads = ap (λ (i : ℕ). type_of One Free deepest s i) (sym y) ∙
          G.head.reads;
    } in
    let x : G.head.end ≡ T.end = (same_type_lem H T).1 in
    record {
      before = G.tail.columns;
      start = G.tail.end;
      label = F.label;
      passed = ap (λ (i : ℕ). columns_of_of One Free (type_of One Free deepest) k [] s i) (sym x) ∙ G.tail.reads;
      labelled = ap (λ (i : ℕ). label_of One s i) G.ends ∙ F.labelled;
    }

value-later : (vs : Values) {v : Value} {us : Values} (j : ℕ) → vs ≡ vcons v us → value_at vs (suc j) ≡ value_at us j
unfolding value_at
value-later vs j e = rw e

value-first : (vs : Values) {v : Value} {us : Values} → vs ≡ vcons v us → value_at vs 0 ≡ v
unfolding value_at
value-first vs e = rw e

module _ {s : Bytes} {n t c : ℕ} {nulls : List ℕ} where
  pub row-none : RowAt One s n t s c → Row s n t c nulls 0 t c
  row-none X = record {
    within = omega arith;
    whole = X;
    left = row_as (let e : n ≡ n - 0 = omega arith in e) refl refl X;
    same = λ j. ap (λ (i : ℕ). value_at X.values.values i) (let e : 0 + j ≡ j = omega arith in e);
    starts = λ k o F. subst (λ (i : ℕ). FieldStart s t i o) (let e : 0 + k ≡ k = omega arith in e) F;
    fields = λ k o h F. absurd (omega (arith, h));
  }

  module _ {i at to : ℕ} (R : Row s n t c nulls i at to) where
    pub row-all : n ≤ i → (X : RowAt One s n t s c) → RowOf s nulls n t X.values.values
    row-all h X = record { field = λ k o lt F. nulls-same k (same_row R.whole X) (R.fields k o (omega (arith, lt)) F) }
      where
        nulls-same : (k : ℕ) {vs us : Values} {o : ℕ} → vs ≡ us → NullsOf s nulls o (value_at vs k) → NullsOf s nulls o (value_at us k)
        nulls-same k {o = o} e N = subst (λ (ws : Values). NullsOf s nulls o (value_at ws k)) e N

    module _ (h : i < n) {l : LabelSpan} {e : Cursor} {q : Labelled} (g : label_res s q ≡ label_of One s at) (f : q ≡ Labelled.Is l e) where
      first : FirstOf One s (n - i) at s to R.left
      first = first_of_lem R.left (λ z. omega (arith, h))

      starts-at : first.start ≡ e.at
      starts-at = let z : ok first.label first.start ≡ ok (label_at s l) e.at = sym first.labelled ∙ label_got s g f in cc

      pub row-raw : RawAt One s e.at s to
      row-raw = raw_as starts-at first.head

      labelled-at : label_of One s at ≡ ok first.label e.at
      labelled-at = first.labelled ∙ ap (λ (o : ℕ). ok first.label o) starts-at

      module _ {more : List ℕ} (G : Grown nulls more) (N : (X : RawAt One s e.at s to) → NullsOf s more e.at X.value.tree) where
        -- the table has the nulls of field i as well
        row-fields : (k o : ℕ) → k < i + 1 → FieldStart s t k o → NullsOf s more o (value_at R.whole.values.values k)
        unfolding row-raw
        row-fields k o lt F = go (ℕ_discrete k i)
          where
            go : Dec (k ≡ i) → NullsOf s more o (value_at R.whole.values.values k)
            go (no d) = nulls_of_more G.keeps (R.fields k o (omega (arith, lt, d)) F)
            go (yes d) =
                let j : k ≡ i + 0 = omega (arith, d) in
                let z : o ≡ e.at = field-first labelled-at (R.starts 0 o (subst (λ (m : ℕ). FieldStart s t m o) j F)) in
                let v : first.head.value.tree ≡ value_at R.whole.values.values k =
                sym (ap (λ (m : ℕ). value_at R.whole.values.values m) j ∙ R.same 0 ∙ value-first R.left.values.values first.is) in
                subst (λ (m : ℕ). NullsOf s more m (value_at R.whole.values.values k)) (sym z)
                (subst (λ (x : Value). NullsOf s more e.at x) v (N row-raw))

        pub row_more : {r : ValueRead} → ((P : TypeAt One deepest s e.at) → r ≡ value_moved P.end (value (dtype_of P.tree) s to)) →
            {a b : Cursor} → r ≡ ValueRead.To a b
            → Row s n t c more (i + 1) a.at b.at
        unfolding row-raw
        row_more m {a} {b} k =
            let E = value-passed row-raw.value row-raw.type.end (m row-raw.type) k in
            record {
              within = omega (arith, h);
              whole = R.whole;
              left = row_as (let z : n - i - 1 ≡ n - (i + 1) = omega arith in z) (sym E.0) (sym E.1) first.tail;
              same = λ j. ap (λ (o : ℕ). value_at R.whole.values.values o) (let z : i + 1 + j ≡ i + suc j = omega arith in z) ∙ R.same (suc j) ∙
                  value-later R.left.values.values j first.is;
              starts = λ k o F.
                  let D : FieldStart s t (i + suc k) o = subst (λ (j : ℕ). FieldStart s t j o) (let z : i + 1 + k ≡ i + suc k = omega arith in z) F in
                  subst (λ (j : ℕ). FieldStart s j k o) (sym E.0) (field-later labelled-at row-raw.type (R.starts (suc k) o D));
              fields = row-fields;
            }

-- ---- a constant that is read

pub type-read : {s : Bytes} {at : ℕ} {r : Moved} {d : Cursor} → r ≡ moved_of (type_of One Free deepest s at) → r ≡ Moved.To d →
    (T : TypeAt One deepest s at) × (d.at ≡ T.end)
type-read {s} {at} {d = d} e f = let (t, p) = moved_to (type_of One Free deepest s at) e f in (record { tree = t; end = d.at; reads = p }, refl)

module _ {s : Bytes} {t c : ℕ} (T : TypeAt One deepest s t) where
  pub value_read : {r : Moved} {d : Cursor} → ((P : TypeAt One deepest s t) → r ≡ moved_of (value (dtype_of P.tree) s c)) → r ≡ Moved.To d → c ≡ T.end
      → (X : RawAt One s t s c) × (c ≡ X.type.end)
  value_read {d = d} g f e = let (x, p) = moved_to (value (dtype_of T.tree) s c) (g T) f in
      (record { type = T; value = record { tree = x; end = d.at; reads = p } }, e)

  pub constant_nulls : {nulls : List ℕ} → c ≡ T.end → ((X : RawAt One s t s c) → NullsOf s nulls t X.value.tree) → (X : RawIn s t) → NullsOf s
      nulls t X.value.tree
  constant_nulls e N X = let R = raw_of X (e ∙ (same_type_lem T X.type).1) in nulls_as R.is (N R.raw)
