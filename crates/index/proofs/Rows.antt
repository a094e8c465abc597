-- Columns and their values after the first i: the entries of two tables, and the lookup from an entry on. Assumes
-- nothing.
use Prim.Native.Nat.{ℕ, zero, suc, ◌+◌, ◌-◌, ◌*◌, ◌/◌, ◌%◌, ◌≤◌, ◌<◌}
use mathlib.Core.Path.{◌≡◌, refl, sym, ap, ◌∙◌, subst}
use mathlib.Core.List.{List, []}
use native.Mathlib.Omega.{arith}
use native.Mathlib.Nat.{zero-mul}
use borrow.Author.Count.{below_more}
use lib.ListN.{length, get_or, set, take, length-set}
use lib.Seq.{get_or-take, get_or-set_same, get_or-set_other, length-take-le}
use Rattle.layout.specs.Bytes.{Bytes}
use Rattle.layout.specs.Parser.{ok}
use Rattle.layout.specs.Tree.{ccons, fields_of}
use Rattle.layout.specs.Layout.{columns as columns_of_of, type, deepest}
use Rattle.layout.specs.code.Stands.{ColumnsAt}
use Rattle.layout.specs.declared.columns.Siblings.TheVariants.{Free}
use Rattle.layout.specs.declared.cursor.Cursor.{Cursor}
use Rattle.layout.specs.declared.edition.Edition.{Edition}
use Rattle.layout.proofs.View.{same-columns}
use Rattle.values.specs.Value.{Value, Values}
use Rattle.values.specs.Reading.{values as values_of}
use Rattle.values.specs.code.Answers.{value_moved}
use Rattle.values.specs.declared.read.ValueRead.{ValueRead}
use Rattle.values.proofs.Walk.{moved_value}
use Rattle.plan.specs.Run.{value_at}
use Rattle.nodes.specs.code.Raw.{RowAt, NodeOf}
use Rattle.nodes.specs.declared.raw.NodeAt.{NodeAt}
use Rattle.nodes.proofs.Rows.{FirstOf, first_of_lem, split_of, column-before}
use Rattle.index.specs.code.Indexed.{drop_columns, drop_values, RowStarts, Indexed, IndexedRow}
use Rattle.index.proofs.Drop.{drop_more, drop_values-more, value-drop, parts, next_multiple}

-- as many columns and values, under another name of their number and place
renamed : {v : Edition} {lay : Bytes} {n m t u : ℕ} {rec : Bytes} {c d : ℕ} → n ≡ m → t ≡ u → c ≡ d → RowAt v lay n t rec c → RowAt v lay m u rec d
renamed {v} {lay} {n} {m} {t} {u} {rec} {c} {d} e f g X = record {
  columns = record {
    columns = X.columns.columns;
    end = X.columns.end;
    reads = sym (ap (λ (k : ℕ). columns_of_of v Free (type v Free deepest) k [] lay t) e ∙ ap (λ (o : ℕ). columns_of_of v Free (type v Free deepest) m [] lay o)
        f) ∙ X.columns.reads;
  };
  values = record {
    values = X.values.values;
    end = X.values.end;
    reads = ap (λ (o : ℕ). values_of (fields_of X.columns.columns) rec o) (sym g) ∙
        X.values.reads;
  };
}

-- the values after the first k
after : (k : ℕ) {v : Edition} {lay : Bytes} {n t : ℕ} {rec : Bytes} {c : ℕ} (X : RowAt v lay n t rec c) (h : k ≤ n) → (split_of k X
    h).back.values.values ≡ drop_values k X.values.values
unfolding split_of drop_values
after zero X h = refl
after (suc k) {n = n} X h =
    let F = first_of_lem X (λ z. omega arith) in
    after k F.tail (omega arith) ∙ ap (drop_values (suc k)) (sym F.is)

-- the first column, and those after it
first-and-rest : {v : Edition} {lay : Bytes} {n t : ℕ} {rec : Bytes} {c : ℕ} (X : RowAt v lay n t rec c) (F : FirstOf v lay n t rec c X) → (n ≡ 0 → ⊥) →
    X.columns.columns ≡ ccons F.label F.head.type.tree F.tail.columns.columns
first-and-rest {v} {lay} {n} {t} X F h =
    let e : suc (n - 1) ≡ n = omega arith in
    let r = ap (λ (k : ℕ). columns_of_of v Free (type v Free deepest) k [] lay t) e ∙ X.columns.reads in
    let b = column-before v deepest lay (n - 1) t F.labelled F.head.type F.tail.columns in
    let z : ok X.columns.columns X.columns.end ≡ ok (ccons F.label F.head.type.tree F.tail.columns.columns) F.tail.columns.end
    = sym r ∙ b in
    cc

-- the columns after the first k
after-columns : (k : ℕ) {v : Edition} {lay : Bytes} {n t : ℕ} {rec : Bytes} {c : ℕ} (X : RowAt v lay n t rec c) (h : k ≤ n) → (split_of k X
    h).back.columns.columns ≡ drop_columns k X.columns.columns
unfolding split_of drop_columns
after-columns zero X h = refl
after-columns (suc k) {n = n} X h =
    let F = first_of_lem X (λ z. omega arith) in
    after-columns k F.tail (omega arith) ∙ ap (drop_columns (suc k)) (sym (first-and-rest X F (λ z. omega arith)))

-- columns that start after i others, and those after m more
module _ {v : Edition} {lay : Bytes} {n t : ℕ} {rec : Bytes} {c : ℕ} {X : RowAt v lay n t rec c} {i a o : ℕ} (T : RowStarts v lay n t rec c X i a o)
    {m : ℕ} (h : m ≤ n - i) where
  pub front_columns : ColumnsAt v deepest lay m a
  front_columns = (split_of m T.rest h).front.columns

  pub further : {r : ValueRead} {d e : Cursor} → ((Q : ColumnsAt v deepest lay m a) → r ≡ value_moved Q.end (values_of (fields_of Q.columns) rec o))
      → r ≡ ValueRead.To d e
      → RowStarts v lay n t rec c X (i + m) d.at e.at
  unfolding renamed
  further {r} {d} {e} g f =
      let S = split_of m T.rest h in
      let (vs, z, w) = moved_value (values_of (fields_of S.front.columns.columns) rec o) _ (g S.front.columns) f in
      let y : ok vs e.at ≡ ok S.front.values.values S.front.values.end = sym z ∙ S.front.values.reads in
      let b : S.front.values.end ≡ e.at = cc in
      record {
        within = let k = T.within in omega arith;
        rest = renamed (let q : n - i - m ≡ n - (i + m) = omega arith in q) (sym w) b S.back;
        is = after m T.rest h ∙ ap (drop_values m) T.is ∙ drop_values-more i m (i + m) X.values.values refl;
        columns = after-columns m T.rest h ∙ ap (drop_columns m) T.columns ∙ drop_more i m (i + m) X.columns.columns refl;
      }

-- ---- the value of a column, from an entry on

module _ {v : Edition} {lay : Bytes} {n t : ℕ} {rec : Bytes} {c stride : ℕ} {types values : List ℕ} (I : IndexedRow v lay n t rec c stride types values)
    (X : RowAt v lay n t rec c) (k : ℕ) {j : ℕ} (q : j ≡ k / stride) (lt : j < length types) where
  entry : RowStarts v lay n t rec c X (k / stride * stride) (get_or types j 0) (get_or values j 0)
  entry = subst (λ (b : ℕ). RowStarts v lay n t rec c X (b * stride) (get_or types j 0) (get_or values j 0)) q (I.starts X j lt).1

  pub entry_value : j < length values
  entry_value = (I.starts X j lt).0

  pub entry-within : k / stride * stride ≤ n
  entry-within = entry.within

  module _ {a o : ℕ} (e : a ≡ get_or types j 0) (f : o ≡ get_or values j 0) where
    pub entry_row : RowAt v lay (n - k / stride * stride) a rec o
    entry_row = renamed refl (sym e) (sym f) entry.rest

    pub from-entry : (r : NodeAt) → ((Y : RowAt v lay (n - k / stride * stride) a rec o) → NodeOf v lay rec (value_at Y.values.values (k % stride))
        r) → NodeOf v lay rec (value_at X.values.values k) r
    unfolding renamed entry_row
    from-entry r g =
        subst (λ (x : Value). NodeOf v lay rec x r)
        (ap (λ (vs : Values). value_at vs (k % stride)) entry.is ∙ value-drop (k / stride * stride) (k % stride) k X.values.values (parts k stride refl))
        (g entry_row)

-- the table of the types, for the columns alone
pub indexed_types : {v : Edition} {lay : Bytes} {n t : ℕ} {rec : Bytes} {c stride : ℕ} {types values : List ℕ} → RowAt v lay n t rec c → IndexedRow v
    lay n t rec c stride types values → Indexed v lay n t stride types
indexed_types {stride = stride} X I = record {
  starts = λ P j h.
      let T = (I.starts X j h).1 in
      record { within = T.within; rest = T.rest.columns; is = T.columns ∙ ap (drop_columns (j * stride)) (same-columns X.columns P).0 };
}

-- ---- the entries of two tables

-- after j entries column i, which stands at `at` and whose value stands at `to`, is the next
pub record Filling (v : Edition) (lay : Bytes) (n t : ℕ) (rec : Bytes) (c stride at to i j : ℕ) (types values : List ℕ) : Type 0 where
  pub within : i ≤ n
  pub counted : i ≡ j * stride
  pub room : j ≤ length types
  pub same : j ≤ length values
  pub here : (X : RowAt v lay n t rec c) → RowStarts v lay n t rec c X i at to
  pub filled : (X : RowAt v lay n t rec c) (e : ℕ) → e < j → RowStarts v lay n t rec c X (e * stride) (get_or types e 0) (get_or values e 0)

module _ {v : Edition} {lay : Bytes} {n t : ℕ} {rec : Bytes} {c stride : ℕ} where
  pub filling_start : (types values : List ℕ) → Filling v lay n t rec c stride t c 0 0 types values
  unfolding drop_values drop_columns renamed
  filling_start types values = record {
    within = omega arith;
    counted = sym (zero-mul stride);
    room = omega arith;
    same = omega arith;
    here = λ X. record { within = omega arith; rest = renamed (let e : n ≡ n - 0 = omega arith in e) refl refl X; is = refl; columns = refl };
    filled = λ X e h. absurd (omega arith);
  }

  -- j entries of each table, by what the entries are
  tables : (types values : List ℕ) (j : ℕ) → j ≤ length types → j ≤ length values
      → ((X : RowAt v lay n t rec c) (e : ℕ) → e < j → RowStarts v lay n t rec c X (e * stride) (get_or types e 0) (get_or values e 0))
      → IndexedRow v lay n t rec c stride (take j types) (take j values)
  tables types values j l m f = record {
    starts = λ X e h.
        let y : length (take j types) ≡ j = length-take-le j types l in
        let z : length (take j values) ≡ j = length-take-le j values m in
        let lt : e < j = omega arith in (
          omega arith,
          subst (λ (o : ℕ). RowStarts v lay n t rec c X (e * stride) o (get_or (take j values) e 0)) (sym (get_or-take j types e 0 lt))
              (subst (λ (o : ℕ). RowStarts v lay n t rec c X (e * stride) (get_or types e 0) o) (sym (get_or-take j values e 0 lt)) (f X e lt)),
        );
  }

  module _ {at to i j : ℕ} {types values : List ℕ} (a : Filling v lay n t rec c stride at to i j types values) where
    pub filling_end : IndexedRow v lay n t rec c stride (take j types) (take j values)
    filling_end = tables types values j a.room a.same a.filled

    module _ (lt : j < length types) (lu : j < length values) where
      stored : (X : RowAt v lay n t rec c) (e : ℕ) → e < j + 1 → RowStarts v lay n t rec c X (e * stride) (get_or (set types j at) e 0)
          (get_or (set values j to) e 0)
      stored X =
          below_more (λ e. RowStarts v lay n t rec c X (e * stride) (get_or (set types j at) e 0) (get_or (set values j to) e 0)) j
          (λ e h.
          subst (λ (o : ℕ). RowStarts v lay n t rec c X (e * stride) o (get_or (set values j to) e 0)) (sym (get_or-set_other types j e at 0 (λ z. omega arith)))
          (subst (λ (o : ℕ). RowStarts v lay n t rec c X (e * stride) (get_or types e 0) o) (sym (get_or-set_other values j e to 0 (λ z. omega arith)))
          (a.filled X e h)))
          (subst (λ (k : ℕ). RowStarts v lay n t rec c X k (get_or (set types j at) j 0) (get_or (set values j to) j 0)) a.counted
          (subst (λ (o : ℕ). RowStarts v lay n t rec c X i o (get_or (set values j to) j 0)) (sym (get_or-set_same types j at 0 lt))
          (subst (λ (o : ℕ). RowStarts v lay n t rec c X i at o) (sym (get_or-set_same values j to 0 lu)) (a.here X))))

      pub filling-room : j + 1 ≤ length (set types j at)
      filling-room = let e = length-set types j at in omega arith

      pub filling-same : j + 1 ≤ length (set values j to)
      filling-same = let e = length-set values j to in omega arith

      pub filling-last : IndexedRow v lay n t rec c stride (take (j + 1) (set types j at)) (take (j + 1) (set values j to))
      filling-last = tables (set types j at) (set values j to) (j + 1) filling-room filling-same stored

      module _ (h : stride < n - i) where
        pub filling-front : RowAt v lay n t rec c → ColumnsAt v deepest lay stride at
        filling-front X = front_columns (a.here X) (omega arith)

        pub filling-more : {r : ValueRead} {d e : Cursor} → ((Q : ColumnsAt v deepest lay stride at) → r ≡ value_moved Q.end
            (values_of (fields_of Q.columns) rec to)) → r ≡ ValueRead.To d e
            → Filling v lay n t rec c stride d.at e.at (i + stride) (j + 1) (set types j at) (set values j to)
        filling-more g f = record {
          within = omega arith;
          counted = next_multiple j stride a.counted;
          room = filling-room;
          same = filling-same;
          here = λ X. further (a.here X) (omega arith) g f;
          filled = stored;
        }
