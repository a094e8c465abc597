-- Columns after the first i: where they stand, the entries of a table, and the lookup from an entry on. Assumes
-- nothing.
use Prim.Native.Nat.{ℕ, zero, suc, ◌+◌, ◌-◌, ◌*◌, ◌/◌, ◌%◌, ◌≤◌, ◌<◌}
use mathlib.Core.Path.{◌≡◌, refl, sym, ap, ◌∙◌, subst}
use mathlib.Core.List.{List, []}
use native.Mathlib.Omega.{arith}
use native.Mathlib.Nat.{zero-mul}
use borrow.Author.Count.{below_more}
use lib.ListN.{length, get_or, set, take, length-set}
use lib.Seq.{get_or-take, get_or-set_same, get_or-set_other, length-take-le}
use Rattle.layout.specs.Bytes.{Bytes}
use Rattle.layout.specs.Parser.{refuse, ok}
use Rattle.layout.specs.Tree.{Columns, cnil, ccons}
use Rattle.layout.specs.Layout.{label, columns as columns_of_of, type, deepest}
use Rattle.layout.specs.code.Answers.{label_res, LabelIn, moved_of}
use Rattle.layout.specs.code.Stands.{ColumnsAt}
use Rattle.layout.specs.Find.{Lookup, column_at}
use Rattle.layout.specs.code.Finding.{Finds}
use Rattle.layout.specs.declared.columns.Position.{Position}
use Rattle.layout.specs.declared.columns.Label.{Label as LabelSpan}
use Rattle.layout.specs.declared.columns.Labelled.{Labelled}
use Rattle.layout.specs.declared.columns.Siblings.TheVariants.{Free}
use Rattle.layout.specs.declared.cursor.Cursor.{Cursor}
use Rattle.layout.specs.declared.cursor.Moved.{Moved}
use Rattle.layout.specs.declared.find.Found.{Found}
use Rattle.layout.specs.declared.edition.Edition.{Edition}
use Rattle.layout.proofs.Ways.{clash, moved_to, moved_refused}
use Rattle.layout.proofs.View.{first-at, first-labelled, no_column}
use Rattle.nodes.proofs.Rows.{first-column, column-before}
use Rattle.index.specs.code.Indexed.{drop_columns, first_as, StartsAt, StartsBefore, Indexed}
use Rattle.index.proofs.Drop.{none_left, drop_more, find-drop, parts, next_multiple}

-- as many columns, under another name of their number and place
renamed : {v : Edition} {s : Bytes} {n m at to : ℕ} (P : ColumnsAt v deepest s n at) → n ≡ m → at ≡ to → columns_of_of v Free (type v Free deepest) m [] s
    to ≡ ok P.columns P.end
renamed {v} {s} {n} {m} {at} {to} P e g =
    sym (ap (λ (k : ℕ). columns_of_of v Free (type v Free deepest) k [] s at) e ∙ ap (λ (o : ℕ). columns_of_of v Free (type v Free deepest) m [] s o) g) ∙ P.reads

-- the first m, and those after them
record Split (v : Edition) (s : Bytes) (n at : ℕ) (P : ColumnsAt v deepest s n at) (m : ℕ) : Type 0 where
  pub front : ColumnsAt v deepest s m at
  pub back : ColumnsAt v deepest s (n - m) front.end
  pub is : back.columns ≡ drop_columns m P.columns

split : (m : ℕ) {v : Edition} {s : Bytes} {n at : ℕ} (P : ColumnsAt v deepest s n at) → m ≤ n → Split v s n at P m
unfolding columns_of_of drop_columns
split zero {v} {s} {n} {at} P h = record {
  front = record { columns = cnil; end = at; reads = refl };
  back = record { columns = P.columns; end = P.end; reads = renamed P (let e : n ≡ n - 0 = omega arith in e) refl };
  is = refl;
}
split (suc m) {v} {s} {n} {at} P h =
    let F = first-column v deepest s (n - 1) at _ _ (renamed P (let e : n ≡ suc (n - 1) = omega arith in e) refl) in
    let S = split m F.tail (omega arith) in
    record {
      front = record {
        columns = ccons F.label F.head.tree S.front.columns;
        end = S.front.end;
        reads = column-before v deepest s m at
            F.labelled F.head S.front;
      };
      back = record { columns = S.back.columns; end = S.back.end; reads = renamed S.back (let e : n - 1 - m ≡ n - suc m = omega arith in e) refl };
      is = S.is ∙ ap (drop_columns (suc m)) (sym F.is);
    }

-- ---- columns that were passed

module _ {v : Edition} {s : Bytes} {m at : ℕ} {r : Moved} (g : r ≡ moved_of (columns_of_of v Free (type v Free deepest) m [] s at)) {n : ℕ}
    (P : ColumnsAt v deepest s n at) (h : m ≤ n) where
  abbrev S : Split v s n at P m
  S = split m P h

  pub never_passed : {B : Type 0} {k : ℕ} → r ≡ Moved.Refused k → B
  never_passed {k = k} f =
      let z : refuse k ≡ ok S.front.columns S.front.end = sym (moved_refused (columns_of_of v Free (type v Free deepest) m [] s at) g f) ∙
      S.front.reads in
      clash (cc)

  module _ {c : Cursor} (f : r ≡ Moved.To c) where
    passed-end : S.front.end ≡ c.at
    passed-end =
        let t = moved_to (columns_of_of v Free (type v Free deepest) m [] s at) g f in
        let z : ok t.0 c.at ≡ ok S.front.columns S.front.end = sym t.1 ∙ S.front.reads in
        cc

    pub passed : StartsAt v s n at P m c.at
    passed = record {
      within = h;
      rest = record { columns = S.back.columns; end = S.back.end; reads = renamed S.back refl passed-end };
      is = S.is;
    }

-- columns that start after i others, and those after m more
further : {v : Edition} {s : Bytes} {n at : ℕ} {P : ColumnsAt v deepest s n at} {i o m e : ℕ} (T : StartsAt v s n at P i o) → StartsAt v s (n - i) o
    T.rest m e → StartsAt v s n at P (i + m) e
further {v} {s} {n} {at} {P} {i} {o} {m} {e} T U = record {
  within = let h = T.within in let k = U.within in omega arith;
  rest = record { columns = U.rest.columns; end = U.rest.end; reads = renamed U.rest (let e : n - i - m ≡ n - (i + m) = omega arith in e) refl };
  is = U.is ∙ ap (drop_columns m) T.is ∙ drop_more i m (i + m) P.columns refl;
}

-- ---- the column after m others

module _ {v : Edition} {s : Bytes} {m at : ℕ} {r : Moved} (g : r ≡ moved_of (columns_of_of v Free (type v Free deepest) m [] s at)) where
  pub after_stuck : (k : Position) {a : ℕ} → r ≡ Moved.Refused a → (n : ℕ) (P : ColumnsAt v deepest s n at) → m < n → Finds v deepest s
      (first_as k (drop_columns m P.columns)) Found.Absent
  after_stuck k f n P h = never_passed g P (omega arith) f

  module _ {c : Cursor} (f : r ≡ Moved.To c) {q : Labelled} (e : label_res s q ≡ label v s c.at) where
    pub after_unlabelled : (k : Position) {a : ℕ} → q ≡ Labelled.Refused a → (n : ℕ) (P : ColumnsAt v deepest s n at) → m < n → Finds v deepest s
        (first_as k (drop_columns m P.columns)) Found.Absent
    after_unlabelled k j n P h = first-labelled (passed g P (omega arith) f).rest (λ z. omega arith) e j

    pub after-found : (k : Position) {l : LabelSpan} {b : Cursor} → LabelIn s q → q ≡ Labelled.Is l b
        → (n : ℕ) (P : ColumnsAt v deepest s n at) → m < n → Finds v deepest s (first_as k (drop_columns m P.columns)) (Found.At k l b)
    unfolding first_as
    after-found k {l} {b} inn j n P h =
        let T = passed g P (omega arith) f in
        let F = first-at T.rest (λ z. omega arith) e j in
        subst (λ (cs : Columns). Finds v deepest s (first_as k cs) (Found.At k l b)) (sym F.is ∙ T.is)
        (record { span = l; start = b; end = F.head.end; is = refl; label = refl; inside = rw j at inn; reads = F.head.reads })

-- ---- the column at a position

module _ {v : Edition} {s : Bytes} {n at : ℕ} (P : ColumnsAt v deepest s n at) (k : Position) where
  pub past-last : n ≤ k.0 → Finds v deepest s (column_at k P.columns) Found.Absent
  unfolding first_as drop_columns
  past-last h =
      let S = split n P (omega arith) in
      let e = no_column S.back (let z : n - n ≡ 0 = omega arith in z) in
      let z : drop_columns k.0 P.columns ≡ cnil = sym (drop_more n (k.0 - n) k.0 P.columns (omega arith)) ∙ ap (drop_columns (k.0 - n))
      (sym S.is ∙ e.0) ∙ none_left (k.0 - n) in
      subst (λ (x : Lookup). Finds v deepest s x Found.Absent) (sym (find-drop k.0 0 k.0 P.columns (omega arith) ∙ ap (first_as k) z)) refl

  -- from the first column on
  pub from_first : (r : Found) → Finds v deepest s (first_as k (drop_columns k.0 P.columns)) r → Finds v deepest s (column_at k P.columns) r
  from_first r h = subst (λ (x : Lookup). Finds v deepest s x r) (sym (find-drop k.0 0 k.0 P.columns (omega arith))) h

  -- from a column at or before it on
  pub from_start : (r : Found) {m left : ℕ} → StartsBefore v s n at P k.0 m left → k.0 < n
      → ((a : ℕ) (Q : ColumnsAt v deepest s a m) → left < a → Finds v deepest s (first_as k (drop_columns left Q.columns)) r)
      → Finds v deepest s (column_at k P.columns) r
  from_start r {left = left} B h f =
      let T = B.starts in
      let d = B.counted in
      from_first r (subst (λ (cs : Columns). Finds v deepest s (first_as k cs) r)
      (ap (drop_columns left) T.is ∙ drop_more B.from left k.0 P.columns d)
      (f _ T.rest (omega arith)))

-- the first column stands where the columns begin
pub first-starts : {v : Edition} {s : Bytes} {n at : ℕ} (P : ColumnsAt v deepest s n at) → StartsAt v s n at P 0 at
unfolding drop_columns
first-starts {n = n} P = record {
  within = omega arith;
  rest = record { columns = P.columns; end = P.end; reads = renamed P (let e : n ≡ n - 0 = omega arith in e) refl };
  is = refl;
}

-- before column k: the first column, or the last entry that is not behind it
module _ {v : Edition} {s : Bytes} {n at : ℕ} (P : ColumnsAt v deepest s n at) (k : ℕ) where
  pub before-first : StartsBefore v s n at P k at k
  before-first = record { from = 0; counted = omega arith; starts = first-starts P }

  pub before-entry : {stride : ℕ} {index : List ℕ} {j o left : ℕ} → Indexed v s n at stride index → j ≡ k / stride → j < length index → o ≡ get_or index j 0
      → left ≡ k % stride → StartsBefore v s n at P k o left
  before-entry {stride} {j = j} I q lt g l = record {
    from = j * stride;
    counted = parts k stride q ∙ ap (λ (m : ℕ). j * stride + m) (sym l);
    starts = subst (λ (m : ℕ). StartsAt v s n at P (j * stride) m) (sym g) (I.starts P j lt);
  }

-- ---- the entries of a table

-- after j entries column i, which stands at `at`, is the next
pub record Filling (v : Edition) (s : Bytes) (n from stride at i j : ℕ) (starts : List ℕ) : Type 0 where
  pub within : i ≤ n
  pub counted : i ≡ j * stride
  pub room : j ≤ length starts
  pub here : (P : ColumnsAt v deepest s n from) → StartsAt v s n from P i at
  pub filled : (P : ColumnsAt v deepest s n from) (e : ℕ) → e < j → StartsAt v s n from P (e * stride) (get_or starts e 0)

module _ {v : Edition} {s : Bytes} {n from stride : ℕ} where
  pub filling_start : (starts : List ℕ) → Filling v s n from stride from 0 0 starts
  unfolding drop_columns
  filling_start starts = record {
    within = omega arith;
    counted = sym (zero-mul stride);
    room = omega arith;
    here = λ P. first-starts P;
    filled = λ P e h. absurd (omega arith);
  }

  -- j entries of a table, by what the entries are
  table : (starts : List ℕ) (j : ℕ) → j ≤ length starts
      → ((P : ColumnsAt v deepest s n from) (e : ℕ) → e < j → StartsAt v s n from P (e * stride) (get_or starts e 0))
      → Indexed v s n from stride (take j starts)
  table starts j l f = record {
    starts = λ P e h.
        let z : length (take j starts) ≡ j = length-take-le j starts l in
        let lt : e < j = omega arith in
        subst (λ (o : ℕ). StartsAt v s n from P (e * stride) o) (sym (get_or-take j starts e 0 lt)) (f P e lt);
  }

  module _ {at i j : ℕ} {starts : List ℕ} (a : Filling v s n from stride at i j starts) where
    pub filling_end : Indexed v s n from stride (take j starts)
    filling_end = table starts j a.room a.filled

    module _ (lt : j < length starts) where
      stored : (P : ColumnsAt v deepest s n from) (e : ℕ) → e < j + 1 → StartsAt v s n from P (e * stride) (get_or (set starts j at) e 0)
      stored P =
          below_more (λ e. StartsAt v s n from P (e * stride) (get_or (set starts j at) e 0)) j
          (λ e h. subst (λ (o : ℕ). StartsAt v s n from P (e * stride) o) (sym (get_or-set_other starts j e at 0 (λ z. omega arith))) (a.filled P e h))
          (subst (λ (k : ℕ). StartsAt v s n from P k (get_or (set starts j at) j 0)) a.counted
          (subst (λ (o : ℕ). StartsAt v s n from P i o) (sym (get_or-set_same starts j at 0 lt)) (a.here P)))

      pub filling-room : j + 1 ≤ length (set starts j at)
      filling-room = let e = length-set starts j at in omega arith

      pub filling-last : Indexed v s n from stride (take (j + 1) (set starts j at))
      filling-last = table (set starts j at) (j + 1) filling-room stored

      pub filling-more : stride < n - i → {r : Moved} {c : Cursor} → r ≡ moved_of (columns_of_of v Free (type v Free deepest) stride [] s at) → r ≡ Moved.To c
          → Filling v s n from stride c.at (i + stride) (j + 1) (set starts j at)
      filling-more h g f = record {
        within = omega arith;
        counted = next_multiple j stride a.counted;
        room = filling-room;
        here = λ P. further (a.here P) (passed g (a.here P).rest (omega arith) f);
        filled = stored;
      }
