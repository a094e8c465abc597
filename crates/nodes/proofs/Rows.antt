-- Columns and their values from the first, and those after some; elements after some. Assumes nothing.
use Prim.Native.Nat.{ℕ, zero, suc, ◌-◌, ◌≤◌, ◌<◌}
use mathlib.Core.Path.{◌≡◌, refl, sym, ap, ◌∙◌}
use mathlib.Core.List.{[], ◌∷◌, ◌++◌}
use mathlib.Core.Bool.{Bool, true, false, not}
use native.Mathlib.Omega.{arith}
use Rattle.layout.specs.Bytes.{Bytes}
use Rattle.layout.specs.Parser.{ok, next, choose, test}
use Rattle.layout.specs.Tree.{Label, DataType, Fields, Columns, cnil, ccons, dtype_of, fields_of}
use Rattle.layout.specs.Layout.{label as label_of, columns as columns_of_of, type as type_of, deepest, repeats_any}
use Rattle.layout.specs.code.Stands.{TypeAt, ColumnsAt}
use Rattle.layout.specs.declared.edition.Edition.{Edition}
use Rattle.layout.specs.declared.columns.Siblings.TheVariants.{Free}
use Rattle.layout.proofs.Ways.{clash}
use Rattle.layout.proofs.View.{next-ok, no_column, columns-any}
use Rattle.values.specs.Value.{vnull, Values, vnil, vcons, count_values}
use Rattle.values.specs.Reading.{value, values as values_of, times}
use Rattle.values.specs.code.Stands.{ValueAt, ValuesAt, EachAt}
use Rattle.values.proofs.Inside.{first-value, no_value, first-each, no_each}
use Rattle.plan.specs.Run.{value_at}
use Rattle.nodes.specs.code.Raw.{RawAt, RowAt}

-- ---- columns

-- a test that passed moves nothing
tested : (b : Bool) (s : Bytes) {j : ℕ} {u : Unit {0}} {o : ℕ} → test b 5 s j ≡ ok u o → j ≡ o
unfolding choose
tested true s e = cc
tested false s e = clash (cc)

-- the first column
pub record First (v : Edition) (d : ℕ) (s : Bytes) (n at : ℕ) (cs : Columns) (end : ℕ) : Type 0 where
  pub label : Label
  pub start : ℕ
  pub labelled : label_of v s at ≡ ok label start
  pub head : TypeAt v d s start
  pub tail : ColumnsAt v d s n head.end
  pub is : cs ≡ ccons label head.tree tail.columns
  pub ends : tail.end ≡ end

pub first-column : (v : Edition) (d : ℕ) (s : Bytes) (n at : ℕ) (cs : Columns) (end : ℕ) → columns_of_of v Free (type_of v Free d) (suc n) [] s at ≡ ok cs
    end → First v d s n at cs end
unfolding columns_of_of
first-column v d s n at cs end e =
    let (m, i, h₁, g₁) = next-ok _ _ e in
    let (t, j, h₂, g₂) = next-ok _ _ g₁ in
    let (u, o, h₃, g₃) = next-ok (test (not (repeats_any Free m [])) 5 s j) _ g₂ in
    let (ds, b, h₄, g₄) = next-ok _ _ g₃ in
    let w : j ≡ o = tested (not (repeats_any Free m [])) s h₃ in
    record {
      label = m;
      start = i;
      labelled = h₁;
      head = record { tree = t; end = j; reads = h₂ };
      tail = record {
        columns = ds;
        end = b;
        reads = columns-any v (type_of v Free d) n [] ([] ++ (m ∷ [])) s j ∙ ap
            (λ (b : ℕ). columns_of_of v Free (type_of v Free d) n ([] ++ (m ∷ [])) s b) w ∙ h₄;
      };
      is = cc;
      ends = cc;
    }

-- a column before others
pub column-before : (v : Edition) (d : ℕ) (s : Bytes) (n at : ℕ) {l : Label} {m : ℕ} → label_of v s at ≡ ok l m → (H : TypeAt v d s m)
    (T : ColumnsAt v d s n H.end)
    → columns_of_of v Free (type_of v Free d) (suc n) [] s at ≡ ok (ccons l H.tree T.columns) T.end
unfolding columns_of_of next choose repeats_any
column-before v d s n at {l} e H T = rw (e, H.reads, columns-any v (type_of v Free d) n ([] ++ (l ∷ [])) [] s H.end, T.reads)

pub value_before : (l : Label) (cs : Columns) {v : Edition} {d : ℕ} {s : Bytes} {m : ℕ} (H : TypeAt v d s m) (rec : Bytes) (c : ℕ)
    (X : ValueAt (dtype_of H.tree) rec c) (Y : ValuesAt (fields_of cs) rec X.end)
    → values_of (fields_of (ccons l H.tree cs)) rec c ≡ ok (vcons X.tree Y.values) Y.end
unfolding fields_of values_of value next
value_before l cs H rec c X Y = rw (X.reads, Y.reads)

-- ---- columns and their values

-- the first of them
pub record FirstOf (v : Edition) (lay : Bytes) (n t : ℕ) (rec : Bytes) (c : ℕ) (X : RowAt v lay n t rec c) : Type 0 where
  pub label : Label
  pub start : ℕ
  pub labelled : label_of v lay t ≡ ok label start
  pub head : RawAt v lay start rec c
  pub tail : RowAt v lay (n - 1) head.type.end rec head.value.end
  pub is : X.values.values ≡ vcons head.value.tree tail.values.values

values_as : {fs gs : Fields} {s : Bytes} {at : ℕ} → fs ≡ gs → ValuesAt fs s at → ValuesAt gs s at
values_as {s = s} {at = at} e P = record { values = P.values; end = P.end; reads = ap (λ (f : Fields). values_of f s at) (sym e) ∙ P.reads }

pub first_of_lem : {v : Edition} {lay : Bytes} {n t : ℕ} {rec : Bytes} {c : ℕ} (X : RowAt v lay n t rec c) → (n ≡ 0 → ⊥) → FirstOf v lay n t rec c X
unfolding fields_of values_as
first_of_lem {v} {lay} {n} {t} {rec} {c} X h =
    let e : suc (n - 1) ≡ n = omega arith in
    let F = first-column v deepest lay (n - 1) t _ _ (ap (λ (k : ℕ). columns_of_of v Free (type_of v Free deepest) k [] lay t) e ∙ X.columns.reads) in
    let G = first-value (values_as (ap fields_of F.is) X.values) in
    record {
      label = F.label;
      start = F.start;
      labelled = F.labelled;
      head = record { type = F.head; value = G.head };
      tail = record { columns = F.tail; values = G.tail };
      is = G.is;
    }

-- the first k, and those after them
pub record SplitOf (v : Edition) (lay : Bytes) (n t : ℕ) (rec : Bytes) (c : ℕ) (X : RowAt v lay n t rec c) (k : ℕ) : Type 0 where
  pub front : RowAt v lay k t rec c
  pub back : RowAt v lay (n - k) front.columns.end rec front.values.end
  pub is : value_at X.values.values k ≡ value_at back.values.values 0

unfoldable pub split_of : (k : ℕ) {v : Edition} {lay : Bytes} {n t : ℕ} {rec : Bytes} {c : ℕ} (X : RowAt v lay n t rec c) → k ≤ n → SplitOf v lay n t rec c X k
unfolding columns_of_of values_of fields_of value_at
split_of zero {v} {lay} {n} {t} {rec} {c} X h =
    record {
      front = record { columns = record { columns = cnil; end = t; reads = refl }; values = record { values = vnil; end = c; reads = refl } };
      back = record {
        columns = record {
          columns = X.columns.columns;
          end = X.columns.end;
          reads = ap
              (λ (k : ℕ). columns_of_of v Free (type_of v Free deepest) k [] lay t) (let e : n - 0 ≡ n = omega arith in e) ∙ X.columns.reads;
        };
        values = X.values;
      };
      is = refl;
    }
split_of (suc k) {v} {lay} {n} {t} {rec} {c} X h =
    let F = first_of_lem X (λ z. omega arith) in
    let S = split_of k F.tail (omega arith) in
    let C = S.front.columns in
    let B = S.back in
    record {
      front = record {
        columns = record {
          columns = ccons F.label F.head.type.tree C.columns;
          end = C.end;
          reads = column-before v deepest lay k t
              F.labelled F.head.type C;
        };
        values = record {
          values = vcons F.head.value.tree S.front.values.values;
          end = S.front.values.end;
          reads = value_before F.label
              C.columns F.head.type rec c F.head.value S.front.values;
        };
      };
      back = record {
        columns = record {
          columns = B.columns.columns;
          end = B.columns.end;
          reads = ap (λ (i : ℕ). columns_of_of v Free (type_of v Free deepest) i [] lay C.end) (let e : n - suc k ≡ n - 1 - k = omega arith in e) ∙
              B.columns.reads;
        };
        values = B.values;
      };
      is = ap (λ (vs : Values). value_at vs (suc k)) F.is ∙ S.is;
    }

-- as many values as columns
count-from : (m : ℕ) {v : Edition} {lay : Bytes} {n t : ℕ} {rec : Bytes} {c : ℕ} (X : RowAt v lay n t rec c) → n ≡ m → count_values X.values.values ≡ m
unfolding fields_of count_values values_as
count-from zero X h =
    let e = no_column X.columns h in
    ap count_values (no_value (values_as (ap fields_of e.0) X.values)).0
count-from (suc m) X h =
    let F = first_of_lem X (λ z. omega arith) in
    ap count_values F.is ∙ ap suc (count-from m F.tail (omega arith))

pub count-row : {v : Edition} {lay : Bytes} {n t : ℕ} {rec : Bytes} {c : ℕ} (X : RowAt v lay n t rec c) → count_values X.values.values ≡ n
count-row {n = n} X = count-from n X refl

-- past the last there is none
pub past-values : (vs : Values) (k : ℕ) → count_values vs ≤ k → value_at vs k ≡ vnull
unfolding count_values value_at
past-values vnil k h = refl
past-values (vcons v vs) zero h = absurd (omega arith)
past-values (vcons v vs) (suc k) h = past-values vs k (omega arith)

-- ---- elements

pub record ElementOf (t : DataType) (n : ℕ) (s : Bytes) (at : ℕ) (P : EachAt t n s at) (k : ℕ) : Type 0 where
  pub front : EachAt t k s at
  pub element : ValueAt t s front.end
  pub is : value_at P.values k ≡ element.tree

pub element_of_lem : (k : ℕ) {t : DataType} {n : ℕ} {s : Bytes} {at : ℕ} (P : EachAt t n s at) → k < n → ElementOf t n s at P k
unfolding times value_at next
element_of_lem zero {t} {n} {s} {at} P h =
    let F = first-each P (λ z. omega arith) in
    record { front = record { values = vnil; end = at; reads = refl }; element = F.head; is = ap (λ (vs : Values). value_at vs zero) F.is }
element_of_lem (suc k) {t} {n} {s} {at} P h =
    let F = first-each P (λ z. omega arith) in
    let E = element_of_lem k F.tail (omega arith) in
    record {
      front = record { values = vcons F.head.tree E.front.values; end = E.front.end; reads = rw (F.head.reads, E.front.reads) };
      element = E.element;
      is = ap (λ (vs : Values). value_at vs (suc k)) F.is ∙ E.is;
    }

each_from : (m : ℕ) {t : DataType} {n : ℕ} {s : Bytes} {at : ℕ} (P : EachAt t n s at) → n ≡ m → count_values P.values ≡ m
unfolding count_values
each_from zero P h = ap count_values (no_each P h).0
each_from (suc m) P h =
    let F = first-each P (λ z. omega arith) in
    ap count_values F.is ∙ ap suc (each_from m F.tail (omega arith))

pub count-each : {t : DataType} {n : ℕ} {s : Bytes} {at : ℕ} (P : EachAt t n s at) → count_values P.values ≡ n
count-each {n = n} P = each_from n P refl
