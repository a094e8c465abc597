-- The invariant of the field matcher's loop, as what is still to be done: the whole answer is the answer so far joined
-- to that of the fields that are left, and whatever writes those writes the whole. Assumes nothing.
use Prim.Native.Nat.{ℕ, ◌+◌, ◌-◌, ◌*◌, ◌<◌, ◌≤◌}
use mathlib.Core.Path.{◌≡◌, refl, sym, ap, ◌∙◌, subst}
use mathlib.Core.Bool.{Bool, true, false, ◌&&◌}
use mathlib.Core.List.{List, []}
use native.Mathlib.Omega.{arith}
use native.Mathlib.Nat.{zero-add, add-zero, add_assoc}
use lib.ListN.{length, take}
use Rattle.store.specs.code.Overlay.{overlay}
use Rattle.store.proofs.Holds.{holds_exact}
use Rattle.layout.specs.Bytes.{Bytes}
use Rattle.layout.specs.Tree.{Columns, cnil}
use Rattle.layout.specs.Layout.{label, columns, type}
use Rattle.layout.specs.code.Answers.{label_res, label_at, LabelIn, SpanIn}
use Rattle.layout.specs.code.Stands.{ColumnsAt}
use Rattle.layout.specs.declared.columns.Label.{Label as LabelSpan}
use Rattle.layout.specs.declared.columns.Labelled.{Labelled}
use Rattle.layout.specs.declared.columns.Siblings.TheVariants.{Free}
use Rattle.layout.specs.declared.cursor.Cursor.{Cursor}
use Rattle.layout.specs.declared.edition.Edition.{Edition}
use Rattle.layout.specs.declared.matching.Matching.{Matching}
use Rattle.layout.proofs.Ways.{clash, label_in}
use Rattle.layout.proofs.View.{FirstAt, first-at, first-labelled, no_column, same-columns, label_got}
use Rattle.labels.specs.code.LabelTable.{Table}
use Rattle.forms.specs.Form.{text_bytes}
use Rattle.forms.proofs.Read.{label-ends}
use Rattle.forms.proofs.Writing.{span-long}
use Rattle.rules.specs.declared.policy.Policy.{Policy}
use Rattle.plan.specs.Result.{Result}
use Rattle.plan.specs.Selector.{Selectors}
use Rattle.plan.specs.Encode.{encode_selectors}
use Rattle.matching.specs.Build.{in_place_of, inserts, attach_fields}
use Rattle.builder.specs.code.Answers.{row_of, is_refused, is_bare, len_of, failed_of, join_row, WroteRow, Makes, MakesRow, DefaultsAt, defaults_at, attach_field}
use Rattle.builder.specs.declared.answer.Made.{Made}
use Rattle.builder.specs.declared.answer.Made.TheVariants.{Refused, Bare, Built}
use Rattle.builder.specs.declared.answer.Row.{Row}
use Rattle.builder.specs.declared.answer.Row.TheVariants.{Failed, Done}
use Rattle.defaults.specs.declared.lookup.DefaultFieldValues.{DefaultFieldValues}
use Rattle.builder.proofs.Rows.{before, makes-room, row_stop, row_more, row-wrote-stopped, row_wrote}

-- ---- answers one behind the other

join-none : {n : ℕ} (r : Row) → n ≡ 0 → r ≡ join_row true n r
join-none (Failed e) h = refl
join-none (Done s l) h = rw (h, zero-add)

and_assoc : (a b c : Bool) → (a && (b && c)) ≡ ((a && b) && c)
and_assoc true b c = refl
and_assoc false b c = refl

and-true : (a : Bool) → (a && true) ≡ a
and-true true = refl
and-true false = refl

join-join : (a b : Bool) (m n : ℕ) (r : Row) → join_row a m (join_row b n r) ≡ join_row (a && b) (m + n) r
join-join a b m n (Failed e) = refl
join-join a b m n (Done s l) = rw (and_assoc a b s, add_assoc m n l)

join-failed : (a : Bool) (n : ℕ) (r : Made) → is_refused r ≡ true → join_row a n (failed_of r) ≡ failed_of r
join-failed a n (Refused e) h = refl
join-failed a n (Bare p) h = clash (cc)
join-failed a n (Built l) h = clash (cc)

-- the same stores under other names of the fields, of their ends and of the index
row_moved : {b b' e e' : ℕ} (out : Bytes) {k k' : ℕ} {X Y : Result Selectors} (o : Bytes) → b ≡ b' → e ≡ e' → k ≡ k' → X ≡ Y → WroteRow b e out k X o →
    WroteRow b' e' out k' Y o
row_moved out o p q r s w = rw (← p, ← q, ← r, ← s) w

-- ---- the table of the incoming columns

-- after a call that left the front of the arena as it was
pub table_still : {v : Edition} {how : Matching} {d : ℕ} {s : Bytes} {n at k : ℕ} (xs ys : List ℕ) → take k ys ≡ take k xs
    → (0 < k → Table v how d s n at (take k xs)) → 0 < k → Table v how d s n at (take k ys)
table_still {v} {how} {d} {s} {n} {at} xs ys e T lt = subst (λ (l : List ℕ). Table v how d s n at l) (sym e) (T lt)

-- ---- the loop

pub record Remaining (p : Policy) (how : Matching) (v w : Edition) (d : ℕ) (incoming : Bytes) (n at : ℕ) (table : Bytes) (dv : DefaultFieldValues)
    (target : Bytes) (m bt : ℕ) (out₀ : Bytes) (k : ℕ) (out : Bytes) (from index to : ℕ) (same : Bool) : Type 0 where
  pub after : k ≤ to
  pub room : to ≤ 65536 * from
  pub few : index ≤ m
  pub kept : length out ≡ length out₀
  pub rest : ColumnsAt w d target (m - index) from
  pub answer : (T : DefaultsAt table dv) (P : ColumnsAt v d incoming n at) (Q : ColumnsAt w d target m bt)
      → row_of 0 (attach_fields how p (defaults_at dv T) Q.columns P.columns) ≡ join_row same (to - k)
      (row_of index (attach_fields how p (defaults_at dv T) rest.columns P.columns))
  pub stores : (T : DefaultsAt table dv) (P : ColumnsAt v d incoming n at) (Q : ColumnsAt w d target m bt) (o : Bytes)
      → WroteRow from rest.end out to (attach_fields how p (defaults_at dv T) rest.columns P.columns) o → WroteRow bt Q.end out₀ k
      (attach_fields how p (defaults_at dv T) Q.columns P.columns) o

module _ {p : Policy} {how : Matching} {v w : Edition} {d : ℕ} {incoming : Bytes} {n at : ℕ} {table : Bytes} {dv : DefaultFieldValues} {target : Bytes}
    {m bt : ℕ} {out₀ : Bytes} {k : ℕ} where
  pub remaining_all : ColumnsAt w d target m bt → k ≤ 65536 * bt → Remaining p how v w d incoming n at table dv target m bt out₀ k out₀ bt 0 k true
  remaining_all G h =
      let e : m ≡ m - 0 = omega arith in
      record {
        after = omega arith;
        room = h;
        few = omega arith;
        kept = refl;
        rest = record { columns = G.columns; end = G.end; reads = ap (λ (i : ℕ). columns w Free (type w Free d) i [] target bt) (sym e) ∙ G.reads };
        answer = λ T P Q. ap (λ (cs : Columns). row_of 0 (attach_fields how p (defaults_at dv T) cs P.columns)) (same-columns Q G).0 ∙ join-none _
            (omega arith);
        stores = λ T P Q o x. row_moved out₀ o refl (same-columns G Q).1 refl (ap
            (λ (cs : Columns). attach_fields how p (defaults_at dv T) cs P.columns) (same-columns G Q).0) x;
      }

  module _ {out : Bytes} {from index to : ℕ} {same : Bool} (R : Remaining p how v w d incoming n at table dv target m bt out₀ k out from index to same) where
    -- no field is left
    pub remaining_none : m ≤ index → (T : DefaultsAt table dv) (P : ColumnsAt v d incoming n at) (Q : ColumnsAt w d target m bt)
        → MakesRow bt Q.end out₀ k (attach_fields how p (defaults_at dv T) Q.columns P.columns) (Done same (to - k)) out
    unfolding attach_fields row_of WroteRow encode_selectors in_place_of overlay
    remaining_none h T P Q =
        let (z, y) = no_column R.rest (let q : m - index ≡ 0 = omega arith in q) in
        let here : row_of index (attach_fields how p (defaults_at dv T) R.rest.columns P.columns) ≡ Done true 0 = ap
        (λ (cs : Columns). row_of index (attach_fields how p (defaults_at dv T) cs P.columns)) z in
        let whole : join_row same (to - k) (Done true 0) ≡ Done same (to - k) = rw (and-true same, add-zero) in
        let stored : WroteRow from from out to (attach_fields how p (defaults_at dv T) cnil P.columns) out = (holds_exact out to [] refl, omega arith) in
        record {
          answer = sym (R.answer T P Q ∙ ap (join_row same (to - k)) here ∙ whole);
          wrote = R.stores T P Q out (row_moved out out refl (sym y) refl (ap (λ (cs : Columns). attach_fields how p (defaults_at dv T) cs P.columns)
              (sym z)) stored);
        }

    -- a field that stands there has a label
    pub remaining_unlabelled : {B : Type 0} → index < m → {q : Labelled} {x : ℕ} → label_res target q ≡ label w target from → q ≡ Labelled.Refused x → B
    remaining_unlabelled lt e f = first-labelled R.rest (λ z. omega arith) e f

    module _ (lt : index < m) {q : Labelled} {l : LabelSpan} {c : Cursor} (e : label_res target q ≡ label w target from) (f : q ≡ Labelled.Is l c) where
      -- the next field's type
      pub field : FirstAt w d target (m - index) from R.rest (label_at target l) c.at
      field = first-at R.rest (λ z. omega arith) e f

      pub field-name : LabelIn target q → SpanIn target l.name × (l.name.len ≤ 63)
      field-name g =
          let h = label_in target g f in
          let (a, (b, (x, y))) = label-ends target w from (label_got target e f) in
          let z = span-long target l.name h in
          (h, omega arith)

      pub field-after : from < c.at
      unfolding text_bytes
      field-after = let (a, (b, x)) = label-ends target w from (label_got target e f) in omega (arith, b)

      module _ {i : Bool} (hi : i ≡ inserts p.missing_struct_fields) {r : Made} (o : Bytes)
          (E : (T : DefaultsAt table dv) (P : ColumnsAt v d incoming n at) → Makes from field.head.end out to
          (attach_field how p (defaults_at dv T) i 14 (label_at target l) field.head.tree P.columns) r o) where
        first_made : (T : DefaultsAt table dv) (P : ColumnsAt v d incoming n at)
            → Makes from field.head.end out to (attach_field how p (defaults_at dv T) (inserts p.missing_struct_fields) 14 (label_at target l)
            field.head.tree P.columns) r o
        first_made T P = subst (λ (b : Bool). Makes from field.head.end out to
            (attach_field how p (defaults_at dv T) b 14 (label_at target l) field.head.tree P.columns) r o) hi (E T P)

        rest-is : (T : DefaultsAt table dv) (P : ColumnsAt v d incoming n at)
            → attach_fields how p (defaults_at dv T) R.rest.columns P.columns
            ≡ before (attach_field how p (defaults_at dv T) (inserts p.missing_struct_fields) 14 (label_at target l) field.head.tree P.columns)
            (attach_fields how p (defaults_at dv T) field.tail.columns P.columns)
        unfolding attach_fields
        rest-is T P = ap (λ (cs : Columns). attach_fields how p (defaults_at dv T) cs P.columns) field.is

        -- it is refused
        pub remaining-stop : {row : Row} → row ≡ failed_of r → is_refused r ≡ true → (T : DefaultsAt table dv) (P : ColumnsAt v d incoming n at)
            (Q : ColumnsAt w d target m bt)
            → MakesRow bt Q.end out₀ k (attach_fields how p (defaults_at dv T) Q.columns P.columns) row o
        remaining-stop g h T P Q =
            let A = first_made T P in
            let here : row_of index (attach_fields how p (defaults_at dv T) R.rest.columns P.columns) ≡ failed_of r =
            ap (row_of index) (rest-is T P) ∙ sym (row_stop index _ (attach_fields how p (defaults_at dv T) field.tail.columns P.columns) A.answer h) in
            record {
              answer = g ∙ sym (R.answer T P Q ∙ ap (join_row same (to - k)) here ∙ join-failed same (to - k) r h);
              wrote = R.stores T P Q o (row_moved out o refl refl refl (sym (rest-is T P))
                  (row-wrote-stopped _ (attach_fields how p (defaults_at dv T) field.tail.columns P.columns) from R.rest.end out to o A h));
            }

        -- the index behind it
        pub remaining-room : is_refused r ≡ false → DefaultsAt table dv → ColumnsAt v d incoming n at → to + len_of r ≤ 65536 * field.head.end
        remaining-room h T P = let a = makes-room _ (first_made T P) h in let b = R.room in omega arith

        -- those after it
        pub remaining-more : {e' len : ℕ} {b : Bool} → is_refused r ≡ false → DefaultsAt table dv → ColumnsAt v d incoming n at → length o ≡ length out →
            e' ≡ field.head.end → len ≡ len_of r
            → b ≡ (same && is_bare index r) → Remaining p how v w d incoming n at table dv target m bt out₀ k o e' (index + 1) (to + len) b
        remaining-more {e'} {len} {b} h T₀ P₀ lo he hl hb =
            let a = R.after in
            let z = remaining-room h T₀ P₀ in
            let fewer : m - index - 1 ≡ m - (index + 1) = omega arith in
            let dist : to - k + len_of r ≡ to + len - k = omega arith in
            let here : (T : DefaultsAt table dv) (P : ColumnsAt v d incoming n at) → row_of index
            (attach_fields how p (defaults_at dv T) R.rest.columns P.columns) ≡ join_row (is_bare index r) (len_of r)
            (row_of (index + 1) (attach_fields how p (defaults_at dv T) field.tail.columns P.columns)) =
            λ T P. ap (row_of index) (rest-is T P) ∙ row_more index _ (attach_fields how p (defaults_at dv T) field.tail.columns P.columns)
            (first_made T P).answer h in
            record {
              after = omega arith;
              room = omega arith;
              few = omega arith;
              kept = lo ∙ R.kept;
              rest = record {
                columns = field.tail.columns;
                end = field.tail.end;
                reads = ap (λ (j : ℕ). columns w Free (type w Free d) j [] target e') (sym fewer) ∙ ap
                    (λ (j : ℕ). columns w Free (type w Free d) (m - index - 1) [] target j) he ∙ field.tail.reads;
              };
              answer = λ T P Q. R.answer T P Q ∙ ap (join_row same (to - k)) (here T P) ∙ join-join same (is_bare index r) (to - k) (len_of r)
                  (row_of (index + 1) (attach_fields how p (defaults_at dv T) field.tail.columns P.columns))
                  ∙ ap (λ (x : ℕ). join_row (same && is_bare index r) x (row_of (index + 1)
                  (attach_fields how p (defaults_at dv T) field.tail.columns P.columns))) dist
                  ∙ ap (λ (x : Bool). join_row x (to + len - k) (row_of (index + 1)
                  (attach_fields how p (defaults_at dv T) field.tail.columns P.columns))) (sym hb);
              stores = λ T P Q o' x. R.stores T P Q o' (row_moved out o' refl field.ends refl (sym (rest-is T P))
                  (row_wrote _ (attach_fields how p (defaults_at dv T) field.tail.columns P.columns) field.tail.end o' (first_made T P) h lo
                  (row_moved o o' he refl (ap (λ (j : ℕ). to + j) hl) refl x)));
            }
