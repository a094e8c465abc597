-- The loop over a struct's fields that writes their defaults, and the constant around a default. Assumes nothing.
use Prim.Native.Nat.{ℕ, ◌+◌, ◌-◌, ◌*◌, ◌^◌, ◌≤◌, ◌<◌}
use mathlib.Core.Path.{◌≡◌, refl, sym, ap, ◌∙◌, subst}
use mathlib.Core.Bool.{Bool, true, false, not, ◌||◌, ◌&&◌}
use mathlib.Core.List.{[], ◌∷◌, ◌++◌, append_assoc}
use native.Mathlib.Omega.{arith}
use native.Mathlib.Nat.{zero-add, add-zero, add_assoc}
use lib.ListN.{length, length-append}
use Rattle.store.specs.code.Overlay.{overlay, Holds}
use Rattle.store.proofs.Holds.{holds_exact, holds-append}
use Rattle.layout.specs.Bytes.{Bytes}
use Rattle.layout.specs.Parser.{ok}
use Rattle.layout.specs.Tree.{Label, ColumnType, Columns, cnil, ccons, DataType, dtype_of}
use Rattle.layout.specs.Layout.{label, columns, type}
use Rattle.layout.specs.code.Answers.{label_res, label_at, span_at, SpanIn}
use Rattle.layout.specs.code.Stands.{TypeAt, ColumnsAt}
use Rattle.layout.specs.declared.bytes.Span.{Span}
use Rattle.layout.specs.declared.columns.Label.{Label as LabelSpan}
use Rattle.layout.specs.declared.columns.Labelled.{Labelled}
use Rattle.layout.specs.declared.columns.Siblings.TheVariants.{Free}
use Rattle.layout.specs.declared.cursor.Cursor.{Cursor}
use Rattle.layout.specs.declared.edition.Edition.{Edition}
use Rattle.layout.proofs.Ways.{clash}
use Rattle.layout.proofs.View.{label_got, same-columns, no_column, FirstAt, first-at, first-labelled}
use Rattle.forms.specs.Form.{text_bytes, form}
use Rattle.forms.proofs.Read.{label-ends}
use Rattle.forms.proofs.Writing.{extent, text-long}
use Rattle.values.specs.Value.{Value, vnull}
use Rattle.values.specs.Encode.{encode_value, encode_values}
use Rattle.plan.specs.Result.{Result, gives, refuses, ◌>>=◌, demand}
use Rattle.plan.specs.Nullness.{required, top_of, of_value}
use Rattle.plan.specs.Marks.{meets_all}
use Rattle.plan.specs.Selector.{Selector, constant}
use Rattle.plan.specs.Encode.{encode_selector}
use Rattle.matching.specs.Default.{Defaults, Default, none, some, or_null, FieldDefaults, build_iceberg_default_value, defaults_of, missing_value}
use Rattle.matching.specs.Build.{fills_required, missing}
use Rattle.builder.specs.code.Answers.{made_of, Wrote, Makes, filled_in_of, fills_made, default_made, defaults_made, is_default_refused, is_some_made, value_len}
use Rattle.builder.specs.code.Answers.{failed_default, join_defaults, constant_made, constant_head, WroteDefault, WroteDefaults, MakesDefault, MakesDefaults}
use Rattle.builder.specs.declared.answer.Made.{Made}
use Rattle.builder.specs.declared.default.DefaultMade.{DefaultMade}
use Rattle.builder.specs.declared.default.DefaultsMade.{DefaultsMade}
use Rattle.builder.proofs.Present.{Present, default_top, fills_is}
use Rattle.builder.proofs.Putting.{constant_head-long}
use Rattle.builder.proofs.Defaults.{demand_stop, demand-pass, before_defaults, fields_stop, fields-wrote-stopped, fields-more, fields-wrote, default_room}

-- ---- joins

join-none : {n : ℕ} (r : DefaultsMade) → n ≡ 0 → r ≡ join_defaults false true n r
join-none (DefaultsMade.Failed m) h = refl
join-none (DefaultsMade.Done a f l) h = rw (h, zero-add)

or_assoc : (a b c : Bool) → (a || (b || c)) ≡ ((a || b) || c)
or_assoc true b c = refl
or_assoc false b c = refl

or-false : (a : Bool) → (a || false) ≡ a
or-false true = refl
or-false false = refl

and_assoc : (a b c : Bool) → (a && (b && c)) ≡ ((a && b) && c)
and_assoc true b c = refl
and_assoc false b c = refl

and-true : (a : Bool) → (a && true) ≡ a
and-true true = refl
and-true false = refl

join-join : (a b f g : Bool) (m n : ℕ) (r : DefaultsMade) → join_defaults a f m (join_defaults b g n r) ≡ join_defaults (a || b) (f && g) (m + n) r
join-join a b f g m n (DefaultsMade.Failed e) = refl
join-join a b f g m n (DefaultsMade.Done s t l) = rw (or_assoc a b s, and_assoc f g t, add_assoc m n l)

join-failed : (a f : Bool) (n : ℕ) (r : DefaultMade) → is_default_refused r ≡ true → join_defaults a f n (failed_default r) ≡ failed_default r
join-failed a f n (DefaultMade.Refused e) h = refl
join-failed a f n DefaultMade.None h = clash (cc)
join-failed a f n (DefaultMade.Some l g) h = clash (cc)

-- ---- the loop: after i of n fields, what is still to be done

pub record Defaulting (d : Defaults) (v : Edition) (depth : ℕ) (s : Bytes) (n from : ℕ) (out₀ : Bytes) (k : ℕ) (out : Bytes) (at to : ℕ)
    (any filled : Bool) (i : ℕ) : Type 0 where
  pub within : i ≤ n
  pub room : to + 16384 * length s < 2 ^ 64 + 16384 * at
  pub over : k ≤ to
  pub kept : length out ≡ length out₀
  pub rest : ColumnsAt v depth s (n - i) at
  pub ends : (P : ColumnsAt v depth s n from) → rest.end ≡ P.end
  pub answer : (P : ColumnsAt v depth s n from)
      → defaults_made P.columns (defaults_of d P.columns) ≡ join_defaults any filled (to - k) (defaults_made rest.columns (defaults_of d rest.columns))
  pub stores : (P : ColumnsAt v depth s n from) (o : Bytes) → WroteDefaults at rest.end out to (defaults_of d rest.columns) o → WroteDefaults from
      P.end out₀ k (defaults_of d P.columns) o

module _ (d : Defaults) {v : Edition} {depth : ℕ} {s : Bytes} {n from : ℕ} {out₀ : Bytes} {k : ℕ} where
  pub defaulting_none : ColumnsAt v depth s n from → k + 16384 * length s < 2 ^ 64 + 16384 * from → Defaulting d v depth s n from out₀ k out₀ from k
      false true 0
  defaulting_none Q h =
      let e : n ≡ n - 0 = omega arith in
      record {
        within = omega arith;
        room = h;
        over = omega arith;
        kept = refl;
        rest = record { columns = Q.columns; end = Q.end; reads = ap (λ (m : ℕ). columns v Free (type v Free depth) m [] s from) (sym e) ∙ Q.reads };
        ends = λ P. (same-columns Q P).1;
        answer = λ P. ap (λ (cs : Columns). defaults_made cs (defaults_of d cs)) (same-columns P Q).0 ∙ join-none _ (omega arith);
        stores = λ P o w. let (a, b) = same-columns Q P in subst (λ (cs : Columns). WroteDefaults from P.end out₀ k (defaults_of d cs) o) a
            (subst (λ (x : ℕ). WroteDefaults from x out₀ k (defaults_of d Q.columns) o) b w);
      }

  module _ {out : Bytes} {at to : ℕ} {any filled : Bool} {i : ℕ} (W : Defaulting d v depth s n from out₀ k out at to any filled i) where
    -- no field is left
    pub defaulting_all : n ≤ i → (P : ColumnsAt v depth s n from) → MakesDefaults P.columns from P.end out₀ k (defaults_of d P.columns)
        (DefaultsMade.Done any filled (to - k)) out
    unfolding defaults_of defaults_made WroteDefaults encode_values overlay meets_all
    defaulting_all h P =
        let (z, q) = no_column W.rest (let y : n - i ≡ 0 = omega arith in y) in
        let here : defaults_made W.rest.columns (defaults_of d W.rest.columns) ≡ DefaultsMade.Done false true 0 =
        ap (λ (cs : Columns). defaults_made cs (defaults_of d cs)) z in
        let whole : join_defaults any filled (to - k) (DefaultsMade.Done false true 0) ≡ DefaultsMade.Done any filled (to - k) =
        rw (or-false any, and-true filled, add-zero) in
        let none : WroteDefaults at W.rest.end out to (defaults_of d cnil) out = (holds_exact out to [] refl, omega arith) in
        record {
          answer = sym (W.answer P ∙ ap (join_defaults any filled (to - k)) here ∙ whole);
          wrote = W.stores P out (subst (λ (cs : Columns). WroteDefaults at W.rest.end out to (defaults_of d cs) out) (sym z) none);
        }

    -- a column that stands there has a label
    pub defaulting_unlabelled : {B : Type 0} → i < n → {q : Labelled} {x : ℕ} → label_res s q ≡ label v s at → q ≡ Labelled.Refused x → B
    defaulting_unlabelled lt e f = first-labelled W.rest (λ z. omega arith) e f

    module _ (lt : i < n) {q : Labelled} {l : LabelSpan} {c : Cursor} (e : label_res s q ≡ label v s at) (f : q ≡ Labelled.Is l c) where
      -- the next field
      pub field : FirstAt v depth s (n - i) at W.rest (label_at s l) c.at
      field = first-at W.rest (λ z. omega arith) e f

      pub field-after : at ≤ c.at
      field-after = let (a, (b, x)) = label-ends s v at (label_got s e f) in omega arith

      pub field_room : to + 16384 * length s < 2 ^ 64 + 16384 * c.at
      field_room = let r = W.room in let a = field-after in omega arith

      -- what the fields that are left come to
      split : defaults_of d W.rest.columns ≡ before_defaults (build_iceberg_default_value d l.id field.head.tree) (defaults_of d field.tail.columns)
      unfolding defaults_of
      split = ap (defaults_of d) field.is

      made-split : defaults_made W.rest.columns (defaults_of d W.rest.columns)
          ≡ defaults_made (ccons (label_at s l) field.head.tree field.tail.columns)
          (before_defaults (build_iceberg_default_value d l.id field.head.tree) (defaults_of d field.tail.columns))
      unfolding defaults_of
      made-split = ap (λ (cs : Columns). defaults_made cs (defaults_of d cs)) field.is

      module _ {r : DefaultMade} {o : Bytes} (A : MakesDefault (filled_in_of field.head.tree) c.at field.head.end out to
          (build_iceberg_default_value d l.id field.head.tree) r o) where
        pub defaulting-stop : {x : Bool} {y : DefaultsMade} → x ≡ is_default_refused r → x ≡ true → y ≡ failed_default r → (P : ColumnsAt v depth s n from)
            → MakesDefaults P.columns from P.end out₀ k (defaults_of d P.columns) y o
        defaulting-stop {x} {y} g h u P =
            let z = sym g ∙ h in
            let X = build_iceberg_default_value d l.id field.head.tree in
            let Y = defaults_of d field.tail.columns in
            let here : defaults_made W.rest.columns (defaults_of d W.rest.columns) ≡ failed_default r = made-split ∙ sym (fields_stop _ X Y A z) in
            record {
              answer = u ∙ sym (W.answer P ∙ ap (join_defaults any filled (to - k)) here ∙ join-failed any filled (to - k) r z);
              wrote = W.stores P o (subst (λ (g : Result FieldDefaults). WroteDefaults at W.rest.end out to g o) (sym split)
                  (fields-wrote-stopped X Y at W.rest.end out to o A z));
            }

        module _ {x : Bool} (g : x ≡ is_default_refused r) (h : x ≡ false) where
          -- the index behind the value
          pub field_fits : {m : ℕ} → m ≡ value_len r → to + m < 2 ^ 64
          field_fits u = let a = default_room _ A (sym g ∙ h) in let b = field_room in let (x, y) = extent field.head in omega arith

          pub defaulting-more : {a : Cursor} {m : ℕ} {b more x all : Bool} → Present d → ((Q : TypeAt v depth s c.at) → a.at ≡ Q.end) → m ≡ value_len r
              → b ≡ is_some_made r → more ≡ (any || b) → x ≡ fills_made l.required r → all ≡ (filled && x) → length o ≡ length out
              → Defaulting d v depth s n from out₀ k o a.at (to + m) more all (i + 1)
          defaulting-more {a} {m} {b} {more} {x} {all} D skip u p q p' q' len =
              let z = sym g ∙ h in
              let X = build_iceberg_default_value d l.id field.head.tree in
              let Y = defaults_of d field.tail.columns in
              let E : a.at ≡ field.head.end = skip field.head in
              let room = default_room X A z in
              let fr = field_room in
              let ov = W.over in
              let less : n - i - 1 ≡ n - (i + 1) = omega arith in
              let dist : to - k + m ≡ to + m - k = omega arith in
              let Z = defaults_made field.tail.columns Y in
              let here : defaults_made W.rest.columns (defaults_of d W.rest.columns) ≡ join_defaults b x m Z =
              made-split ∙ fields-more (label_at s l) field.head.tree field.tail.columns X Y A z (λ y e. default_top d D l.id field.head.tree y e)
              ∙ ap (λ (w : Bool). join_defaults w (fills_made l.required r) (value_len r) Z) (sym p) ∙ ap
              (λ (w : Bool). join_defaults b w (value_len r) Z) (sym p')
              ∙ ap (λ (w : ℕ). join_defaults b x w Z) (sym u) in
              record {
                within = omega arith;
                room = omega arith;
                over = omega arith;
                kept = len ∙ W.kept;
                rest = record { columns = field.tail.columns; end = field.tail.end; reads = tail-reads less E };
                ends = λ P. field.ends ∙ W.ends P;
                answer = λ P. W.answer P ∙ ap (join_defaults any filled (to - k)) here ∙ join-join any b filled x (to - k) m Z
                    ∙ ap (λ (w : Bool). join_defaults w (filled && x) (to - k + m) Z) (sym q) ∙ ap (λ (w : Bool). join_defaults more w (to - k + m) Z) (sym q')
                    ∙ ap (λ (w : ℕ). join_defaults more all w Z) dist;
                stores = λ P o' w. W.stores P o' (whole o' E u w);
              }
            where
              tail-reads : {y : ℕ} → n - i - 1 ≡ n - (i + 1) → y ≡ field.head.end → columns v Free (type v Free depth) (n - (i + 1)) [] s y ≡ ok
                  field.tail.columns field.tail.end
              tail-reads less E = rw (← less, E) field.tail.reads

              whole : (o' : Bytes) {y m : ℕ} → y ≡ field.head.end → m ≡ value_len r → WroteDefaults y field.tail.end o (to + m)
                  (defaults_of d field.tail.columns) o'
                  → WroteDefaults at W.rest.end out to (defaults_of d W.rest.columns) o'
              whole o' {y} {m} E u w =
                  let X = build_iceberg_default_value d l.id field.head.tree in
                  let Y = defaults_of d field.tail.columns in
                  let w₁ : WroteDefaults field.head.end field.tail.end o (to + value_len r) Y o' =
                  subst (λ (j : ℕ). WroteDefaults field.head.end field.tail.end o (to + j) Y o') u
                  (subst (λ (j : ℕ). WroteDefaults j field.tail.end o (to + m) Y o') E w) in
                  let w₂ : WroteDefaults at field.tail.end out to (before_defaults X Y) o' = fields-wrote X Y at field.tail.end o' A (sym g ∙ h)
                  len field-after w₁ in
                  subst (λ (g : Result FieldDefaults). WroteDefaults at W.rest.end out to g o') (sym split)
                  (subst (λ (j : ℕ). WroteDefaults at j out to (before_defaults X Y) o') field.ends w₂)

-- ---- the constant

-- how long it is before its value
pub head-short : {v : Edition} {d : ℕ} {s : Bytes} {at : ℕ} (Q : TypeAt v d s at) (p : Span) {h : ℕ} → SpanIn s p → p.len ≤ 63 → h ≡ length
    (constant_head (span_at s p) (dtype_of Q.tree)) → h + at ≤ 65 + Q.end
head-short {s = s} Q p inside short e =
    let a = text-long s p inside in
    let g = constant_head-long (span_at s p) (dtype_of Q.tree) refl refl in
    let (b, c) = extent Q in
    omega arith

-- how long the value is, whatever was answered
pub value-short : (X : Result Default) {f : Value → Bool} {b e : ℕ} {out : Bytes} {k : ℕ} {r : DefaultMade} {o : Bytes} → MakesDefault f b e out k X r o
    → value_len r ≤ 16384 * e
unfolding default_made
value-short (refuses n) A = let q = ap value_len A.answer in omega arith
value-short (gives none) A = let q = default_room (gives none) A (ap is_default_refused A.answer) in omega arith
value-short (gives (some x)) A = let q = default_room (gives (some x)) A (ap is_default_refused A.answer) in omega arith

module _ (name : Bytes) (t : DataType) {h : ℕ} (long : h ≡ length (constant_head name t)) where
  constant-long : (x : Value) → length (encode_selector (constant name t x)) ≡ h + length (encode_value x)
  unfolding encode_selector
  constant-long x =
      let p = length-append (text_bytes name) (form t ++ encode_value x) in
      let q = length-append (form t) (encode_value x) in
      let u = length-append (text_bytes name) (form t) in
      omega arith

  constant-holds : (x : Value) (out : Bytes) (k : ℕ) (o₁ o₂ : Bytes) → o₁ ≡ overlay out k (constant_head name t) → length o₁ ≡ length out → Holds o₁
      (k + h) (encode_value x) o₂ → Holds out k (encode_selector (constant name t x)) o₂
  unfolding encode_selector
  constant-holds x out k o₁ o₂ p l w =
      let u : Holds o₁ (k + length (constant_head name t)) (encode_value x) o₂ = subst (λ (j : ℕ). Holds o₁ (k + j) (encode_value x) o₂) long w in
      subst (λ (z : Bytes). Holds out k (1 ∷ z) o₂) (append_assoc (text_bytes name) (form t) (encode_value x))
      (holds-append out k (constant_head name t) (encode_value x) o₁ o₂ l (holds_exact out k (constant_head name t) p) u)

  -- the default that X is, in a constant of that name and type
  pub constant-makes : (X : Result Default) (from : ℕ) {f : Value → Bool} {b e : ℕ} (out : Bytes) (k : ℕ) {o₁ o₂ : Bytes} {r : DefaultMade} {y : Made} →
      o₁ ≡ overlay out k (constant_head name t) → length o₁ ≡ length out → MakesDefault f b e o₁ (k + h) X r o₂ → y ≡ constant_made h r
      → h + b ≤ 65 + e → from < b → Makes from e out k ((X >>= λ x. gives (or_null x)) >>= λ x. gives (constant name t x)) y o₂
  unfolding ◌>>=◌ made_of Wrote default_made WroteDefault encode_value
  constant-makes (refuses n) from out k p l A q le lt = record { answer = q ∙ ap (constant_made h) A.answer; wrote = tt }
  constant-makes (gives none) from out k {o₁} {o₂} p l A q le lt =
      let z = constant-long vnull in
      let w = A.wrote.1 in
      let u : h + 1 ≡ length (encode_selector (constant name t vnull)) = omega arith in
      record { answer = q ∙ ap (constant_made h) A.answer ∙ ap Made.Built u; wrote = (constant-holds vnull out k o₁ o₂ p l A.wrote.0, omega arith) }
  constant-makes (gives (some x)) from out k {o₁} {o₂} p l A q le lt =
      let z = constant-long x in
      let w = A.wrote.1 in
      record { answer = q ∙ ap (constant_made h) A.answer ∙ ap Made.Built (sym z); wrote = (constant-holds x out k o₁ o₂ p l A.wrote.0, omega arith) }

-- 54 of the value
abbrev tested : Label → ColumnType → Value → Result Selector
tested l u x = demand (fills_required l u x) 54 (gives (constant l.name (dtype_of u) x))

module _ (l : Label) (u : ColumnType) {b e : ℕ} {out : Bytes} {k : ℕ} {r : DefaultMade} {o : Bytes} where
  fills : (x : Default) → MakesDefault (filled_in_of u) b e out k (gives x) r o → ((v : Value) → gives x ≡ gives (some v) → top_of (of_value v) ≡ required)
      → {c : Bool} → c ≡ fills_made l.required r → c ≡ fills_required l u (or_null x)
  unfolding fills_required
  fills x A D g = g ∙ ap (fills_made l.required) A.answer ∙ fills_is x l.required u D

  pub missing_unfilled : (X : Result Default) → MakesDefault (filled_in_of u) b e out k X r o → ((v : Value) → X ≡ gives (some v) → top_of (of_value v) ≡ required)
      → {c : Bool} → c ≡ fills_made l.required r → not c ≡ true → ((X >>= λ x. gives (or_null x)) >>= λ x. tested l u x) ≡ refuses 54
  unfolding ◌>>=◌ default_made
  missing_unfilled (refuses m) A D {c} g h = let z : false ≡ true = ap not (sym (g ∙ ap (fills_made l.required) A.answer)) ∙ h in clash (cc)
  missing_unfilled (gives x) A D g h = demand_stop (fills_required l u (or_null x)) 54 _ (ap not (sym (fills x A D g)) ∙ h)

  pub missing-filled : (X : Result Default) → MakesDefault (filled_in_of u) b e out k X r o → ((v : Value) → X ≡ gives (some v) → top_of (of_value v) ≡ required)
      → {c : Bool} → c ≡ fills_made l.required r → not c ≡ false
      → ((X >>= λ x. gives (or_null x)) >>= λ x. tested l u x) ≡ ((X >>= λ x. gives (or_null x)) >>= λ x. gives (constant l.name (dtype_of u) x))
  unfolding ◌>>=◌
  missing-filled (refuses m) A D g h = refl
  missing-filled (gives x) A D g h = demand-pass (fills_required l u (or_null x)) 54 _ (ap not (sym (fills x A D g)) ∙ h)

module _ (d : Defaults) (i : Bool) (n : ℕ) (l : Label) (u : ColumnType) where
  pub missing_inserted : not i ≡ false → missing d i n l u ≡ ((build_iceberg_default_value d l.id u >>= λ x. gives (or_null x)) >>= λ x. tested l u x)
  unfolding missing missing_value
  missing_inserted h = demand-pass i n _ h

  pub missing-refused : not i ≡ true → missing d i n l u ≡ refuses n
  unfolding missing
  missing-refused h = demand_stop i n _ h
