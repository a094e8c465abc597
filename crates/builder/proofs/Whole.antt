-- The tests of the matchers, and the selectors that need no matching. Assumes nothing.
use Prim.Native.Nat.{ℕ}
use mathlib.Core.Path.{◌≡◌, refl, sym, ap, ◌∙◌}
use mathlib.Core.Bool.{Bool, true, false, not, ◌&&◌, ◌||◌}
use native.Mathlib.Omega.{arith}
use lib.ListN.{length}
use lib.Dec.{eqb}
use borrow.Author.Tests.{eq-eqb, ne_eqb}
use Rattle.store.specs.code.Overlay.{overlay}
use Rattle.store.proofs.Holds.{holds_exact}
use Rattle.layout.specs.Bytes.{Bytes, same_bytes}
use Rattle.layout.specs.Parser.{choose}
use Rattle.layout.specs.Tree.{Label, ColumnType, Columns, dtype_of}
use Rattle.layout.specs.code.Stands.{TypeAt}
use Rattle.layout.specs.declared.columns.FieldId.{FieldId}
use Rattle.layout.specs.declared.columns.Position.{Position}
use Rattle.layout.specs.declared.edition.Edition.{Edition}
use Rattle.layout.specs.declared.matching.Matching.{Matching}
use Rattle.layout.specs.declared.matching.Matching.TheVariants.{ByName, ByNumber}
use Rattle.layout.proofs.Ways.{clash}
use Rattle.forms.proofs.Writing.{extent}
use Rattle.rules.specs.declared.policy.Policy.{Policy}
use Rattle.rules.specs.declared.outcome.CastOption.TheVariants.{NonStrict}
use Rattle.plan.specs.Result.{demand}
use Rattle.plan.specs.Selector.{Selector, position, cast, rename}
use Rattle.plan.specs.Encode.{encode_selector}
use Rattle.matching.specs.Build.{is_by_name, is_null_type, same_element, renamed, distinct, no_extra_of, ignores, keeps_required}
use Rattle.builder.proofs.Names.{not-true, not-false}
use Rattle.builder.specs.code.Answers.{made_of, Wrote, Makes, needs_rename, fault_of, null_cast}
use Rattle.builder.specs.declared.answer.Made.{Made}
use Rattle.builder.proofs.Putting.{cast-long, form-some}

pub null_by_name : {v : Matching} (t : ColumnType) {b : Bool} → v ≡ ByName → b ≡ is_null_type t → b ≡ (is_by_name v && is_null_type t)
null_by_name t h e = rw h e

pub null_by_number : {v : Matching} (t : ColumnType) → v ≡ ByNumber → false ≡ (is_by_name v && is_null_type t)
null_by_number t h = rw h

-- ---- 25

module _ {v : Matching} {a b : FieldId} (x y : Label) (p : x.id ≡ a) (q : y.id ≡ b) where
  pub elements-named : v ≡ ByName → true ≡ same_element v x y
  unfolding same_element
  elements-named h = rw h

  module _ (h : v ≡ ByNumber) where
    by-ids : same_element v x y ≡ (eqb a.0 b.0 || eqb a.0 4294967295 || eqb b.0 4294967295)
    unfolding same_element
    by-ids = rw (h, p, q)

    pub elements_same : a.0 ≡ b.0 → true ≡ same_element v x y
    elements_same e = sym (by-ids ∙ rw (eq-eqb a.0 b.0 e))

    pub elements-first : (a.0 ≡ b.0 → ⊥) → a.0 ≡ 4294967295 → true ≡ same_element v x y
    elements-first n e = sym (by-ids ∙ rw (ne_eqb a.0 b.0 n, eq-eqb a.0 4294967295 e))

    pub elements-second : (a.0 ≡ b.0 → ⊥) → (a.0 ≡ 4294967295 → ⊥) → eqb b.0 4294967295 ≡ same_element v x y
    elements-second n m = sym (by-ids ∙ rw (ne_eqb a.0 b.0 n, ne_eqb a.0 4294967295 m))

-- ---- renames

pub rename_never : {v : Matching} (l m : Label) → v ≡ ByName → false ≡ needs_rename v l m
rename_never l m h = rw h

choose-not : {A : Type 0} (b : Bool) (x y : A) → choose b x y ≡ choose (not b) y x
unfolding choose
choose-not true x y = refl
choose-not false x y = refl

pub renamed-is : (v : Matching) (l m : Label) (s : Selector) → renamed v l m s ≡ choose (needs_rename v l m) (rename s l.name) s
unfolding renamed choose
renamed-is ByName l m s = refl
renamed-is ByNumber l m s = choose-not (same_bytes m.name l.name) s (rename s l.name)

-- ---- 12 and 13

stopped : (x : Bool) (y : ℕ) → not x ≡ true → 12 ≡ choose x y 12
unfolding choose
stopped true y e = clash (cc)
stopped false y e = refl

passed : (x : Bool) (y : ℕ) → not x ≡ false → choose x y 12 ≡ y
unfolding choose
passed true y e = refl
passed false y e = clash (cc)

module _ (p : Policy) (v : Matching) (gs fs : Columns) {a : Bool} (ea : a ≡ distinct v gs) where
  pub fault_target : not a ≡ true → 12 ≡ fault_of p v gs fs
  unfolding choose
  fault_target h = stopped (distinct v gs) _ (ap not (sym ea) ∙ h)

  module _ {b : Bool} (eb : b ≡ distinct v fs) (ha : not a ≡ false) where
    pub fault_incoming : not b ≡ true → 12 ≡ fault_of p v gs fs
    unfolding choose
    fault_incoming h = sym (passed (distinct v gs) _ (ap not (sym ea) ∙ ha) ∙ sym (stopped (distinct v fs) _ (ap not (sym eb) ∙ h)))

    module _ (hb : not b ≡ false) where
      both-passed : fault_of p v gs fs ≡ choose (ignores p.extra_struct_fields || no_extra_of v fs gs) 0 13
      both-passed = passed (distinct v gs) _ (ap not (sym ea) ∙ ha) ∙ passed (distinct v fs) _ (ap not (sym eb) ∙ hb)

      pub fault-ignored : {c : Bool} → c ≡ ignores p.extra_struct_fields → c ≡ true → 0 ≡ fault_of p v gs fs
      unfolding choose
      fault-ignored e h = let z : ignores p.extra_struct_fields ≡ true = sym e ∙ h in sym
          (both-passed ∙ ap (λ (x : Bool). choose (x || no_extra_of v fs gs) 0 13) z)

      module _ {c n : Bool} (ec : c ≡ ignores p.extra_struct_fields) (hc : c ≡ false) (en : n ≡ no_extra_of v fs gs) where
        by_extra : fault_of p v gs fs ≡ choose n 0 13
        unfolding choose
        by_extra =
            both-passed ∙ ap (λ (x : Bool). choose (x || no_extra_of v fs gs) 0 13) (sym ec ∙ hc) ∙ ap (λ (x : Bool). choose x 0 13) (sym en)

        pub fault-none : n ≡ true → 0 ≡ fault_of p v gs fs
        unfolding choose
        fault-none h = sym (by_extra ∙ ap (λ (x : Bool). choose x 0 13) h)

        pub fault-extra : n ≡ false → 13 ≡ fault_of p v gs fs
        unfolding choose
        fault-extra h = sym (by_extra ∙ ap (λ (x : Bool). choose x 0 13) h)

-- ---- a null incoming type

module _ (p : Policy) (k : Position) {v : Edition} {d : ℕ} {s : Bytes} {at : ℕ} (Q : TypeAt v d s at) (out : Bytes) (to : ℕ) where
  pub null_cast_lem : {n : ℕ} {o : Bytes} → p.null_upcast ≡ true → n ≡ length (encode_selector (cast (position k) (dtype_of Q.tree) NonStrict))
      → o ≡ overlay out to (encode_selector (cast (position k) (dtype_of Q.tree) NonStrict)) → Makes at Q.end out to (null_cast p k Q.tree)
      (Made.Built n) o
  unfolding demand made_of Wrote
  null_cast_lem h l e =
      let f = cast-long k (dtype_of Q.tree) NonStrict refl in
      let (a, b) = extent Q in
      let g = form-some (dtype_of Q.tree) in
      rw h (record { answer = ap Made.Built l; wrote = (holds_exact out to (encode_selector (cast (position k) (dtype_of Q.tree) NonStrict)) e, omega arith) })

  pub null-refused : (o : Bytes) → p.null_upcast ≡ false → Makes at Q.end out to (null_cast p k Q.tree) (Made.Refused 15) o
  unfolding demand made_of Wrote
  null-refused o h = rw h (record { answer = refl; wrote = tt })

-- ---- 55

module _ (a l : Label) (t : ColumnType) {q : Bool} (e : l.required ≡ q) where
  pub keeps-optional : not q ≡ true → true ≡ keeps_required a t l
  unfolding keeps_required
  keeps-optional h = let z : l.required ≡ false = e ∙ not-true q h in rw z

  pub keeps_unmarked : not q ≡ false → not a.required ≡ true → false ≡ keeps_required a t l
  unfolding keeps_required
  keeps_unmarked h g = let z : l.required ≡ true = e ∙ not-false q h in let y : a.required ≡ false = not-true a.required g in rw (z, y)

  pub keeps_typed : not q ≡ false → not a.required ≡ false → {b : Bool} → b ≡ is_null_type t → not b ≡ keeps_required a t l
  unfolding keeps_required
  keeps_typed h g b =
      let z : l.required ≡ true = e ∙ not-false q h in
      let y : a.required ≡ true = not-false a.required g in
      rw (z, y) (ap not b)
