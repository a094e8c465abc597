-- What `raw_part`, `part` and `enclosing` ask and answer. Assumes nothing.
use Prim.Native.Nat.{ℕ, ◌-◌, ◌≤◌, ◌<◌}
use mathlib.Core.Path.{◌≡◌, refl, sym, ap, subst}
use mathlib.Core.List.{List, [], ◌∷◌}
use native.Mathlib.Omega.{arith}
use lib.ListN.{length, get_or}
use Rattle.layout.specs.Bytes.{Bytes}
use Rattle.layout.specs.Tree.{DataType, leaf, struct, list, array, Fields, fields_of, dtype_of}
use Rattle.layout.specs.declared.cursor.Cursor.{Cursor}
use Rattle.layout.specs.declared.edition.Edition.{Edition}
use Rattle.plan.specs.Result.{gives}
use Rattle.plan.specs.Selector.{Selector, nesting}
use Rattle.plan.specs.Check.{Column, column_at}
use Rattle.plan.proofs.Results.{never_refused}
use Rattle.walk.specs.code.State.{Frame, fields, element, State, state, input_of}
use Rattle.walk.specs.code.Moves.{Part}
use Rattle.walk.specs.code.Types.{ScopeOf, c_top, c_fields, c_list, c_array, Along, a_here, a_field, a_list_lem, a_array, Gives}
use Rattle.walk.specs.code.Walks.{WalkAt, rank, StepsTo}
use Rattle.walk.proofs.Walks.{outward_asks, frames-deep}
use Rattle.walk.specs.declared.walk.Walk.{Walk}
use Rattle.nodes.specs.code.Typed.{TypeIs, LeadsAt}
use Rattle.checker.specs.code.Shallow.{Shallow}
use Rattle.checker.specs.code.TypesAt.{parts_of, PartOf, TypedAt, NamedAt, Made, made_struct, made_list, made_array, MappedAt, ResolvedAt, Resolves}
use Rattle.checker.specs.code.TypesAt.{ScopedAt, EnclosingIs}
use Rattle.checker.specs.declared.resolve.Source.{Source}
use Rattle.checker.specs.declared.resolve.Resolved.{Resolved}
use Rattle.checker.proofs.Steps.{element-is}
use Rattle.checker.proofs.Room.{entries-count, outer-shallow, outer-element-shallow}
use Rattle.checker.proofs.Making.{made_ends, part-made, field-made}

-- ---- a type that stands in bytes

pub part-along : (t : DataType) {k : ℕ} {a : Column} → PartOf t k a → Along t (k ∷ []) a.type
unfolding parts_of column_at
part-along (leaf l) P = never_refused P.found refl
part-along (struct fs) P = a_field P.found a_here
part-along (list t) {k} P = let e = ap (λ (c : Column). c.type) (element-is {k = k} P.found).1 in a_list_lem
    (subst (λ (u : DataType). Along t [] u) (sym e) a_here)
part-along (array w t) {k} P = let e = ap (λ (c : Column). c.type) (element-is {k = k} P.found).1 in a_array
    (subst (λ (u : DataType). Along t [] u) (sym e) a_here)

pub part-leads : {v : Edition} {s : Bytes} {at : ℕ} {t : DataType} {k : ℕ} {a : Column} {p : List ℕ} → TypeIs v s at t → PartOf t k a → p ≡ k ∷ [] →
    LeadsAt v s at p a.type
part-leads {t = t} {k = k} {a = a} {p = p} T P e =
    record {
      type = T.type;
      along = subst (λ (q : List ℕ). Along (dtype_of T.type.tree) q a.type) (sym e)
          (subst (λ (u : DataType). Along u (k ∷ []) a.type) (sym T.is) (part-along t P));
    }

-- ---- a mapping's part

module _ {incoming : Bytes} {v : Edition} {n : ℕ} {plan : Bytes} {w : Walk} where
  pub made-deep : {t : DataType} → MappedAt incoming v n plan w t → w.deep < 64
  unfolding nesting
  made-deep M = let e = entries-count M.standing.entries in go M.made M.shallow e
    where
      go : {Γ : Fields} {x : State} {t : DataType} {d : ℕ} → Made Γ x t → Shallow x → d ≡ length x.frames → d < 64
      go (made_struct a b c d) H e = omega (arith, H.here)
      go (made_list a b c d) H e = omega (arith, H.here)
      go (made_array a b c d) H e = omega (arith, H.here)

  pub child_asks : {t : DataType} → MappedAt incoming v n plan w t → ((x : State) × WalkAt plan w x) × (w.deep < 64)
  child_asks M = ((M.place, M.standing), made-deep M)

  module _ {k : ℕ} {y : Walk} (g : (x : State) (f : Frame) (s : Selector) → WalkAt plan w x → x.path ≡ [] → Part x.selector k f s → StepsTo plan
      (state s (f ∷ x.frames) []) w y) where
    pub child-typed : {t : DataType} {a : Column} → MappedAt incoming v n plan w t → PartOf t k a → TypedAt incoming v n plan y a.type
    child-typed {a = a} M P =
        let Q = part-made k M.made P.found in
        record {
          columns = M.columns;
          place = state Q.part (Q.frame ∷ M.place.frames) [];
          standing = (g M.place Q.frame Q.part M.standing (made_ends M.made) Q.takes).standing;
          shallow = Q.shallow M.shallow;
          typed = record {
            scope = Q.scope;
            column = Q.column;
            scoped = Q.scoped;
            passes = Q.passes;
            along = subst
                (λ (u : DataType). Along u [] a.type) (sym Q.typed) a_here;
          };
        }

    pub child-named : {gs : Fields} {a : Column} → MappedAt incoming v n plan w (struct gs) → column_at gs k ≡ gives a → NamedAt incoming v n plan y a
    child-named M e =
        let Q = field-made k M.made e in
        record {
          columns = M.columns;
          selector = Q.part;
          frames = Q.frame ∷ M.place.frames;
          standing = (g M.place Q.frame Q.part M.standing (made_ends M.made) Q.takes).standing;
          shallow = Q.shallow M.shallow;
          scope = Q.scope;
          scoped = Q.scoped;
          passes = Q.passes;
        }

    pub child-less : {gs : Fields} {a : Column} → MappedAt incoming v n plan w (struct gs) → column_at gs k ≡ gives a → rank y < rank w
    child-less M e = let Q = field-made k M.made e in (g M.place Q.frame Q.part M.standing (made_ends M.made) Q.takes).falls

-- what `part` answers of a type in bytes
module _ {incoming : Bytes} {v : Edition} {n : ℕ} {plan : Bytes} {w : Walk} {c : Cursor} {q : Resolved} {t : DataType} where
  pub part_incoming : q ≡ record { source = Source.Incoming; at = c; walk = w } → TypeIs v incoming c.at t → ResolvedAt incoming v n plan q t
  part_incoming e T = subst (λ (r : Resolved). ResolvedAt incoming v n plan r t) (sym e) (record { stands = T })

  pub part-plan : q ≡ record { source = Source.Plan; at = c; walk = w } → TypeIs Edition.One plan c.at t → ResolvedAt incoming v n plan q t
  part-plan e T = subst (λ (r : Resolved). ResolvedAt incoming v n plan r t) (sym e) (record { stands = T })

-- ---- the type whose parts positions take

record OuterMade (Γ : Fields) (E : List Frame) (Δ : Fields) : Type 0 where
  frame : Frame
  outer : List Frame
  is : E ≡ frame ∷ outer
  type : DataType
  given : Gives Γ (state (input_of frame) outer []) type
  parts : parts_of type ≡ Δ

outer-made : {Γ : Fields} {E : List Frame} {Δ : Fields} → 0 < length E → ScopeOf Γ E Δ → OuterMade Γ E Δ
unfolding parts_of
outer-made h c_top = absurd (omega arith)
outer-made h (c_fields {E = E} {s = s} {c = c} {Δ = Θ} {fs = fs} sc g q) = record {
  frame = fields s;
  outer = E;
  is = refl;
  type = c.type;
  given = record { scope = Θ; column = c; scoped = sc; passes = g; along = a_here };
  parts = ap parts_of q;
}
outer-made h (c_list {E = E} {s = s} {i = i} {c = c} {Δ = Θ} sc g q) = record {
  frame = element s i;
  outer = E;
  is = refl;
  type = c.type;
  given = record { scope = Θ; column = c; scoped = sc; passes = g; along = a_here };
  parts = ap parts_of q;
}
outer-made h (c_array {E = E} {s = s} {i = i} {c = c} {Δ = Θ} sc g q) = record {
  frame = element s i;
  outer = E;
  is = refl;
  type = c.type;
  given = record { scope = Θ; column = c; scoped = sc; passes = g; along = a_here };
  parts = ap parts_of q;
}

input-shallow : (f : Frame) {x : State} {E : List Frame} → x.frames ≡ f ∷ E → Shallow x → Shallow (state (input_of f) E [])
input-shallow (fields s) {x} e H = outer-shallow (framed e H)
  where
    framed : {F : List Frame} → x.frames ≡ F → Shallow x → Shallow (state x.selector F [])
    framed {F} e H = subst (λ (G : List Frame). Shallow (state x.selector G [])) e (record { here = H.here; frames = H.frames })
input-shallow (element s i) {x} e H = outer-element-shallow (framed e H)
  where
    framed : {F : List Frame} → x.frames ≡ F → Shallow x → Shallow (state x.selector F [])
    framed {F} e H = subst (λ (G : List Frame). Shallow (state x.selector G [])) e (record { here = H.here; frames = H.frames })

module _ {incoming : Bytes} {v : Edition} {n : ℕ} {plan : Bytes} {w : Walk} {Δ : Fields} (S : ScopedAt incoming v n plan w Δ) (h : 0 < w.deep) where
  made : OuterMade (fields_of S.columns.columns) S.place.frames Δ
  made = outer-made (let e = entries-count S.standing.entries in omega arith) S.scoped

  pub enclosed_asks : (0 < w.deep) × (w.deep ≤ 64) × (get_or w.maps (w.deep - 1) 0 < w.at)
  enclosed_asks = outward_asks S.standing (frames-deep S.standing made.is)

  module _ {y : Walk} (g : (p : Bytes) (x : State) (f : Frame) (E : List Frame) → WalkAt p w x → x.frames ≡ f ∷ E → StepsTo p (state (input_of f) E [])
      w y) where
    stepped : StepsTo plan (state (input_of made.frame) made.outer []) w y
    stepped = g plan S.place made.frame made.outer S.standing made.is

    typed : TypedAt incoming v n plan y made.type
    typed = record {
      columns = S.columns;
      place = _;
      standing = stepped.standing;
      shallow = input-shallow made.frame made.is S.shallow;
      typed
          = made.given;
    }

    pub enclosing_asks : (t : DataType) × TypedAt incoming v n plan y t
    enclosing_asks = (made.type, typed)

    pub enclosing-is : {r : Resolved} → ((t : DataType) → TypedAt incoming v n plan y t → Resolves incoming v n plan y t r) → EnclosingIs incoming v n
        plan w Δ r
    enclosing-is f =
        let R = f made.type typed in
        let a = stepped.falls in
        record { type = made.type; parts = made.parts; resolved = R.resolved; falls = omega (arith, R.falls) }
