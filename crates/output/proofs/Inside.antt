-- Whether what is inside a mapping is run. Assumes nothing.
use Prim.Native.Nat.{ℕ, ◌+◌, ◌-◌}
use mathlib.Core.Path.{◌≡◌, refl}
use mathlib.Core.List.{List, [], ◌∷◌}
use native.Mathlib.Omega.{arith}
use lib.ListN.{get_or}
use Rattle.layout.specs.Bytes.{Bytes}
use Rattle.layout.specs.Parser.{choose}
use Rattle.values.specs.Value.{Value, vnull, Values}
use Rattle.walk.specs.code.State.{Frame, fields, element, input_of, State, state}
use Rattle.walk.specs.code.Walks.{Entered, e_fields, e_list, e_array, WalkAt}
use Rattle.walk.specs.code.Values.{within, state_value}
use Rattle.walk.specs.declared.walk.Walk.{Walk}
use Rattle.walk.proofs.Walks.{innermost}
use Rattle.nodes.specs.code.Raw.{parts_of}
use Rattle.output.specs.code.Output.{has}
use Rattle.output.specs.code.Answers.{least_of}
use Rattle.output.proofs.Ends.{run-fields, run-element}

least-fields : {plan : Bytes} {m i p : ℕ} {f : Frame} → Entered plan m i p f → get_or plan m 0 ≡ 4 → 0 ≡ least_of f
unfolding least_of
least-fields (e_fields c P e l) h = refl
least-fields (e_list c P e l) h = absurd (omega arith)
least-fields (e_array c P e l) h = absurd (omega arith)

least-element : {plan : Bytes} {m i p : ℕ} {f : Frame} → Entered plan m i p f → (get_or plan m 0 ≡ 4 → ⊥) → i + 1 ≡ least_of f
unfolding least_of
least-element (e_fields c P e l) h = absurd (h c)
least-element (e_list c P e l) h = refl
least-element (e_array c P e l) h = refl

module _ {plan : Bytes} {w : Walk} {x : State} (W : WalkAt plan w x) {f : Frame} {E : List Frame} (e : x.frames ≡ f ∷ E) where
  pub least_of-fields : get_or plan (get_or w.maps (w.deep - 1) 0) 0 ≡ 4 → 0 ≡ least_of f
  least_of-fields h = least-fields (innermost e W.entries).entered h

  pub least_of-element : (get_or plan (get_or w.maps (w.deep - 1) 0) 0 ≡ 4 → ⊥) → get_or w.path (w.deep - 1) 0 + 1 ≡ least_of f
  least_of-element h = least-element (innermost e W.entries).entered h

-- what is inside is run where the input has the part
pub run-frame : (ρ : Values) (f : Frame) (E : List Frame) (u : Value) → within ρ (f ∷ E) (λ σ. u) ≡ choose
    (has (least_of f) (parts_of (state_value ρ (state (input_of f) E [])))) u vnull
unfolding least_of
run-frame ρ (fields s) E u = run-fields ρ s E u
run-frame ρ (element s i) E u = run-element ρ s i E u
