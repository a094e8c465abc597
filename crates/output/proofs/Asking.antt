-- What is asked of a value's parts, where they come from another's. Assumes nothing.
use Prim.Native.Nat.{ℕ, ◌<◌, ◌≤◌}
use mathlib.Core.Path.{◌≡◌, refl, ap, sym, subst, ◌∙◌}
use mathlib.Core.Bool.{Bool, true, false}
use mathlib.Core.List.{List, [], ◌∷◌}
use native.Mathlib.Omega.{arith}
use borrow.Author.Tests.{le-leb, lt-leb}
use Rattle.layout.specs.Bytes.{Bytes}
use Rattle.layout.specs.Parser.{choose}
use Rattle.layout.proofs.Ways.{clash}
use Rattle.values.specs.Value.{Value, vnull, vstruct, Values}
use Rattle.plan.specs.Selector.{Selector}
use Rattle.walk.specs.code.State.{Frame, input_of, State, state}
use Rattle.walk.specs.code.Moves.{Input, i_struct, i_list, i_array}
use Rattle.walk.specs.code.Walks.{WalkAt, StepsTo}
use Rattle.walk.specs.code.Values.{opened, givens, within, state_value}
use Rattle.walk.specs.declared.walk.Walk.{Walk}
use Rattle.nodes.specs.code.Raw.{parts_of}
use Rattle.nodes.specs.declared.raw.Parts.{Parts}
use Rattle.output.specs.code.Output.{has, answer}
use Rattle.output.specs.code.Answers.{OriginIs, StructIs, ListIs, ArrayIs, least_of, AskInput, AskOutward, AskedAnswer, AskedIs}
use Rattle.output.specs.declared.casts.Origin.{Origin}
use Rattle.output.specs.declared.parts.Asked.{Asked}
use Rattle.output.proofs.Chain.{passed-value}
use Rattle.output.proofs.Ends.{parts-struct, parts-list, parts-array, parts-casts, struct-value, list-value, array-value}
use Rattle.output.proofs.Inside.{run-frame}

pub answer-none : (m : ℕ) (own : Parts) → answer m own Parts.None ≡ Parts.None
unfolding answer has choose
answer-none m own = refl

-- the count itself
pub answer-count : (p : Parts) → answer 0 Parts.None p ≡ p
unfolding answer has choose
answer-count Parts.None = refl
answer-count (Parts.Some c) = rw (le-leb 0 c (omega arith))

-- parts that are there only if others are
chosen : (m : ℕ) (own q : Parts) (b : Bool) → answer m own (choose b q Parts.None) ≡ choose b (answer m own q) Parts.None
unfolding choose
chosen m own q true = refl
chosen m own q false = answer-none m own

pub answer_on : (m : ℕ) (own q : Parts) (n c : ℕ) (p : Parts) → answer m own q ≡ Parts.Some c → answer m own (choose (has n p) q Parts.None) ≡ answer n
    (Parts.Some c) p
unfolding answer
answer_on m own q n c p e = chosen m own q (has n p) ∙ ap (λ (x : Parts). choose (has n p) x Parts.None) e

pub answer_off : (m : ℕ) (own q : Parts) (b : Bool) → answer m own q ≡ Parts.None → answer m own (choose b q Parts.None) ≡ Parts.None
unfolding choose
answer_off m own q b e = chosen m own q b ∙ off b e
  where
    off : (b : Bool) {x : Parts} → x ≡ Parts.None → choose b x Parts.None ≡ Parts.None
    off true h = h
    off false h = refl

pub parts_chosen : (b : Bool) (u : Value) → parts_of (choose b u vnull) ≡ choose b (parts_of u) Parts.None
unfolding choose parts_of
parts_chosen true u = refl
parts_chosen false u = refl

-- ---- what the code answers

pub meet-none : (m : ℕ) (own : Parts) {p : Parts} → p ≡ Parts.None → Parts.None ≡ answer m own p
meet-none m own e = sym (ap (answer m own) e ∙ answer-none m own)

module _ (m : ℕ) (own : Parts) {p : Parts} (c : ℕ) (e : p ≡ Parts.Some c) where
  pub meet-few : c < m → Parts.None ≡ answer m own p
  unfolding answer has choose
  meet-few h = rw (e, lt-leb m c h)

  module _ (h : m ≤ c) where
    pub meet_own : own ≡ Parts.None → Parts.Some c ≡ answer m own p
    unfolding answer has choose
    meet_own f = rw (e, le-leb m c h, f)

    pub meet-known : {d : ℕ} → own ≡ Parts.Some d → Parts.Some d ≡ answer m own p
    unfolding answer has choose
    meet-known f = rw (e, le-leb m c h, f)

-- ---- what a step answers

-- at a selector whose path is at its end
pub state_by : (ρ : Values) (x : State) {s : Selector} → x.selector ≡ s → x.path ≡ [] → state_value ρ x ≡ state_value ρ (state s x.frames [])
state_by ρ x {s} e f = ap (λ (s : Selector). state_value ρ (state s x.frames x.path)) e ∙ ap (λ (p : List ℕ). state_value ρ (state s x.frames p)) f

-- a constant is there or not, by the mappings around it
run-parts : (ρ : Values) (E : List Frame) (u : Value) → (b : Bool) × (parts_of (within ρ E (λ σ. u)) ≡ choose b (parts_of u) Parts.None)
unfolding within choose
run-parts ρ [] u = (true, refl)
run-parts ρ (f ∷ E) u =
    let b = has (least_of f) (parts_of (state_value ρ (state (input_of f) E []))) in
    (b, ap parts_of (run-frame ρ f E u) ∙ parts_chosen b u)

module _ (ρ : Values) (x : State) (u : Value) (least : ℕ) (own : Parts) (e : state_value ρ x ≡ within ρ x.frames (λ σ. u)) where
  pub constant-none : {p : Parts} → p ≡ Parts.None → p ≡ answer least own (parts_of u) → AskedIs ρ x least own (Asked.Answer Parts.None)
  constant-none f h =
      let (b, g) = run-parts ρ x.frames u in
      record { means = sym (ap (answer least own) (ap parts_of e ∙ g) ∙ answer_off least own (parts_of u) b (sym h ∙ f)) }

  module _ {p : Parts} {c : ℕ} (f : p ≡ Parts.Some c) (h : p ≡ answer least own (parts_of u)) where
    pub constant-top : x.frames ≡ [] → AskedIs ρ x least own (Asked.Answer (Parts.Some c))
    unfolding within
    constant-top g =
        record { means = sym f ∙ h ∙ ap (λ (v : Value). answer least own (parts_of v)) (sym (e ∙ ap (λ (E : List Frame). within ρ E (λ σ. u)) g)) }

    pub constant-inside : {k : Frame} {E : List Frame} → x.frames ≡ k ∷ E → {m : ℕ} → m ≡ least_of k → AskedIs ρ x least own (Asked.Outward m (Parts.Some c))
    constant-inside {k} {E} g {m} i = record {
      means = record {
        frame = k;
        outer = E;
        is = g;
        same =
            ap (λ (v : Value). answer least own (parts_of v)) (e ∙ ap (λ (E : List Frame). within ρ E (λ σ. u)) g ∙ run-frame ρ k E u)
            ∙ ap (answer least own) (parts_chosen (has (least_of k) (parts_of (state_value ρ (state (input_of k) E [])))) u)
            ∙ answer_on least own (parts_of u) (least_of k) c (parts_of (state_value ρ (state (input_of k) E []))) (sym h ∙ f)
            ∙ ap (λ (j : ℕ). answer j (Parts.Some c) (parts_of (state_value ρ (state (input_of k) E [])))) (sym i);
      };
    }

module _ (ρ : Values) (x : State) {n : ℕ} (least : ℕ) (own : Parts) (S : StructIs x n) where
  struct_is : state_value ρ x ≡ opened (λ vs. vstruct (givens vs S.parts)) (state_value ρ (state S.input x.frames []))
  struct_is = state_by ρ x S.selector S.path ∙ struct-value ρ S.input S.parts x.frames

  counted : parts_of (state_value ρ x) ≡ choose (has 0 (parts_of (state_value ρ (state S.input x.frames [])))) (Parts.Some n) Parts.None
  counted = ap parts_of struct_is ∙ parts-struct S.parts (state_value ρ (state S.input x.frames []))
      ∙ ap (λ (c : ℕ). choose (has 0 (parts_of (state_value ρ (state S.input x.frames [])))) (Parts.Some c) Parts.None) S.count

  pub struct-none : {p : Parts} → p ≡ Parts.None → p ≡ answer least own (Parts.Some n) → AskedIs ρ x least own (Asked.Answer Parts.None)
  struct-none f h = record { means = sym (ap (answer least own) counted ∙ answer_off least own (Parts.Some n) _ (sym h ∙ f)) }

  pub struct-some : {p : Parts} {c : ℕ} → p ≡ Parts.Some c → p ≡ answer least own (Parts.Some n) → AskedIs ρ x least own (Asked.Input 0 (Parts.Some c))
  struct-some {p} {c} f h = record {
    means = record {
      input = S.input;
      is = subst (λ (s : Selector). Input s S.input) (sym S.selector) i_struct;
      same =
          ap (answer least own) counted
          ∙ answer_on least own (Parts.Some n) 0 c (parts_of (state_value ρ (state S.input x.frames []))) (sym h ∙ f)
          ∙ ap (λ (q : List ℕ). answer 0 (Parts.Some c) (parts_of (state_value ρ (state S.input x.frames q)))) (sym S.path);
    };
  }

module _ (ρ : Values) (x : State) (least : ℕ) (own : Parts) where
  pub null-asked : state_value ρ x ≡ vnull → AskedIs ρ x least own (Asked.Answer Parts.None)
  unfolding parts_of
  null-asked e = record { means = sym (ap (λ (v : Value). answer least own (parts_of v)) e ∙ answer-none least own) }

  pub raw-asked : {v u : Value} → u ≡ v → state_value ρ x ≡ v → {q p : Parts} → q ≡ parts_of u → p ≡ answer least own q → AskedIs ρ x least own (Asked.Answer p)
  raw-asked e f g h = record { means = h ∙ ap (answer least own) (g ∙ ap parts_of (e ∙ sym f)) }

  pub list-asked : ListIs x → AskedIs ρ x least own (Asked.Input least own)
  list-asked S = record {
    means = record {
      input = S.input;
      is = subst (λ (s : Selector). Input s S.input) (sym S.selector) i_list;
      same = ap (answer least own)
          (ap parts_of (state_by ρ x S.selector S.path ∙ list-value ρ S.input S.element x.frames)
          ∙ parts-list _ (state_value ρ (state S.input x.frames []))
          ∙ ap (λ (q : List ℕ). parts_of (state_value ρ (state S.input x.frames q))) (sym S.path));
    };
  }

  pub array-asked : ArrayIs x → AskedIs ρ x least own (Asked.Input least own)
  array-asked S = record {
    means = record {
      input = S.input;
      is = subst (λ (s : Selector). Input s S.input) (sym S.selector) i_array;
      same = ap (answer least own)
          (ap parts_of (state_by ρ x S.selector S.path ∙ array-value ρ S.input S.element x.frames)
          ∙ parts-array _ (state_value ρ (state S.input x.frames []))
          ∙ ap (λ (q : List ℕ). parts_of (state_value ρ (state S.input x.frames q))) (sym S.path));
    };
  }

pub constant-met : (least : ℕ) (own : Parts) {v u : Value} {q p : Parts} → q ≡ parts_of v → v ≡ u → p ≡ answer least own q → p ≡ answer least own (parts_of u)
constant-met least own g e h = h ∙ ap (answer least own) (g ∙ ap parts_of e)

-- ---- the loop

-- where the value comes from there are as many parts
pub origin_parts : (ρ : Values) {plan : Bytes} {x : State} {w : Walk} {r : Origin} (O : OriginIs plan x w r) → parts_of (state_value ρ x) ≡ parts_of
    (state_value ρ O.state)
origin_parts ρ O = ap parts_of (passed-value ρ O.passed) ∙ parts-casts O.kinds (state_value ρ O.state)

-- what is asked of x is asked of where w stands
pub record Asking (ρ : Values) (plan : Bytes) (x : State) (least : ℕ) (own : Parts) (w : Walk) (m : ℕ) (k : Parts) : Type 0 where
  pub state : State
  pub standing : WalkAt plan w state
  pub same : answer least own (parts_of (state_value ρ x)) ≡ answer m k (parts_of (state_value ρ state))

module _ {ρ : Values} {x : State} {least : ℕ} {own : Parts} {r : Asked} (A : AskedIs ρ x least own r) where
  asked : {q : Asked} → r ≡ q → AskedAnswer ρ x least own q
  asked e = subst (λ (q : Asked). AskedAnswer ρ x least own q) e A.means

  pub is-answer : {p : Parts} → r ≡ Asked.Answer p → p ≡ answer least own (parts_of (state_value ρ x))
  is-answer e = asked e

  pub is-input : {m : ℕ} {k : Parts} → r ≡ Asked.Input m k → AskInput ρ x least own m k
  is-input e = asked e

  pub is-outward : {m : ℕ} {k : Parts} → r ≡ Asked.Outward m k → AskOutward ρ x least own m k
  is-outward e = asked e

module _ {ρ : Values} {plan : Bytes} {x : State} {least : ℕ} {own : Parts} {w : Walk} {m : ℕ} {k : Parts} (A : Asking ρ plan x least own w m k)
    {q : Origin} (O : OriginIs plan A.state w q) where
  at-origin : answer least own (parts_of (state_value ρ x)) ≡ answer m k (parts_of (state_value ρ O.state))
  at-origin = A.same ∙ ap (answer m k) (origin_parts ρ O)

  pub asking_answer : {p : Parts} → p ≡ answer m k (parts_of (state_value ρ O.state)) → p ≡ answer least own (parts_of (state_value ρ x))
  asking_answer h = h ∙ sym at-origin

  pub asking_input : {l : ℕ} {j : Parts} (I : AskInput ρ O.state m k l j) {r : Walk} → StepsTo plan
      (state I.input O.state.frames O.state.path) q.walk r
      → Asking ρ plan x least own r l j
  asking_input I T = record { state = _; standing = T.standing; same = at-origin ∙ I.same }

  pub asking_outward : {l : ℕ} {j : Parts} (I : AskOutward ρ O.state m k l j) {r : Walk} → StepsTo plan (state (input_of I.frame) I.outer [])
      q.walk r
      → Asking ρ plan x least own r l j
  asking_outward I T = record { state = _; standing = T.standing; same = at-origin ∙ I.same }

-- ---- whether a selector is run

module _ (ρ : Values) (x : State) (u : Value) where
  pub run-top : x.frames ≡ [] → within ρ x.frames (λ σ. u) ≡ choose true u vnull
  unfolding within choose
  run-top e = ap (λ (E : List Frame). within ρ E (λ σ. u)) e

  module _ {f : Frame} {E : List Frame} (e : x.frames ≡ f ∷ E) {m : ℕ} (l : m ≡ least_of f) {p : Parts}
      (h : p ≡ answer m (Parts.Some 0) (parts_of (state_value ρ (state (input_of f) E [])))) where
    by-frame : (b : Bool) → has m (parts_of (state_value ρ (state (input_of f) E []))) ≡ b → within ρ x.frames (λ σ. u) ≡ choose b u vnull
    by-frame b g =
        ap (λ (F : List Frame). within ρ F (λ σ. u)) e ∙ run-frame ρ f E u
        ∙ ap (λ (j : ℕ). choose (has j (parts_of (state_value ρ (state (input_of f) E [])))) u vnull) (sym l) ∙ ap (λ (c : Bool). choose c u vnull) g

    pub run_none : p ≡ Parts.None → within ρ x.frames (λ σ. u) ≡ choose false u vnull
    unfolding answer choose
    run_none g = go (has m (parts_of (state_value ρ (state (input_of f) E [])))) refl (sym h ∙ g)
      where
        go : (b : Bool) → has m (parts_of (state_value ρ (state (input_of f) E []))) ≡ b → choose b (Parts.Some 0) Parts.None ≡ Parts.None → within ρ
            x.frames (λ σ. u) ≡ choose false u vnull
        go true i z = clash (cc)
        go false i z = by-frame false i

    pub run-some : {c : ℕ} → p ≡ Parts.Some c → within ρ x.frames (λ σ. u) ≡ choose true u vnull
    unfolding answer choose
    run-some {c} g = go (has m (parts_of (state_value ρ (state (input_of f) E [])))) refl (sym h ∙ g)
      where
        go : (b : Bool) → has m (parts_of (state_value ρ (state (input_of f) E []))) ≡ b → choose b (Parts.Some 0) Parts.None ≡ Parts.Some c → within ρ
            x.frames (λ σ. u) ≡ choose true u vnull
        go true i z = by-frame true i
        go false i z = clash (cc)
