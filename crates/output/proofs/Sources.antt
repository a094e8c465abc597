-- Where the value of a state comes from, on each way. Assumes nothing.
use Prim.Native.Nat.{ℕ, ◌<◌, ◌≤◌}
use mathlib.Core.Path.{◌≡◌, refl, ap, sym, subst, ◌∙◌}
use mathlib.Core.List.{List, [], ◌∷◌}
use native.Mathlib.Omega.{arith}
use native.Mathlib.Decide.{dec_lt}
use lib.Seq.{slice}
use Rattle.layout.specs.Bytes.{Bytes}
use Rattle.layout.specs.Tree.{DataType, leaf, struct, list, array}
use Rattle.layout.specs.declared.columns.Position.{Position}
use Rattle.layout.specs.declared.cursor.Cursor.{Cursor}
use Rattle.layout.specs.declared.edition.Edition.{Edition}
use Rattle.layout.specs.declared.edition.Edition.TheVariants.{One}
use Rattle.layout.proofs.Ways.{clash}
use Rattle.rules.specs.declared.outcome.CastOption.{CastOption}
use Rattle.values.specs.Value.{Value, vnull, Values}
use Rattle.plan.specs.Selector.{Selector, position, constant, cast, rename, struct_mapping, list_mapping, array_mapping, Selectors}
use Rattle.plan.specs.Run.{value_at}
use Rattle.walk.specs.code.State.{Frame, State, state}
use Rattle.walk.specs.code.Stands.{SelectorAt}
use Rattle.walk.specs.code.Parts.{StructAt, CountedIs}
use Rattle.walk.specs.code.Walks.{WalkAt}
use Rattle.walk.specs.code.Values.{value_node, within, given, state_value}
use Rattle.walk.specs.declared.head.StructFields.{StructFields}
use Rattle.walk.specs.declared.walk.Walk.{Walk}
use Rattle.walk.proofs.View.{selectors-counted}
use Rattle.walk.proofs.Walks.{some-inner, top-frames, path-some, path-none}
use Rattle.nodes.specs.code.Raw.{NodeIs, NodeOf}
use Rattle.nodes.specs.declared.raw.NodeAt.{NodeAt}
use Rattle.nodes.proofs.Node.{node_as}
use Rattle.output.specs.code.Chain.{ends, next_out, next_cast, next_part, next_element, next_of, next}
use Rattle.output.specs.code.Answers.{record_source, constant_source, StructSource, ConstantIs, StructIs, ListIs, ArrayIs, SourceAnswer, SourceIs}
use Rattle.output.specs.declared.source.Source.{Source}
use Rattle.output.proofs.Within.{node-null}
use Rattle.output.proofs.Ends.{within-null, position-null, field-null}

-- ---- the nodes

pub null-node : {v : Edition} {lay rec : Bytes} {x : Value} {r : NodeAt} → NodeOf v lay rec x r → r ≡ NodeAt.Null → (p : List ℕ) → NodeOf v lay rec
    (value_node x p) NodeAt.Null
null-node N e p = record { none = λ q. ap (λ (y : Value). value_node y p) (N.none e) ∙ node-null p; here = λ t c q. clash (cc) }

pub node-valued : {v : Edition} {lay rec : Bytes} {x y : Value} → x ≡ y → (p : List ℕ) {r : NodeAt} → NodeOf v lay rec (value_node x p) r → NodeOf v lay
    rec (value_node y p) r
node-valued e p N = node_as (ap (λ (z : Value). value_node z p) e) N

module _ {plan : Bytes} {w : Walk} {P : SelectorAt plan w.at} {m : ℕ} (A : StructAt plan w.at P m) where
  pub struct-below : w.deep < w.len → StructSource plan w P Source.Null
  struct-below h = record { below = λ i. refl; ended = λ i. absurd (omega arith) }

  pub struct-ended : w.len ≤ w.deep → {f : StructFields} → CountedIs plan A.input.end A.fields f → StructSource plan w P (Source.Struct f.count)
  struct-ended h {f} C = record {
    below = λ i. absurd (omega arith);
    ended = λ i. (
      A.input.tree,
      A.fields.selectors.trees,
      A.is,
      ap Source.Struct
          (C.count ∙ sym (selectors-counted A.fields.count A.fields.selectors)),
    );
  }

-- ---- where a walk does not end

cast_ends : {B : Type 0} (t : DataType) (y : State) (p : List ℕ) → next_cast t y p ≡ ends → B
unfolding next_cast
cast_ends (leaf l) y [] e = clash (cc)
cast_ends (leaf l) y (k ∷ p) e = clash (cc)
cast_ends (struct fs) y p e = clash (cc)
cast_ends (list u) y p e = clash (cc)
cast_ends (array w u) y p e = clash (cc)

element-ends : (s e : Selector) (E : List Frame) (p : List ℕ) → next_element s e E p ≡ ends → p ≡ []
unfolding next_element
element-ends s e E [] h = refl
element-ends s e E (k ∷ p) h = clash (cc)

-- ---- the answers

module _ {plan : Bytes} {w : Walk} {x : State} (W : WalkAt plan w x) where
  -- what stands at w
  selected : {s : Selector} → W.here.tree ≡ s → x.selector ≡ s
  selected e = sym W.selector ∙ e

  next-by : {s : Selector} → W.here.tree ≡ s → next x ≡ ends → next_of s x.frames x.path ≡ ends
  next-by e h = ap (λ (s : Selector). next_of s x.frames x.path) (sym (selected e)) ∙ h

  pub never_cast : {B : Type 0} {s : Selector} {t : DataType} {o : CastOption} → W.here.tree ≡ cast s t o → next x ≡ ends → B
  unfolding next_of
  never_cast {s = s} {t} e h = cast_ends t (state s x.frames x.path) x.path (next-by e h)

  pub never_rename : {B : Type 0} {s : Selector} {n : Bytes} → W.here.tree ≡ rename s n → next x ≡ ends → B
  unfolding next_of
  never_rename e h = let z = next-by e h in clash (cc)

  module _ (ρ : Values) where
    value-by : {s : Selector} {E : List Frame} {p : List ℕ} → W.here.tree ≡ s → x.frames ≡ E → x.path ≡ p → state_value ρ x ≡ state_value ρ (state s E p)
    value-by {s} {E} {p} e f g = ap (λ (s : Selector). state_value ρ (state s x.frames x.path)) (selected e)
        ∙ ap (λ (E : List Frame). state_value ρ (state s E x.path)) f ∙ ap (λ (p : List ℕ). state_value ρ (state s E p)) g

    module _ {v : Edition} {lay rec : Bytes} where
      pub source-column : {k : Position} → W.here.tree ≡ position k → w.deep ≡ 0 → {q : NodeAt} {r : Source}
          → NodeOf v lay rec (value_node (value_at ρ k.0) (slice w.deep w.len w.path)) q → r ≡ record_source q → SourceIs ρ v lay rec plan x r
      unfolding state_value within given
      source-column {k} e z {q} N h =
          let f : value_node (value_at ρ k.0) (slice w.deep w.len w.path) ≡ state_value ρ x =
          ap (λ (p : List ℕ). value_node (value_at ρ k.0) p) W.path ∙ sym (value-by e (top-frames W z) refl) in
          subst (λ (r : Source). SourceIs ρ v lay rec plan x r) (sym h) (go q (node_as f N))
        where
          go : (q : NodeAt) → NodeOf v lay rec (state_value ρ x) q → SourceIs ρ v lay rec plan x (record_source q)
          go NodeAt.Null N = record { answer = N.none refl }
          go (NodeAt.At t c) N = record { answer = N.here t c refl }

      pub source-lost : {k : Position} → W.here.tree ≡ position k → (w.deep ≡ 0 → ⊥) → next x ≡ ends → SourceIs ρ v lay rec plan x Source.Null
      unfolding next_of
      source-lost {k} e z h =
          let (f, F, g) = some-inner z W.entries in
          record { answer = value-by e g refl ∙ position-null ρ k f F x.path (ap (λ (E : List Frame). next_out k.0 E x.path) (sym g) ∙ next-by e h) }

      pub source-constant : {n : Bytes} {t : DataType} {u : Value} → W.here.tree ≡ constant n t u → {q : NodeAt} {r : Source}
          → NodeOf One plan plan (value_node u (slice w.deep w.len w.path)) q → r ≡ constant_source q → SourceIs ρ v lay rec plan x r
      unfolding state_value given
      source-constant {n} {t} {u} e {q} N h = subst (λ (r : Source). SourceIs ρ v lay rec plan x r) (sym h) (go q (node_as (ap (value_node u) W.path) N))
        where
          is : state_value ρ x ≡ within ρ x.frames (λ σ. value_node u x.path)
          is = value-by e refl refl

          go : (q : NodeAt) → NodeOf One plan plan (value_node u x.path) q → SourceIs ρ v lay rec plan x (constant_source q)
          go NodeAt.Null N = record { answer = is ∙ ap (λ (y : Value). within ρ x.frames (λ σ. y)) (N.none refl) ∙ within-null ρ x.frames }
          go (NodeAt.At t c) N = record { answer = record { value = value_node u x.path; node = N.here t c refl; is = is } }

      pub source-struct : {r : Source} → StructSource plan w W.here r → {s : Selector} {ss : Selectors} → W.here.tree ≡ struct_mapping s ss → next x
          ≡ ends → SourceIs ρ v lay rec plan x r
      unfolding next_of next_part
      source-struct {r} S {s} {ss} e h = go (dec_lt w.deep w.len)
        where
          go : Dec (w.deep < w.len) → SourceIs ρ v lay rec plan x r
          go (yes l) =
              let g = path-some W l in
              subst (λ (r : Source). SourceIs ρ v lay rec plan x r) (sym (S.below l))
              (record {
                answer = value-by e refl g ∙ field-null ρ s ss _ x.frames _
                    (ap (λ (p : List ℕ). next_part s ss x.frames p) (sym g) ∙ next-by e h);
              })
          go (no l) =
              let i : w.len ≤ w.deep = omega arith in
              let (a, b, f, g) = S.ended i in
              subst (λ (r : Source). SourceIs ρ v lay rec plan x r) (sym g)
              (record { answer = record { input = a; parts = b; selector = selected f; path = path-none W i; count = refl } })

      pub source-list : {s e : Selector} → W.here.tree ≡ list_mapping s e → next x ≡ ends → SourceIs ρ v lay rec plan x Source.List
      unfolding next_of
      source-list {s} {e} f h = record {
        answer = record {
          input = s;
          element = e;
          selector = selected f;
          path = element-ends s e x.frames x.path
              (next-by f h);
        };
      }

      pub source-array : {s e : Selector} → W.here.tree ≡ array_mapping s e → next x ≡ ends → SourceIs ρ v lay rec plan x Source.Array
      unfolding next_of
      source-array {s} {e} f h = record {
        answer = record {
          input = s;
          element = e;
          selector = selected f;
          path = element-ends s e x.frames x.path
              (next-by f h);
        };
      }

-- ---- opening an answer

module _ {ρ : Values} {v : Edition} {lay rec plan : Bytes} {x : State} {r : Source} (S : SourceIs ρ v lay rec plan x r) where
  opened : {q : Source} → r ≡ q → SourceAnswer ρ v lay rec plan x q
  opened e = subst (λ (q : Source). SourceAnswer ρ v lay rec plan x q) e S.answer

  pub from_null : r ≡ Source.Null → state_value ρ x ≡ vnull
  from_null e = opened e

  pub from_record : {t c : Cursor} → r ≡ Source.Record t c → NodeIs v lay t.at rec c.at (state_value ρ x)
  from_record e = opened e

  pub from-constant : {t c : Cursor} → r ≡ Source.Constant t c → ConstantIs ρ plan x t.at c.at
  from-constant e = opened e

  pub from-struct : {n : ℕ} → r ≡ Source.Struct n → StructIs x n
  from-struct e = opened e

  pub from_list : r ≡ Source.List → ListIs x
  from_list e = opened e

  pub from-array : r ≡ Source.Array → ArrayIs x
  from-array e = opened e

  pub never_sourced : {B : Type 0} → r ≡ Source.Refused → B
  never_sourced e = absurd (opened e)
