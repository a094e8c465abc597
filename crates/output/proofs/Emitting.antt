-- What the functions that write an output return on each way. Assumes nothing.
use Prim.Native.Nat.{ℕ, zero, suc, ◌+◌, ◌<◌, ◌≤◌}
use mathlib.Core.Path.{◌≡◌, refl, ap, sym, subst, ◌∙◌}
use mathlib.Core.Bool.{Bool, true, false}
use mathlib.Core.List.{List, [], ◌∷◌, ◌++◌}
use native.Mathlib.Omega.{arith}
use native.Mathlib.Numerals.{add-one}
use native.Mathlib.Nat.{add-zero}
use lib.Dec.{eqb}
use lib.ListN.{length, get_or}
use Rattle.layout.specs.Bytes.{Bytes}
use Rattle.layout.specs.Parser.{choose}
use Rattle.layout.specs.Tree.{leaf, struct, list, array}
use Rattle.layout.specs.declared.leaf.Leaf.{Leaf}
use Rattle.layout.specs.declared.edition.Edition.{Edition}
use Rattle.layout.proofs.Ways.{clash}
use Rattle.store.specs.code.Overlay.{overlay}
use Rattle.values.specs.Value.{Value, vnull, vnumber, vtext, voverflow, vstruct, vlist, varray, Values, vnil, vcons, count_values}
use Rattle.values.specs.Encode.{encode_value, encode_values}
use Rattle.values.specs.Record.{longest}
use Rattle.plan.specs.Selector.{Selector, position, constant, cast, rename, struct_mapping, list_mapping, array_mapping, Selectors, snil, scons, count_selectors}
use Rattle.plan.specs.Reach.{parts}
use Rattle.plan.specs.Run.{value_at, clean, clean_all_of, map_values}
use Rattle.walk.specs.code.State.{Frame, fields, element, State, state}
use Rattle.walk.specs.code.Moves.{Moves, m_here, m_field, m_list, m_array, Part, p_field, p_list, p_array, Mapping, is_struct_mapping, is_list_mapping, is-array}
use Rattle.walk.specs.code.Walks.{Entries, e_none, e_more, WalkAt, StepsTo, rank}
use Rattle.walk.specs.code.Values.{opened, given, givens, within, state_value}
use Rattle.walk.specs.declared.walk.Walk.{Walk}
use Rattle.walk.specs.code.Children.{PartStands, Reached}
use Rattle.walk.specs.code.Stands.{SelectorAt}
use Rattle.walk.proofs.View.{nth_exists}
use Rattle.walk.proofs.View.{Viewed, v_position, v_constant, v_cast, v_rename, v_struct, v_list, v_array, view}
use Rattle.walk.proofs.Walks.{walk_small, walk_inside}
use Rattle.walk.proofs.Children.{reached_stands}
use Rattle.nodes.specs.code.Raw.{NodeIs, parts_of}
use Rattle.nodes.specs.declared.raw.Parts.{Parts}
use Rattle.raw.specs.code.Number.{is_number}
use Rattle.output.specs.code.Chain.{ends, goes, next_out, next_cast, next_field, next_part, next_element, next_of, Passed, p_here, p_goes, p_casts, cast_all}
use Rattle.raw.specs.code.Stored.{Stores, lead}
use Rattle.output.specs.code.Output.{Emits, levels}
use Rattle.output.specs.code.Answers.{OriginIs, ConstantIs, StructIs, ListIs, ArrayIs, size, EmitAt, Mapped, is_list}
use Rattle.output.specs.declared.casts.Origin.{Origin}
use Rattle.output.proofs.Chain.{goes_eq, casts-same, passed-value}
use Rattle.output.proofs.Ends.{within-null, count-givens, struct-value, list-value, array-value, part-value}
use Rattle.raw.proofs.Storing.{stores_as}
use Rattle.output.proofs.Casting.{casts-kept}
use Rattle.output.proofs.Asking.{state_by}
use Rattle.output.proofs.Writing.{emits_exact, emits-append, emits-past, emits-after, within_limit, front, behind, front_none, front_all, front_more}
use Rattle.output.proofs.Writing.{front_behind, front_long, parts-clean, part-clean, part-levels}

-- ---- what a walk holds stays the same

state-size : {x : State} {n : ℕ} {y : State} → size x ≡ n → x ≡ y → size y ≡ n
state-size h e = ap size (sym e) ∙ h

field-size : (ss : Selectors) (k : ℕ) (E : List Frame) (p : List ℕ) {y : State} → next_field ss k E p ≡ goes y → size y ≡ length E + length p
unfolding next_field size
field-size snil k E p e = clash (cc)
field-size (scons t ss) zero E p e = state-size {x = state t E p} refl (goes_eq e)
field-size (scons t ss) (suc k) E p e = field-size ss k E p e

goes-size : (s : Selector) (E : List Frame) (p : List ℕ) {y : State} → next_of s E p ≡ goes y → size y ≡ length E + length p
unfolding next_of next_out next_cast next_part next_element size choose
goes-size (position k) [] p e = clash (cc)
goes-size (position k) (fields s ∷ E) p e = state-size {x = state s E (k.0 ∷ p)} (omega arith) (goes_eq e)
goes-size (position k) (element s i ∷ E) p {y} e = go (eqb k.0 0) e
  where
    go : (b : Bool) → choose b (goes (state s E (i ∷ p))) ends ≡ goes y → size y ≡ suc (length E) + length p
    go true e = state-size {x = state s E (i ∷ p)} (omega arith) (goes_eq e)
    go false e = clash (cc)
goes-size (constant n t v) E p e = clash (cc)
goes-size (cast s (leaf l) o) E [] e = clash (cc)
goes-size (cast s (leaf l) o) E (k ∷ p) e = state-size {x = state s E (k ∷ p)} refl (goes_eq e)
goes-size (cast s (struct fs) o) E p e = state-size {x = state s E p} refl (goes_eq e)
goes-size (cast s (list t) o) E p e = state-size {x = state s E p} refl (goes_eq e)
goes-size (cast s (array w t) o) E p e = state-size {x = state s E p} refl (goes_eq e)
goes-size (rename s n) E p e = state-size {x = state s E p} refl (goes_eq e)
goes-size (struct_mapping s ss) E [] e = clash (cc)
goes-size (struct_mapping s ss) E (k ∷ p) e = field-size ss k (fields s ∷ E) p e ∙
    (let z : suc (length E) + length p ≡ length E + suc (length p) = omega arith in z)
goes-size (list_mapping s x) E [] e = clash (cc)
goes-size (list_mapping s x) E (k ∷ p) e = state-size {x = state x (element s k ∷ E) p} (omega arith) (goes_eq e)
goes-size (array_mapping s x) E [] e = clash (cc)
goes-size (array_mapping s x) E (k ∷ p) e = state-size {x = state x (element s k ∷ E) p} (omega arith) (goes_eq e)

pub size-passed : {x z : State} {ks : List Leaf} → Passed x ks z → size z ≡ size x
unfolding size
size-passed p_here = refl
size-passed (p_goes {x} e p) = size-passed p ∙ goes-size x.selector x.frames x.path e
size-passed (p_casts {x} e p) = let (a, b) = casts-same x.selector x.frames x.path e in size-passed p ∙ rw (a, b)

entries-deep : {plan : Bytes} {maps path : List ℕ} {d p : ℕ} {E : List Frame} → Entries plan maps path d p E → length E ≡ d
entries-deep e_none = refl
entries-deep (e_more t u) = ap suc (entries-deep u)

-- ---- a mapping's value

-- null, or its parts after what stands before them
pub data Shaped (v : Value) (c : Bool) : Type 0 where
  shaped_null : v ≡ vnull → Shaped v c
  shaped_some : parts_of v ≡ Parts.Some (count_values (parts v)) → encode_value v ≡ lead c (count_values (parts v)) ++ encode_values (parts v) → is_number v ≡
      false → Shaped v c

shape_struct : (f : Values → Values) (v : Value) → Shaped (opened (λ vs. vstruct (f vs)) v) false
unfolding opened parts_of parts encode_value is_number
shape_struct f vnull = shaped_null refl
shape_struct f (vnumber k n) = shaped_null refl
shape_struct f (vtext b) = shaped_null refl
shape_struct f voverflow = shaped_null refl
shape_struct f (vstruct vs) = shaped_some refl refl refl
shape_struct f (vlist vs) = shaped_some refl refl refl
shape_struct f (varray vs) = shaped_some refl refl refl

shape_list : (f : Values → Values) (v : Value) → Shaped (opened (λ vs. vlist (f vs)) v) true
unfolding opened parts_of parts encode_value is_number
shape_list f vnull = shaped_null refl
shape_list f (vnumber k n) = shaped_null refl
shape_list f (vtext b) = shaped_null refl
shape_list f voverflow = shaped_null refl
shape_list f (vstruct vs) = shaped_some refl refl refl
shape_list f (vlist vs) = shaped_some refl refl refl
shape_list f (varray vs) = shaped_some refl refl refl

shape_array : (f : Values → Values) (v : Value) → Shaped (opened (λ vs. varray (f vs)) v) false
unfolding opened parts_of parts encode_value is_number
shape_array f vnull = shaped_null refl
shape_array f (vnumber k n) = shaped_null refl
shape_array f (vtext b) = shaped_null refl
shape_array f voverflow = shaped_null refl
shape_array f (vstruct vs) = shaped_some refl refl refl
shape_array f (vlist vs) = shaped_some refl refl refl
shape_array f (varray vs) = shaped_some refl refl refl

shape_at : (ρ : Values) (E : List Frame) {s : Selector} → Mapping s → Shaped (state_value ρ (state s E [])) (is_list s)
shape_at ρ E (is_struct_mapping {s} {ss}) = subst (λ (v : Value). Shaped v false) (sym (struct-value ρ s ss E))
    (shape_struct (λ vs. givens vs ss) (state_value ρ (state s E [])))
shape_at ρ E (is_list_mapping {s} {e}) =
    subst (λ (v : Value). Shaped v true) (sym (list-value ρ s e E)) (shape_list (map_values (λ v. given (vcons v vnil) e)) (state_value ρ (state s E [])))
shape_at ρ E (is-array {s} {e}) =
    subst (λ (v : Value). Shaped v false) (sym (array-value ρ s e E)) (shape_array (map_values (λ v. given (vcons v vnil) e)) (state_value ρ (state s E [])))

pub mapped_shape : (ρ : Values) (x : State) → Mapped x → Shaped (state_value ρ x) (is_list x.selector)
mapped_shape ρ x M = subst (λ (v : Value). Shaped v (is_list x.selector)) (sym (state_by ρ x refl M.path)) (shape_at ρ x.frames M.mapping)

shaped_plain : {v : Value} {c : Bool} → Shaped v c → is_number v ≡ false
unfolding is_number
shaped_plain (shaped_null e) = ap is_number e
shaped_plain (shaped_some p e n) = n

-- ---- its parts

count-struct : (ss : Selectors) (v : Value) {i : ℕ} → i < count_values (parts (opened (λ vs. vstruct (givens vs ss)) v)) → i < count_selectors ss
unfolding opened parts count_values
count-struct ss vnull h = absurd (omega arith)
count-struct ss (vnumber k n) h = absurd (omega arith)
count-struct ss (vtext b) h = absurd (omega arith)
count-struct ss voverflow h = absurd (omega arith)
count-struct ss (vstruct vs) h = omega (arith, h, count-givens vs ss)
count-struct ss (vlist vs) h = omega (arith, h, count-givens vs ss)
count-struct ss (varray vs) h = omega (arith, h, count-givens vs ss)

part_at : (ρ : Values) (E : List Frame) {s : Selector} (i : ℕ) → Mapping s → i < count_values (parts (state_value ρ (state s E []))) → (f : Frame) ×
    (t : Selector) × Part s i f t
part_at ρ E i (is_struct_mapping {s} {ss}) h =
    let (t, n) = nth_exists ss i (count-struct ss (state_value ρ (state s E [])) (subst (λ (v : Value). i < count_values (parts v)) (struct-value ρ s ss E) h)) in
    (fields s, t, p_field n)
part_at ρ E i (is_list_mapping {s} {e}) h = (element s i, e, p_list)
part_at ρ E i (is-array {s} {e}) h = (element s i, e, p_array)

pub part_exists : (ρ : Values) (x : State) (i : ℕ) → Mapped x → i < count_values (parts (state_value ρ x)) → (f : Frame) × (t : Selector) × Part
    x.selector i f t
part_exists ρ x i M h = part_at ρ x.frames i M.mapping (subst (λ (v : Value). i < count_values (parts v)) (state_by ρ x refl M.path) h)

part-moves : {s : Selector} {k : ℕ} {f : Frame} {t : Selector} (E : List Frame) → Part s k f t → Moves (state s E (k ∷ [])) (state t (f ∷ E) [])
part-moves E (p_field n) = m_field n m_here
part-moves E p_list = m_list m_here
part-moves E p_array = m_array m_here

child-value : (ρ : Values) (x : State) {i : ℕ} {f : Frame} {t : Selector} → x.path ≡ [] → Part x.selector i f t
    → state_value ρ (state t (f ∷ x.frames) []) ≡ value_at (parts (state_value ρ x)) i
child-value ρ x {i} e P = part-value ρ x.selector x.frames i (part-moves x.frames P) ∙ ap (λ (v : Value). value_at (parts v) i)
    (sym (state_by ρ x refl e))

-- ---- from where a value comes

emits-stored : {out : Bytes} {k : ℕ} {b : Bytes} {r : ℕ} {new : Bytes} → Stores out k b r new → Emits out k b r new
emits-stored {out} {k} {b} S = emits_exact out k b S.ends S.stored

module _ {v : Edition} {lay : Bytes} {n t : ℕ} {rec plan : Bytes} {w : Walk} (A : EmitAt v lay n t rec plan w) {o : Origin}
    (O : OriginIs plan A.state w o) where
  abbrev ρ : Values
  ρ = A.row.values.values

  through : cast_all O.kinds (state_value ρ O.state) ≡ state_value ρ A.state
  through = sym (passed-value ρ O.passed)

  pub emitted : {out : Bytes} {k r : ℕ} {new : Bytes} → Stores out k (encode_value (cast_all O.kinds (state_value ρ O.state))) r new → Emits out k
      (encode_value (state_value ρ A.state)) r new
  emitted S = emits-stored (stores_as through S)

  pub emitted_null : state_value ρ O.state ≡ vnull → {out : Bytes} {k r : ℕ} {new : Bytes} → Stores out k (encode_value vnull) r new → Emits out k
      (encode_value (state_value ρ A.state)) r new
  unfolding is_number
  emitted_null e S = emitted (stores_as (sym (ap (cast_all O.kinds) e ∙ casts-kept O.kinds vnull refl)) S)

  pub emitted_node : {v' : Edition} {lay' : Bytes} {t' : ℕ} {rec' : Bytes} {c' : ℕ} (N : NodeIs v' lay' t' rec' c' (state_value ρ O.state))
      {out : Bytes} {k r : ℕ} {new : Bytes}
      → Stores out k (encode_value (cast_all O.kinds N.raw.value.tree)) r new → Emits out k (encode_value (state_value ρ A.state)) r new
  emitted_node N S = emitted (stores_as (ap (cast_all O.kinds) N.is) S)

  -- where the value comes from a mapping, no cast changes it
  module _ (M : Mapped O.state) where
    mapped-same : state_value ρ A.state ≡ state_value ρ O.state
    mapped-same = sym through ∙ casts-kept O.kinds (state_value ρ O.state) (shaped_plain (mapped_shape ρ O.state M))

    abbrev mapped_at : EmitAt v lay n t rec plan o.walk
    mapped_at = record {
      row = A.row;
      state = O.state;
      standing = O.standing;
      clean = ap clean (sym mapped-same) ∙ A.clean;
      low = omega (arith, A.low, size-passed O.passed, ap levels mapped-same);
      short = A.short;
    }

    pub mapped_asks : (B : EmitAt v lay n t rec plan o.walk) × Mapped B.state
    mapped_asks = (mapped_at, M)

    pub mapped-emits : {out : Bytes} {k r : ℕ} {new : Bytes}
        → ((B : EmitAt v lay n t rec plan o.walk) → Mapped B.state → Emits out k (encode_value (state_value B.row.values.values B.state)) r new)
        → Emits out k (encode_value (state_value ρ A.state)) r new
    mapped-emits {out} {k} {r} {new} f = subst (λ (u : Value). Emits out k (encode_value u) r new) (sym mapped-same) (f mapped_at M)

pub struct-mapped : {x : State} {n : ℕ} → StructIs x n → Mapped x
struct-mapped {x} S = record { mapping = subst Mapping (sym S.selector) is_struct_mapping; path = S.path }

pub list-mapped : {x : State} → ListIs x → Mapped x
list-mapped {x} S = record { mapping = subst Mapping (sym S.selector) is_list_mapping; path = S.path }

pub array-mapped : {x : State} → ArrayIs x → Mapped x
array-mapped {x} S = record { mapping = subst Mapping (sym S.selector) is-array; path = S.path }

-- ---- a constant

module _ (ρ : Values) {plan : Bytes} {z : State} {t c : ℕ} (C : ConstantIs ρ plan z t c) where
  -- null, whether it is run or not
  pub constant-null : C.node.raw.value.tree ≡ vnull → state_value ρ z ≡ choose false C.value vnull
  unfolding choose
  constant-null e = C.is ∙ ap (λ (u : Value). within ρ z.frames (λ σ. u)) (sym C.node.is ∙ e) ∙ within-null ρ z.frames

  pub constant-within : (b : Bool) → ((u : Value) → within ρ z.frames (λ σ. u) ≡ choose b u vnull) → state_value ρ z ≡ choose b C.value vnull
  constant-within b h = C.is ∙ h C.value

  module _ (ks : List Leaf) {b : Bool} (h : state_value ρ z ≡ choose b C.value vnull) where
    pub constant-run : b ≡ true → {out : Bytes} {k r : ℕ} {new : Bytes} → Stores out k (encode_value (cast_all ks C.node.raw.value.tree)) r new
        → Stores out k (encode_value (cast_all ks (state_value ρ z))) r new
    unfolding choose
    constant-run e S = stores_as (ap (cast_all ks) (C.node.is ∙ sym (h ∙ ap (λ (q : Bool). choose q C.value vnull) e))) S

    pub constant_skipped : b ≡ false → {out : Bytes} {k r : ℕ} {new : Bytes} → Stores out k (encode_value vnull) r new
        → Stores out k (encode_value (cast_all ks (state_value ρ z))) r new
    unfolding choose is_number
    constant_skipped e S = stores_as (sym (ap (cast_all ks) (h ∙ ap (λ (q : Bool). choose q C.value vnull) e) ∙ casts-kept ks vnull refl)) S

-- ---- whether a mapping gives a list

module _ {plan : Bytes} {at : ℕ} (P : SelectorAt plan at) where
  is-listed : get_or plan at 0 ≡ 5 → is_list P.tree ≡ true
  is-listed h = go (view P)
    where
      go : Viewed plan at P → is_list P.tree ≡ true
      go (v_position c e) = absurd (omega (arith, c, h))
      go (v_constant c e) = absurd (omega (arith, c, h))
      go (v_cast C) = absurd (omega (arith, C.code, h))
      go (v_rename C) = absurd (omega (arith, C.code, h))
      go (v_struct S) = absurd (omega (arith, S.code, h))
      go (v_list L) = ap is_list L.is
      go (v_array A) = absurd (omega (arith, A.code, h))

  not_listed : (get_or plan at 0 ≡ 5 → ⊥) → is_list P.tree ≡ false
  not_listed h = go (view P)
    where
      go : Viewed plan at P → is_list P.tree ≡ false
      go (v_position c e) = ap is_list e
      go (v_constant c e) = ap is_list e
      go (v_cast C) = ap is_list C.is
      go (v_rename C) = ap is_list C.is
      go (v_struct S) = ap is_list S.is
      go (v_list L) = absurd (h L.code)
      go (v_array A) = ap is_list A.is

module _ {plan : Bytes} {w : Walk} {x : State} (W : WalkAt plan w x) where
  pub walk_listed : get_or plan w.at 0 ≡ 5 → is_list x.selector ≡ true
  walk_listed h = ap is_list (sym W.selector) ∙ is-listed W.here h

  pub walk_unlisted : (get_or plan w.at 0 ≡ 5 → ⊥) → is_list x.selector ≡ false
  walk_unlisted h = ap is_list (sym W.selector) ∙ not_listed W.here h

-- ---- a mapping

module _ (ρ : Values) {x : State} (M : Mapped x) {c : Bool} (e : is_list x.selector ≡ c) {p : Parts} (h : p ≡ parts_of (state_value ρ x)) where
  shape : Shaped (state_value ρ x) c
  shape = subst (λ (c : Bool). Shaped (state_value ρ x) c) e (mapped_shape ρ x M)

  pub mapping-null : p ≡ Parts.None → {out : Bytes} {k r : ℕ} {new : Bytes} → Stores out k (encode_value vnull) r new → Emits out k
      (encode_value (state_value ρ x)) r new
  mapping-null f {out} {k} {r} {new} S = go shape
    where
      go : Shaped (state_value ρ x) c → Emits out k (encode_value (state_value ρ x)) r new
      go (shaped_null z) = emits-stored (stores_as (sym z) S)
      go (shaped_some a b d) = clash (cc)

  module _ {m : ℕ} (f : p ≡ Parts.Some m) where
    record Present : Type 0 where
      pub count : m ≡ count_values (parts (state_value ρ x))
      pub bytes : encode_value (state_value ρ x) ≡ lead c m ++ encode_values (parts (state_value ρ x))

    present : Present
    unfolding parts_of
    present = go shape
      where
        go : Shaped (state_value ρ x) c → Present
        go (shaped_null z) = let y : Parts.None ≡ Parts.Some m = sym (ap parts_of z) ∙ sym h ∙ f in clash (cc)
        go (shaped_some a b d) =
            let y : Parts.Some (count_values (parts (state_value ρ x))) ≡ Parts.Some m = sym a ∙ sym h ∙ f in
            let q : m ≡ count_values (parts (state_value ρ x)) = cc in
            record { count = q; bytes = b ∙ ap (λ (i : ℕ). lead c i ++ encode_values (parts (state_value ρ x))) (sym q) }

    pub mapping-counted : m ≡ count_values (parts (state_value ρ x))
    mapping-counted = present.count

    pub mapping-parts : {out : Bytes} {k j : ℕ} {o : Bytes} → Stores out k (lead c m) j o → {r : ℕ} {new : Bytes}
        → Emits o j (encode_values (parts (state_value ρ x))) r new → Emits out k (encode_value (state_value ρ x)) r new
    mapping-parts {out} {k} {j} {o} S {r} {new} E =
        subst (λ (b : Bytes). Emits out k b r new) (sym present.bytes)
        (emits-after out k (lead c m) S.stored (subst (λ (i : ℕ). Emits o i (encode_values (parts (state_value ρ x))) r new) S.ends E))

-- ---- the loop over parts

-- the first i of the values us were written from index k on
pub record Rowing (us : Values) (out₀ : Bytes) (k i at : ℕ) (out : Bytes) : Type 0 where
  pub within : i ≤ count_values us
  pub kept : length out ≡ length out₀
  pub emits : Emits out₀ k (encode_values (front us i)) at out

pub rowing_none : (us : Values) (out : Bytes) (k : ℕ) → Rowing us out k 0 k out
unfolding overlay
rowing_none us out k = record {
  within = omega arith;
  kept = refl;
  emits = subst (λ (b : Bytes). Emits out k b k out) (sym (front_none us)) (emits_exact out k [] (sym (add-zero k)) refl);
}

module _ {us : Values} {out₀ : Bytes} {k i at : ℕ} {out : Bytes} (R : Rowing us out₀ k i at out) where
  pub rowing_past : longest < at → Emits out₀ k (encode_values us) at out
  rowing_past h = subst (λ (b : Bytes). Emits out₀ k b at out) (sym (front_behind us i)) (emits-past (encode_values (behind us i)) R.emits h)

  pub rowing_all : count_values us ≤ i → Emits out₀ k (encode_values us) at out
  rowing_all h = subst (λ (vs : Values). Emits out₀ k (encode_values vs) at out) (front_all us i h) R.emits

  module _ (l : at ≤ longest) where
    -- each value that was written has a byte
    pub rowing_small : clean_all_of us ≡ true → i ≤ longest
    rowing_small c = omega (arith, within_limit R.emits l, front_long us i c R.within)

    pub rowing_more : i < count_values us → {e : ℕ} {o : Bytes} → length o ≡ length out → Emits out at (encode_value (value_at us i)) e o → Rowing us out₀
        k (i + 1) e o
    rowing_more h {e} {o} z E = record {
      within = omega arith;
      kept = z ∙ R.kept;
      emits = subst (λ (b : Bytes). Emits out₀ k b e o) (sym (ap (λ (j : ℕ). encode_values (front us j)) (add-one i) ∙ front_more us i h))
          (emits-append R.kept R.emits l E);
    }

-- ---- one part

-- what the walks to the parts ask
pub parts_asks : {v : Edition} {lay : Bytes} {n t : ℕ} {rec plan : Bytes} {w : Walk} → EmitAt v lay n t rec plan w → (w.at < 65536) × (w.at < length plan)
parts_asks A = (walk_small A.standing, walk_inside A.standing)

module _ {v : Edition} {lay : Bytes} {n t : ℕ} {rec plan : Bytes} {w : Walk} (A : EmitAt v lay n t rec plan w) (M : Mapped A.state) where
  abbrev σ : Values
  σ = A.row.values.values

  abbrev all : Values
  all = parts (state_value σ A.state)

  pub all-clean : clean_all_of all ≡ true
  all-clean = parts-clean (state_value σ A.state) A.clean

  module _ {i : ℕ} (h : i < count_values all) where
    deep-less : levels (value_at all i) + 1 ≤ levels (state_value σ A.state)
    deep-less = part-levels (state_value σ A.state) i h

    pub part_reached : {m : ℕ} → Reached plan w.at i m → PartStands plan w.at i m
    part_reached R =
        let (f, s, p) = part_exists σ A.state i M h in
        reached_stands R A.standing.here (subst (λ (y : Selector). Part y i f s) (sym A.standing.selector) p)

    pub part_room : w.deep < 64
    unfolding size
    part_room = omega (arith, A.low, deep-less, entries-deep A.standing.entries)

    module _ {r : Walk}
        (F : (x : State) (f : Frame) (s : Selector) → WalkAt plan w x → x.path ≡ [] → Part x.selector i f s → StepsTo plan
        (state s (f ∷ x.frames) []) w r) where
      part-is : (f : Frame) × (s : Selector) × Part A.state.selector i f s
      part-is = part_exists σ A.state i M h

      stepped : StepsTo plan (state part-is.1 (part-is.0 ∷ A.state.frames) []) w r
      stepped = F A.state part-is.0 part-is.1 A.standing M.path part-is.2

      same : state_value σ (state part-is.1 (part-is.0 ∷ A.state.frames) []) ≡ value_at all i
      same = child-value σ A.state M.path part-is.2

      small : size (state part-is.1 (part-is.0 ∷ A.state.frames) []) + levels (state_value σ (state part-is.1 (part-is.0 ∷ A.state.frames) [])) ≤ 64
      unfolding size
      small = let z : length A.state.path ≡ 0 = ap length M.path in omega (arith, A.low, deep-less, ap levels same, z)

      pub part-emit : EmitAt v lay n t rec plan r
      part-emit = record {
        row = A.row;
        state = state part-is.1 (part-is.0 ∷ A.state.frames) [];
        standing = stepped.standing;
        clean = ap clean same ∙ part-clean (state_value σ A.state) i A.clean;
        low = small;
        short = A.short;
      }

      pub part_falls : rank r < rank w
      part_falls = stepped.falls

      pub part-emits : {out : Bytes} {k e : ℕ} {new : Bytes}
          → ((B : EmitAt v lay n t rec plan r) → Emits out k (encode_value (state_value B.row.values.values B.state)) e new) → Emits out k
          (encode_value (value_at all i)) e new
      part-emits {out} {k} {e} {new} f = subst (λ (u : Value). Emits out k (encode_value u) e new) same
          (f (record {
            row = A.row;
            state = state part-is.1 (part-is.0 ∷ A.state.frames) [];
            standing = stepped.standing;
            clean = ap clean same ∙ part-clean (state_value σ A.state) i A.clean;
            low = small;
            short = A.short;
          }))
