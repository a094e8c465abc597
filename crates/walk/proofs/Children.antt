-- The parts of a mapping, one after the other: where each stands. Assumes nothing.
use Prim.Native.Nat.{ℕ, zero, suc, ◌+◌, ◌-◌, ◌<◌}
use mathlib.Core.Path.{◌≡◌, refl, sym, ap, ◌∙◌, subst}
use mathlib.Core.List.{[], ◌∷◌}
use native.Mathlib.Omega.{arith}
use lib.ListN.{get_or}
use Rattle.layout.specs.Bytes.{Bytes}
use Rattle.layout.specs.Parser.{ok, next}
use Rattle.layout.proofs.Ways.{clash}
use Rattle.plan.specs.Selector.{Selector, position, constant, struct_mapping, Selectors, snil, scons, count_selectors}
use Rattle.plan.specs.Read.{selector, selectors as selectorsOf, deepest_selector}
use Rattle.walk.specs.code.Stands.{SelectorAt, SelectorsAt}
use Rattle.walk.specs.code.State.{Frame, State, state}
use Rattle.walk.specs.code.Moves.{Part, p_field, Mapping, is_struct_mapping}
use Rattle.walk.specs.code.Parts.{CountedAt, CountedIs, NthIs, StructAt}
use Rattle.walk.specs.code.Walks.{WalkAt, PartAt, StepsTo}
use Rattle.walk.specs.code.Children.{PartStands, PassedTo, Reached}
use Rattle.walk.specs.declared.head.StructFields.{StructFields}
use Rattle.walk.specs.declared.walk.Walk.{Walk}
use Rattle.walk.proofs.View.{same-selector, selector_moved, selectors_moved, selectors-counted, no_selector, first-at, nth-at, nth-below}
use Rattle.walk.proofs.View.{Viewed, v_position, v_constant, v_cast, v_rename, v_struct, v_list, v_array, view}
use Rattle.walk.proofs.Moving.{maps, unmapped, part-cast, part-rename, field_found, list-found, array-found}

-- ---- selectors that were passed

-- one more
one_more : {s : Bytes} (k : ℕ) {at : ℕ} (R : SelectorsAt s k at) (N : SelectorAt s R.end)
    → (ys : Selectors) × (selectorsOf (selector deepest_selector) (suc k) s at ≡ ok ys N.end)
unfolding selectorsOf next
one_more {s} zero R N = (scons N.tree snil, rw (ap (λ (o : ℕ). selector deepest_selector s o) (sym (no_selector R refl).1) ∙ N.reads))
one_more (suc k) R N =
    let F = first-at R (omega arith) in
    let (ys, r) = one_more k (selectors_moved (let e : suc k - 1 ≡ k = omega arith in e) refl F.tail) (selector_moved (sym F.ends) N) in
    (scons F.head.tree ys, rw F.head.reads (rw r))

-- what stands where they end
nth-behind : {s : Bytes} {k first m : ℕ} (R : SelectorsAt s k first) → R.end ≡ m → (n : ℕ) (Q : SelectorsAt s n first) → k < n → NthIs s n first Q k m
nth-behind {s} {k} {first} R e n Q l =
    let N = nth-at n k Q l in
    let z : ok N.passed N.start ≡ ok R.trees R.end = sym N.reads ∙ R.reads in
    let y : N.start ≡ R.end = cc in
    subst (λ (o : ℕ). NthIs s n first Q k o) (y ∙ e) N.nth

-- none yet
pub passed_none : {plan : Bytes} {at : ℕ} {f : StructFields} → ((P : SelectorAt plan (at + 1)) (Q : CountedAt plan P.end) → CountedIs plan P.end Q f)
    → PassedTo plan at 0 f.first.at
unfolding selectorsOf
passed_none g = record {
  passed = λ P i S.
      let e = (g (selector_moved S.starts S.input) S.fields).first in
      (record { trees = snil; end = S.fields.first; reads = refl }, sym e);
}

-- ---- those of a struct mapping

module _ {plan : Bytes} {at : ℕ} (H : SelectorAt plan at) {i : Selector} {ss : Selectors} (h : H.tree ≡ struct_mapping i ss) where
  tree_is : (P : SelectorAt plan at) → P.tree ≡ struct_mapping i ss
  tree_is P = (same-selector P H).0 ∙ h

  count-is : (P : SelectorAt plan at) {m : ℕ} (S : StructAt plan at P m) → S.fields.count ≡ count_selectors ss
  count-is P S =
      let q : struct_mapping S.input.tree S.fields.selectors.trees ≡ struct_mapping i ss = sym S.is ∙ tree_is P in
      let r : S.fields.selectors.trees ≡ ss = cc in
      sym (selectors-counted _ S.fields.selectors) ∙ ap count_selectors r

  module _ {k m : ℕ} (B : PassedTo plan at k m) (l : k < count_selectors ss) where
    pub part-stands : PartStands plan at k m
    part-stands = record { stands = λ P M. go P (view P) }
      where
        go : (P : SelectorAt plan at) → Viewed plan at P → PartAt plan at P k m
        go P (v_position {k = j} c e) = let q : position j ≡ struct_mapping i ss = sym e ∙ tree_is P in clash (cc)
        go P (v_constant {n} {t} {v} c e) = let q : constant n t v ≡ struct_mapping i ss = sym e ∙ tree_is P in clash (cc)
        go P (v_cast C) = let q = sym C.is ∙ tree_is P in clash (cc)
        go P (v_rename C) = let q = sym C.is ∙ tree_is P in clash (cc)
        go P (v_struct S) =
            let (R, e) = B.passed P _ S in
            let c = count-is P S in
            (field_found k S {r = record { count = S.fields.count; first = record { at = S.fields.first } }} (record { count = refl; first = refl })
            (omega arith) {c = record { at = m }}
            (λ n Q j. nth-behind R e n Q j)).answer
        go P (v_list C) = let q = sym C.is ∙ tree_is P in clash (cc)
        go P (v_array C) = let q = sym C.is ∙ tree_is P in clash (cc)

    pub passed-more : {e : ℕ} → ((P : SelectorAt plan m) → e ≡ P.end) → PassedTo plan at (k + 1) e
    passed-more f = record {
      passed = λ P j S.
          let (R, e) = B.passed P j S in
          let c = count-is P S in
          let N = nth-behind R e S.fields.count S.fields.selectors (omega arith) in
          let (ys, r) = one_more k R (selector_moved (sym e) N.here) in
          let z : k + 1 ≡ suc k = omega arith in
          let q = ap (λ (n : ℕ). selectorsOf (selector deepest_selector) n plan S.fields.first) z ∙ r in
          (record { trees = ys; end = N.here.end; reads = q }, sym (f N.here));
    }

-- the walk x stands at the part k, which stands at m
abbrev pub ChildAt : Walk → ℕ → ℕ → Walk → Type 0
ChildAt w k m x = (p : Bytes) → PartStands p w.at k m → (z : State) (f : Frame) (s : Selector) → WalkAt p w z → z.path ≡ [] → Part z.selector k f s
    → StepsTo p (state s (f ∷ z.frames) []) w x

-- ---- those of any mapping

field_below : {i : Selector} {ss : Selectors} {k : ℕ} {f : Frame} {t : Selector} → Part (struct_mapping i ss) k f t → k < count_selectors ss
field_below (p_field n) = nth-below n

part-below : {y i : Selector} {ss : Selectors} {k : ℕ} {f : Frame} {t : Selector} → y ≡ struct_mapping i ss → Part y k f t → k < count_selectors ss
part-below {k = k} {f} {t} e p = field_below (subst (λ (y : Selector). Part y k f t) e p)

module _ {plan : Bytes} {at : ℕ} where
  -- the first, where a struct mapping stands, and where none does
  pub reached_fields : {m : ℕ} → get_or plan at 0 ≡ 4 → PassedTo plan at 0 m → Reached plan at 0 m
  reached_fields c B = record { fields = B; element = λ n I. absurd (n c) }

  pub reached_element : {m : ℕ} (k : ℕ) → (get_or plan at 0 ≡ 4 → ⊥) → ((I : SelectorAt plan (at + 1)) → m ≡ I.end) → Reached plan at k m
  reached_element k n f = record { fields = record { passed = λ P i S. absurd (n S.code) }; element = λ z I. f I }

  module _ {k m : ℕ} (R : Reached plan at k m) where
    pub reached_stands : (H : SelectorAt plan at) {f : Frame} {t : Selector} → Part H.tree k f t → PartStands plan at k m
    unfolding maps
    reached_stands H {f} {t} p = record { stands = λ P M. go P M (view P) }
      where
        go : (P : SelectorAt plan at) → Mapping P.tree → Viewed plan at P → PartAt plan at P k m
        go P M (v_position c e) = unmapped e refl M
        go P M (v_constant c e) = unmapped e refl M
        go P M (v_cast C) = part-cast C M
        go P M (v_rename C) = part-rename C M
        go P M (v_struct S) = (part-stands P S.is R.fields (part-below ((same-selector H P).0 ∙ S.is) p)).stands P M
        go P M (v_list L) =
            let n : get_or plan at 0 ≡ 4 → ⊥ = λ z. omega (arith, L.code) in
            (list-found k L {c = record { at = m }} (R.element n (selector_moved L.starts L.input))).answer
        go P M (v_array A) =
            let n : get_or plan at 0 ≡ 4 → ⊥ = λ z. omega (arith, A.code) in
            (array-found k A {c = record { at = m }} (R.element n (selector_moved A.starts A.input))).answer

    -- the next
    module _ (T : PartStands plan at k m) where
      pub reached-next : {e : ℕ} → get_or plan at 0 ≡ 4 → ((P : SelectorAt plan m) → e ≡ P.end) → Reached plan at (k + 1) e
      reached-next c f = record {
        fields = record {
          passed = λ P i S.
              let M : Mapping P.tree = subst Mapping (sym S.is) is_struct_mapping in
              (passed-more P S.is R.fields (part-below S.is (T.stands P M).part) f).passed P i S;
        };
        element = λ n I. absurd (n c);
      }

    pub reached_same : (get_or plan at 0 ≡ 4 → ⊥) → Reached plan at (k + 1) m
    reached_same n = reached_element (k + 1) n (R.element n)

pub reached_child : {plan : Bytes} {w : Walk} {k m : ℕ} {r : Walk} → Reached plan w.at k m → ChildAt w k m r
    → (x : State) (f : Frame) (s : Selector) → WalkAt plan w x → x.path ≡ [] → Part x.selector k f s → StepsTo plan (state s (f ∷ x.frames) []) w r
reached_child {plan} {k = k} R g x f s W h p =
    g plan (reached_stands R W.here (subst (λ (y : Selector). Part y k f s) (sym W.selector) p)) x f s W h p
