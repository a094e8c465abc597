-- When a mapping is left out: the incoming fields and the selectors, walked together. Assumes nothing.
use Prim.Native.Nat.{ℕ, ◌+◌}
use mathlib.Core.Path.{◌≡◌, refl, sym, ap, ◌∙◌}
use mathlib.Core.Bool.{Bool, true, false, ◌&&◌}
use lib.Dec.{eqb, eqb-zero-suc, eqb-suc-zero, eqb-suc-suc}
use borrow.Author.Tests.{eqb-true, eq-eqb}
use Rattle.layout.specs.Bytes.{same_bytes}
use Rattle.layout.specs.Parser.{choose}
use Rattle.layout.specs.Tree.{Label, Columns, cnil, ccons, count_columns, Fields, fnil, fcons, fields_of}
use Rattle.layout.specs.declared.columns.Position.{Position}
use Rattle.layout.specs.declared.matching.Matching.{Matching}
use Rattle.layout.specs.declared.matching.Matching.TheVariants.{ByName, ByNumber}
use Rattle.layout.proofs.OfBytes.{same_bytes_eq}
use Rattle.layout.proofs.Ways.{clash}
use Rattle.plan.specs.Selector.{Selector, position, constant, cast, rename, struct_mapping, list_mapping, array_mapping, Selectors, snil, scons, count_selectors}
use Rattle.plan.proofs.Results.{true≠false}
use Rattle.matching.specs.Build.{renamed, is_position, in_place_of, struct_selector}
use Rattle.matching.proofs.Lookup.{matches}

-- the bare position i
abbrev pub bare : ℕ → Selector
bare i = position (record { 0 = i })

pub is_bare_lem : (i : ℕ) (s : Selector) → is_position i s ≡ true → s ≡ bare i
unfolding is_position
is_bare_lem i (position k) e = ap bare (eqb-true k.0 i e)
is_bare_lem i (constant n t x) e = clash (cc)
is_bare_lem i (cast s t o) e = clash (cc)
is_bare_lem i (rename s n) e = clash (cc)
is_bare_lem i (struct_mapping s ss) e = clash (cc)
is_bare_lem i (list_mapping s x) e = clash (cc)
is_bare_lem i (array_mapping s x) e = clash (cc)

pub bare-is : (k : Position) (s : Selector) → s ≡ position k → is_position k.0 s ≡ true
unfolding is_position
bare-is k s e = rw e (eq-eqb k.0 k.0 refl)

-- as many selectors as fields, each its own number's bare position, the first's being i
unfoldable pub straight : ℕ → Fields → Selectors → Bool
straight i fnil snil = true
straight i fnil (scons s ss) = false
straight i (fcons n t fs) snil = false
straight i (fcons n t fs) (scons s ss) = is_position i s && straight (i + 1) fs ss

both_swap : (a b c : Bool) → (a && (b && c)) ≡ (b && (a && c))
both_swap true b c = refl
both_swap false true c = refl
both_swap false false c = refl

pub straight_is : (i : ℕ) (fs : Columns) (ss : Selectors) → (eqb (count_columns fs) (count_selectors ss) && in_place_of i ss) ≡ straight i (fields_of fs) ss
unfolding straight fields_of count_columns count_selectors in_place_of
straight_is i cnil snil = refl
straight_is i cnil (scons s ss) = rw (eqb-zero-suc (count_selectors ss))
straight_is i (ccons l t fs) snil = rw (eqb-suc-zero (count_columns fs))
straight_is i (ccons l t fs) (scons s ss) =
    ap (λ (b : Bool). b && (is_position i s && in_place_of (i + 1) ss)) (eqb-suc-suc (count_columns fs) (count_selectors ss))
    ∙ both_swap (eqb (count_columns fs) (count_selectors ss)) (is_position i s) (in_place_of (i + 1) ss)
    ∙ ap (λ (b : Bool). is_position i s && b) (straight_is (i + 1) fs ss)

pub struct_selector_lem : (k : Position) (fs : Columns) (ss : Selectors) → struct_selector k fs ss ≡ choose (straight 0 (fields_of fs) ss) (position k)
    (struct_mapping (position k) ss)
unfolding struct_selector
struct_selector_lem k fs ss = ap (λ (b : Bool). choose b (position k) (struct_mapping (position k) ss)) (straight_is 0 fs ss)

pub position_eq : {j k : Position} → position j ≡ position k → j ≡ k
position_eq e = cc

-- a mapping x that was left out
pub left_out : (b : Bool) (x : Selector) {j k : Position} → is_position j.0 x ≡ false → choose b (position k) x ≡ position j → (b ≡ true) × (j ≡ k)
unfolding choose
left_out true x h e = (refl, sym (position_eq e))
left_out false x {j} h e = true≠false (bare-is j x e) h

-- ---- renames

pub renamed-bare : (v : Matching) (b a : Label) (s : Selector) {j : Position} → renamed v b a s ≡ position j → s ≡ position j
unfolding renamed choose
renamed-bare ByName b a s e = e
renamed-bare ByNumber b a s {j} e = go (same_bytes a.name b.name) e
  where
    go : (x : Bool) → choose x s (rename s b.name) ≡ position j → s ≡ position j
    go true e = e
    go false e = clash (cc)

-- a field that is taken bare keeps its name
pub renamed-name : (v : Matching) (b a : Label) (s : Selector) {j : Position} → matches v b a ≡ true → renamed v b a s ≡ position j → a.name ≡ b.name
unfolding renamed choose
renamed-name ByName b a s h e = same_bytes_eq a.name b.name h
renamed-name ByNumber b a s {j} h e = go (same_bytes a.name b.name) refl e
  where
    go : (x : Bool) → same_bytes a.name b.name ≡ x → choose x s (rename s b.name) ≡ position j → a.name ≡ b.name
    go true q e = same_bytes_eq a.name b.name q
    go false q e = clash (cc)
