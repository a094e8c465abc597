-- What a column of a plan gives, and what was written aside. Assumes nothing.
use Prim.Native.Nat.{ℕ, ◌+◌, ◌<◌, ◌≤◌}
use mathlib.Core.Path.{◌≡◌, refl, ap, sym, subst, ◌∙◌}
use mathlib.Core.Bool.{Bool, true, false, ◌&&◌}
use mathlib.Core.List.{[]}
use native.Mathlib.Omega.{arith}
use native.Mathlib.Nat.{zero-add}
use native.Mathlib.Decide.{dec_lt}
use lib.Dec.{leb}
use lib.ListN.{length, take, length-take}
use lib.Seq.{slice}
use borrow.Author.Tests.{le-leb, lt-leb}
use Rattle.layout.specs.Bytes.{Bytes, AllBytes}
use Rattle.layout.specs.Tree.{DataType, Fields}
use Rattle.layout.specs.declared.edition.Edition.{Edition}
use Rattle.store.specs.code.Overlay.{overlay}
use Rattle.store.proofs.Overlay.{overlay_front}
use Rattle.store.proofs.Holds.{holds_front}
use Rattle.forms.specs.Depth.{depth_of, depth_of_fields}
use Rattle.values.specs.Value.{Value, Values}
use Rattle.values.specs.Encode.{encode_value, encode_values}
use Rattle.values.specs.Record.{longest}
use Rattle.plan.specs.Selector.{Selector, Selectors}
use Rattle.plan.specs.Read.{longest_plan, deepest_selector}
use Rattle.plan.specs.Result.{Answer}
use Rattle.plan.specs.Run.{eval, evals, clean, clean_all_of, spacious, run}
use Rattle.plan.specs.code.Fits.{FitsOver, over-null, over-number, over-text, over-datetime, over-struct, over-list, over-array, FitsAllOver, over_nil}
use Rattle.plan.specs.code.Fits.{over_cons, FitsEachOver, over_none, over-more}
use Rattle.plan.proofs.ReadBack.{selector_back}
use Rattle.plan.proofs.Theorems.{run-writes, run-exceeds}
use Rattle.walk.specs.code.State.{state}
use Rattle.walk.specs.code.Stands.{SelectorAt}
use Rattle.walk.specs.code.Walks.{WalkAt}
use Rattle.walk.specs.code.Values.{within, value_node, state_value}
use Rattle.walk.specs.declared.walk.Walk.{Walk}
use Rattle.output.specs.code.Output.{Emits, levels, levels_all}
use Rattle.plan.specs.Calls.{buffer_after}
use Rattle.output.specs.code.Answers.{size, EmitAt, EmitTopAt, written_of}
use Rattle.output.specs.declared.write.Written.{Written}
use Rattle.output.proofs.Writing.{within_limit}

-- ---- one selector

module _ {v : Edition} {lay : Bytes} {n t : ℕ} {rec plan : Bytes} {at : ℕ} (A : EmitTopAt v lay n t rec plan at) (o : AllBytes plan) {w : Walk}
    (T : (p : Bytes) (P : SelectorAt p at) → P.end ≤ length plan → length plan ≤ length p → length p ≤ longest_plan → WalkAt p w (state P.tree [] [])) where
  abbrev top-tree : Selector
  top-tree = A.selector.tree

  top-inside : A.selector.end ≤ length plan
  top-inside = (selector_back plan o deepest_selector at top-tree A.selector.end A.selector.reads).stands.within

  top-is : state_value A.row.values.values (state top-tree [] []) ≡ eval A.row.values.values top-tree
  unfolding state_value within value_node
  top-is = sym A.same

  top-low : size (state top-tree [] []) + levels (state_value A.row.values.values (state top-tree [] [])) ≤ 64
  unfolding size
  top-low = omega (arith, A.low, ap levels top-is)

  abbrev top-at : EmitAt v lay n t rec plan w
  top-at = record {
    row = A.row;
    state = state top-tree [] [];
    standing = T plan A.selector top-inside (omega arith) A.small;
    clean = ap clean top-is ∙ A.clean;
    low = top-low;
    short = A.short;
  }

  pub top_asks : EmitAt v lay n t rec plan w
  top_asks = top-at

  pub top-emits : {out : Bytes} {k r : ℕ} {new : Bytes}
      → ((B : EmitAt v lay n t rec plan w) → Emits out k (encode_value (state_value B.row.values.values B.state)) r new)
      → Emits out k (encode_value (eval A.row.values.values A.selector.tree)) r new
  top-emits {out} {k} {r} {new} f = subst (λ (u : Value). Emits out k (encode_value u) r new) top-is (f top-at)

-- ---- what a type's depth allows

mutual
  unfolding levels levels_all depth_of depth_of_fields

  pub fits-levels : {t : DataType} {v : Value} → FitsOver t v → levels v ≤ depth_of t
  fits-levels over-null = omega arith
  fits-levels (over-number e h t) = omega arith
  fits-levels (over-text e h) = omega arith
  fits-levels (over-datetime e) = omega arith
  fits-levels (over-struct a) = omega (arith, all-levels a)
  fits-levels (over-list h a) = omega (arith, each-levels a)
  fits-levels (over-array h a) = omega (arith, each-levels a)

  all-levels : {fs : Fields} {vs : Values} → FitsAllOver fs vs → levels_all vs ≤ depth_of_fields fs
  all-levels over_nil = omega arith
  all-levels (over_cons a b) = omega (arith, fits-levels a, all-levels b)

  each-levels : {t : DataType} {vs : Values} → FitsEachOver t vs → levels_all vs ≤ depth_of t
  each-levels over_none = omega arith
  each-levels (over-more a b) = omega (arith, fits-levels a, each-levels b)

-- ---- whether there is space

not_short : (room : ℕ) (b : Bytes) → longest < length b → spacious room b ≡ false
unfolding spacious
not_short room b h = rw (lt-leb (length b) longest h) (and-false (leb (length b) room))
  where
    and-false : (x : Bool) → (x && false) ≡ false
    and-false true = refl
    and-false false = refl

not-room : (room : ℕ) (b : Bytes) → room < length b → spacious room b ≡ false
unfolding spacious
not-room room b h = rw (lt-leb (length b) room h)

is-spacious : (room : ℕ) (b : Bytes) → length b ≤ room → length b ≤ longest → spacious room b ≡ true
unfolding spacious
is-spacious room b h l = rw (le-leb (length b) room h, le-leb (length b) longest l)

over_limit : {out : Bytes} {b : Bytes} {r : ℕ} {o : Bytes} → Emits out 0 b r o → longest < r → longest < length b
over_limit {b = b} {r = r} E h = go (dec_lt longest (length b))
  where
    go : Dec (longest < length b) → longest < length b
    go (yes i) = i
    go (no i) = let (e, H) = E.fits (omega arith) in absurd (omega arith)

length-take-most : (n : ℕ) (s : Bytes) → length (take n s) ≤ length s
length-take-most n s = simp length-take (omega arith)

-- ---- what was written aside

module _ (σ : Values) (ss : Selectors) (x : clean_all_of (evals σ ss) ≡ true) {aside₀ : Bytes} (size : 16384 ≡ length aside₀) {len : ℕ} {aside : Bytes}
    (W : Emits aside₀ 0 (encode_values (evals σ ss)) len aside) where
  -- 45
  refused : (out : Bytes) → spacious (length out) (encode_values (evals σ ss)) ≡ false
      → (Written.TooLong ≡ written_of (run σ ss (length out))) × (out ≡ buffer_after (run σ ss (length out)) out)
  refused out h = let e = run-exceeds σ ss (length out) x h in (sym (ap written_of e), sym (ap (λ (r : Answer Bytes). buffer_after r out) e))

  pub aside_exceeds : (out : Bytes) → 16384 < len → (Written.TooLong ≡ written_of (run σ ss (length out))) × (out ≡ buffer_after (run σ ss (length out)) out)
  aside_exceeds out h = refused out (not_short (length out) (encode_values (evals σ ss)) (over_limit W h))

  module _ (l : len ≤ 16384) where
    length-is : len ≡ length (encode_values (evals σ ss))
    length-is = let (e, H) = W.fits (within_limit W l) in e ∙ zero-add (length (encode_values (evals σ ss)))

    pub aside_tight : (out : Bytes) → length out < len → (Written.TooLong ≡ written_of (run σ ss (length out))) × (out ≡ buffer_after (run σ ss (length out)) out)
    aside_tight out h = refused out (not-room (length out) (encode_values (evals σ ss)) (omega (arith, length-is)))

    front_is : take len aside ≡ encode_values (evals σ ss)
    front_is =
        let (e, H) = W.fits (within_limit W l) in
        ap (λ (m : ℕ). take m aside) length-is ∙ holds_front aside₀ (encode_values (evals σ ss)) aside (omega (arith, length-is, size)) H

    pub aside_inside : len ≤ length aside
    aside_inside = let z : length (take len aside) ≡ length (encode_values (evals σ ss)) = ap length front_is in omega
        (arith, z, length-is, length-take-most len aside)

    pub aside_fits : (out : Bytes) {new : Bytes} → len ≤ length out → new ≡ overlay out 0 (slice 0 len aside)
        → (Written.Written len ≡ written_of (run σ ss (length out))) × (new ≡ buffer_after (run σ ss (length out)) out)
    aside_fits out h g =
        let b = encode_values (evals σ ss) in
        let e = run-writes σ ss (length out) x (is-spacious (length out) b (omega (arith, length-is)) (omega (arith, length-is))) in (
          ap Written.Written length-is ∙ sym (ap written_of e),
          g ∙ ap (overlay out 0) front_is ∙ overlay_front out b (omega (arith, length-is)) ∙ sym (ap (λ (r : Answer Bytes). buffer_after r out) e),
        )
