-- A selector that reads with some levels reads the same with more. Assumes nothing.
use Prim.Native.Nat.{ℕ, zero, suc, ◌≤◌}
use mathlib.Core.Bool.{Bool, true, false}
use native.Mathlib.Omega.{arith}
use lib.Dec.{eqb}
use Rattle.layout.specs.Bytes.{Bytes}
use Rattle.layout.specs.Parser.{Res, choose, Parser, byte, u16}
use Rattle.layout.proofs.Ways.{clash}
use Rattle.layout.proofs.FreeRule.{Within, next-within, same}
use Rattle.plan.specs.Selector.{Selector}
use Rattle.plan.specs.Read.{selectors, cast_rest, rename_rest, struct_rest, list_rest, array_rest, selector_rest, selector}

choose-within : {A : Type 0} (b : Bool) (x y z w : Res A) → Within x z → Within y w → Within (choose b x y) (choose b z w)
unfolding choose
choose-within true x y z w f g = f
choose-within false x y z w f g = g

module _ (s : Bytes) where
  -- where q reads all that p reads
  module _ (p q : Parser Selector) (w : (at : ℕ) → Within (p s at) (q s at)) where
    pub selectors-within : (n at : ℕ) → Within (selectors p n s at) (selectors q n s at)
    unfolding selectors
    selectors-within zero at = same _
    selectors-within (suc n) at = next-within _ _ _ _ (w at) (λ x i. next-within _ _ _ _ (selectors-within n i) (λ xs j. same _))

    rest-within : (c at : ℕ) → Within (selector_rest p c s at) (selector_rest q c s at)
    unfolding selector_rest cast_rest rename_rest struct_rest list_rest array_rest
    rest-within c at =
        choose-within (eqb c 0) _ _ _ _ (same _)
        (choose-within (eqb c 1) _ _ _ _ (same _)
        (choose-within (eqb c 2) _ _ _ _ (next-within _ _ _ _ (w at) (λ x i. same _))
        (choose-within (eqb c 3) _ _ _ _ (next-within _ _ _ _ (w at) (λ x i. same _))
        (choose-within (eqb c 4) _ _ _ _ (next-within _ _ _ _ (w at) (λ x i. next-within _ _ _ _ (same (u16 s i))
        (λ n j. next-within _ _ _ _ (selectors-within n j) (λ xs k. same _))))
        (choose-within (eqb c 5) _ _ _ _ (next-within _ _ _ _ (w at) (λ x i. next-within _ _ _ _ (w i) (λ y j. same _)))
        (choose-within (eqb c 6) _ _ _ _ (next-within _ _ _ _ (w at) (λ x i. next-within _ _ _ _ (w i) (λ y j. same _)))
        (same _)))))))

  pub selector-deeper : (d e : ℕ) → d ≤ e → (at : ℕ) → Within (selector d s at) (selector e s at)
  unfolding selector
  selector-deeper zero e h at = λ x m r. clash (cc)
  selector-deeper (suc d) zero h at = absurd (omega arith)
  selector-deeper (suc d) (suc e) h at = next-within _ _ _ _ (same (byte s at)) (λ c i. rest-within (selector d) (selector e)
      (selector-deeper d e (omega arith)) c i)

  pub selectors-deeper : (d e : ℕ) → d ≤ e → (n at : ℕ) → Within (selectors (selector d) n s at) (selectors (selector e) n s at)
  selectors-deeper d e h = selectors-within (selector d) (selector e) (selector-deeper d e h)
