-- What reads ends behind where it began. Assumes nothing.
use Prim.Native.Nat.{ℕ, zero, suc, ◌+◌, ◌≤◌}
use mathlib.Core.Path.{◌≡◌}
use mathlib.Core.Bool.{Bool, true, false}
use native.Mathlib.Omega.{arith}
use lib.ListN.{length, get_or}
use lib.Dec.{eqb, leb, ltb}
use Rattle.layout.specs.Bytes.{Bytes}
use Rattle.layout.specs.Parser.{Res, refuse, ok, next, choose, Parser, byte, chunk, u16}
use Rattle.layout.specs.Tree.{leaf_of, DataType, leaf, struct, list, array, Fields, fnil, fcons}
use Rattle.layout.specs.Layout.{text, type}
use Rattle.layout.specs.declared.columns.Siblings.TheVariants.{Free}
use Rattle.layout.specs.declared.leaf.Leaf.{Leaf}
use Rattle.layout.specs.declared.edition.Edition.TheVariants.{One}
use Rattle.layout.proofs.Ways.{clash}
use Rattle.layout.proofs.View.{next-ok}
use Rattle.forms.proofs.Theorems.{read_extent}
use Rattle.rules.specs.declared.outcome.OptionCode.{OptionCode}
use Rattle.rules.specs.declared.outcome.OptionCode.TheVariants.{Known, Unknown}
use Rattle.rules.specs.Outcomes.{option_at}
use Rattle.values.specs.Value.{Value}
use Rattle.values.specs.Reading.{presence, nullable, flag, long_text, content_by, leaf_content, times, list_content, array_content, struct_content, content, values}
use Rattle.values.specs.Reading.{value, decimal}
use Rattle.values.specs.Content.{content_of}
use Rattle.values.specs.declared.content.Content.{Content}
use Rattle.values.specs.declared.content.Content.TheVariants.{Nothing, Flag, Number, Decimal, Text}
use Rattle.plan.specs.Selector.{Selector}
use Rattle.plan.specs.Read.{data_type, known_option, cast_option, selectors, position_rest, constant_rest, cast_rest, rename_rest, struct_rest, list_rest, array_rest}
use Rattle.plan.specs.Read.{selector_rest, selector}

-- wherever x reads, it ends at or behind `at`
abbrev pub From : {A : Type 0} → ℕ → Res A → Type 0
From {A} at x = (a : A) (m : ℕ) → x ≡ ok a m → at ≤ m

ok_from : {A : Type 0} (x : A) {at m : ℕ} → at ≤ m → From at (ok x m)
ok_from x {at} {m} h a e q = let z : m ≡ e = cc in omega arith

refuse-from : {A : Type 0} (n : ℕ) {at : ℕ} → From {A = A} at (refuse n)
refuse-from n a e q = clash (cc)

next-from : {A B : Type 0} (x : Res A) (k : A → ℕ → Res B) {at : ℕ} → From at x → ((a : A) (m : ℕ) → From m (k a m)) → From at (next x k)
next-from x k f g b e q = let (a, m, h, r) = next-ok x k q in let i = f a m h in let j = g a m b e r in omega arith

choose-from : {A : Type 0} (b : Bool) (x y : Res A) {at : ℕ} → From at x → From at y → From at (choose b x y)
unfolding choose
choose-from true x y f g = f
choose-from false x y f g = g

module _ (s : Bytes) where
  pub byte-behind : (at : ℕ) → From (at + 1) (byte s at)
  unfolding byte
  byte-behind at = choose-from (ltb at (length s)) _ _ (ok_from (get_or s at 0) (omega arith)) (refuse-from 2)

  byte-from : (at : ℕ) → From at (byte s at)
  byte-from at a m e = let h = byte-behind at a m e in omega arith

  chunk-from : (n at : ℕ) → From at (chunk n s at)
  unfolding chunk
  chunk-from n at = choose-from (leb (at + n) (length s)) _ _ (ok_from _ (omega arith)) (refuse-from 2)

  pub u16-from : (at : ℕ) → From at (u16 s at)
  unfolding u16
  u16-from at = next-from _ _ (byte-from at) (λ a i. next-from _ _ (byte-from i) (λ b j. ok_from _ (omega arith)))

  pub text-from : (at : ℕ) → From at (text s at)
  unfolding text
  text-from at = next-from _ _ (byte-from at) (λ n i. choose-from (leb n 63) _ _ (chunk-from n i) (refuse-from 4))

  pub type-from : (at : ℕ) → From at (type One Free 16 s at)
  type-from at c m e = (read_extent One Free 16 s at e).0

  dtype-from : (at : ℕ) → From at (data_type s at)
  unfolding data_type
  dtype-from at = next-from _ _ (type-from at) (λ c i. ok_from _ (omega arith))

  pub option-from : (at : ℕ) → From at (cast_option s at)
  unfolding cast_option known_option
  option-from at = next-from _ _ (byte-from at) (λ c i. known (option_at c) i)
    where
      known : (o : OptionCode) (i : ℕ) → From i (known_option o s i)
      known (Known o) i = ok_from o (omega arith)
      known Unknown i = refuse-from 3

  -- ---- values

  nullable-from : (p : Parser Value) → ((at : ℕ) → From at (p s at)) → (at : ℕ) → From at (nullable p s at)
  unfolding nullable presence
  nullable-from p f at =
      next-from _ _
      (next-from _ _ (byte-from at) (λ b i. choose-from (eqb b 0) _ _ (ok_from false (omega arith))
      (choose-from (eqb b 1) _ _ (ok_from true (omega arith)) (refuse-from 3))))
      (λ here i. choose-from here _ _ (f i) (ok_from _ (omega arith)))

  leaf-from : (c : Content) (l : Leaf) (at : ℕ) → From at (content_by c l s at)
  unfolding content_by flag decimal long_text
  leaf-from Nothing l at = refuse-from 3
  leaf-from Flag l at =
      next-from _ _ (next-from _ _ (byte-from at) (λ b i. choose-from (leb b 1) _ _ (ok_from b (omega arith)) (refuse-from 3))) (λ b i. ok_from _ (omega arith))
  leaf-from (Number w) l at = next-from _ _ (chunk-from w at) (λ bs i. ok_from _ (omega arith))
  leaf-from (Decimal p) l at =
      next-from _ _ (next-from _ _ (chunk-from 8 at) (λ bs i. choose-from _ _ _ (ok_from _ (omega arith)) (refuse-from 52))) (λ n i. ok_from _ (omega arith))
  leaf-from Text l at = next-from _ _ (next-from _ _ (u16-from at) (λ n i. chunk-from n i)) (λ bs i. ok_from _ (omega arith))

  times-from : (p : Parser Value) → ((at : ℕ) → From at (p s at)) → (n at : ℕ) → From at (times n p s at)
  unfolding times
  times-from p f zero at = ok_from _ (omega arith)
  times-from p f (suc n) at = next-from _ _ (f at) (λ v i. next-from _ _ (times-from p f n i) (λ vs j. ok_from _ (omega arith)))

  mutual
    unfolding content leaf_content list_content array_content struct_content

    content-from : (t : DataType) (at : ℕ) → From at (content t s at)
    content-from (leaf l) at = leaf-from (content_of (leaf_of l)) (leaf_of l) at
    content-from (struct fs) at = next-from _ _ (values-from fs at) (λ vs i. ok_from _ (omega arith))
    content-from (list t) at = next-from _ _ (u16-from at) (λ n i. next-from _ _ (times-from _ (nullable-from _ (λ i. content-from t i)) n i)
        (λ vs j. ok_from _ (omega arith)))
    content-from (array w t) at = next-from _ _ (times-from _ (nullable-from _ (λ i. content-from t i)) w at) (λ vs j. ok_from _ (omega arith))

    values-from : (fs : Fields) (at : ℕ) → From at (values fs s at)
    values-from fnil at = ok_from _ (omega arith)
    values-from (fcons n t fs) at = next-from _ _ (nullable-from _ (λ i. content-from t i) at)
        (λ v i. next-from _ _ (values-from fs i) (λ vs j. ok_from _ (omega arith)))

  pub value-from : (t : DataType) (at : ℕ) → From at (value t s at)
  unfolding value
  value-from t at = nullable-from _ (λ i. content-from t i) at

  -- ---- selectors

  module _ (p : Parser Selector) (f : (at : ℕ) → From at (p s at)) where
    pub selectors-from : (n at : ℕ) → From at (selectors p n s at)
    unfolding selectors
    selectors-from zero at = ok_from _ (omega arith)
    selectors-from (suc n) at = next-from _ _ (f at) (λ x i. next-from _ _ (selectors-from n i) (λ xs j. ok_from _ (omega arith)))

    rest_from : (c at : ℕ) → From at (selector_rest p c s at)
    unfolding selector_rest position_rest constant_rest cast_rest rename_rest struct_rest list_rest array_rest
    rest_from c at =
        choose-from (eqb c 0) _ _ (next-from _ _ (u16-from at) (λ k i. ok_from _ (omega arith)))
        (choose-from (eqb c 1) _ _ (next-from _ _ (text-from at) (λ n i. next-from _ _ (dtype-from i)
        (λ t j. next-from _ _ (value-from t j) (λ v k. ok_from _ (omega arith)))))
        (choose-from (eqb c 2) _ _ (next-from _ _ (f at) (λ x i. next-from _ _ (dtype-from i)
        (λ t j. next-from _ _ (option-from j) (λ o k. ok_from _ (omega arith)))))
        (choose-from (eqb c 3) _ _ (next-from _ _ (f at) (λ x i. next-from _ _ (text-from i) (λ n j. ok_from _ (omega arith))))
        (choose-from (eqb c 4) _ _ (next-from _ _ (f at) (λ x i. next-from _ _ (u16-from i)
        (λ n j. next-from _ _ (selectors-from n j) (λ xs k. ok_from _ (omega arith)))))
        (choose-from (eqb c 5) _ _ (next-from _ _ (f at) (λ x i. next-from _ _ (f i) (λ y j. ok_from _ (omega arith))))
        (choose-from (eqb c 6) _ _ (next-from _ _ (f at) (λ x i. next-from _ _ (f i) (λ y j. ok_from _ (omega arith))))
        (refuse-from 3)))))))

  -- a code at least
  pub selector-behind : (d at : ℕ) → From (at + 1) (selector d s at)
  unfolding selector
  selector-behind zero at = refuse-from 4
  selector-behind (suc d) at = next-from _ _ (byte-behind at) (λ c i. rest_from (selector d)
      (λ at x m e. let h = selector-behind d at x m e in omega arith) c i)
