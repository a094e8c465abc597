-- Option codes: each option has its own, and a code that is read back is the option's.
use mathlib.Core.Path.{◌≡◌, refl, sym, ap, ◌∙◌}
use Prim.Native.Nat.{ℕ, zero, suc}
use mathlib.Core.Bool.{true, true≢false}
use native.Mathlib.Omega.{arith}
use borrow.Author.Tests.{eqb-true, eq-eqb}
use Rattle.rules.specs.declared.outcome.CastOption.{CastOption}
use Rattle.rules.specs.declared.outcome.CastOption.TheVariants.{NonStrict, Strict, Overflowing}
use Rattle.rules.specs.declared.outcome.OptionCode.{OptionCode}
use Rattle.rules.specs.declared.outcome.OptionCode.TheVariants.{Known, Unknown}
use Rattle.rules.specs.Outcomes.{Verdict, untouched, refused, cast, option_code, option_at}
use Rattle.rules.specs.Pairs.{has_option}

pub option_of_code : (o : CastOption) → option_at (option_code o) ≡ Known o
option_of_code NonStrict = refl
option_of_code Strict = refl
option_of_code Overflowing = refl

abbrev known : OptionCode → ℕ
known (Known o) = option_code o
known Unknown = 3

pub code_of-option : (n : ℕ) (o : CastOption) → option_at n ≡ Known o → n ≡ option_code o
code_of-option zero o e = ap known e
code_of-option (suc zero) o e = ap known e
code_of-option (suc (suc zero)) o e = ap known e
code_of-option (suc (suc (suc n))) o e = absurd (three o (ap known e))
  where
    three : (o : CastOption) → ◌≡◌ {A = ℕ} 3 (option_code o) → ⊥
    three NonStrict q = omega arith
    three Strict q = omega arith
    three Overflowing q = omega arith

pub option_code_eq : (a b : CastOption) → option_code a ≡ option_code b → a ≡ b
option_code_eq a b e = known_eq (sym (option_of_code a) ∙ ap option_at e ∙ option_of_code b)
  where
    known_eq : Known a ≡ Known b → a ≡ b
    known_eq q = cc

pub has_option_lem : (o : CastOption) (v : Verdict) → has_option o v ≡ true → v ≡ cast o
has_option_lem o untouched e = absurd (true≢false (sym e))
has_option_lem o (refused n) e = absurd (true≢false (sym e))
has_option_lem o (cast a) e = ap cast (option_code_eq a o (eqb-true (option_code a) (option_code o) e))

pub option-has : (o : CastOption) → has_option o (cast o) ≡ true
option-has o = eq-eqb (option_code o) (option_code o) refl
