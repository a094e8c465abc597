-- What a chain of casts gives.
use Rattle.std.specs.Prelude.{ℕ, ◌≡◌, false}
use Rattle.values.specs.Value.{Value, vnumber}
use Rattle.raw.specs.code.Number.{is_number}
use Rattle.transfer.specs.declared.chain.ChainValue.{ChainValue}
use Rattle.transfer.specs.declared.chain.Chained.{Chained}

-- x, made of the value y that was taken
abbrev pub ChainAnswer : Value → Value → ChainValue → Type 0
ChainAnswer x y (ChainValue.Number k n) = x ≡ vnumber k n
ChainAnswer x y ChainValue.Same = (x ≡ y) × (is_number y ≡ false)
ChainAnswer x y ChainValue.Unknown = Unit {0}

pub record ChainIs (x y : Value) (r : ChainValue) : Type 0 where
  pub answer : ChainAnswer x y r

-- the same, of a selector that ends at e
abbrev pub ChainedAnswer : Value → Value → ℕ → Chained → Type 0
ChainedAnswer x y e (Chained.To q c) = ChainIs x y q × (c.at ≡ e)
ChainedAnswer x y e Chained.Unknown = Unit {0}

pub record ChainedIs (x y : Value) (e : ℕ) (r : Chained) : Type 0 where
  pub answer : ChainedAnswer x y e r
