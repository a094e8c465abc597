-- Fractions of two words of 60 bits, counted in 2 ^ -120. Ten times a word fits 64 bits. Definitions only.
use Rattle.std.specs.Prelude.{ℕ, ◌+◌, ◌*◌, ◌^◌, ◌<◌}

abbrev pub word : ℕ
word = 2 ^ 60

-- how many of 2 ^ -120 are 1
unfoldable pub one : ℕ
one = word * word

-- high / 2 ^ 60 + low / 2 ^ 120
unfoldable pub count : ℕ → ℕ → ℕ
count high low = high * word + low

pub record Words (high low : ℕ) : Type 0 where
  pub above : high < word
  pub below : low < word
