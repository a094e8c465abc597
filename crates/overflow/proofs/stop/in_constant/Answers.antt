-- `overflow::stop::in_constant` meets its contract: the value stands behind its type. Assumes nothing.
use Rattle.ends.proofs.Entries.{ends-none}
use mathlib.Core.Path.{refl}
use Rattle.overflow.proofs.Asking.{raw_of}
use Rattle.overflow.proofs.Scanning.{same-node}
use Rattle.overflow.proofs.stop.in_constant.Goals as goal

pub in_long_constant-requires : goal.in_long_constant-requires
in_long_constant-requires c =
    record { raw_at = (raw_of c.requires.raw_in (c.skip_type-c.ensures c.requires.raw_in.type)).raw; small_search = c.requires.small_search }

pub returns-then-needs_table : goal.returns-then-needs_table
returns-then-needs_table c =
    λ X. let R = raw_of X (c.skip_type-c.ensures X.type) in same-node _ _ R.is (c.in_long_constant.ensures R.raw)

pub some_at-requires : goal.some_at-requires
some_at-requires c =
    record { ends = ends-none refl; raw_at = (raw_of c.requires.raw_in (c.skip_type-c.ensures c.requires.raw_in.type)).raw; small_search = c.requires.small_search }

pub returns : goal.returns
returns c =
    λ X. let R = raw_of X (c.skip_type-c.ensures X.type) in same-node _ _ R.is (c.some_at.ensures R.raw)
