-- Document 02, L4: the printed list of integer types is what their ranges say, at all 64 pairs, by one computed test.
use mathlib.Core.Path.{◌≡◌, refl}
use Rattle.rules.specs.Promotion.{promotes}
use Rattle.rules.specs.PrintedList.{codes, held}
use Rattle.rules.proofs.Grid.{grid}

pub all_64 : grid promotes codes codes ≡ held
all_64 = refl
