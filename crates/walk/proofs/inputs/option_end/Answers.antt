-- `walk::inputs::option_end` meets its contract: the byte behind the type. Assumes nothing.
use mathlib.Core.Path.{refl}
use Rattle.layout.proofs.View.{never_stuck}
use Rattle.walk.proofs.Heads.{option-end, option-ended}
use Rattle.walk.proofs.inputs.option_end.Goals as goal

pub returns-in-Byte : goal.returns-in-Byte
returns-in-Byte c =
    λ T O.
    option-end T O c.pass_type.ensures c.in-To.is c.byte.ensures c.in-Byte.is refl

pub returns-in-Refused-byte : goal.returns-in-Refused-byte
returns-in-Refused-byte c =
    λ T O.
    option-ended T O c.pass_type.ensures c.in-To.is c.byte.ensures c.in-Refused-byte.is

pub returns-in-Refused : goal.returns-in-Refused
returns-in-Refused c =
    λ T O. never_stuck T c.pass_type.ensures c.in-Refused.is
