-- `walk::head::cast_option` meets its contract: the byte behind the type. Assumes nothing.
use Rattle.walk.proofs.Heads.{option_is, option_unknown, option-ended}
use Rattle.layout.proofs.View.{never_stuck}
use Rattle.walk.proofs.head.cast_option.Goals as goal

pub returns-in-Known : goal.returns-in-Known
returns-in-Known c =
    λ T O. option_is T O c.pass_type.ensures c.in-To.is c.byte.ensures c.in-Byte.is c.option_of_code.ensures
    c.in-Known.is

pub returns-in-Unknown : goal.returns-in-Unknown
returns-in-Unknown c =
    λ T O. option_unknown T O c.pass_type.ensures c.in-To.is c.byte.ensures c.in-Byte.is c.option_of_code.ensures
    c.in-Unknown.is

pub returns-in-Refused-byte : goal.returns-in-Refused-byte
returns-in-Refused-byte c =
    λ T O. option-ended T O c.pass_type.ensures c.in-To.is c.byte.ensures c.in-Refused-byte.is

pub returns-in-Refused : goal.returns-in-Refused
returns-in-Refused c =
    λ T O. never_stuck T c.pass_type.ensures c.in-Refused.is
