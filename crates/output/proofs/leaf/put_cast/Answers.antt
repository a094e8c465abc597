use Rattle.raw.proofs.Storing.{number_short}
use Rattle.output.proofs.Casting.{stores-number, stores-overflow}
use mathlib.Core.Path.{refl}
use native.Mathlib.Omega.{arith}
use Rattle.output.proofs.leaf.put_cast.Goals as goal

pub overflow_add-result : goal.overflow_add-result
overflow_add-result c =
    omega (arith, c.put_number.ensures.value, number_short c.in-Number.j c.in-Number.m, c.requires)

pub returns-in-Number : goal.returns-in-Number
returns-in-Number c =
    stores-number _ _ refl c.in-Number.is c.put_number.ensures.value c.put_number.ensures.out_after

pub returns-in-Overflow : goal.returns-in-Overflow
returns-in-Overflow c =
    stores-overflow _ _ refl c.in-Overflow.is
