-- `ends::table::slot_length` meets its contract: a slot that is true. Assumes nothing.
use Prim.Native.Nat.{◌/◌, ◌+◌}
use mathlib.Core.Path.{refl}
use native.Mathlib.Omega.{arith}
use Rattle.ends.proofs.Entries.{length_none, found-slot}
use Rattle.ends.proofs.table.slot_length.Goals as goal

pub returns-then-ends-j : goal.returns-then-ends-j
returns-then-ends-j c =
    (λ v s T. length_none refl, omega arith)

pub returns-then-e-d : goal.returns-then-e-d
returns-then-e-d c =
    (λ v s T. length_none refl, omega arith)

pub returns : goal.returns
returns c = (
  λ v s T. found-slot T c.args.d
      c.requires.0 c.wide-e.ensures c.if-e-d.false,
  omega
      (arith, c.type_inv.ends (c.args.d / 4 + 2)),
)
