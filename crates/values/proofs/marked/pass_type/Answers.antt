use Rattle.values.specs.declared.read.ValueRead.{ValueRead}
use mathlib.Core.Path.{ap}
use Prim.Native.Nat.{ℕ}
use Rattle.values.proofs.marked.pass_type.Goals as goal

pub returns : goal.returns
returns c =
    λ P. ap (λ (o : ℕ). ValueRead.To (record { at = o })
    c.args.c) (c.skip_type_by.ensures P)
