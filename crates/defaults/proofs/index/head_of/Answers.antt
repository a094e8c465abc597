-- `defaults::index::head_of` meets its contract. Assumes nothing.
use mathlib.Core.Path.{refl}
use native.Mathlib.Omega.{arith}
use Rattle.defaults.proofs.Indexing.{head-place}
use Rattle.defaults.proofs.index.head_of.Goals as goal

pub overflow_add-result : goal.overflow_add-result
overflow_add-result c =
    omega (arith, head-place c.args.len c.args.size c.args.id c.requires)

pub returns : goal.returns
returns c =
    record { value = refl; lower_bound = head-place c.args.len c.args.size c.args.id c.requires }
