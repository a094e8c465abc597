-- `cases::buffers::short_buffer` meets its contract, by a law: the list is too long to be computed. Assumes nothing.
use Prim.Native.Nat.{ℕ}
use mathlib.Core.Path.{sym}
use lib.ListN.{length-replicate}
use Rattle.cases.proofs.buffers.short_buffer.Goals as goal

pub returns : goal.returns
returns c =
    sym (length-replicate {0} {A = ℕ} 16640 0)
