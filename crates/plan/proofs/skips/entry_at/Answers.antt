use Prim.Native.Nat.{◌+◌, ◌*◌}
use native.Mathlib.Omega.{arith}
use mathlib.Core.Path.{refl}
use Rattle.plan.proofs.Skipping.{skip-none, skip-found}
use Rattle.plan.proofs.skips.entry_at.Goals as goal

pub returns-then-i-eq0 : goal.returns-then-i-eq0
returns-then-i-eq0 c =
    λ s T. skip-none c.none_known.ensures

pub returns-then-i-gt767 : goal.returns-then-i-gt767
returns-then-i-gt767 c =
    λ s T. skip-none c.none_known-then-i-gt767.ensures

pub returns-then-skips-k : goal.returns-then-skips-k
returns-then-skips-k c =
    λ s T. skip-none c.none_known-then-skips-k.ensures

pub returns-then-wide-at : goal.returns-then-wide-at
returns-then-wide-at c =
    λ s T. skip-none c.none_known-then-wide-at.ensures

pub returns-then-most-count : goal.returns-then-most-count
returns-then-most-count c =
    λ s T. skip-none c.none_known-then-most-count.ensures

pub returns : goal.returns
returns c =
    λ s T. skip-found T c.args.i (2301 + 3 * c.args.i) refl (omega arith) (omega arith) (omega arith) refl c.wide-to.ensures (omega arith)
