-- `store::put_number` meets its contract. Assumes nothing.
use native.Mathlib.Omega.{arith}
use mathlib.Core.Path.{◌≡◌, ◌∙◌}
use Prim.Native.Nat.{◌+◌, ◌-◌}
use Rattle.store.specs.code.Overlay.{overlay}
use Rattle.store.specs.LittleEndian.{little_bytes}
use Rattle.store.proofs.Overlay.{overlay-little}
use Rattle.store.proofs.put_number.Goals as goal

pub loop-i-preserved : goal.loop-i-preserved
loop-i-preserved c =
    let e : c.args.width - (c.loop-i.i + 1) ≡ c.args.width - c.loop-i.i - 1 = omega arith in
    let f : c.args.k + (c.loop-i.i + 1) ≡ c.args.k + c.loop-i.i + 1 = omega arith in
    rw (c.put.ensures, e, f)
    (overlay-little c.loop-i.out (c.args.k + c.loop-i.i) (c.args.width - c.loop-i.i) c.loop-i.rest (omega arith) ∙ c.loop-i.invariant)

pub returns : goal.returns
unfolding overlay little_bytes
returns c =
    let e : c.args.width - c.loop-i.i ≡ 0 = omega arith in
    rw e at c.loop-i.invariant
