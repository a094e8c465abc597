-- `store::copy` meets its contract. Assumes nothing.
use native.Mathlib.Omega.{arith}
use mathlib.Core.Path.{◌≡◌, sym, ◌∙◌}
use Prim.Native.Nat.{◌+◌}
use lib.ListN.{length-set}
use lib.Seq.{slice, slice_empty}
use Rattle.store.specs.code.Overlay.{overlay}
use Rattle.store.proofs.Overlay.{overlay-slice, overlay-part}
use Rattle.store.proofs.copy.Goals as goal

pub loop-i-preserved : goal.loop-i-preserved
loop-i-preserved c =
    let f : c.args.k + (c.loop-i.i + 1) ≡ c.args.k + c.loop-i.i + 1 = omega arith in
    let g : c.args.a + (c.loop-i.i + 1) ≡ c.args.a + c.loop-i.i + 1 = omega arith in (
      length-set c.loop-i.out (c.args.k + c.loop-i.i) _ ∙ c.loop-i.invariant.0,
      rw (f, g)
          (overlay-slice c.loop-i.out c.args.s.now (c.args.k + c.loop-i.i) (c.args.a + c.loop-i.i) (c.args.a + c.min-n.result) (omega arith)
          (omega (arith, c.min-n.ensures, c.requires.0, c.requires.1))
          ∙ c.loop-i.invariant.1),
    )

pub returns-after-loop-i : goal.returns-after-loop-i
unfolding overlay
returns-after-loop-i c =
    let h : c.loop-i.i ≡ c.min-n.result = omega arith in
    let q : overlay c.loop-i.out (c.args.k + c.loop-i.i) (slice (c.args.a + c.loop-i.i) (c.args.a + c.min-n.result) c.args.s.now) ≡ c.loop-i.out =
    rw (h, slice_empty) in
    sym q ∙ c.loop-i.invariant.1
    ∙ overlay-part c.args.out.now c.args.s.now c.args.k c.args.a c.args.e c.min-n.result c.requires.0 c.requires.1 c.min-n.ensures
