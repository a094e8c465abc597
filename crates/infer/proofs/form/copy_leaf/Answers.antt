use native.Mathlib.Omega.{arith}
use Rattle.infer.proofs.Copies.{leaf-filled}
use Rattle.infer.proofs.form.copy_leaf.Goals as goal

pub returns : goal.returns
returns c =
    leaf-filled c.args.s.now
    c.args.d.at
    c.args.e.at
    c.requires.at_le_at.0
    c.requires.at_le_at.1
    c.args.depth
    c.args.out.now
    c.args.k
    (omega (arith, c.if-depth-eq0.false))
    (omega (arith, c.if-len-gt-LONGEST.false)) (omega (arith, c.if-out-k.false))
    c.copy.ensures
