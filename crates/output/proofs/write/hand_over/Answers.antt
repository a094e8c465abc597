use Rattle.output.proofs.Whole.{aside_exceeds, aside_tight, aside_fits}
use native.Mathlib.Omega.{arith}
use Rattle.output.proofs.write.hand_over.Goals as goal

pub returns-then-len-gt-LONGEST : goal.returns-then-len-gt-LONGEST
returns-then-len-gt-LONGEST c =
    λ ρ ss a x z E. aside_exceeds ρ ss x z E c.args.out.now c.if-len-gt-LONGEST.true

pub returns-then-out-len : goal.returns-then-out-len
returns-then-out-len c =
    λ ρ ss a x z E. aside_tight ρ ss x z E (omega (arith, c.if-len-gt-LONGEST.false)) c.args.out.now c.if-out-len.true

pub copy-requires : goal.copy-requires
copy-requires c = (
  omega arith,
  c.requires (omega (arith, c.if-len-gt-LONGEST.false)),
  omega
      (arith, c.if-len-gt-LONGEST.false),
)

pub returns : goal.returns
returns c =
    λ ρ ss a x z E.
    aside_fits ρ ss x z E (omega (arith, c.if-len-gt-LONGEST.false))
    c.args.out.now
    (omega (arith, c.if-out-len.false)) c.copy.ensures
