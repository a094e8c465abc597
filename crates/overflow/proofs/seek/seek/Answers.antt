-- `overflow::seek::seek` meets its contract: the loop keeps `Going`. Assumes nothing.
use Rattle.overflow.proofs.Seeking.{seeking_located, seeking-no, seeking-yes, input-starts, seeking-input, outward-starts, seeking-outward}
use Rattle.overflow.proofs.Seeking.{going_start}
use native.Mathlib.Omega.{arith}
use Rattle.overflow.proofs.seek.seek.Goals as goal

pub loop-next-init : goal.loop-next-init
loop-next-init c =
    going_start _ _ _ _ _ _ (λ i. omega (arith, c.type_inv.rec i)) (λ i. omega (arith, c.type_inv.plan i)) c.requires.small_want

pub locate-x-requires : goal.locate-x-requires
locate-x-requires c =
    let S = c.loop-next.invariant c.requires.seeks.0 c.requires.seeks.1 in record { skips = c.requires.skips; walk_at = (S.state, S.standing) }

pub at_stop-requires : goal.at_stop-requires
at_stop-requires c =
    let L = seeking_located (c.loop-next.invariant c.requires.seeks.0 c.requires.seeks.1) c.locate-x.ensures in record {
      skips = c.requires.skips;
      ends = c.requires.ends;
      record_at = (
        c.requires.seeks.0,
        (
          L.state,
          L.standing,
        ),
      );
      small_want = L.small;
    }

pub returns-in-No : goal.returns-in-No
returns-in-No c =
    λ X S. seeking-no (c.loop-next.invariant X S) c.locate-x.ensures (c.at_stop.ensures X) c.in-No.is

pub returns-in-Yes : goal.returns-in-Yes
returns-in-Yes c =
    λ X S. seeking-yes (c.loop-next.invariant X S) c.locate-x.ensures (c.at_stop.ensures X) c.in-Yes.is

pub to_input-x-requires : goal.to_input-x-requires
to_input-x-requires c =
    input-starts (c.loop-next.invariant c.requires.seeks.0 c.requires.seeks.1) c.locate-x.ensures (c.at_stop.ensures c.requires.seeks.0)

pub loop-next-smaller-in-Input : goal.loop-next-smaller-in-Input
loop-next-smaller-in-Input c =
    (seeking-input (c.loop-next.invariant c.requires.seeks.0 c.requires.seeks.1) c.locate-x.ensures (c.at_stop.ensures c.requires.seeks.0)
    c.in-Input.is
    c.to_input-x.ensures).1

pub loop-next-preserved-in-Input : goal.loop-next-preserved-in-Input
loop-next-preserved-in-Input c =
    λ X S. (seeking-input (c.loop-next.invariant X S) c.locate-x.ensures (c.at_stop.ensures X) c.in-Input.is c.to_input-x.ensures).0

pub outward-x-requires : goal.outward-x-requires
outward-x-requires c =
    outward-starts (c.loop-next.invariant c.requires.seeks.0 c.requires.seeks.1) c.locate-x.ensures (c.at_stop.ensures c.requires.seeks.0)
    c.in-Outward.is

pub loop-next-smaller : goal.loop-next-smaller
loop-next-smaller c =
    (seeking-outward (c.loop-next.invariant c.requires.seeks.0 c.requires.seeks.1) c.locate-x.ensures (c.at_stop.ensures c.requires.seeks.0)
    c.in-Outward.is c.outward-x.ensures.steps_to).1

pub loop-next-preserved : goal.loop-next-preserved
loop-next-preserved c =
    λ X S. (seeking-outward (c.loop-next.invariant X S) c.locate-x.ensures (c.at_stop.ensures X) c.in-Outward.is c.outward-x.ensures.steps_to).0
