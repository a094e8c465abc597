-- `checker::head::width` meets its contract. Assumes nothing.
use Rattle.checker.proofs.Headed.{mapped-before, widening_start, widening-asks, widening-incoming, widening-plan, widening-less}
use Rattle.checker.proofs.Headed.{widening-again}
use Rattle.checker.proofs.head.width.Goals as goal

pub loop-z-init : goal.loop-z-init
loop-z-init c =
    let (x, t, M) = c.requires.by_index in widening_start M

pub to_input-y-requires : goal.to_input-y-requires
to_input-y-requires c =
    mapped-before c.loop-z.invariant.start

pub resolve-r-requires : goal.resolve-r-requires
resolve-r-requires c =
    record { tables = c.requires.tables; typed_at = widening-asks c.to_input-y.ensures c.loop-z.invariant }

pub returns-in-Incoming : goal.returns-in-Incoming
returns-in-Incoming c =
    widening-incoming c.to_input-y.ensures c.loop-z.invariant c.resolve-r.ensures c.in-Incoming.is c.raw_width.ensures

pub returns-in-Plan : goal.returns-in-Plan
returns-in-Plan c =
    widening-plan c.to_input-y.ensures c.loop-z.invariant c.resolve-r.ensures c.in-Plan.is c.raw_width-in-Plan.ensures

pub loop-z-smaller : goal.loop-z-smaller
loop-z-smaller c =
    widening-less c.to_input-y.ensures c.loop-z.invariant c.resolve-r.ensures

pub loop-z-preserved : goal.loop-z-preserved
loop-z-preserved c =
    widening-again c.to_input-y.ensures c.loop-z.invariant c.resolve-r.ensures c.in-Mapped.is
