-- `checker::resolve::resolve` meets its contract. Assumes nothing.
use Rattle.checker.proofs.Resolving.{onward-start, onward_stops, resolves-incoming, resolves-plan, resolves-mapped, before-end, onward-less}
use Rattle.checker.proofs.Resolving.{onward-again}
use Rattle.checker.proofs.resolve.resolve.Goals as goal

pub loop-c-init : goal.loop-c-init
loop-c-init c =
    onward-start c.requires.typed_at.1

pub locate-y-requires : goal.locate-y-requires
locate-y-requires c =
    record { skips = c.requires.tables.skips; walk_at = (c.loop-c.invariant.start.place, c.loop-c.invariant.start.standing) }

pub stopped-requires : goal.stopped-requires
stopped-requires c =
    record { tables = c.requires.tables; stopped_at = (c.loop-c.invariant.some, onward_stops c.loop-c.invariant c.locate-y.ensures) }

pub returns-in-Incoming : goal.returns-in-Incoming
returns-in-Incoming c =
    resolves-incoming c.loop-c.invariant c.locate-y.ensures c.stopped.ensures c.in-Incoming.is c.found_in.ensures

pub returns-in-Plan : goal.returns-in-Plan
returns-in-Plan c =
    resolves-plan c.loop-c.invariant c.locate-y.ensures c.stopped.ensures c.in-Plan.is c.found_in-in-Plan.ensures

pub to_input-x-requires : goal.to_input-x-requires
to_input-x-requires c =
    before-end c.loop-c.invariant c.locate-y.ensures c.stopped.ensures c.in-Rename.is

pub loop-c-smaller : goal.loop-c-smaller
loop-c-smaller c =
    onward-less c.loop-c.invariant c.locate-y.ensures c.stopped.ensures c.in-Rename.is c.to_input-x.ensures

pub loop-c-preserved : goal.loop-c-preserved
loop-c-preserved c =
    onward-again c.loop-c.invariant c.locate-y.ensures c.stopped.ensures c.in-Rename.is c.to_input-x.ensures

pub returns-in-Mapping : goal.returns-in-Mapping
returns-in-Mapping c =
    resolves-mapped c.loop-c.invariant c.locate-y.ensures c.stopped.ensures c.in-Mapping.is c.found_in-in-Mapping.ensures
