-- `nullness::column::place_filled` meets its contract: the loop keeps `Marking`. Assumes nothing.
use Rattle.nullness.proofs.Marking.{marking_start, marking_none, marking_refused, marking_more, marking_end}
use Rattle.nullness.proofs.column.place_filled.Goals as goal

pub loop-i-init : goal.loop-i-init
loop-i-init c =
    λ P. marking_start P _ _ _

pub part_mark-requires : goal.part_mark-requires
part_mark-requires c =
    (c.loop-i.invariant c.requires.type_at).type

pub returns-in-None : goal.returns-in-None
returns-in-None c =
    λ P. marking_none (c.loop-i.invariant P) c.loop-i-test.true c.requires.len_in_bounds c.part_mark.ensures c.in-None.is

pub returns-in-Refused : goal.returns-in-Refused
returns-in-Refused c =
    λ P. marking_refused (c.loop-i.invariant P) c.loop-i-test.true c.requires.len_in_bounds c.part_mark.ensures c.in-Refused.is

pub loop-i-preserved : goal.loop-i-preserved
loop-i-preserved c =
    λ P. marking_more (c.loop-i.invariant P) c.loop-i-test.true c.requires.len_in_bounds c.part_mark.ensures c.in-At.is

pub column_filled-requires : goal.column_filled-requires
column_filled-requires c =
    (c.loop-i.invariant c.requires.type_at).type

pub returns : goal.returns
returns c =
    λ P. marking_end (c.loop-i.invariant P) c.loop-i-test.false c.column_filled.ensures
