-- `nodes::raw::value_at` meets its contract: the loop keeps `Going`. Assumes nothing.
use Rattle.nodes.proofs.Path.{going_start, going_end, going_nowhere, going_more}
use Rattle.nodes.proofs.raw.value_at.Goals as goal

pub loop-i-init : goal.loop-i-init
loop-i-init c =
    going_start c.requires.from_le_len.0

pub part_at-requires : goal.part_at-requires
part_at-requires c =
    record { raw_at = (c.loop-i.invariant.goes c.requires.raw_at).raw; ends = c.requires.ends }

pub returns-in-Null : goal.returns-in-Null
returns-in-Null c =
    going_nowhere c.loop-i.invariant c.loop-i-test.true c.requires.from_le_len.1 c.part_at.ensures c.in-Null.is

pub loop-i-preserved : goal.loop-i-preserved
loop-i-preserved c =
    going_more c.loop-i.invariant c.loop-i-test.true c.requires.from_le_len.1 c.part_at.ensures c.in-At.is

pub returns : goal.returns
returns c =
    going_end c.loop-i.invariant c.loop-i-test.false
