-- `index::columns::index_columns` meets its contract: the loop keeps `Filling`. Assumes nothing.
use mathlib.Core.Path.{refl, ◌∙◌}
use lib.ListN.{length-set}
use Rattle.index.proofs.Passing.{filling_start, filling_end, filling-room, filling-last, filling-more}
use Rattle.index.proofs.columns.index_columns.Goals as goal

pub loop-j-init : goal.loop-j-init
loop-j-init c =
    (filling_start _, refl)

pub returns-then-c-gt65535 : goal.returns-then-c-gt65535
returns-then-c-gt65535 c =
    record { upper_bound = c.loop-j.invariant.0.room; indexed = filling_end c.loop-j.invariant.0 }

pub returns-then-n-i : goal.returns-then-n-i
returns-then-n-i c =
    record { upper_bound = filling-room c.loop-j.invariant.0 c.loop-j-test.true; indexed = filling-last c.loop-j.invariant.0 c.loop-j-test.true }

pub returns-in-Refused : goal.returns-in-Refused
returns-in-Refused c =
    record { upper_bound = filling-room c.loop-j.invariant.0 c.loop-j-test.true; indexed = filling-last c.loop-j.invariant.0 c.loop-j-test.true }

pub loop-j-preserved : goal.loop-j-preserved
loop-j-preserved c = (
  filling-more c.loop-j.invariant.0 c.loop-j-test.true c.if-n-i.false c.pass_columns.ensures c.in-To.is,
  length-set c.loop-j.starts
      c.loop-j.j c.loop-j.c.at ∙ c.loop-j.invariant.1,
)

pub returns : goal.returns
returns c =
    record { upper_bound = c.loop-j.invariant.0.room; indexed = filling_end c.loop-j.invariant.0 }
