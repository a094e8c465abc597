-- `ends::skip::skip_columns_by` meets its contract: the loop keeps `Skipping`. Assumes nothing.
use Rattle.ends.proofs.Skipping.{skipping_none, skipping_all, skipping-first, skipping-unlabelled, skipping-more}
use native.Mathlib.Omega.{arith}
use Rattle.ends.proofs.skip.skip_columns_by.Goals as goal

pub loop-i-init : goal.loop-i-init
loop-i-init c =
    skipping_none c.requires.columns_at

pub skip_type_by-d-requires : goal.skip_type_by-d-requires
skip_type_by-d-requires c =
    record { type_at = (skipping-first c.loop-i.invariant c.loop-i-test.true c.label.ensures.result_value c.in-Is.is).head; ends = c.requires.ends }

pub returns-in-Refused : goal.returns-in-Refused
returns-in-Refused c =
    skipping-unlabelled c.loop-i.invariant c.loop-i-test.true c.label.ensures.result_value c.in-Refused.is

pub overflow_add-i : goal.overflow_add-i
overflow_add-i c =
    omega arith

pub loop-i-smaller : goal.loop-i-smaller
loop-i-smaller c =
    omega arith

pub loop-i-preserved : goal.loop-i-preserved
loop-i-preserved c =
    skipping-more c.loop-i.invariant c.loop-i-test.true c.label.ensures.result_value c.in-Is.is c.skip_type_by-d.ensures

pub returns : goal.returns
returns c =
    skipping_all c.loop-i.invariant c.loop-i-test.false
