-- `layout::read::repeats` meets its contract: the loop keeps `Scanning`. Assumes nothing.
use native.Mathlib.Omega.{arith}
use Rattle.layout.proofs.Ways.{label_in}
use Rattle.layout.proofs.Reading.{scanning_none, scanning_all, scanning-no-label, scanning-found, scanning-no-type, scanning-more}
use Rattle.layout.proofs.Reading.{scanning_free}
use borrow.Author.Rules.{rules}
use Rattle.layout.proofs.read.repeats.Goals as goal

pub returns-in-Free : goal.returns-in-Free
returns-in-Free c =
    search scanning_free

pub loop-i-init : goal.loop-i-init
loop-i-init c =
    search (scanning_none, rules)

pub same_label-requires : goal.same_label-requires
same_label-requires c =
    record { len_in_bounds = search (label_in, rules); len_in_bounds_2 = search (label_in, rules) }

pub returns-then-same_label : goal.returns-then-same_label
returns-then-same_label c =
    search scanning-found

pub returns-in-Refused-pass_type : goal.returns-in-Refused-pass_type
returns-in-Refused-pass_type c =
    search scanning-no-type

pub returns-in-Refused : goal.returns-in-Refused
returns-in-Refused c =
    search scanning-no-label

pub overflow_add-i : goal.overflow_add-i
overflow_add-i c =
    omega (arith, c.well_formed.1.0, c.loop-i-test.true)

pub loop-i-smaller : goal.loop-i-smaller
loop-i-smaller c =
    omega arith

pub loop-i-preserved : goal.loop-i-preserved
loop-i-preserved c =
    search scanning-more

pub returns : goal.returns
returns c =
    search scanning_all
