-- `nullness::column::column_filled` meets its contract: by the mark and what the type begins with. Assumes nothing.
use Rattle.nullness.proofs.Marking.{optional-top, leaf-top, struct-top, list-top, array-top}
use Rattle.nullness.proofs.Placing.{untold}
use Rattle.plan.proofs.Skipping.{told}
use Rattle.layout.proofs.View.{never_headless}
use mathlib.Core.Path.{ap}
use mathlib.Core.Bool.{not}
use Rattle.nullness.proofs.column.column_filled.Goals as goal

pub returns-then-not-required : goal.returns-then-not-required
returns-then-not-required c =
    λ P. optional-top _ P.tree (untold _ (ap not c.if-not-required.true))

pub returns-in-Leaf : goal.returns-in-Leaf
returns-in-Leaf c =
    λ P. leaf-top P c.head.ensures.result_value _ (told _ (ap not c.if-not-required.false)) c.in-Leaf.is c.kind.ensures

pub returns-in-Struct : goal.returns-in-Struct
returns-in-Struct c =
    λ P. struct-top P c.head.ensures.result_value _ (told _ (ap not c.if-not-required.false)) c.in-Struct.is

pub returns-in-List : goal.returns-in-List
returns-in-List c =
    λ P. list-top P c.head.ensures.result_value _ (told _ (ap not c.if-not-required.false)) c.in-List.is

pub returns-in-Array : goal.returns-in-Array
returns-in-Array c =
    λ P. array-top P c.head.ensures.result_value _ (told _ (ap not c.if-not-required.false)) c.in-Array.is

pub returns-in-Refused : goal.returns-in-Refused
returns-in-Refused c =
    λ P. never_headless P c.head.ensures.result_value c.in-Refused.is
