-- `overflow::scan::is_filled` meets its contract: by what the type begins with, and the count. Assumes nothing.
use Rattle.overflow.proofs.Raw.{leaf-value, struct-value, list-filled, list_uncounted, an_array_lem, struct_unfilled, array-filled}
use Rattle.layout.proofs.View.{never_headless}
use mathlib.Core.Path.{sym}
use Rattle.overflow.proofs.scan.is_filled.Goals as goal

pub returns-in-Leaf : goal.returns-in-Leaf
returns-in-Leaf c =
    λ X. sym (leaf-value X c.head.ensures.result_value c.in-Leaf.is).elements

pub returns-in-Struct : goal.returns-in-Struct
returns-in-Struct c =
    λ X. struct_unfilled (struct-value X c.head.ensures.result_value c.in-Struct.is).is

pub returns-in-Is : goal.returns-in-Is
returns-in-Is c =
    λ X. list-filled X c.head.ensures.result_value c.in-List.is c.short.ensures c.in-Is.is

pub returns-in-Refused-short : goal.returns-in-Refused-short
returns-in-Refused-short c =
    λ X. list_uncounted X c.head.ensures.result_value c.in-List.is c.short.ensures c.in-Refused-short.is

pub returns-in-Array : goal.returns-in-Array
returns-in-Array c =
    λ X. let A = an_array_lem X c.head.ensures.result_value c.in-Array.is in array-filled A.is A.counts

pub returns-in-Refused : goal.returns-in-Refused
returns-in-Refused c =
    λ X. never_headless X.type c.head.ensures.result_value c.in-Refused.is
