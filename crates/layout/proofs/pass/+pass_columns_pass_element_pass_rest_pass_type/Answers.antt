-- The proof of the cycle of calls {pass_columns, pass_element, pass_rest, pass_type}. The measure is 3 for each level
-- left, and 1, 1, 2 and 0 more. `Passing` holds at the head of the loop. Assumes nothing.
use borrow.Author.Rules.{rules}
use native.Mathlib.Omega.{arith}
use Rattle.layout.proofs.Passing.{passing_none, passing_all, passing-no-label, passing-no-type, passing-more, not_plain, type-passed}
use Rattle.layout.proofs.Passing.{rest-passed, element-passed}
use Rattle.layout.proofs.pass.+pass_columns_pass_element_pass_rest_pass_type.Goals as goal

pub pass_columns-loop-i-init : goal.pass_columns-loop-i-init
pass_columns-loop-i-init t c =
    search (passing_none, rules)

pub pass_columns-returns-in-Refused-pass_type : goal.pass_columns-returns-in-Refused-pass_type
pass_columns-returns-in-Refused-pass_type t c =
    search passing-no-type

pub pass_columns-returns-in-Refused : goal.pass_columns-returns-in-Refused
pass_columns-returns-in-Refused t c =
    search passing-no-label

pub pass_columns-overflow_add-i : goal.pass_columns-overflow_add-i
pass_columns-overflow_add-i t c =
    omega arith

pub pass_columns-loop-i-smaller : goal.pass_columns-loop-i-smaller
pass_columns-loop-i-smaller t c =
    omega arith

pub pass_columns-loop-i-preserved : goal.pass_columns-loop-i-preserved
pass_columns-loop-i-preserved t c =
    search passing-more

pub pass_columns-returns : goal.pass_columns-returns
pass_columns-returns t c =
    passing_all _ _ _ _ _ _ _ c.loop-i.invariant c.loop-i-test.false

pub pass_element-returns-in-To : goal.pass_element-returns-in-To
pass_element-returns-in-To t c =
    search element-passed

pub pass_element-returns-in-Refused : goal.pass_element-returns-in-Refused
pass_element-returns-in-Refused t c =
    search element-passed

pub pass_rest-returns-in-14 : goal.pass_rest-returns-in-14
pass_rest-returns-in-14 t c =
    search rest-passed

pub pass_rest-returns-in-Is : goal.pass_rest-returns-in-Is
pass_rest-returns-in-Is t c =
    search rest-passed

pub pass_rest-returns-in-Refused : goal.pass_rest-returns-in-Refused
pass_rest-returns-in-Refused t c =
    search rest-passed

pub pass_rest-returns-in-19 : goal.pass_rest-returns-in-19
pass_rest-returns-in-19 t c =
    search rest-passed

pub pass_rest-returns-in-To : goal.pass_rest-returns-in-To
pass_rest-returns-in-To t c =
    search rest-passed

pub pass_rest-returns-in-Refused-pass_long : goal.pass_rest-returns-in-Refused-pass_long
pass_rest-returns-in-Refused-pass_long t c =
    search rest-passed

pub pass_rest-returns-in-21 : goal.pass_rest-returns-in-21
pass_rest-returns-in-21 t c =
    search rest-passed

pub pass_rest-returns-in_default : goal.pass_rest-returns-in_default
pass_rest-returns-in_default t c =
    search rest-passed

pub pass_type-returns-then-depth-eq0 : goal.pass_type-returns-then-depth-eq0
pass_type-returns-then-depth-eq0 t c =
    search type-passed

pub pass_type-pass_rest-requires : goal.pass_type-pass_rest-requires
pass_type-pass_rest-requires t c =
    search (not_plain, rules)

pub pass_type-returns-in-Known : goal.pass_type-returns-in-Known
pass_type-returns-in-Known t c =
    search type-passed

pub pass_type-returns-in-Unknown : goal.pass_type-returns-in-Unknown
pass_type-returns-in-Unknown t c =
    search type-passed

pub pass_type-returns-in-Refused : goal.pass_type-returns-in-Refused
pass_type-returns-in-Refused t c =
    search type-passed
