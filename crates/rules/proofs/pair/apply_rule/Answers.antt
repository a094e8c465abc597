-- `rules::pair::apply_rule` meets its contract: an arm is a place in the list of rules; the default is the first place,
-- or past the last.
use mathlib.Core.Path.{refl, sym}
use Rattle.rules.specs.Outcomes.{refused}
use Rattle.rules.specs.code.Rules.{rules}
use Rattle.layout.proofs.Keys.{none, first}
use Rattle.rules.proofs.pair.apply_rule.Goals as goal

pub returns-in-1 : goal.returns-in-1
returns-in-1 c =
    rw c.in-1.is

pub returns-in-2 : goal.returns-in-2
returns-in-2 c =
    rw c.in-2.is c.attach_cast.ensures

pub returns-in-3 : goal.returns-in-3
returns-in-3 c =
    rw c.in-3.is c.integer.ensures

pub returns-in-4 : goal.returns-in-4
returns-in-4 c =
    rw c.in-4.is c.attach_cast-in-4.ensures

pub returns-in-5 : goal.returns-in-5
returns-in-5 c =
    rw c.in-5.is c.attach_cast-in-5.ensures

pub returns-in-6 : goal.returns-in-6
returns-in-6 c =
    rw c.in-6.is c.attach_cast-in-6.ensures

pub returns-then-is_identical : goal.returns-then-is_identical
returns-then-is_identical c =
    rw (c.in-7.is, ← c.is_identical.ensures, c.if-is_identical.true)

pub returns-else-is_identical : goal.returns-else-is_identical
returns-else-is_identical c =
    rw (c.in-7.is, ← c.is_identical.ensures, c.if-is_identical.false) c.datetime.ensures

pub returns-in-8 : goal.returns-in-8
returns-in-8 c =
    rw c.in-8.is c.datetime-in-8.ensures

pub returns-in-9 : goal.returns-in-9
returns-in-9 c =
    rw c.in-9.is c.datetime-in-9.ensures

pub returns-in-10 : goal.returns-in-10
returns-in-10 c =
    rw c.in-10.is c.datetime-in-10.ensures

pub returns-in-11 : goal.returns-in-11
returns-in-11 c =
    rw c.in-11.is c.datetime-in-11.ensures

pub returns-in-12 : goal.returns-in-12
returns-in-12 c =
    rw c.in-12.is c.attach_cast-in-12.ensures

pub returns-in-13 : goal.returns-in-13
returns-in-13 c =
    rw c.in-13.is c.decimal.ensures

pub returns-in_default : goal.returns-in_default
returns-in_default c =
    sym (first (rules c.args.p c.args.z c.args.fits) (refused 24) c.args.rule refl (none 1 c.args.rule 13 c.in_default.in_default-own.rest))
