-- `rules::params::compare_decimals` meets its contract: the tests of `decimals_of`, each where it decides. Assumes
-- nothing.
use borrow.Author.Tests.{eq-eqb, ne_eqb, lt-ltb, le-ltb}
use Rattle.rules.specs.Params.{decimals_of}
use Rattle.rules.proofs.params.compare_decimals.Goals as goal

pub returns-then-incoming-target : goal.returns-then-incoming-target
returns-then-incoming-target c =
    unfold decimals_of in rw (ne_eqb _ _ c.if-incoming-target.true)

pub returns-then-incoming-target-2 : goal.returns-then-incoming-target-2
returns-then-incoming-target-2 c =
    unfold decimals_of in rw (eq-eqb _ _ c.if-incoming-target.false, lt-ltb _ _ c.if-incoming-target-2.true)

pub returns-then-incoming-target-3 : goal.returns-then-incoming-target-3
returns-then-incoming-target-3 c =
    unfold decimals_of in rw (eq-eqb _ _ c.if-incoming-target.false, le-ltb _ _ c.if-incoming-target-2.false, eq-eqb _ _ c.if-incoming-target-3.true)

pub returns : goal.returns
returns c =
    unfold decimals_of in rw (eq-eqb _ _ c.if-incoming-target.false, le-ltb _ _ c.if-incoming-target-2.false, ne_eqb _ _ c.if-incoming-target-3.false)
