-- `selector::has_place` meets its contract: the tests of `has_place`, computed on each interval. Assumes nothing.
use native.Mathlib.Omega.{arith}
use Rattle.selector.proofs.Answers.{place_none, place-layout, place-between, place-column, place-one, place_after}
use Rattle.demands.specs.Refusals.{is_in}
use mathlib.Core.Path.{refl}
use Rattle.selector.proofs.has_place.Goals as goal

pub returns-then-number-lt1 : goal.returns-then-number-lt1
returns-then-number-lt1 c =
    place_none _ c.if-number-lt1.true

pub returns-then-number-lt7 : goal.returns-then-number-lt7
returns-then-number-lt7 c =
    place-layout _ c.if-number-lt1.false c.if-number-lt7.true

pub returns-then-number-lt11 : goal.returns-then-number-lt11
returns-then-number-lt11 c =
    place-between _ c.if-number-lt7.false c.if-number-lt11.true

pub returns-then-number-lt27 : goal.returns-then-number-lt27
returns-then-number-lt27 c =
    place-column _ c.if-number-lt11.false c.if-number-lt27.true

pub returns-in-28 : goal.returns-in-28
returns-in-28 c =
    unfold is_in in place-one _ c.in-28.is refl

pub returns-in-31 : goal.returns-in-31
returns-in-31 c =
    unfold is_in in place-one _ c.in-31.is refl

pub returns-in-32 : goal.returns-in-32
returns-in-32 c =
    unfold is_in in place-one _ c.in-32.is refl

pub returns-in-53 : goal.returns-in-53
returns-in-53 c =
    unfold is_in in place-one _ c.in-53.is refl

pub returns-in_default : goal.returns-in_default
returns-in_default c =
    place_after _ c.if-number-lt27.false (omega arith) c.in_default.in_default-own.rest.0.0.0.1 c.in_default.in_default-own.rest.0.0.1
    c.in_default.in_default-own.rest.0.1 c.in_default.in_default-own.rest.1
