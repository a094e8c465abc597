use Rattle.output.proofs.Asking.{meet-none, meet-few, meet_own, meet-known}
use Rattle.output.proofs.parts.meet.Goals as goal

pub returns-then-c-least : goal.returns-then-c-least
returns-then-c-least c =
    meet-few _ _ _ c.in-Some.is c.if-c-least.true

pub returns-in-None : goal.returns-in-None
returns-in-None c =
    meet-none _ _ c.in-None.is

pub returns-in-None-own : goal.returns-in-None-own
returns-in-None-own c =
    meet_own _ _ _ c.in-Some.is c.if-c-least.false c.in-None-own.is

pub returns-in-Some-own : goal.returns-in-Some-own
returns-in-Some-own c =
    meet-known _ _ _ c.in-Some.is c.if-c-least.false c.in-Some-own.is
