-- `builder::conditions::same_element` meets its contract. Assumes nothing.
use Rattle.builder.proofs.Whole.{elements-named, elements_same, elements-first, elements-second}
use Rattle.builder.proofs.conditions.same_element.Goals as goal

pub returns-then-a-b : goal.returns-then-a-b
returns-then-a-b c =
    λ x y p q. elements_same x y p q c.in-ByNumber.is
    c.if-a-b.true

pub returns-then-a-eq4294967295 : goal.returns-then-a-eq4294967295
returns-then-a-eq4294967295 c =
    λ x y p q. elements-first x y p q c.in-ByNumber.is
    c.if-a-b.false c.if-a-eq4294967295.true

pub returns-in-ByName : goal.returns-in-ByName
returns-in-ByName c =
    λ x y p q. elements-named x y p q c.in-ByName.is

pub returns-else-a-eq4294967295 : goal.returns-else-a-eq4294967295
returns-else-a-eq4294967295 c =
    λ x y p q. elements-second x y p q c.in-ByNumber.is
    c.if-a-b.false c.if-a-eq4294967295.false
