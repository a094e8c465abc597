-- `layout::edition::inner_rule` meets its contract: a case for each edition. Assumes nothing.
use Rattle.layout.proofs.edition.inner_rule.Goals as goal

pub returns-in-One : goal.returns-in-One
returns-in-One c =
    rw c.in-One.is

pub returns-in-Two : goal.returns-in-Two
returns-in-Two c =
    rw c.in-Two.is

pub returns-in-Three : goal.returns-in-Three
returns-in-Three c =
    rw c.in-Three.is
