-- `nodes::raw::element_at` meets its contract: the element stands after those before it. Assumes nothing.
use mathlib.Core.Path.{refl}
use Rattle.nodes.proofs.Node.{element-past, element-found, element_unread}
use Rattle.nodes.proofs.raw.element_at.Goals as goal

pub returns-then-n-i : goal.returns-then-n-i
returns-then-n-i c =
    λ X. element-past X c.if-n-i.true

pub read_elements-requires : goal.read_elements-requires
read_elements-requires c =
    record { type_at = c.requires.elements_at.type; ends = c.requires.ends }

pub returns-in-To : goal.returns-in-To
returns-in-To c =
    λ X. element-found X c.if-n-i.false c.read_elements.ensures refl
    c.in-To.is

pub returns-in-Refused : goal.returns-in-Refused
returns-in-Refused c =
    λ X. element_unread X c.if-n-i.false c.read_elements.ensures
    c.in-Refused.is
