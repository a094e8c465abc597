-- `nodes::raw::list_element` meets its contract: the elements stand after the count. Assumes nothing.
use mathlib.Core.Path.{sym}
use Rattle.nodes.proofs.Node.{node_as, list_counted, list_uncounted}
use Rattle.nodes.proofs.raw.list_element.Goals as goal

pub element_at-requires : goal.element_at-requires
element_at-requires c =
    record { elements_at = (list_counted c.requires.list_of c.short.ensures c.in-Is.is).elements; ends = c.requires.ends }

pub returns-in-Is : goal.returns-in-Is
returns-in-Is c =
    λ X. let L = list_counted X c.short.ensures c.in-Is.is in node_as (sym (L.part _)) (c.element_at.ensures L.elements)

pub returns-in-Refused : goal.returns-in-Refused
returns-in-Refused c =
    λ X. list_uncounted X c.short.ensures c.in-Refused.is
