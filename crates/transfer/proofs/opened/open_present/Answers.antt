use Rattle.transfer.proofs.Opening.{opened_as, opened-struct, opened-array}
use Rattle.layout.proofs.View.{list-opened}
use Rattle.nodes.proofs.Node.{list-within}
use Rattle.transfer.proofs.opened.open_present.Goals as goal

pub returns-in-Struct : goal.returns-in-Struct
returns-in-Struct c =
    λ X. opened-struct X c.parts.ensures c.in-Struct.is

pub returns-in-List : goal.returns-in-List
returns-in-List c =
    λ X.
    let L = list-within X (list-opened c.parts.ensures X.type c.in-List.is) in
    opened_as L.is (c.open_list.ensures _ _ L.inner)

pub returns-in-Array : goal.returns-in-Array
returns-in-Array c =
    λ X. opened-array X c.parts.ensures c.in-Array.is
