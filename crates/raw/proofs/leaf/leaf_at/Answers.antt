use Rattle.layout.proofs.View.{never_headless}
use Rattle.values.proofs.Inside.{null-at}
use Rattle.nodes.proofs.Node.{raw-present, raw_unread}
use Rattle.raw.proofs.Leaves.{leaf_in, leaf_as, null-other, struct-other, list-other, array-other}
use Rattle.raw.proofs.leaf.leaf_at.Goals as goal

pub present_leaf-requires : goal.present_leaf-requires
present_leaf-requires c =
    (leaf_in (raw-present c.requires c.read_presence.ensures c.in-Present.is).inner c.head.ensures.result_value c.in-Leaf.is).inner

pub returns-in-Null : goal.returns-in-Null
returns-in-Null c =
    λ X. null-other (null-at X.value c.read_presence.ensures c.in-Null.is).0

pub returns-in-Leaf : goal.returns-in-Leaf
returns-in-Leaf c =
    λ X. let I = raw-present X c.read_presence.ensures c.in-Present.is in let L = leaf_in I.inner c.head.ensures.result_value c.in-Leaf.is
    in leaf_as I.is (leaf_as L.is (c.present_leaf.ensures L.inner))

pub returns-in-Struct : goal.returns-in-Struct
returns-in-Struct c =
    λ X. let I = raw-present X c.read_presence.ensures c.in-Present.is in leaf_as I.is
    (struct-other I.inner c.head.ensures.result_value c.in-Struct.is)

pub returns-in-List : goal.returns-in-List
returns-in-List c =
    λ X. let I = raw-present X c.read_presence.ensures c.in-Present.is in leaf_as I.is
    (list-other I.inner c.head.ensures.result_value c.in-List.is)

pub returns-in-Array : goal.returns-in-Array
returns-in-Array c =
    λ X. let I = raw-present X c.read_presence.ensures c.in-Present.is in leaf_as I.is
    (array-other I.inner c.head.ensures.result_value c.in-Array.is)

pub returns-in-Refused-head : goal.returns-in-Refused-head
returns-in-Refused-head c =
    λ X. never_headless X.type c.head.ensures.result_value c.in-Refused-head.is

pub returns-in-Refused : goal.returns-in-Refused
returns-in-Refused c =
    λ X. raw_unread X c.read_presence.ensures c.in-Refused.is
