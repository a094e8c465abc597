-- `checker::selector::input_head` meets its contract. Assumes nothing.
use Rattle.checker.proofs.selector.input_head.Goals as goal

pub resolve-r-requires : goal.resolve-r-requires
resolve-r-requires c =
    record { tables = c.requires.tables; typed_at = c.requires.typed_at }

pub type_head-requires : goal.type_head-requires
type_head-requires c =
    let
    (t, X) = c.requires.typed_at in record { tables = c.requires.tables; resolved_at = (t, (c.resolve-r.ensures t X).resolved) }

pub returns : goal.returns
returns c =
    λ t X. c.type_head.ensures t
    (c.resolve-r.ensures t X).resolved
