use Rattle.transfer.proofs.Chaining.{chain-position, chained-to, cast-takes, rename-takes, type_moved, chain-cast, chain-rename, cast_end, rename_end}
use Rattle.nodes.proofs.Node.{node_as}
use Rattle.walk.proofs.Heads.{is_position_lem, is-cast, is-rename}
use Rattle.plan.specs.Run.{value_at}
use native.Mathlib.Omega.{arith}
use mathlib.Core.Path.{ap, sym}
use Rattle.transfer.proofs.chain.+chain_value.Goals as goal

pub chain_value-requires : goal.chain_value-requires
chain_value-requires t c =
    (omega (arith, c.decreases, c.if-levels-eq0.false), c.requires)

pub chain_value-requires-in-Rename : goal.chain_value-requires-in-Rename
chain_value-requires-in-Rename t c =
    (omega (arith, c.decreases, c.if-levels-eq0.false), c.requires)

pub returns-in-Position : goal.returns-in-Position
returns-in-Position t c =
    λ ρ P N. record {
      answer = (chain-position P ρ (is_position_lem (c.head.ensures P) c.in-Position.is).1 (c.taken_leaf.ensures _ N), c.skip_selector.ensures P);
    }

pub returns-in-To : goal.returns-in-To
returns-in-To t c =
    λ ρ P N.
    let K = is-cast (c.head.ensures P) c.in-Cast.is in
    let (C, e) = chained-to (c.chain_value.ensures ρ K.input (node_as (ap (value_at ρ) (sym (cast-takes P ρ K))) N)) c.in-To.is in
    record { answer = (chain-cast P ρ K (c.cast_by.ensures _ _ (type_moved P ρ K e) C), cast_end P ρ K e c.option_end.ensures) }

pub returns-in-To-chain_value : goal.returns-in-To-chain_value
returns-in-To-chain_value t c =
    λ ρ P N.
    let K = is-rename (c.head.ensures P) c.in-Rename.is in
    let (C, e) = chained-to (c.chain_value-in-Rename.ensures ρ K.input (node_as (ap (value_at ρ) (sym (rename-takes P ρ K))) N)) c.in-To-chain_value.is in
    record { answer = (chain-rename P ρ K C, rename_end P ρ K e c.name_end.ensures) }
