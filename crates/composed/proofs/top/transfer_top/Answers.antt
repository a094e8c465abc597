use Rattle.composed.proofs.Composing.{input_by}
use Rattle.transfer.proofs.Rows.{taken-node}
use native.Mathlib.Omega.{arith}
use Rattle.composed.proofs.top.transfer_top.Goals as goal

pub indexed_value-at-requires : goal.indexed_value-at-requires
indexed_value-at-requires c =
    record { row_in = c.requires.row_in; indexed_in = c.requires.indexed_in.0; stride_nonzero = c.requires.indexed_in.1; ends = c.requires.ends }

pub transfer-requires : goal.transfer-requires
transfer-requires c =
    record { ends = c.requires.ends; node_in = (_, c.indexed_value-at.ensures c.requires.row_in); selector_at = c.requires.selector_at; rec_len_bound = c.requires.rec_len_bound }

pub returns-then-is_direct : goal.returns-then-is_direct
returns-then-is_direct c =
    λ X P. c.transfer.ensures X.values.values P (taken-node X.values.values (c.taken_position-p.ensures P) (c.indexed_value-at.ensures X))

pub innermost-leaf-requires : goal.innermost-leaf-requires
innermost-leaf-requires c =
    (input_by (c.input_of.ensures c.requires.selector_at) c.in-At.is).input

pub over_input-requires : goal.over_input-requires
over_input-requires c =
    record { ends = c.requires.ends; row_in = c.requires.row_in; indexed_in = c.requires.indexed_in; input_at = (c.requires.selector_at, input_by (c.input_of.ensures c.requires.selector_at) c.in-At.is); selector_at = c.innermost-leaf.ensures; lay_len_bound = (omega (arith, c.if-lay-gt-LONGEST_PLAN.false), c.requires.rec_len_bound.0, c.requires.rec_len_bound.1, omega (arith, c.if-place-gt-LONGEST.false)) }

pub returns-in-At : goal.returns-in-At
returns-in-At c =
    λ X P. c.over_input.ensures X P (input_by (c.input_of.ensures P) c.in-At.is)
