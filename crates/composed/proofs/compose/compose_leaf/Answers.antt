use Rattle.composed.proofs.Composing.{row_fits, formed_at, row-scope, composed_answer}
use Rattle.transfer.proofs.Rows.{taken-node}
use native.Mathlib.Omega.{arith}
use Rattle.layout.proofs.Ways.{clash}
use Rattle.composed.proofs.compose.compose_leaf.Goals as goal

pub infer_leaf-requires : goal.infer_leaf-requires
infer_leaf-requires c =
    record {
      source_at = row-scope c.requires.row_in c.requires.indexed_in;
      selector_at = c.requires.selector_at;
      s_len_bound = (
        omega (arith, c.requires.lay_len_bound, c.requires.form_len_bound),
        omega (arith, c.requires.lay_len_bound, c.requires.form_len_bound),
        omega
            (arith, c.requires.lay_len_bound, c.requires.form_len_bound),
        omega arith,
        omega arith,
      );
    }

pub indexed_value-at-requires : goal.indexed_value-at-requires
indexed_value-at-requires c =
    record { row_in = c.requires.row_in; indexed_in = c.requires.indexed_in.0; stride_nonzero = c.requires.indexed_in.1; ends = c.requires.ends }

pub transfer-requires : goal.transfer-requires
transfer-requires c =
    record {
      ends = c.requires.ends;
      node_in = (_, c.indexed_value-at.ensures c.requires.row_in);
      selector_at = c.requires.selector_at;
      rec_len_bound = (
        omega (arith, c.requires.lay_len_bound, c.requires.form_len_bound),
        omega (arith, c.requires.lay_len_bound, c.requires.form_len_bound),
        omega arith,
      );
    }

pub returns-in-Is : goal.returns-in-Is
returns-in-Is c =
    λ e X P.
    composed_answer (formed_at (λ i. omega (arith, c.type_inv.plan i)) P) (row_fits (λ i. omega (arith, c.type_inv.rec i))
    X) (c.infer_leaf.ensures (row-scope X c.requires.indexed_in) P) c.in-Is.is (c.transfer.ensures X.values.values P (taken-node
    X.values.values (c.taken_position-p.ensures P) (c.indexed_value-at.ensures X))) (c.stored_within.ensures e)

pub returns-in-Unknown : goal.returns-in-Unknown
returns-in-Unknown c =
    λ e. clash (cc)
