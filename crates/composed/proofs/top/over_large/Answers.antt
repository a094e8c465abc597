use Rattle.composed.proofs.Composing.{row_fits, composed_as, in_first, in_second}
use borrow.Author.Tests.{not-false}
use native.Mathlib.Omega.{arith}
use mathlib.Core.Path.{ap}
use mathlib.Core.Bool.{not}
use Rattle.composed.proofs.top.over_large.Goals as goal

pub compose_leaf-requires : goal.compose_leaf-requires
compose_leaf-requires c =
    record { ends = c.requires.ends; row_in = c.requires.row_in; indexed_in = c.requires.indexed_in; selector_at = c.requires.selector_at; lay_len_bound = (c.requires.lay_len_bound.0, c.requires.lay_len_bound.1, c.requires.lay_len_bound.2); form_len_bound = (omega arith, omega arith) }

pub compose_value-requires : goal.compose_value-requires
compose_value-requires c =
    let (P, I) = c.requires.input_at in let A = row_fits (λ i. omega (arith, c.type_inv.rec i)) c.requires.row_in in let C = c.compose_leaf.ensures (not-false _ (ap not c.if-not-compose_leaf.false)) c.requires.row_in c.requires.selector_at in record {
      selector_at = I.input;
      fits_all_over = (_, _, A, c.requires.selector_at, C);
      plan_len_bound = c.requires.lay_len_bound.2;
      form_len_bound = (omega (arith, c.compose_leaf.auto), omega (arith, c.compose_leaf.auto));
      other_form_len_bound = (
        omega
            arith,
        omega arith,
      );
    }

pub over_written-requires : goal.over_written-requires
over_written-requires c =
    let (P, I) = c.requires.input_at in let C = c.compose_leaf.ensures (not-false _ (ap not c.if-not-compose_leaf.false)) c.requires.row_in c.requires.selector_at in let K = in_first (c.compose_value.ensures _ _ c.requires.selector_at I.input (row_fits (λ i. omega (arith, c.type_inv.rec i)) c.requires.row_in) C)
    c.in-First.is in record { raw_at = K.raw; selector_at = P; rec_len_bound = (omega (arith, c.compose_value.auto, c.compose_leaf.auto), c.requires.lay_len_bound.2, c.requires.lay_len_bound.3) }

pub over_written-requires-in-Second : goal.over_written-requires-in-Second
over_written-requires-in-Second c =
    let (P, I) = c.requires.input_at in let C = c.compose_leaf.ensures (not-false _ (ap not c.if-not-compose_leaf.false)) c.requires.row_in c.requires.selector_at in let K = in_second (c.compose_value.ensures _ _ c.requires.selector_at I.input (row_fits (λ i. omega (arith, c.type_inv.rec i)) c.requires.row_in) C)
    c.in-Second.is in record { raw_at = K.raw; selector_at = P; rec_len_bound = (omega (arith, c.compose_value.auto, c.compose_leaf.auto), c.requires.lay_len_bound.2, c.requires.lay_len_bound.3) }

pub returns-in-First : goal.returns-in-First
returns-in-First c =
    λ X P I.
    let C = c.compose_leaf.ensures (not-false _ (ap not c.if-not-compose_leaf.false)) X c.requires.selector_at in
    let K = composed_as I.is (in_first (c.compose_value.ensures _ _ c.requires.selector_at I.input (row_fits (λ i. omega (arith, c.type_inv.rec i))
    X) C)
    c.in-First.is) in
    c.over_written.ensures X.values.values K.raw P K.is

pub returns-in-Second : goal.returns-in-Second
returns-in-Second c =
    λ X P I.
    let C = c.compose_leaf.ensures (not-false _ (ap not c.if-not-compose_leaf.false)) X c.requires.selector_at in
    let K = composed_as I.is (in_second (c.compose_value.ensures _ _ c.requires.selector_at I.input (row_fits (λ i. omega (arith, c.type_inv.rec i))
    X) C)
    c.in-Second.is) in
    c.over_written-in-Second.ensures X.values.values K.raw P K.is
