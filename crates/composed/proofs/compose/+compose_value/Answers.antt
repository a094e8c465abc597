use Rattle.composed.proofs.Composing.{composed_as, input_by, same_at, not_settled, in_first, in_second}
use native.Mathlib.Omega.{arith}
use Rattle.composed.proofs.compose.+compose_value.Goals as goal

pub returns-then-leaf-c : goal.returns-then-leaf-c
returns-then-leaf-c t c =
    λ Γ ρ L P A C. not_settled

pub returns-then-leaf-c-2 : goal.returns-then-leaf-c-2
returns-then-leaf-c-2 t c =
    λ Γ ρ L P A C. record { answer = composed_as (same_at c.if-leaf-c-2.true L P) C }

pub compose_value-requires : goal.compose_value-requires
compose_value-requires t c =
    let I = input_by (c.input_of.ensures c.requires.selector_at) c.in-At.is in
    (omega (arith, I.starts, c.if-leaf-c.false, c.if-leaf-c-2.false, c.decreases), (I.input, (c.requires.fits_all_over, (c.requires.plan_len_bound, (c.requires.form_len_bound, c.requires.other_form_len_bound)))))

pub compose_over-requires : goal.compose_over-requires
compose_over-requires t c =
    let (Γ, ρ, A, L, C) = c.requires.fits_all_over in let I = input_by (c.input_of.ensures c.requires.selector_at) c.in-At.is in let K = in_first (c.compose_value.ensures Γ ρ L I.input A C) c.in-First.is in record {
      raw_at = K.raw;
      selector_at = c.requires.selector_at;
      lay_len_bound = (
        omega (arith, c.compose_value.auto, c.requires.plan_len_bound, c.requires.form_len_bound, c.requires.other_form_len_bound),
        omega (arith, c.compose_value.auto, c.requires.plan_len_bound, c.requires.form_len_bound, c.requires.other_form_len_bound),
        c.requires.plan_len_bound,
      );
      form_len_bound = (omega (arith, c.compose_value.auto, c.requires.plan_len_bound, c.requires.form_len_bound, c.requires.other_form_len_bound), omega (arith, c.compose_value.auto, c.requires.plan_len_bound, c.requires.form_len_bound, c.requires.other_form_len_bound));
    }

pub returns-then-compose_over : goal.returns-then-compose_over
returns-then-compose_over t c =
    λ Γ ρ L P A C.
    let I = input_by (c.input_of.ensures P) c.in-At.is in
    record {
      answer = c.compose_over.ensures c.if-compose_over.true Γ ρ P A (composed_as I.is (in_first (c.compose_value.ensures Γ ρ L I.input A C)
          c.in-First.is));
    }

pub compose_over-requires-in-Second : goal.compose_over-requires-in-Second
compose_over-requires-in-Second t c =
    let (Γ, ρ, A, L, C) = c.requires.fits_all_over in let I = input_by (c.input_of.ensures c.requires.selector_at) c.in-At.is in let K = in_second (c.compose_value.ensures Γ ρ L I.input A C) c.in-Second.is in record {
      raw_at = K.raw;
      selector_at = c.requires.selector_at;
      lay_len_bound = (
        omega (arith, c.compose_value.auto, c.requires.plan_len_bound, c.requires.form_len_bound, c.requires.other_form_len_bound),
        omega (arith, c.compose_value.auto, c.requires.plan_len_bound, c.requires.form_len_bound, c.requires.other_form_len_bound),
        c.requires.plan_len_bound,
      );
      form_len_bound = (omega (arith, c.compose_value.auto, c.requires.plan_len_bound, c.requires.form_len_bound, c.requires.other_form_len_bound), omega (arith, c.compose_value.auto, c.requires.plan_len_bound, c.requires.form_len_bound, c.requires.other_form_len_bound));
    }

pub returns-then-compose_over-2 : goal.returns-then-compose_over-2
returns-then-compose_over-2 t c =
    λ Γ ρ L P A C.
    let I = input_by (c.input_of.ensures P) c.in-At.is in
    record {
      answer = c.compose_over-in-Second.ensures c.if-compose_over-2.true Γ ρ P A (composed_as I.is (in_second (c.compose_value.ensures Γ ρ L I.input A C)
          c.in-Second.is));
    }

pub returns-in-None : goal.returns-in-None
returns-in-None t c =
    λ Γ ρ L P A C. not_settled

pub returns-else-compose_over : goal.returns-else-compose_over
returns-else-compose_over t c =
    λ Γ ρ L P A C. not_settled

pub returns-else-compose_over-2 : goal.returns-else-compose_over-2
returns-else-compose_over-2 t c =
    λ Γ ρ L P A C. not_settled

pub returns-in-Unknown : goal.returns-in-Unknown
returns-in-Unknown t c =
    λ Γ ρ L P A C. not_settled
