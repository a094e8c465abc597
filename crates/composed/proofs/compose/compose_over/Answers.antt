use Rattle.composed.proofs.Composing.{formed_at, composed_answer}
use native.Mathlib.Omega.{arith}
use Rattle.layout.proofs.Ways.{clash}
use Rattle.composed.proofs.compose.compose_over.Goals as goal

pub infer_over-requires : goal.infer_over-requires
infer_over-requires c =
    record { type_at = c.requires.raw_at.type; selector_at = c.requires.selector_at; s_len_bound = (omega (arith, c.requires.lay_len_bound, c.requires.form_len_bound), omega (arith, c.requires.lay_len_bound, c.requires.form_len_bound), omega (arith, c.requires.lay_len_bound, c.requires.form_len_bound), omega arith, omega arith) }

pub over_written-requires : goal.over_written-requires
over_written-requires c =
    record { raw_at = c.requires.raw_at; selector_at = c.requires.selector_at; rec_len_bound = (omega (arith, c.requires.lay_len_bound, c.requires.form_len_bound), omega (arith, c.requires.lay_len_bound, c.requires.form_len_bound), omega arith) }

pub returns-in-Is : goal.returns-in-Is
returns-in-Is c =
    λ e Γ ρ P A C.
    composed_answer (formed_at (λ i. omega (arith, c.type_inv.plan i)) P) A (c.infer_over.ensures C.raw.type P Γ C.name
    C.typed) c.in-Is.is (c.over_written.ensures ρ C.raw P C.is) (c.stored_within.ensures e)

pub returns-in-Unknown : goal.returns-in-Unknown
returns-in-Unknown c =
    λ e. clash (cc)
