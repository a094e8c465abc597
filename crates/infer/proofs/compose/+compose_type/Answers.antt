-- `infer::compose::compose_type` meets its contract. The measure is the levels left. Assumes nothing.
use native.Mathlib.Omega.{arith}
use Rattle.infer.proofs.Composing.{input-at, inferred_to, unsettled, input-typed}
use Rattle.infer.proofs.FormsAt.{standing}
use Rattle.infer.proofs.compose.+compose_type.Goals as goal

pub returns-then-levels-eq0 : goal.returns-then-levels-eq0
returns-then-levels-eq0 t c =
    λ X P. unsettled

pub compose_type-r-requires : goal.compose_type-r-requires
compose_type-r-requires t c =
    let (a, b, d, e) = c.requires.s_len_bound in (
      omega (arith, c.decreases, c.if-levels-eq0.false),
      (
        c.requires.source_at,
        (
          (input-at (c.input_of.ensures c.requires.selector_at) c.in-At.is).input,
          (
            a,
            b,
            e,
            d,
          ),
        ),
      ),
    )

pub infer_over-requires : goal.infer_over-requires
infer_over-requires t c =
    let (a, b, d, e) = c.requires.s_len_bound in let I = input-at (c.input_of.ensures c.requires.selector_at)
    c.in-At.is in let W = inferred_to (c.compose_type-r.ensures
    c.requires.source_at I.input).1 c.in-Is.is in record { type_at = standing W.writes; selector_at = c.requires.selector_at; s_len_bound = (omega arith, b, omega arith, omega arith, omega arith) }

pub returns-in-None : goal.returns-in-None
returns-in-None t c =
    λ X P. (_, c.infer_leaf.ensures X P)

pub returns-in-Is : goal.returns-in-Is
returns-in-Is t c =
    λ X P.
    let I = input-at (c.input_of.ensures P) c.in-At.is in
    let W = inferred_to (c.compose_type-r.ensures X I.input).1 c.in-Is.is in
    (_, c.infer_over.ensures (standing W.writes) P X.fields W.name (input-typed I X.fields W))

pub returns-in-Unknown : goal.returns-in-Unknown
returns-in-Unknown t c =
    λ X P. unsettled
