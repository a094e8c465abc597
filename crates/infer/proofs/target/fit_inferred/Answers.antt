-- `infer::target::fit_inferred` meets its contract. Assumes nothing.
use Rattle.infer.proofs.Targets.{not-typed, inferred_fits}
use Rattle.infer.proofs.Composing.{inferred_to}
use Rattle.infer.proofs.FormsAt.{standing}
use Rattle.infer.proofs.target.fit_inferred.Goals as goal

pub same_type-requires : goal.same_type-requires
same_type-requires c =
    let P = c.requires.selector_at in let T = c.requires.type_at in let (a, b, I) = c.requires.inferred_is in record { type_at = standing (inferred_to I c.in-Is.is).writes; type_at_2 = T }

pub returns-in-To : goal.returns-in-To
returns-in-To c =
    λ a b I P T.
    let W = inferred_to I c.in-Is.is in
    inferred_fits W P T (c.same_type.ensures (standing W.writes) T) c.in-To.is (c.skip_selector.ensures P)

pub returns-in-No : goal.returns-in-No
returns-in-No c =
    λ a b I P T. not-typed

pub returns-in-Unknown : goal.returns-in-Unknown
returns-in-Unknown c =
    λ a b I P T. not-typed
