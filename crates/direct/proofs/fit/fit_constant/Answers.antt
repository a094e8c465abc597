-- `direct::fit::fit_constant` meets its contract. Assumes nothing.
use Rattle.direct.proofs.Fitting.{constant-fits}
use Rattle.direct.proofs.fit.fit_constant.Goals as goal

pub same_type-requires : goal.same_type-requires
same_type-requires c =
    record { type_at = c.requires.constant_at.1.type; type_at_2 = c.requires.type_at }

pub returns-in-To : goal.returns-in-To
returns-in-To c =
    λ i s x A C. constant-fits A C (c.same_type.ensures C.type A.type) c.in-To.is (c.skip_selector.ensures A.selector)
    c.named.ensures
