-- `direct::fit::fit_position` meets its contract. Assumes nothing.
use Rattle.direct.proofs.Fitting.{position-fits}
use Rattle.direct.proofs.Scoping.{taken_at}
use Rattle.direct.proofs.fit.fit_position.Goals as goal

pub same_type-requires : goal.same_type-requires
same_type-requires c =
    record { type_at = (taken_at (c.take_position.ensures c.requires.scoped c.requires.selector) c.in-At.is).type; type_at_2 = c.requires.type }

pub returns-in-To : goal.returns-in-To
returns-in-To c =
    λ A.
    let K = taken_at (c.take_position.ensures A.scoped A.selector) c.in-At.is in
    position-fits A K (c.same_type.ensures K.type A.type) c.in-To.is (c.skip_selector.ensures A.selector) c.named.ensures
