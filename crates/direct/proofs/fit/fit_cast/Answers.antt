-- `direct::fit::fit_cast` meets its contract. Assumes nothing.
use Rattle.direct.proofs.Fitting.{cast-type, cast_fits}
use Rattle.direct.proofs.Scoping.{taken_at}
use borrow.Author.Tests.{not-false}
use mathlib.Core.Path.{ap}
use mathlib.Core.Bool.{not}
use Rattle.direct.proofs.fit.fit_cast.Goals as goal

pub take_position-requires : goal.take_position-requires
take_position-requires c =
    c.requires.0.scoped

pub same_type-requires : goal.same_type-requires
same_type-requires c =
    let (A, C) = c.requires in record { type_at = cast-type A C (c.skip_selector-t.ensures C.input); type_at_2 = A.type }

pub returns-else-not-type_fits : goal.returns-else-not-type_fits
returns-else-not-type_fits c =
    λ A C.
    let K = taken_at (c.take_position.ensures A.scoped C.input) c.in-At.is in
    let T = cast-type A C (c.skip_selector-t.ensures C.input) in
    cast_fits A C K (c.same_type.ensures T A.type) c.in-To.is (c.cast_option.ensures T C.option) (c.type_fits.ensures K.type T)
    (not-false _ (ap not c.if-not-type_fits.false)) (c.skip_selector.ensures A.selector) c.named.ensures
