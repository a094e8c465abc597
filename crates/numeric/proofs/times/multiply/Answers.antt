-- `numeric::times::multiply` meets its contract, by whether the product fits 64 bits. Assumes nothing.
use mathlib.Core.Path.{sym, ◌∙◌}
use Rattle.numeric.proofs.Units.{product_is, finer_ok, finer_err}
use Rattle.numeric.proofs.times.multiply.Goals as goal

pub returns : goal.returns
returns c =
    let p = product_is c.args.b c.args.k c.cast_signed.result c.from.result c.from-2.result c.ranges.b.fits c.ranges.k.fits
    c.cast_signed.type_inv c.cast_signed.ensures c.from.type_inv c.from.ensures c.from-2.type_inv c.from-2.ensures in
    rw c.cast_unsigned.ensures
    (finer_ok c.try_from.result _ _ c.args.k c.try_from.ensures p c.in_ok-count.count (sym c.ok.ensures.value ∙ c.in_ok-count.was))

pub returns-in_err-count : goal.returns-in_err-count
returns-in_err-count c =
    let p = product_is c.args.b c.args.k c.cast_signed.result c.from.result c.from-2.result c.ranges.b.fits c.ranges.k.fits
    c.cast_signed.type_inv c.cast_signed.ensures c.from.type_inv c.from.ensures c.from-2.type_inv c.from-2.ensures in
    c.from_residual.ensures ∙ finer_err c.try_from.result _ _ c.args.k c.try_from.ensures p (sym c.ok.ensures.value ∙ c.in_err-count.was)
