-- `overflow::want::bounds_before` meets its contract: each pair of units is a case of `unit_change`. Assumes nothing.
use Rattle.overflow.specs.code.Want.{bounds_before}
use Rattle.overflow.proofs.want.bounds_before.Goals as goal

pub returns-in-Nanoseconds-to : goal.returns-in-Nanoseconds-to
returns-in-Nanoseconds-to c =
    unfold bounds_before in rw (c.in-Nanoseconds.is, c.in-Nanoseconds-to.is)

pub returns-in-Microseconds-to : goal.returns-in-Microseconds-to
returns-in-Microseconds-to c =
    rw (c.in-Nanoseconds.is, c.in-Microseconds-to.is) c.before_quotient.ensures

pub returns-in-Milliseconds-to : goal.returns-in-Milliseconds-to
returns-in-Milliseconds-to c =
    rw (c.in-Nanoseconds.is, c.in-Milliseconds-to.is) c.before_quotient-in-Milliseconds-to.ensures

pub returns-in-Nanoseconds-to-2 : goal.returns-in-Nanoseconds-to-2
returns-in-Nanoseconds-to-2 c =
    rw (c.in-Microseconds.is, c.in-Nanoseconds-to-2.is) c.before_product.ensures

pub returns-in-Microseconds-to-2 : goal.returns-in-Microseconds-to-2
returns-in-Microseconds-to-2 c =
    unfold bounds_before in rw (c.in-Microseconds.is, c.in-Microseconds-to-2.is)

pub returns-in-Milliseconds-to-2 : goal.returns-in-Milliseconds-to-2
returns-in-Milliseconds-to-2 c =
    rw (c.in-Microseconds.is, c.in-Milliseconds-to-2.is) c.before_quotient-in-Milliseconds-to-2.ensures

pub returns-in-Nanoseconds-to-3 : goal.returns-in-Nanoseconds-to-3
returns-in-Nanoseconds-to-3 c =
    rw (c.in-Milliseconds.is, c.in-Nanoseconds-to-3.is) c.before_product-in-Nanoseconds-to-3.ensures

pub returns-in-Microseconds-to-3 : goal.returns-in-Microseconds-to-3
returns-in-Microseconds-to-3 c =
    rw (c.in-Milliseconds.is, c.in-Microseconds-to-3.is) c.before_product-in-Microseconds-to-3.ensures

pub returns-in-Milliseconds-to-3 : goal.returns-in-Milliseconds-to-3
returns-in-Milliseconds-to-3 c =
    unfold bounds_before in rw (c.in-Milliseconds.is, c.in-Milliseconds-to-3.is)
