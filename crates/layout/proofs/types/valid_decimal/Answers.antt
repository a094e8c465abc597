-- `layout::types::valid_decimal` meets its contract: the tests of `valid_decimal`, in their order. Assumes nothing.
use borrow.Author.Tests.{le-leb, lt-leb}
use Rattle.layout.proofs.types.valid_decimal.Goals as goal

pub returns-then-precision-lt1 : goal.returns-then-precision-lt1
returns-then-precision-lt1 c =
    rw (lt-leb 1 c.args.precision c.if-precision-lt1.true)

pub returns-then-precision-gt18 : goal.returns-then-precision-gt18
returns-then-precision-gt18 c =
    rw (le-leb 1 c.args.precision c.if-precision-lt1.false, lt-leb c.args.precision 18 c.if-precision-gt18.true)

pub returns : goal.returns
returns c =
    rw (le-leb 1 c.args.precision c.if-precision-lt1.false, le-leb c.args.precision 18 c.if-precision-gt18.false)
