-- `overflow::scan::null_sought` meets its contract: by what is left of the path. Assumes nothing.
use Rattle.overflow.proofs.Scanning.{null_further, null-found, null_unwanted}
use Rattle.overflow.proofs.scan.null_sought.Goals as goal

pub returns-then-from-len : goal.returns-then-from-len
returns-then-from-len c =
    λ path a b. null_further _ path a b c.if-from-len.true

pub returns-in-Null : goal.returns-in-Null
returns-in-Null c =
    λ path a b. null-found _ path a b c.if-from-len.false c.in-Null.is

pub returns-in-Present : goal.returns-in-Present
returns-in-Present c =
    λ path a b. null_unwanted _ path a b c.if-from-len.false c.in-Present.is
