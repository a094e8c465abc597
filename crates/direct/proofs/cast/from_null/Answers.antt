-- `direct::cast::from_null` meets its contract. Assumes nothing.
use Rattle.direct.proofs.Casting.{null_nonstrict, null_strict, null-overflowing}
use Rattle.direct.proofs.cast.from_null.Goals as goal

pub returns-in-NonStrict : goal.returns-in-NonStrict
returns-in-NonStrict c =
    λ l e. null_nonstrict l e c.in-NonStrict.is c.kind.ensures

pub returns-in-Strict : goal.returns-in-Strict
returns-in-Strict c =
    λ l e. null_strict l c.in-Strict.is

pub returns-in-Overflowing : goal.returns-in-Overflowing
returns-in-Overflowing c =
    λ l e. null-overflowing l c.in-Overflowing.is
