-- `index::row::storable` meets its contract. Assumes nothing.
use Rattle.layout.proofs.Ways.{clash}
use native.Mathlib.Omega.{arith}
use Rattle.index.proofs.row.storable.Goals as goal

pub returns-then-types-j : goal.returns-then-types-j
returns-then-types-j c =
    λ h. clash (cc)

pub returns-then-values-j : goal.returns-then-values-j
returns-then-values-j c =
    λ h. clash (cc)

pub returns-then-at-gt65535 : goal.returns-then-at-gt65535
returns-then-at-gt65535 c =
    λ h. clash (cc)

pub returns-then-to-gt65535 : goal.returns-then-to-gt65535
returns-then-to-gt65535 c =
    λ h. clash (cc)

pub returns : goal.returns
returns c =
    λ h. (omega arith, omega arith, omega arith, omega arith)
