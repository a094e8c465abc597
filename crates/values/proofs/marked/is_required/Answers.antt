-- `values::marked::is_required` meets its contract. Assumes nothing.

use Rattle.values.proofs.marked.is_required.Goals as goal

pub returns-then-marks : goal.returns-then-marks
returns-then-marks c =
    rw c.if-marks.true

pub returns-else-marks : goal.returns-else-marks
returns-else-marks c =
    rw c.if-marks.false
