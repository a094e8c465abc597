-- `direct::fit::around` meets its contract. Assumes nothing.
use Rattle.direct.proofs.Fitting.{around-is}
use Rattle.direct.proofs.fit.around.Goals as goal

pub returns-in-Is : goal.returns-in-Is
returns-in-Is c =
    around-is c.args.name c.in-Is.is c.named.ensures
