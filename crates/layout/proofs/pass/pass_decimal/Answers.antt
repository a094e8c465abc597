-- `layout::pass::pass_decimal` meets its contract: each way has its rule in `Passing`. Assumes nothing.
use Rattle.layout.proofs.Passing.{decimal_whole, decimal-refused}
use Rattle.layout.proofs.pass.pass_decimal.Goals as goal

pub returns-in-Is : goal.returns-in-Is
returns-in-Is c =
    search (decimal_whole, decimal-refused)

pub returns-in-Refused : goal.returns-in-Refused
returns-in-Refused c =
    search (decimal_whole, decimal-refused)
