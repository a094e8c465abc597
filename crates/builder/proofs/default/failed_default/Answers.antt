-- `builder::default::failed_default` meets its contract. Assumes nothing.
use Rattle.builder.proofs.default.failed_default.Goals as goal

pub returns-in-Refused : goal.returns-in-Refused
returns-in-Refused c =
    rw c.in-Refused.is
