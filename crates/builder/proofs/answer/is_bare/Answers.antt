-- `builder::answer::is_bare` meets its contract. Assumes nothing.
use Rattle.builder.proofs.answer.is_bare.Goals as goal

pub returns-in-Bare : goal.returns-in-Bare
returns-in-Bare c =
    rw c.in-Bare.is
