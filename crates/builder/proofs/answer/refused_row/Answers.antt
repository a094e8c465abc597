-- `builder::answer::refused_row` meets its contract. Assumes nothing.
use Rattle.builder.proofs.answer.refused_row.Goals as goal

pub returns-in-Failed : goal.returns-in-Failed
returns-in-Failed c =
    rw c.in-Failed.is
