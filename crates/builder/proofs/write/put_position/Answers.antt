-- `builder::write::put_position` meets its contract. Assumes nothing.
use Rattle.builder.proofs.Putting.{position-put}
use borrow.Author.Rules.{rules}
use Rattle.builder.proofs.write.put_position.Goals as goal

pub returns : goal.returns
returns c =
    search (position-put, rules)
