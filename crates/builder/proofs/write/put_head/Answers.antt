-- `builder::write::put_head` meets its contract. Assumes nothing.
use Rattle.builder.proofs.Putting.{head-put}
use borrow.Author.Rules.{rules}
use Rattle.builder.proofs.write.put_head.Goals as goal

pub returns : goal.returns
returns c =
    search (head-put, rules)
