use Rattle.run.proofs.Running.{finished-written, finished-long}
use borrow.Author.Rules.{rules}
use Rattle.run.proofs.run.finish.Goals as goal

pub returns-in-Written : goal.returns-in-Written
returns-in-Written c =
    search (finished-written, rules)

pub returns-in-TooLong : goal.returns-in-TooLong
returns-in-TooLong c =
    search (finished-long, rules)
