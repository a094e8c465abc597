-- `builder::write::put_short` meets its contract. Assumes nothing.
use Rattle.builder.proofs.Putting.{short-put}
use Rattle.builder.proofs.write.put_short.Goals as goal

pub returns : goal.returns
returns c =
    short-put _ _ _ c.put.ensures c.put-2.ensures
