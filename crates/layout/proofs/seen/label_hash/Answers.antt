-- `layout::seen::label_hash` meets its contract: a case for each rule. Assumes nothing.
use Rattle.layout.proofs.Noting.{hash_name, hash_id, hash_none}
use Rattle.layout.proofs.seen.label_hash.Goals as goal

pub returns-in-Names : goal.returns-in-Names
returns-in-Names c =
    search hash_name

pub returns-in-Ids : goal.returns-in-Ids
returns-in-Ids c =
    search hash_id

pub returns-in-Free : goal.returns-in-Free
returns-in-Free c =
    search hash_none
