-- `layout::columns::same_label` meets its contract: a case for each rule. Assumes nothing.
use Rattle.layout.proofs.Same.{same_names, same_ids}
use Rattle.layout.proofs.columns.same_label.Goals as goal

pub returns-in-Names : goal.returns-in-Names
returns-in-Names c =
    search same_names

pub returns-in-Ids : goal.returns-in-Ids
returns-in-Ids c =
    search same_ids
