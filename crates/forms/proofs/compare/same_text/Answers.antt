-- `forms::compare::same_text` meets its contract. Assumes nothing.
use Rattle.forms.proofs.Comparing.{same_texts}
use Rattle.forms.proofs.compare.same_text.Goals as goal

pub returns : goal.returns
returns c =
    search same_texts
