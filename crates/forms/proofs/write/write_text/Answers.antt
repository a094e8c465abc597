-- `forms::write::write_text` meets its contract: the length, then the bytes. Assumes nothing.
use borrow.Author.Rules.{rules}
use Rattle.forms.proofs.Writing.{text-long, text-written}
use Rattle.forms.proofs.write.write_text.Goals as goal

pub returns : goal.returns
returns c =
    record { value = search (text-long, text-written, rules); out_after = search (text-long, text-written, rules) }
