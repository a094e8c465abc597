-- `ends::plain::plain_end` meets its contract: a code that is a whole type ends behind its byte. Assumes nothing.
use Rattle.layout.proofs.View.{plain_at}
use Rattle.ends.proofs.Entries.{end_of}
use mathlib.Core.Path.{sym, ◌∙◌}
use Rattle.ends.proofs.plain.plain_end.Goals as goal

pub returns-in-Known : goal.returns-in-Known
returns-in-Known c =
    λ v d P. end_of P (plain_at P c.byte.ensures c.in-Byte.is (sym c.plain_leaf.ensures ∙ c.in-Known.is)).1
