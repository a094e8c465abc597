-- `ends::skip::skip_struct` meets its contract: two readings of a struct end alike. Assumes nothing.
use Rattle.ends.proofs.Entries.{found-is}
use Rattle.ends.proofs.skip.skip_struct.Goals as goal

pub returns-in-At : goal.returns-in-At
returns-in-At c =
    λ P. found-is _ _ _ _ (c.find_end.ensures _ _ c.requires.ends)
    c.in-At.is P
