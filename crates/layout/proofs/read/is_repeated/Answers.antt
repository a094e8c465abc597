-- `layout::read::is_repeated` meets its contract: a label is new where a search for it ends at an empty slot. Assumes
-- nothing.
use Rattle.layout.proofs.Noting.{keeps_same, notes-met, not_noted, place-keeps, place-notes}
use Rattle.layout.proofs.read.is_repeated.Goals as goal

pub returns-then-k-seen : goal.returns-then-k-seen
returns-then-k-seen c =
    let E = c.find_slot-k.ensures.new c.if-k-seen.true in record { value = not_noted E c.label_hash-h.ensures c.requires.noted; keeps = place-keeps E c.if-k-seen.true c.place.ensures.result_nonzero c.place.ensures.value; notes = place-notes E c.if-k-seen.true c.place.ensures.result_nonzero c.place.ensures.value c.label_hash-h.ensures c.requires.begins }

pub returns : goal.returns
returns c =
    let met = c.find_slot-k.ensures.met c.if-k-seen.false in record { value = c.repeats.ensures; keeps = keeps_same _; notes = notes-met c.label_hash-h.ensures met }
