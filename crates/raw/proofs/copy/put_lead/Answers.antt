use Rattle.raw.proofs.Storing.{lead-counted, lead_plain}
use Rattle.store.specs.code.Overlay.{overlay}
use Rattle.raw.proofs.copy.put_lead.Goals as goal

pub returns-then-counted : goal.returns-then-counted
returns-then-counted c =
    unfold overlay in lead-counted _ _ _ c.if-counted.true (rw (c.put_number.ensures, c.put.ensures))

pub returns : goal.returns
returns c =
    unfold overlay in lead_plain _ _ _ c.if-counted.false c.put.ensures
