-- `calls::write::put_plan_head` meets its contract. Assumes nothing.
use Rattle.forms.specs.Form.{u16_bytes}
use Rattle.store.specs.code.Overlay.{overlay}
use Rattle.calls.proofs.write.put_plan_head.Goals as goal

pub returns : goal.returns
returns c =
    unfold overlay u16_bytes in rw (c.put_short-2.ensures, c.put_short.ensures, c.put-3.ensures, c.put-2.ensures, c.put.ensures)
