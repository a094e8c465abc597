-- `nodes::raw::parts_at` meets its contract: a null has no parts. Assumes nothing.
use mathlib.Core.Path.{sym, ap, ◌∙◌}
use Rattle.nodes.specs.code.Raw.{parts_of}
use Rattle.nodes.proofs.Node.{raw-null, raw-present, raw_unread}
use Rattle.nodes.proofs.raw.parts_at.Goals as goal

pub present_parts-requires : goal.present_parts-requires
present_parts-requires c =
    (raw-present c.requires c.read_presence.ensures c.in-Present.is).inner

pub returns-in-Null : goal.returns-in-Null
returns-in-Null c =
    λ X. sym (raw-null X c.read_presence.ensures c.in-Null.is).parts

pub returns-in-Present : goal.returns-in-Present
returns-in-Present c =
    λ X. let I = raw-present X c.read_presence.ensures c.in-Present.is in c.present_parts.ensures I.inner ∙ ap parts_of I.is

pub returns-in-Refused : goal.returns-in-Refused
returns-in-Refused c =
    λ X. raw_unread X c.read_presence.ensures c.in-Refused.is
