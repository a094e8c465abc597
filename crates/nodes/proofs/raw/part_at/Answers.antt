-- `nodes::raw::part_at` meets its contract: a null has no parts. Assumes nothing.
use Rattle.nodes.proofs.Node.{nowhere, part_as, raw-null, raw-present, raw_unread}
use Rattle.nodes.proofs.raw.part_at.Goals as goal

pub present_part-requires : goal.present_part-requires
present_part-requires c =
    record { present_at = (raw-present c.requires.raw_at c.read_presence.ensures c.in-Present.is).inner; ends = c.requires.ends }

pub returns-in-Null : goal.returns-in-Null
returns-in-Null c =
    λ X. nowhere ((raw-null X c.read_presence.ensures c.in-Null.is).part _)

pub returns-in-Present : goal.returns-in-Present
returns-in-Present c =
    λ X. let I = raw-present X c.read_presence.ensures c.in-Present.is in part_as c.args.k I.is (c.present_part.ensures I.inner)

pub returns-in-Refused : goal.returns-in-Refused
returns-in-Refused c =
    λ X. raw_unread X c.read_presence.ensures c.in-Refused.is
