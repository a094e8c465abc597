use Rattle.ends.proofs.Entries.{ends-none}
use mathlib.Core.Path.{refl}
use Rattle.raw.proofs.Constants.{constant-raw}
use Rattle.output.proofs.Sources.{node-valued}
use Rattle.output.proofs.source.constant_node.Goals as goal

pub skip_type-c-requires : goal.skip_type-c-requires
skip_type-c-requires c =
    c.requires.constant_raw.type

pub long_constant_node-requires : goal.long_constant_node-requires
long_constant_node-requires c =
    record { raw_at = (constant-raw c.requires.constant_raw (c.skip_type-c.ensures c.requires.constant_raw.type)).raw; deep_le_len = c.requires.deep_le_len }

pub returns-then-needs_table : goal.returns-then-needs_table
returns-then-needs_table c =
    λ X. let N = constant-raw X (c.skip_type-c.ensures X.type) in node-valued N.is _
    (c.long_constant_node.ensures N.raw)

pub value_at-requires : goal.value_at-requires
value_at-requires c =
    record { raw_at = (constant-raw c.requires.constant_raw (c.skip_type-c.ensures c.requires.constant_raw.type)).raw; from_le_len = c.requires.deep_le_len; ends = ends-none refl }

pub returns : goal.returns
returns c =
    λ X. let N = constant-raw X (c.skip_type-c.ensures X.type) in node-valued N.is _
    (c.value_at.ensures N.raw)
