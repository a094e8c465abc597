use Rattle.output.proofs.Sources.{null-node, node-valued}
use Rattle.output.proofs.source.column_node.Goals as goal

pub value_at-requires : goal.value_at-requires
value_at-requires c =
    record {
      raw_at = ((c.column_value.ensures c.requires.row_at).here _ _
          c.in-At.is).raw;
      from_le_len = c.requires.deep_le_len;
      ends = c.requires.ends;
    }

pub returns-in-Null : goal.returns-in-Null
returns-in-Null c =
    λ X. null-node (c.column_value.ensures X) c.in-Null.is _

pub returns-in-At : goal.returns-in-At
returns-in-At c =
    λ X. let N = (c.column_value.ensures X).here _ _ c.in-At.is in node-valued N.is
    _ (c.value_at.ensures N.raw)
