-- `builder::default::put_leaf_default` meets its contract. Assumes nothing.
use Rattle.builder.proofs.Defaults.{none_made, default_refused, default_as, leaf-failed, leaf-nothing, leaf-taken}
use Rattle.defaults.proofs.Whole.{default_failed, default_none, default_at}
use Rattle.defaults.specs.Lookup.{get_default_value}
use Rattle.builder.proofs.default.put_leaf_default.Goals as goal

pub put_taken-requires : goal.put_taken-requires
put_taken-requires c =
    let A = default_at c.args.table.now (get_default_value c.requires.indexed_table_at.0.entries c.args.defaults.source_index c.args.id)
    (c.get_default_value.ensures c.requires.indexed_table_at.0) c.in-At.is in record { span_in = (A.inside, c.requires.span_in); value_at = record { tree = A.tree; end = A.end; reads = A.reads }; table_len_bound = c.requires.table_len_bound }

pub returns-in-Failed : goal.returns-in-Failed
returns-in-Failed c =
    λ b e T lt. default_refused _ _ _ (leaf-failed _ (default_failed c.args.table.now (get_default_value T.entries
    c.args.defaults.source_index c.args.id) (c.get_default_value.ensures T) c.in-Failed.is))

pub returns-in-Nothing : goal.returns-in-Nothing
returns-in-Nothing c =
    λ b e T lt. none_made _ _ (leaf-nothing _ (default_none c.args.table.now (get_default_value T.entries c.args.defaults.source_index
    c.args.id) (c.get_default_value.ensures T) c.in-Nothing.is)) c.put_none.ensures.value c.put_none.ensures.out_after lt

pub returns-in-At : goal.returns-in-At
returns-in-At c =
    λ b e T lt.
    let A = default_at c.args.table.now (get_default_value T.entries c.args.defaults.source_index c.args.id)
    (c.get_default_value.ensures T) c.in-At.is in
    default_as _ _ _ _ (leaf-taken _ A) (c.put_taken.ensures b e (record { tree = A.tree; end = A.end; reads = A.reads }) lt)
