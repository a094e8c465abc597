-- `builder::default::put_missing` meets its contract. Assumes nothing.
use Rattle.builder.proofs.Missing.{missing_unfilled, missing-filled, head-short, value-short, constant-makes, missing_inserted, missing-refused}
use Rattle.builder.proofs.Matching.{makes_as, makes-refused}
use Rattle.matching.specs.Default.{build_iceberg_default_value}
use Rattle.defaults.specs.Lookup.{get_default_value}
use Rattle.forms.proofs.Writing.{extent}
use Rattle.layout.specs.code.Answers.{label_at}
use native.Mathlib.Omega.{arith}
use mathlib.Core.Path.{◌∙◌}
use Rattle.builder.proofs.Present.{table-present, default_top}
use mathlib.Core.Path.{ap}
use mathlib.Core.Bool.{not}
use Rattle.builder.proofs.default.put_missing.Goals as goal

pub returns-then-not-sought : goal.returns-then-not-sought
returns-then-not-sought c =
    λ from T Q lt. makes-refused _ _ _ _ _ (missing-refused (get_default_value T.entries c.args.build.defaults.source_index)
    c.args.sought.missing.insert c.args.sought.missing.number (label_at c.args.target.now c.args.sought.column.label) Q.tree
    c.if-not-sought.true)

pub put_constant_head-head-requires : goal.put_constant_head-head-requires
put_constant_head-head-requires c =
    record { span_in = c.requires.span_in; type_at = c.requires.type_at; target_bound = omega (arith, extent c.requires.type_at, c.requires.target_len_bound) }

pub overflow_add-sought : goal.overflow_add-sought
overflow_add-sought c =
    omega (
      arith,
      head-short c.requires.type_at c.args.sought.column.label.name c.requires.span_in.0 c.requires.span_in.1 (c.put_constant_head-head.ensures.value
          c.requires.type_at),
      extent c.requires.type_at,
      c.requires.target_len_bound,
    )

pub build_iceberg_default_value-made-requires : goal.build_iceberg_default_value-made-requires
build_iceberg_default_value-made-requires c =
    record {
      type_at = c.requires.type_at;
      indexed_table_at = c.requires.indexed_table_at;
      table_len_bound = (
        c.requires.target_len_bound.1,
        omega (
          arith,
          head-short c.requires.type_at c.args.sought.column.label.name c.requires.span_in.0
              c.requires.span_in.1 (c.put_constant_head-head.ensures.value c.requires.type_at),
          extent c.requires.type_at,
          c.requires.target_len_bound,
        ),
      );
    }

pub returns-then-not-fills_required : goal.returns-then-not-fills_required
returns-then-not-fills_required c =
    λ from T Q lt. makes-refused _ _ _ _ _ ((missing_inserted (get_default_value T.entries c.args.build.defaults.source_index)
    c.args.sought.missing.insert c.args.sought.missing.number (label_at c.args.target.now c.args.sought.column.label)
    Q.tree c.if-not-sought.false)
    ∙ missing_unfilled (label_at c.args.target.now c.args.sought.column.label) Q.tree (build_iceberg_default_value (get_default_value
    T.entries
    c.args.build.defaults.source_index) c.args.sought.column.label.id Q.tree) (c.build_iceberg_default_value-made.ensures T Q) (λ v e.
    default_top (get_default_value T.entries c.args.build.defaults.source_index) (table-present T.entries
    c.args.build.defaults.source_index) c.args.sought.column.label.id Q.tree v e) c.fills_required.ensures (ap not c.if-not-fills_required.true))

pub constant_made-requires : goal.constant_made-requires
constant_made-requires c =
    omega (
      arith,
      value-short (build_iceberg_default_value (get_default_value c.requires.indexed_table_at.0.entries c.args.build.defaults.source_index)
          c.args.sought.column.label.id c.requires.type_at.tree) (c.build_iceberg_default_value-made.ensures c.requires.indexed_table_at.0 c.requires.type_at),
      head-short c.requires.type_at
          c.args.sought.column.label.name c.requires.span_in.0 c.requires.span_in.1 (c.put_constant_head-head.ensures.value c.requires.type_at),
      extent c.requires.type_at,
      c.requires.target_len_bound,
    )

pub returns : goal.returns
returns c =
    λ from T Q lt. makes_as _ _ _ _ _ _ ((missing_inserted (get_default_value T.entries c.args.build.defaults.source_index)
    c.args.sought.missing.insert c.args.sought.missing.number (label_at c.args.target.now c.args.sought.column.label)
    Q.tree c.if-not-sought.false)
    ∙ missing-filled (label_at c.args.target.now c.args.sought.column.label) Q.tree (build_iceberg_default_value (get_default_value T.entries
    c.args.build.defaults.source_index) c.args.sought.column.label.id Q.tree) (c.build_iceberg_default_value-made.ensures T Q) (λ v e.
    default_top (get_default_value T.entries c.args.build.defaults.source_index) (table-present T.entries
    c.args.build.defaults.source_index) c.args.sought.column.label.id Q.tree v e) c.fills_required.ensures (ap not c.if-not-fills_required.false))
    (constant-makes _ _ (c.put_constant_head-head.ensures.value Q) _ from _ _ (c.put_constant_head-head.ensures.out_after Q)
    c.put_constant_head-head.auto.out (c.build_iceberg_default_value-made.ensures T Q) c.constant_made.ensures
    (head-short Q c.args.sought.column.label.name c.requires.span_in.0 c.requires.span_in.1 (c.put_constant_head-head.ensures.value Q)) lt)
