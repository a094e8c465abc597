-- `overflow::stop::in_column` meets its contract: the column where it stands, or none. Assumes nothing.
use Rattle.overflow.proofs.Scanning.{null-none, sought-present, same-node}
use native.Mathlib.Omega.{arith}
use mathlib.Core.Path.{◌∙◌}
use Rattle.overflow.proofs.stop.in_column.Goals as goal

pub some_at-requires : goal.some_at-requires
some_at-requires c =
    record { ends = c.requires.ends; raw_at = ((c.column_value.ensures c.requires.record_at).here _ _ c.in-At.is).raw; small_search = (omega arith, c.requires.len_in_bounds.0, c.requires.len_in_bounds.1) }

pub returns-in-At : goal.returns-in-At
returns-in-At c =
    λ X. let N = (c.column_value.ensures X).here _ _ c.in-At.is in same-node _ _ N.is (c.some_at.ensures N.raw) ∙ sought-present _ _ _

pub returns-in-Null : goal.returns-in-Null
returns-in-Null c =
    λ X. null-none _ _ ((c.column_value.ensures X).none c.in-Null.is)
