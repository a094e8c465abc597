-- What each answer of the code stands for.
use Rattle.std.specs.Prelude.{ℕ}
use Rattle.layout.specs.Parser.{Res, refuse, ok}
use Rattle.layout.specs.declared.cursor.Moved.{Moved}
use Rattle.values.specs.declared.read.ValueRead.{ValueRead}
use Rattle.plan.specs.Selector.{Selectors, count_selectors}
use Rattle.plan.specs.declared.read.PlanRead.{PlanRead}

-- where a value ends; where its type ends is dropped
abbrev pub value_end : ValueRead → Moved
value_end (ValueRead.To t c) = Moved.To c
value_end (ValueRead.Refused n) = Moved.Refused n

-- the selectors begin after the mark, the version and the count
unfoldable pub plan_read : Res Selectors → PlanRead
plan_read (refuse n) = PlanRead.Refused n
plan_read (ok ss at) = PlanRead.Read (count_selectors ss) (record { at = 7 })
