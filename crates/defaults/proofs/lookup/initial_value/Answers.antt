-- `defaults::lookup::initial_value` meets its contract: each answer has its law in `Taking`. Assumes nothing.
use Rattle.defaults.proofs.Taking.{zone_in, initial_never, initial-value, initial-taken}
use Rattle.defaults.proofs.lookup.initial_value.Goals as goal

pub unless_null-requires : goal.unless_null-requires
unless_null-requires c =
    record { span_in = zone_in _ c.read_leaf_type.ensures.leaf_in c.in-Is.is; value_at = initial-value c.requires c.read_leaf_type.ensures.result_value c.in-Is.is }

pub returns-in-Is : goal.returns-in-Is
returns-in-Is c =
    λ k P. initial-taken P c.read_leaf_type.ensures.result_value c.in-Is.is k c.unless_null.result c.unless_null.ensures

pub returns-in-Refused : goal.returns-in-Refused
returns-in-Refused c =
    λ k P. initial_never P c.read_leaf_type.ensures.result_value c.in-Refused.is
