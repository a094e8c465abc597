-- `defaults::lookup::partition_value` meets its contract: each answer has its law in `Taking`. Assumes nothing.
use Rattle.defaults.proofs.Taking.{load_never, load-loaded, load-taken, load_failed}
use Rattle.defaults.proofs.lookup.partition_value.Goals as goal

pub loaded_value-requires : goal.loaded_value-requires
loaded_value-requires c =
    load-loaded c.requires c.byte.ensures c.in-Byte.is c.if-b-eq0.true

pub returns-then-b-eq0 : goal.returns-then-b-eq0
returns-then-b-eq0 c =
    λ P. load-taken P c.byte.ensures c.in-Byte.is c.args.source_index c.loaded_value.result c.if-b-eq0.true
    c.loaded_value.ensures

pub returns-else-b-eq0 : goal.returns-else-b-eq0
returns-else-b-eq0 c =
    λ P. load_failed P c.byte.ensures c.in-Byte.is c.args.source_index c.if-b-eq0.false

pub returns-in-Refused : goal.returns-in-Refused
returns-in-Refused c =
    λ P. load_never P c.byte.ensures c.in-Refused.is
