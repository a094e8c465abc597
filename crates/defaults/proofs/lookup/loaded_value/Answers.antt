-- `defaults::lookup::loaded_value` meets its contract: each answer has its law in `Taking`. Assumes nothing.
use Rattle.defaults.proofs.Taking.{zone_in, loaded_never, loaded-uncounted, loaded-values, loaded-taken}
use Rattle.defaults.proofs.lookup.loaded_value.Goals as goal

pub of_source-requires : goal.of_source-requires
of_source-requires c =
    record {
      span_in = zone_in _ c.read_leaf_type.ensures.leaf_in c.in-Is.is;
      each_at = loaded-values c.requires c.read_leaf_type.ensures.result_value c.in-Is.is
          c.short.ensures c.in-Is-short.is;
    }

pub returns-in-Is-short : goal.returns-in-Is-short
returns-in-Is-short c =
    λ P. loaded-taken P c.read_leaf_type.ensures.result_value c.in-Is.is c.short.ensures c.in-Is-short.is c.args.source_index
    c.of_source.result c.of_source.ensures

pub returns-in-Refused-short : goal.returns-in-Refused-short
returns-in-Refused-short c =
    λ P. loaded-uncounted P c.read_leaf_type.ensures.result_value c.in-Is.is c.short.ensures c.in-Refused-short.is

pub returns-in-Refused : goal.returns-in-Refused
returns-in-Refused c =
    λ P. loaded_never P c.read_leaf_type.ensures.result_value c.in-Refused.is
