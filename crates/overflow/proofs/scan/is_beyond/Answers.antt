-- `overflow::scan::is_beyond` meets its contract: by what the type begins with; a date-time by its bytes. Assumes
-- nothing.
use Rattle.overflow.proofs.Raw.{leaf_timeless, time-within, leaf-time, struct-value, a_list_lem, an_array_lem, struct_timeless, list_timeless, array_timeless}
use Rattle.layout.proofs.View.{never_headless}
use native.Mathlib.Omega.{arith}
use mathlib.Core.Path.{sym}
use Rattle.overflow.proofs.scan.is_beyond.Goals as goal

pub number_at-requires : goal.number_at-requires
number_at-requires c =
    record {
      w_in_bounds = time-within c.requires.present_at
          c.head.ensures.result_value c.in-Leaf.is
          c.time_of.ensures c.in-In.is;
      w_bound = omega arith;
    }

pub returns-in-In : goal.returns-in-In
returns-in-In c =
    λ X. leaf-time X c.head.ensures.result_value c.in-Leaf.is c.time_of.ensures c.in-In.is c.args.d c.args.u
    c.number_at.ensures c.count_beyond.ensures

pub returns-in-Never : goal.returns-in-Never
returns-in-Never c =
    λ X. sym (leaf_timeless X c.head.ensures.result_value c.in-Leaf.is c.time_of.ensures c.args.d c.args.u c.in-Never.is)

pub returns-in-Struct : goal.returns-in-Struct
returns-in-Struct c =
    λ X. struct_timeless c.args.d c.args.u (struct-value X c.head.ensures.result_value c.in-Struct.is).is

pub returns-in-List : goal.returns-in-List
returns-in-List c =
    λ X. list_timeless c.args.d c.args.u (a_list_lem X c.head.ensures.result_value c.in-List.is).is

pub returns-in-Array : goal.returns-in-Array
returns-in-Array c =
    λ X. array_timeless c.args.d c.args.u (an_array_lem X c.head.ensures.result_value c.in-Array.is).is

pub returns-in-Refused : goal.returns-in-Refused
returns-in-Refused c =
    λ X. never_headless X.type c.head.ensures.result_value c.in-Refused.is
