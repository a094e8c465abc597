-- `overflow::stop::before_cast` meets its contract: by what the type begins with. Assumes nothing.
use Rattle.overflow.proofs.Asking.{cast_leaf_lem, cast-struct, cast-list, cast-array}
use Rattle.layout.proofs.View.{never_headless}
use Rattle.overflow.proofs.stop.before_cast.Goals as goal

pub returns-in-Leaf : goal.returns-in-Leaf
returns-in-Leaf c =
    λ T. cast_leaf_lem T c.head.ensures.result_value c.args.want c.in-Leaf.is c.time_of.ensures c.before_time.ensures

pub returns-in-Struct : goal.returns-in-Struct
returns-in-Struct c =
    λ T. cast-struct T c.head.ensures.result_value c.args.want c.in-Struct.is

pub returns-in-List : goal.returns-in-List
returns-in-List c =
    λ T. cast-list T c.head.ensures.result_value c.args.want c.in-List.is

pub returns-in-Array : goal.returns-in-Array
returns-in-Array c =
    λ T. cast-array T c.head.ensures.result_value c.args.want c.in-Array.is

pub returns-in-Refused : goal.returns-in-Refused
returns-in-Refused c =
    λ T. never_headless T c.head.ensures.result_value c.in-Refused.is
