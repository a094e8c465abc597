-- `overflow::stop::at_stop` meets its contract: each selector has its law in `Stops`. Assumes nothing.
use Rattle.overflow.proofs.Stops.{position_stop, rename_stop, struct_stop_lem, list_stop_lem, array_stop, constant_stop_lem, cast_stop_lem, constant-raw, cast-type}
use Rattle.overflow.proofs.Stops.{path_room}
use Rattle.walk.proofs.Heads.{never_refused}
use Rattle.overflow.proofs.stop.at_stop.Goals as goal

pub at_position-requires : goal.at_position-requires
at_position-requires c =
    record { ends = c.requires.ends; record_at = c.requires.record_at.0; len_in_bounds = (path_room c.requires.record_at.1.1, c.requires.small_want) }

pub at_constant-requires : goal.at_constant-requires
at_constant-requires c =
    record { raw_in = (constant-raw c.requires.record_at.1.1 (c.head.ensures c.requires.record_at.1.1.here) c.in-Constant.is, c.requires.record_at.1); small_want = c.requires.small_want }

pub at_cast-requires : goal.at_cast-requires
at_cast-requires c =
    record { type_at = cast-type c.requires.record_at.1.1 (c.head.ensures c.requires.record_at.1.1.here) c.in-Cast.is c.skip_by.ensures; small_want = c.requires.small_want }

pub returns-in-Position : goal.returns-in-Position
returns-in-Position c =
    λ X x M. c.at_position.ensures X _ x M (position_stop M (c.head.ensures M.here) c.in-Position.is)

pub returns-in-Constant : goal.returns-in-Constant
returns-in-Constant c =
    λ X x M. constant_stop_lem M _ c.args.want (c.head.ensures M.here) c.in-Constant.is (λ R. c.at_constant.ensures R x M)

pub returns-in-Cast : goal.returns-in-Cast
returns-in-Cast c =
    λ X x M. cast_stop_lem M _ c.args.want (c.head.ensures M.here) c.in-Cast.is c.skip_by.ensures (λ T. c.at_cast.ensures T x M)

pub returns-in-Rename : goal.returns-in-Rename
returns-in-Rename c =
    λ X x M. rename_stop M _ c.args.want (c.head.ensures M.here) c.in-Rename.is

pub returns-in-Struct : goal.returns-in-Struct
returns-in-Struct c =
    λ X x M. struct_stop_lem M _ c.args.want (c.head.ensures M.here) c.in-Struct.is (c.at_struct.ensures _ x M)

pub returns-in-List : goal.returns-in-List
returns-in-List c =
    λ X x M. list_stop_lem M _ c.args.want (c.head.ensures M.here) c.in-List.is c.before_list.ensures

pub returns-in-Array : goal.returns-in-Array
returns-in-Array c =
    λ X x M. array_stop M _ c.args.want (c.head.ensures M.here) c.in-Array.is c.before_list-in-Array.ensures

pub returns-in-Refused : goal.returns-in-Refused
returns-in-Refused c =
    λ X x M. never_refused (c.head.ensures M.here) c.in-Refused.is
