-- `nullness::stop::at_stop` meets its contract: each selector has its law in `Stopping`. Assumes nothing.
use Rattle.nullness.proofs.Stopping.{constant_stop_lem, cast_stop_lem, rename_stop, struct_stop_lem, list_stop_lem, array_stop}
use Rattle.overflow.proofs.Stops.{position_stop, constant-raw, path_room}
use Rattle.walk.proofs.Heads.{never_refused}
use Rattle.nullness.proofs.stop.at_stop.Goals as goal

pub at_position-requires : goal.at_position-requires
at_position-requires c =
    record { columns_in = c.requires.columns_in; index_at = c.requires.index_at.0; len_in_bounds = path_room c.requires.walk_at.1 }

pub at_constant-requires : goal.at_constant-requires
at_constant-requires c =
    record { nulls = c.requires.index_at.1; raw_in = (constant-raw c.requires.walk_at.1 (c.head.ensures c.requires.walk_at.1.here) c.in-Constant.is, c.requires.walk_at) }

pub returns-in-Position : goal.returns-in-Position
returns-in-Position c =
    λ P x M. c.at_position.ensures P _ x M (position_stop M (c.head.ensures M.here) c.in-Position.is)

pub returns-in-Constant : goal.returns-in-Constant
returns-in-Constant c =
    λ P x M. constant_stop_lem M _ (c.head.ensures M.here) c.in-Constant.is (λ R. c.at_constant.ensures R x M)

pub returns-in-Cast : goal.returns-in-Cast
returns-in-Cast c =
    λ P x M. cast_stop_lem M _ (c.head.ensures M.here) (c.at_transform.ensures _ x M) c.in-Cast.is

pub returns-in-Rename : goal.returns-in-Rename
returns-in-Rename c =
    λ P x M. rename_stop M _ (c.head.ensures M.here) (c.at_transform-in-Rename.ensures _ x M) c.in-Rename.is

pub returns-in-Struct : goal.returns-in-Struct
returns-in-Struct c =
    λ P x M. struct_stop_lem M _ (c.head.ensures M.here) (c.at_transform-in-Struct.ensures _ x M) c.in-Struct.is

pub returns-in-List : goal.returns-in-List
returns-in-List c =
    λ P x M. list_stop_lem M _ (c.head.ensures M.here) (c.at_transform-in-List.ensures _ x M) c.in-List.is

pub returns-in-Array : goal.returns-in-Array
returns-in-Array c =
    λ P x M. array_stop M _ (c.head.ensures M.here) (c.at_transform-in-Array.ensures _ x M) c.in-Array.is

pub returns-in-Refused : goal.returns-in-Refused
returns-in-Refused c =
    λ P x M. never_refused (c.head.ensures M.here) c.in-Refused.is
