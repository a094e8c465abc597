-- `checker::head::mapped_head` meets its contract. Assumes nothing.
use Rattle.checker.proofs.Headed.{made-position_never, made-constant_never, made-cast_never, made-rename_never, made_struct-is, made_list-is}
use Rattle.checker.proofs.Headed.{made_array_asks, made_array-is}
use Rattle.walk.proofs.Heads.{never_refused}
use Rattle.checker.proofs.head.mapped_head.Goals as goal

pub skip_by-requires : goal.skip_by-requires
skip_by-requires c =
    c.requires.tables.skips

pub width-requires : goal.width-requires
width-requires c =
    let (t, M) = c.requires.mapped_at in record { tables = c.requires.tables; by_index = made_array_asks M (c.head.ensures M.standing.here) c.in-Array.is }

pub returns-in-Position : goal.returns-in-Position
returns-in-Position c =
    λ t M. made-position_never M (c.head.ensures M.standing.here) c.in-Position.is

pub returns-in-Constant : goal.returns-in-Constant
returns-in-Constant c =
    λ t M. made-constant_never M (c.head.ensures M.standing.here) c.in-Constant.is

pub returns-in-Cast : goal.returns-in-Cast
returns-in-Cast c =
    λ t M. made-cast_never M (c.head.ensures M.standing.here) c.in-Cast.is

pub returns-in-Rename : goal.returns-in-Rename
returns-in-Rename c =
    λ t M. made-rename_never M (c.head.ensures M.standing.here) c.in-Rename.is

pub returns-in-Struct : goal.returns-in-Struct
returns-in-Struct c =
    λ t M. made_struct-is M (c.head.ensures M.standing.here) c.in-Struct.is
    (λ P Q. c.counted_at-fields.ensures P.end Q (c.skip_by.ensures P))

pub returns-in-List : goal.returns-in-List
returns-in-List c =
    λ t M. made_list-is M (c.head.ensures M.standing.here) c.in-List.is

pub returns-in-Array : goal.returns-in-Array
returns-in-Array c =
    λ t M. made_array-is M (c.head.ensures M.standing.here) c.in-Array.is c.width.ensures

pub returns-in-Refused : goal.returns-in-Refused
returns-in-Refused c =
    λ t M. never_refused (c.head.ensures M.standing.here) c.in-Refused.is
