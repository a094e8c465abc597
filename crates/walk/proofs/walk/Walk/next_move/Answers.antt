-- `walk::walk::Walk::next_move` meets its contract: by the head. Assumes nothing.
use Rattle.walk.proofs.Moving.{walk_is, walk_mapping, next-constant, next_cast_lem, next-rename, next-renamed}
use Rattle.walk.specs.code.Moves.{is_struct_mapping as a_struct_lem, is_list_mapping as a_list_lem, is-array as an_array_lem}
use Rattle.walk.proofs.Heads.{is_position_lem, is-constant, is-cast, is-rename, is_struct_mapping, is_list_mapping, is-array, never_refused}
use Rattle.walk.proofs.walk.Walk.next_move.Goals as goal

pub returns-in-Position : goal.returns-in-Position
returns-in-Position c =
    λ x M. c.leaving.ensures x M (walk_is M (is_position_lem (c.head.ensures M.here) c.in-Position.is).1)

pub returns-in-Constant : goal.returns-in-Constant
returns-in-Constant c =
    λ x M. next-constant M (is-constant (c.head.ensures M.here) c.in-Constant.is)

pub returns-in-Cast : goal.returns-in-Cast
returns-in-Cast c =
    λ x M. next_cast_lem M (is-cast (c.head.ensures M.here) c.in-Cast.is)

pub returns-then-self : goal.returns-then-self
returns-then-self c =
    λ x M. next-rename M (is-rename (c.head.ensures M.here) c.in-Rename.is) c.if-self.true

pub returns-else-self : goal.returns-else-self
returns-else-self c =
    λ x M. next-renamed M (is-rename (c.head.ensures M.here) c.in-Rename.is) c.if-self.false

pub returns-in-Struct : goal.returns-in-Struct
returns-in-Struct c =
    λ x M. c.entering.ensures x M (walk_mapping M (is_struct_mapping (c.head.ensures M.here)
    c.in-Struct.is).is a_struct_lem)

pub returns-in-List : goal.returns-in-List
returns-in-List c =
    λ x M. c.entering-in-List.ensures x M (walk_mapping M (is_list_mapping (c.head.ensures M.here)
    c.in-List.is).is a_list_lem)

pub returns-in-Array : goal.returns-in-Array
returns-in-Array c =
    λ x M. c.entering-in-Array.ensures x M (walk_mapping M (is-array (c.head.ensures M.here)
    c.in-Array.is).is an_array_lem)

pub returns-in-Refused : goal.returns-in-Refused
returns-in-Refused c =
    λ x M. never_refused (c.head.ensures M.here) c.in-Refused.is
