-- `checker::name::own_name` meets its contract. Assumes nothing.
use Rattle.checker.proofs.Naming.{own_position, own_constant, own_cast, own_rename, own_struct, own_list, own_array}
use Rattle.walk.proofs.Heads.{never_refused}
use Rattle.checker.proofs.name.own_name.Goals as goal

pub skip_by-requires : goal.skip_by-requires
skip_by-requires c =
    c.requires

pub returns-in-Position : goal.returns-in-Position
returns-in-Position c =
    λ i v n a N. own_position N (c.head.ensures N.standing.here) c.in-Position.is

pub returns-in-Constant : goal.returns-in-Constant
returns-in-Constant c =
    λ i v n a N. own_constant N (c.head.ensures N.standing.here) c.in-Constant.is c.named.ensures

pub returns-in-Cast : goal.returns-in-Cast
returns-in-Cast c =
    λ i v n a N. own_cast N (c.head.ensures N.standing.here) c.in-Cast.is

pub returns-in-Rename : goal.returns-in-Rename
returns-in-Rename c =
    λ i v n a N. own_rename N (c.head.ensures N.standing.here) c.in-Rename.is
    (λ P T. c.name_behind-name.ensures P.end T (c.skip_by.ensures P)) c.named-in-Rename.ensures

pub returns-in-Struct : goal.returns-in-Struct
returns-in-Struct c =
    λ i v n a N. own_struct N (c.head.ensures N.standing.here) c.in-Struct.is

pub returns-in-List : goal.returns-in-List
returns-in-List c =
    λ i v n a N. own_list N (c.head.ensures N.standing.here) c.in-List.is

pub returns-in-Array : goal.returns-in-Array
returns-in-Array c =
    λ i v n a N. own_array N (c.head.ensures N.standing.here) c.in-Array.is

pub returns-in-Refused : goal.returns-in-Refused
returns-in-Refused c =
    λ i v n a N. never_refused (c.head.ensures N.standing.here) c.in-Refused.is
