use Rattle.output.proofs.Sources.{source-column, source-lost, source-constant, never_cast, never_rename, source-struct, source-list, source-array}
use Rattle.raw.proofs.Constants.{constant-part}
use Rattle.walk.proofs.Heads.{is_position_lem, is-constant, is-cast, is-rename, is_struct_mapping, is_list_mapping, is-array, never_refused}
use native.Mathlib.Omega.{arith}
use Rattle.output.proofs.source.source_at.Goals as goal

pub column_node-requires : goal.column_node-requires
column_node-requires c =
    record { ends = c.requires.ends; row_at = c.requires.row_at; deep_le_len = (c.requires.walk_at.1.deep, omega (arith, c.requires.walk_at.1.short, c.requires.walk_at.1.room.1)) }

pub returns-then-w-eq0 : goal.returns-then-w-eq0
returns-then-w-eq0 c =
    λ X x W h. source-column W _ (is_position_lem (c.head.ensures W.here) c.in-Position.is).1 c.if-w-eq0.true
    (c.column_node.ensures X) c.record_source.ensures

pub constant_node-requires : goal.constant_node-requires
constant_node-requires c =
    record { constant_raw = constant-part (is-constant (c.head.ensures c.requires.walk_at.1.here) c.in-Constant.is); deep_le_len = (c.requires.walk_at.1.deep, omega (arith, c.requires.walk_at.1.short, c.requires.walk_at.1.room.1)) }

pub returns-else-w-eq0 : goal.returns-else-w-eq0
returns-else-w-eq0 c =
    λ X x W h. source-lost W _ (is_position_lem (c.head.ensures W.here) c.in-Position.is).1 c.if-w-eq0.false h

pub returns-in-Constant : goal.returns-in-Constant
returns-in-Constant c =
    λ X x W h. let A = is-constant (c.head.ensures W.here) c.in-Constant.is in source-constant W _ A.is
    (c.constant_node.ensures (record { type = A.type; value = A.value })) c.constant_source.ensures

pub returns-in-Cast : goal.returns-in-Cast
returns-in-Cast c =
    λ X x W h. never_cast W (is-cast (c.head.ensures W.here) c.in-Cast.is).is h

pub returns-in-Rename : goal.returns-in-Rename
returns-in-Rename c =
    λ X x W h. never_rename W (is-rename (c.head.ensures W.here) c.in-Rename.is).is h

pub returns-in-Struct : goal.returns-in-Struct
returns-in-Struct c =
    λ X x W h. let A = is_struct_mapping (c.head.ensures W.here) c.in-Struct.is in source-struct W _ (c.struct_source.ensures W.here A) A.is h

pub returns-in-List : goal.returns-in-List
returns-in-List c =
    λ X x W h. source-list W _ (is_list_mapping (c.head.ensures W.here) c.in-List.is).is h

pub returns-in-Array : goal.returns-in-Array
returns-in-Array c =
    λ X x W h. source-array W _ (is-array (c.head.ensures W.here) c.in-Array.is).is h

pub returns-in-Refused : goal.returns-in-Refused
returns-in-Refused c =
    λ X x W h. never_refused (c.head.ensures W.here) c.in-Refused.is
