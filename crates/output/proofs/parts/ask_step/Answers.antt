use Rattle.output.proofs.Asking.{null-asked, raw-asked, list-asked, array-asked, constant-met}
use Rattle.output.proofs.Sources.{from_null, from_record, from-constant, from-struct, from_list, from-array, never_sourced}
use mathlib.Core.Path.{refl}
use Rattle.output.proofs.parts.ask_step.Goals as goal

pub source_at-requires : goal.source_at-requires
source_at-requires c =
    let (x, W, h) = c.requires.walk_at in record { skips = c.requires.skips; ends = c.requires.ends; row_at = c.requires.row_at; walk_at = (x, W) }

pub parts_at-p-requires : goal.parts_at-p-requires
parts_at-p-requires c =
    let (x, W, h) = c.requires.walk_at in (from_record (c.source_at.ensures c.requires.row_at x W h) c.in-Record.is).raw

pub parts_at-p-requires-in-Constant : goal.parts_at-p-requires-in-Constant
parts_at-p-requires-in-Constant c =
    let (x, W, h) = c.requires.walk_at in (from-constant (c.source_at.ensures c.requires.row_at x W h) c.in-Constant.is).node.raw

pub ask_constant-requires : goal.ask_constant-requires
ask_constant-requires c =
    let (x, W, h) = c.requires.walk_at in (x, W)

pub returns-in-Null : goal.returns-in-Null
returns-in-Null c =
    λ X x W h. null-asked _ x _ _ (from_null (c.source_at.ensures X x W h) c.in-Null.is)

pub returns-in-Record : goal.returns-in-Record
returns-in-Record c =
    λ X x W h. let N = from_record (c.source_at.ensures X x W h) c.in-Record.is in raw-asked _ x _ _ N.is refl
    (c.parts_at-p.ensures N.raw) c.meet.ensures

pub returns-in-Constant : goal.returns-in-Constant
returns-in-Constant c =
    λ X x W h. let C = from-constant (c.source_at.ensures X x W h) c.in-Constant.is in c.ask_constant.ensures _ x C.value _ _ W C.is
    (constant-met _ _ (c.parts_at-p-in-Constant.ensures C.node.raw) C.node.is c.meet-in-Constant.ensures)

pub returns-in-Struct : goal.returns-in-Struct
returns-in-Struct c =
    λ X x W h. c.ask_struct.ensures _ x _ _ _ (from-struct (c.source_at.ensures X x W h) c.in-Struct.is) c.meet-in-Struct.ensures

pub returns-in-List : goal.returns-in-List
returns-in-List c =
    λ X x W h. list-asked _ x _ _ (from_list (c.source_at.ensures X x W h) c.in-List.is)

pub returns-in-Array : goal.returns-in-Array
returns-in-Array c =
    λ X x W h. array-asked _ x _ _ (from-array (c.source_at.ensures X x W h) c.in-Array.is)

pub returns-in-Refused : goal.returns-in-Refused
returns-in-Refused c =
    λ X x W h. never_sourced (c.source_at.ensures X x W h) c.in-Refused.is
