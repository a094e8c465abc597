use Rattle.output.proofs.Passing.{pass-ends, pass-rename, pass_below, pass-at-end, type_as}
use Rattle.walk.proofs.Walks.{path-some, path-none}
use Rattle.walk.proofs.Heads.{is_position_lem, is-constant, is-cast, is-rename, is_struct_mapping, is_list_mapping, is-array, never_refused}
use mathlib.Core.Path.{sym, ◌∙◌}
use Rattle.output.proofs.casts.next_pass.Goals as goal

pub returns-then-w : goal.returns-then-w
returns-then-w c =
    λ x W S. pass_below x W.selector (is-cast (c.head.ensures W.here) c.in-Cast.is).is (path-some W c.if-w.true)

pub returns-in-Position : goal.returns-in-Position
returns-in-Position c =
    λ x W S. pass-ends x (sym (is_position_lem (c.head.ensures W.here) c.in-Position.is).1 ∙ W.selector) S tt

pub returns-in-Constant : goal.returns-in-Constant
returns-in-Constant c =
    λ x W S. pass-ends x (sym (is-constant (c.head.ensures W.here) c.in-Constant.is).is ∙ W.selector) S tt

pub returns-else-w : goal.returns-else-w
returns-else-w c =
    λ x W S.
    let h = c.head.ensures W.here in
    let A = is-cast h c.in-Cast.is in
    let e = c.end_of.ensures A.input in
    pass-at-end x W.selector A.is (path-none W c.if-w.false) (type_as A.type e c.pass_cast.ensures)

pub returns-in-Rename : goal.returns-in-Rename
returns-in-Rename c =
    λ x W S. pass-rename x W.selector (is-rename (c.head.ensures W.here) c.in-Rename.is).is

pub returns-in-Struct : goal.returns-in-Struct
returns-in-Struct c =
    λ x W S. pass-ends x (sym (is_struct_mapping (c.head.ensures W.here) c.in-Struct.is).is ∙ W.selector) S tt

pub returns-in-List : goal.returns-in-List
returns-in-List c =
    λ x W S. pass-ends x (sym (is_list_mapping (c.head.ensures W.here) c.in-List.is).is ∙ W.selector) S tt

pub returns-in-Array : goal.returns-in-Array
returns-in-Array c =
    λ x W S. pass-ends x (sym (is-array (c.head.ensures W.here) c.in-Array.is).is ∙ W.selector) S tt

pub returns-in-Refused : goal.returns-in-Refused
returns-in-Refused c =
    λ x W S. never_refused (c.head.ensures W.here) c.in-Refused.is
