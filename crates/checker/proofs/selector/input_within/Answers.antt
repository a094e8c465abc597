-- `checker::selector::input_within` meets its contract. Assumes nothing.
use mathlib.Core.Path.{refl, sym}
use mathlib.Core.Bool.{true≢false}
use Rattle.layout.specs.Tree.{dtype_of}
use Rattle.walk.proofs.Heads.{is-constant, is-cast, is-rename, is_struct_mapping, is_list_mapping, is-array}
use Rattle.checker.proofs.Selecting.{transform_limited, position-limited, constant-limited}
use Rattle.checker.proofs.selector.input_within.Goals as goal

pub raw_fit-requires : goal.raw_fit-requires
raw_fit-requires c =
    let K = is-constant (c.head.ensures c.requires) c.in-Constant.is in
    (dtype_of K.type.tree, record { type = K.type; is = refl })

pub returns-in-Position : goal.returns-in-Position
returns-in-Position c =
    λ e incoming v n s Δ a C S g. position-limited C (c.head.ensures C.standing.here) g c.in-Position.is S e

pub returns-in-Constant : goal.returns-in-Constant
returns-in-Constant c =
    λ e incoming v n s Δ a C S g. constant-limited C (c.head.ensures C.standing.here) g
    c.in-Constant.is c.raw_fit.ensures c.is_within.ensures e

pub returns-in-Cast : goal.returns-in-Cast
returns-in-Cast c =
    λ e incoming v n s Δ a C S g. transform_limited C g (is-cast (c.head.ensures C.standing.here) c.in-Cast.is).is
    refl

pub returns-in-Rename : goal.returns-in-Rename
returns-in-Rename c =
    λ e incoming v n s Δ a C S g. transform_limited C g (is-rename (c.head.ensures C.standing.here) c.in-Rename.is).is
    refl

pub returns-in-Struct : goal.returns-in-Struct
returns-in-Struct c =
    λ e incoming v n s Δ a C S g. transform_limited C g (is_struct_mapping (c.head.ensures C.standing.here) c.in-Struct.is).is
    refl

pub returns-in-List : goal.returns-in-List
returns-in-List c =
    λ e incoming v n s Δ a C S g. transform_limited C g (is_list_mapping (c.head.ensures C.standing.here) c.in-List.is).is
    refl

pub returns-in-Array : goal.returns-in-Array
returns-in-Array c =
    λ e incoming v n s Δ a C S g. transform_limited C g (is-array (c.head.ensures C.standing.here) c.in-Array.is).is
    refl

pub returns-in-Refused : goal.returns-in-Refused
returns-in-Refused c =
    λ e. absurd (true≢false (sym e))
