-- `infer::name::name_at` meets its contract. Assumes nothing.
use native.Mathlib.Omega.{arith}
use Rattle.walk.proofs.Heads.{is_position_lem, is-constant, is-rename, is-cast, is_struct_mapping, is_list_mapping, is-array}
use Rattle.infer.proofs.Names.{scope-readable, position_step, constant_step, rename_step, cast_step, struct_step, list_step, array_step}
use Rattle.infer.proofs.name.name_at.Goals as goal

pub returns-in-At : goal.returns-in-At
returns-in-At c =
    λ X P. position_step X.fields (scope-readable (λ i. omega (arith, c.type_inv.s i)) X) (is_position_lem (c.head.ensures P)
    c.in-Position.is).1 (c.take_position.ensures X P) c.in-At.is c.named.ensures

pub returns-in-Constant : goal.returns-in-Constant
returns-in-Constant c =
    λ X P. constant_step X.fields (λ i. omega (arith, c.type_inv.plan i)) (is-constant (c.head.ensures P) c.in-Constant.is)
    c.named-in-Constant.ensures

pub returns-in-Rename : goal.returns-in-Rename
returns-in-Rename c =
    λ X P. let K = is-rename (c.head.ensures P) c.in-Rename.is in rename_step X.fields (λ i. omega (arith, c.type_inv.plan i)) K
    (c.rename_name.ensures K.input K.name) c.named-in-Rename.ensures

pub returns-in-Cast : goal.returns-in-Cast
returns-in-Cast c =
    λ X P. cast_step X.fields (is-cast (c.head.ensures P) c.in-Cast.is)

pub returns-in-Struct : goal.returns-in-Struct
returns-in-Struct c =
    λ X P. struct_step X.fields (is_struct_mapping (c.head.ensures P) c.in-Struct.is)

pub returns-in-List : goal.returns-in-List
returns-in-List c =
    λ X P. list_step X.fields (is_list_mapping (c.head.ensures P) c.in-List.is)

pub returns-in-Array : goal.returns-in-Array
returns-in-Array c =
    λ X P. array_step X.fields (is-array (c.head.ensures P) c.in-Array.is)
