-- `infer::over::infer_leaf` meets its contract. Assumes nothing.
use Rattle.walk.proofs.Heads.{is-constant}
use Rattle.direct.proofs.Scoping.{taken_at}
use Rattle.infer.proofs.Transforms.{position_infers, constant_infers}
use Rattle.infer.proofs.over.infer_leaf.Goals as goal

pub copy_type-requires : goal.copy_type-requires
copy_type-requires c =
    let X = c.requires.source_at in let P = c.requires.selector_at in let L = c.requires.s_len_bound in let K = taken_at (c.take_position.ensures X P) c.in-At.is in record { type_at = K.type; s_len_bound = (L.0, L.2, L.3) }

pub copy_type-requires-in-Constant : goal.copy_type-requires-in-Constant
copy_type-requires-in-Constant c =
    let X = c.requires.source_at in let P = c.requires.selector_at in let L = c.requires.s_len_bound in let K = is-constant (c.head.ensures P) c.in-Constant.is in record { type_at = K.type; s_len_bound = (L.1, L.2, L.3) }

pub returns-in-At : goal.returns-in-At
returns-in-At c =
    λ X P. let K = taken_at (c.take_position.ensures X P) c.in-At.is in position_infers K (c.copy_type.ensures K.type) c.requires.s_len_bound.4

pub returns-in-Constant : goal.returns-in-Constant
returns-in-Constant c =
    λ X P. let K = is-constant (c.head.ensures P) c.in-Constant.is in constant_infers X.fields K (c.copy_type-in-Constant.ensures K.type) c.requires.s_len_bound.4
