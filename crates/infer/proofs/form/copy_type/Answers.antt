use native.Mathlib.Omega.{arith}
use Rattle.infer.proofs.Copies.{leaf-span, leaf-copied}
use Rattle.infer.proofs.form.copy_type.Goals as goal

pub copy_leaf-requires : goal.copy_leaf-requires
copy_leaf-requires c =
    record { at_le_at = leaf-span c.requires.type_at c.head.ensures.result_value c.in-Leaf.is; s_len_bound = c.requires.s_len_bound }

pub returns-in-Leaf : goal.returns-in-Leaf
returns-in-Leaf c =
    λ T. leaf-copied T c.head.ensures.result_value
    c.in-Leaf.is (λ i. omega (
      arith,
      c.type_inv.s i,
    ))
    c.args.depth
    c.args.out.now
    c.args.k c.copy_leaf.ensures
