use Prim.Native.Nat.{ℕ, ◌+◌}
use mathlib.Core.Bool.{true}
use mathlib.Core.Path.{refl, ap}
use native.Mathlib.Omega.{arith}
use Rattle.raw.proofs.Storing.{number_short}
use Rattle.transfer.proofs.Chaining.{chain-number, chain_same}
use Rattle.transfer.proofs.chain.put_chain.Goals as goal

pub overflow_add-k : goal.overflow_add-k
overflow_add-k c =
    omega (arith, c.put_number.ensures.value, number_short c.in-Number.kind c.in-Number.n, c.requires.node_in, c.requires.rec_len_bound)

pub returns-in-Number : goal.returns-in-Number
returns-in-Number c =
    λ x y N C. chain-number C c.in-Number.is (c.limited.ensures true _ _ _ _ refl (record {
      ends = ap (λ (i : ℕ). c.args.k + i)
          c.put_number.ensures.value;
      stored = c.put_number.ensures.out_after;
    }))

pub returns-in-Same : goal.returns-in-Same
returns-in-Same c =
    λ x y N C. chain_same C c.in-Same.is (c.put_node.ensures y N)
