use Rattle.transfer.proofs.Reaching.{reached_end}
use Rattle.transfer.proofs.Chaining.{chained-to}
use Rattle.transfer.proofs.chain.transfer_cast.Goals as goal

pub returns-in-To : goal.returns-in-To
returns-in-To c =
    λ ρ P N. let (C, e) = chained-to (c.chain_value.ensures ρ P N) c.in-To.is in reached_end e (c.put_chain.ensures _ _ N C)
