use Rattle.transfer.proofs.chain.+chain_value.Given as goal

abbrev pub decreases-chain_value : goal.decreases-chain_value
decreases-chain_value l = l.levels
