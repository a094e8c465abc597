use Rattle.infer.proofs.compose.+compose_type.Given as goal

abbrev pub decreases-compose_type : goal.decreases-compose_type
decreases-compose_type l = l.levels
