use Rattle.ends.proofs.skip.+skip_type_by.Given as goal

abbrev pub decreases-skip_type_by : goal.decreases-skip_type_by
decreases-skip_type_by l = l.depth
