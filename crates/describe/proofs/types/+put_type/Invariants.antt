use Rattle.describe.proofs.types.+put_type.Given as goal

abbrev pub decreases-put_type : goal.decreases-put_type
decreases-put_type g l = l.depth
