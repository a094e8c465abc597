use Rattle.output.proofs.Sources.{struct-below, struct-ended}
use Rattle.output.proofs.source.struct_source.Goals as goal

pub returns-then-w : goal.returns-then-w
returns-then-w c =
    λ P A. struct-below A c.if-w.true

pub returns : goal.returns
returns c =
    λ P A. struct-ended A c.if-w.false (c.counted_at-f.ensures A.input.end A.fields (c.skip_by.ensures A.input))
