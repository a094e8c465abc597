-- `walk::walk::struct_part` meets its contract: the field of that number, if there are as many. Assumes nothing.
use Rattle.walk.proofs.Moving.{field_found, field-none}
use Rattle.walk.proofs.walk.struct_part.Goals as goal

pub returns-then-k-count : goal.returns-then-k-count
returns-then-k-count c =
    λ at m P S y. field_found c.args.k S (c.counted_at-f.ensures S.input.end S.fields y) c.if-k-count.true c.nth_selector.ensures

pub returns-else-k-count : goal.returns-else-k-count
returns-else-k-count c =
    λ at m P S y. field-none c.args.k S (c.counted_at-f.ensures S.input.end S.fields y) c.if-k-count.false
