-- `infer::name::infer_name` meets its contract. Assumes nothing.
use Rattle.infer.proofs.Names.{inner_start, inner-named, inner-more, inner-falls}
use Rattle.infer.proofs.name.infer_name.Goals as goal

pub loop-name-init : goal.loop-name-init
loop-name-init c =
    inner_start c.requires.selector_at

pub returns-in-Is : goal.returns-in-Is
returns-in-Is c =
    inner-named c.loop-name.invariant c.name_at.ensures c.in-Is.is

pub loop-name-smaller : goal.loop-name-smaller
loop-name-smaller c =
    inner-falls c.loop-name.invariant c.name_at.ensures c.in-Input.is c.requires.source_at

pub loop-name-preserved : goal.loop-name-preserved
loop-name-preserved c =
    inner-more c.loop-name.invariant c.name_at.ensures c.in-Input.is c.requires.source_at
