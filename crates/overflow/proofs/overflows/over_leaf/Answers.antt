-- `overflow::overflows::over_leaf` meets its contract: the walk begins at the selector, with the path. Assumes nothing.
use Rattle.overflow.proofs.Paths.{widest-small, leaf_seeks, leaf-over}
use Rattle.overflow.proofs.overflows.over_leaf.Goals as goal

pub seek-requires : goal.seek-requires
seek-requires c =
    record {
      skips = c.requires.skips;
      ends = c.requires.ends;
      seeks = (
        c.requires.top_at.0,
        leaf_seeks c.requires.top_at.1 c.requires.len_bound.1 c.requires.len_bound.0
            c.start-w.ensures,
      );
      small_want = widest-small;
    }

pub returns : goal.returns
returns c =
    λ X T. leaf-over T c.requires.len_bound.1 c.requires.len_bound.0 c.start-w.ensures _ _ (c.seek.ensures X)
