-- `plan::read::read_constant` meets its contract: what is known, or what is read. Assumes nothing.
use mathlib.Core.Path.{◌∙◌, refl, sym}
use Rattle.plan.proofs.Skipping.{constant-known, constant-read}
use Rattle.plan.proofs.read.read_constant.Goals as goal

pub returns-then-at-ne0 : goal.returns-then-at-ne0
returns-then-at-ne0 c =
    record { value = constant-known (c.known_end-at.ensures c.if-at-ne0.true _ c.requires.0); skips = (c.requires.1, refl) }

pub returns-in-To : goal.returns-in-To
returns-in-To c =
    record {
      value = sym c.in-To.is ∙ c.read_whole_constant.ensures;
      skips = (
        c.keep_end.ensures.0 _ c.requires.1
            (constant-read c.read_whole_constant.ensures c.in-To.is),
        c.keep_end.ensures.1,
      );
    }

pub returns-in-Refused : goal.returns-in-Refused
returns-in-Refused c =
    record {
      value = sym c.in-Refused.is ∙ c.read_whole_constant.ensures;
      skips = (
        c.requires.1,
        refl,
      );
    }
