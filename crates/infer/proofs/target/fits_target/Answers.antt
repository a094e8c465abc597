use mathlib.Core.Path.{refl}
use Rattle.walk.proofs.View.{selectors_moved}
use Rattle.direct.proofs.Trees.{plan-passes}
use Rattle.plan.proofs.Results.{true≠false}
use Rattle.infer.proofs.target.fits_target.Goals as goal

pub returns-then-count-m : goal.returns-then-count-m
returns-then-count-m c =
    λ e P S Q. true≠false e refl

pub returns-then-target-gt-LONGEST : goal.returns-then-target-gt-LONGEST
returns-then-target-gt-LONGEST c =
    λ e P S Q. true≠false e refl

pub returns-then-incoming-gt-LONGEST_PLAN : goal.returns-then-incoming-gt-LONGEST_PLAN
returns-then-incoming-gt-LONGEST_PLAN c =
    λ e P S Q. true≠false e refl

pub returns-then-plan-gt-LONGEST_PLAN : goal.returns-then-plan-gt-LONGEST_PLAN
returns-then-plan-gt-LONGEST_PLAN c =
    λ e P S Q. true≠false e refl

pub fits_few-requires : goal.fits_few-requires
fits_few-requires c =
    record { columns_at = c.requires.columns_at; selectors_at = selectors_moved c.if-count-m.false refl c.requires.selectors_at; columns_at_2 = c.requires.columns_at_2; incoming_len_bound = (c.if-incoming-gt-LONGEST_PLAN.false, c.if-plan-gt-LONGEST_PLAN.false, c.if-target-gt-LONGEST.false) }

pub returns-then-few : goal.returns-then-few
returns-then-few c =
    λ e P S Q. plan-passes _ _ _ (c.fits_few.ensures e P (selectors_moved c.if-count-m.false refl S) Q)

pub fits_many-requires : goal.fits_many-requires
fits_many-requires c =
    record { columns_at = c.requires.columns_at; selectors_at = selectors_moved c.if-count-m.false refl c.requires.selectors_at; columns_at_2 = c.requires.columns_at_2; incoming_len_bound = (c.if-incoming-gt-LONGEST_PLAN.false, c.if-plan-gt-LONGEST_PLAN.false, c.if-target-gt-LONGEST.false) }

pub returns : goal.returns
returns c =
    λ e P S Q. plan-passes _ _ _ (c.fits_many.ensures e P (selectors_moved c.if-count-m.false refl S) Q)
