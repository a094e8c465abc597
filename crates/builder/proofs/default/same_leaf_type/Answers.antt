-- `builder::default::same_leaf_type` meets its contract. Assumes nothing.
use Rattle.rules.specs.declared.outcome.Outcome.{Outcome}
use Rattle.rules.specs.code.Answers.{verdict_of}
use Rattle.builder.proofs.Defaults.{leaves-same, leaves_unlike, is_untouched}
use mathlib.Core.Path.{ap}
use Rattle.builder.proofs.default.same_leaf_type.Goals as goal

pub returns-in-Untouched : goal.returns-in-Untouched
returns-in-Untouched c =
    leaves-same _ _ _ c.leaf_rule.result c.leaf_rule.ensures c.in-Untouched.is

pub returns-in-Refused : goal.returns-in-Refused
returns-in-Refused c =
    leaves_unlike _ _ _ c.leaf_rule.result c.leaf_rule.ensures
    (ap (λ (x : Outcome). is_untouched (verdict_of x)) c.in-Refused.is)

pub returns-in-Cast : goal.returns-in-Cast
returns-in-Cast c =
    leaves_unlike _ _ _ c.leaf_rule.result c.leaf_rule.ensures
    (ap (λ (x : Outcome). is_untouched (verdict_of x)) c.in-Cast.is)
