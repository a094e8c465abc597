-- `infer::target::same_label` meets its contract. Assumes nothing.
use mathlib.Core.Path.{refl}
use Rattle.plan.proofs.Results.{true≠false}
use Rattle.infer.proofs.Labels.{named-to, label_is}
use Rattle.infer.proofs.target.same_label.Goals as goal

pub same_name-requires : goal.same_name-requires
same_name-requires c =
    let N = named-to (c.infer_name.ensures c.requires.source_at c.requires.selector_at) c.in-Is.is in record { name_at = (N.name, N.named); span_in = c.requires.span_in }

pub returns-in-Is : goal.returns-in-Is
returns-in-Is c =
    λ e X P.
    let N = named-to (c.infer_name.ensures X P) c.in-Is.is in
    label_is N (c.same_name.ensures N.name N.named) e

pub returns-in-Input : goal.returns-in-Input
returns-in-Input c =
    λ e X P a h. true≠false e refl

pub returns-in-Absent : goal.returns-in-Absent
returns-in-Absent c =
    λ e X P a h. true≠false e refl
