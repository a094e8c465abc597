-- `infer::target::fit_inputs` meets its contract. Assumes nothing.
use borrow.Author.Tests.{not-false}
use Rattle.infer.proofs.Targets.{column-typed, given_as}
use Rattle.layout.proofs.Ways.{label_in}
use Rattle.direct.proofs.Rows.{column_asks}
use mathlib.Core.Path.{ap}
use mathlib.Core.Bool.{not}
use Rattle.infer.proofs.target.fit_inputs.Goals as goal

pub same_label-requires : goal.same_label-requires
same_label-requires c =
    record { source_at = c.requires.column_fit_from.scoped; selector_at = c.requires.column_fit_from.selector; span_in = label_in _ c.label.ensures.label_in c.in-Is.is }

pub fit_small-requires : goal.fit_small-requires
fit_small-requires c =
    record { fit_from = column_asks c.requires.column_fit_from c.label.ensures.result_value c.in-Is.is; s_len_bound = c.requires.s_len_bound }

pub fit_large-requires : goal.fit_large-requires
fit_large-requires c =
    record { fit_from = column_asks c.requires.column_fit_from c.label.ensures.result_value c.in-Is.is; s_len_bound = c.requires.s_len_bound }

pub returns-in-At : goal.returns-in-At
returns-in-At c =
    λ A.
    given_as (column-typed A c.label.ensures.result_value c.in-Is.is (c.same_label.ensures (not-false _ (ap not c.if-not-same_label.false)) A.scoped A.selector)
    (c.fit_small.ensures (column_asks A c.label.ensures.result_value c.in-Is.is))) c.in-At.is

pub returns-in-Unknown : goal.returns-in-Unknown
returns-in-Unknown c =
    λ A.
    column-typed A c.label.ensures.result_value c.in-Is.is (c.same_label.ensures (not-false _ (ap not c.if-not-same_label.false)) A.scoped A.selector)
    (c.fit_large.ensures (column_asks A c.label.ensures.result_value c.in-Is.is))
