use lib.Seq.{length-take-le}
use mathlib.Core.Path.{refl, sym}
use Rattle.direct.proofs.Rows.{plan_asks}
use Rattle.direct.proofs.Fitting.{gives_to}
use Rattle.plan.proofs.Results.{true≠false}
use Rattle.infer.proofs.target.fits_many.Goals as goal

pub slice_bounds-index-end : goal.slice_bounds-index-end
slice_bounds-index-end c =
    sym (length-take-le _ _ c.index_columns-len.ensures.upper_bound)

pub fit_tops-requires : goal.fit_tops-requires
fit_tops-requires c =
    record { fields_fit_from = plan_asks c.requires.columns_at c.requires.selectors_at c.requires.columns_at_2 c.index_columns-len.ensures.indexed c.stride_of-stride.ensures.result_nonzero refl c.requires.incoming_len_bound.2; s_len_bound = (c.requires.incoming_len_bound.0, c.requires.incoming_len_bound.1) }

pub returns-in-At : goal.returns-in-At
returns-in-At c =
    λ e P S Q. (gives_to (c.fit_tops.ensures (plan_asks P S Q c.index_columns-len.ensures.indexed c.stride_of-stride.ensures.result_nonzero refl c.requires.incoming_len_bound.2))
    c.in-At.is).typed

pub returns-in-Unknown : goal.returns-in-Unknown
returns-in-Unknown c =
    λ e P S Q. true≠false e refl
