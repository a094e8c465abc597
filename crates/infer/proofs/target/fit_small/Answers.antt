-- `infer::target::fit_small` meets its contract. Assumes nothing.
use native.Mathlib.Omega.{arith}
use Rattle.infer.proofs.target.fit_small.Goals as goal

pub compose_type-r-requires : goal.compose_type-r-requires
compose_type-r-requires c =
    let A = c.requires.fit_from in let (a, b) = c.requires.s_len_bound in record { source_at = A.scoped; selector_at = A.selector; s_len_bound = (a, b, omega arith, omega arith) }

pub fit_inferred-requires : goal.fit_inferred-requires
fit_inferred-requires c =
    let (b, I) = c.compose_type-r.ensures c.requires.fit_from.scoped c.requires.fit_from.selector in record { selector_at = c.requires.fit_from.selector; type_at = c.requires.fit_from.type; inferred_is = (_, b, I) }

pub returns : goal.returns
returns c =
    λ A. let (b, I) = c.compose_type-r.ensures A.scoped A.selector in c.fit_inferred.ensures _ b I
    A.selector A.type
