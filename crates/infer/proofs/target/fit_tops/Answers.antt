-- `infer::target::fit_tops` meets its contract. Assumes nothing.
use mathlib.Core.Path.{refl}
use native.Mathlib.Omega.{arith}
use Rattle.direct.proofs.Fitting.{none-given}
use Rattle.direct.proofs.Rows.{fitting-none, fitting-all, fitting-asks, fitting-more}
use Rattle.infer.proofs.target.fit_tops.Goals as goal

pub loop-i-init : goal.loop-i-init
loop-i-init c =
    fitting-none c.requires.fields_fit_from

pub fit_top-requires : goal.fit_top-requires
fit_top-requires c =
    record { column_fit_from = fitting-asks c.loop-i.invariant c.loop-i-test.true c.requires.fields_fit_from; s_len_bound = c.requires.s_len_bound }

pub returns-in-Unknown : goal.returns-in-Unknown
returns-in-Unknown c =
    λ A. none-given

pub overflow_add-i : goal.overflow_add-i
overflow_add-i c =
    omega (arith, c.well_formed.1.1.1.1.1.1.0, c.loop-i-test.true)

pub loop-i-smaller : goal.loop-i-smaller
loop-i-smaller c =
    omega arith

pub loop-i-preserved : goal.loop-i-preserved
loop-i-preserved c =
    fitting-more c.loop-i.invariant c.loop-i-test.true c.fit_top.ensures c.in-At.is c.requires.fields_fit_from

pub returns : goal.returns
returns c =
    λ A. fitting-all c.loop-i.invariant refl refl c.loop-i-test.false A
