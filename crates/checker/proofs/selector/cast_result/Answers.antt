-- `checker::selector::cast_result` meets its contract. Assumes nothing.
use Rattle.checker.proofs.Checks.{cast-type, cast-refused, cast-passed, cast-stands}
use Rattle.checker.specs.code.Checking.{fitting_of}
use borrow.Author.Tests.{not-true, not-false}
use mathlib.Core.Path.{ap, ◌∙◌}
use mathlib.Core.Bool.{not}
use Rattle.checker.proofs.selector.cast_result.Goals as goal

pub resolve-r-requires : goal.resolve-r-requires
resolve-r-requires c =
    let (a, P, T, O, X) = c.requires.option_at in record { tables = c.requires.tables; typed_at = (a.type, X) }

pub type_head-h-requires : goal.type_head-h-requires
type_head-h-requires c =
    let (a, P, T, O, X) = c.requires.option_at in record { tables = c.requires.tables; resolved_at = (a.type, (c.resolve-r.ensures a.type X).resolved) }

pub skip_by-c-requires : goal.skip_by-c-requires
skip_by-c-requires c =
    c.requires.tables.skips

pub cast_fits-requires : goal.cast_fits-requires
cast_fits-requires c =
    let (a, P, T, O, X) = c.requires.option_at in (a.type, c.type_head-h.ensures a.type (c.resolve-r.ensures a.type X).resolved)

pub returns-then-not-cast_fits : goal.returns-then-not-cast_fits
returns-then-not-cast_fits c =
    λ a P T O X. let K = cast-type T O (c.skip_by-c.ensures P) in cast-refused K a (c.cast_option-o.ensures K.type K.option)
    (c.cast_fits.ensures a.type K.type (c.type_head-h.ensures a.type (c.resolve-r.ensures a.type X).resolved))
    (not-true _ (ap not c.if-not-cast_fits.true))

pub raw_fit-requires : goal.raw_fit-requires
raw_fit-requires c =
    let (a, P, T, O, X) = c.requires.option_at in (
      _,
      cast-stands (cast-type T O
          (c.skip_by-c.ensures P)),
    )

pub returns : goal.returns
returns c =
    λ a P T O X. let K = cast-type T O (c.skip_by-c.ensures P) in cast-passed K a
    (c.cast_option-o.ensures K.type K.option) (c.cast_fits.ensures a.type K.type
    (c.type_head-h.ensures a.type
    (c.resolve-r.ensures a.type X).resolved)) (not-false _ (ap not c.if-not-cast_fits.false))
    (c.fitting.ensures ∙ ap fitting_of (c.raw_fit.ensures _ (cast-stands K)))
