-- `infer::over::cast_over` meets its contract. Assumes nothing.
use Rattle.infer.proofs.Transforms.{cast-type, cast_infers}
use mathlib.Core.Path.{◌≡◌}
use mathlib.Core.Bool.{true}
use Rattle.infer.proofs.over.cast_over.Goals as goal

pub copy_type-requires : goal.copy_type-requires
copy_type-requires c =
    let T = c.requires.type_at in let (a, P, S) = c.requires.by_index in let L = c.requires.s_len_bound in record { type_at = cast-type S (c.skip_selector-t.ensures S.input); s_len_bound = (L.1, L.2, L.3) }

pub returns : goal.returns
returns c =
    λ T a P S Γ n e. let Q = cast-type S (c.skip_selector-t.ensures S.input) in
    let fits : c.type_fits.result ≡ true = cc in
    cast_infers T Γ S e (c.cast_option.ensures Q S.option) (c.type_fits.ensures T Q) fits (c.copy_type.ensures Q) c.requires.s_len_bound.4
