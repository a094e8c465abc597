-- How the code looks for a repeated label: by reading the earlier columns again.
use Rattle.std.specs.Prelude.{ℕ, zero, suc, List, Bool, true, false, ◌||◌}
use Rattle.layout.specs.Parser.{Res, refuse, ok}
use Rattle.layout.specs.Tree.{Label}
use Rattle.layout.specs.Layout.{label, type, same_label}
use Rattle.layout.specs.declared.edition.Edition.{Edition}
use Rattle.layout.specs.declared.columns.Siblings.{Siblings}

abbrev pub found : {A : Type 0} → Res A → (A → ℕ → Bool) → Bool
found (refuse n) k = false
found (ok a at) k = k a at

-- whether one of n columns repeats the label
unfoldable pub repeats : Edition → Siblings → ℕ → Label → ℕ → List ℕ → ℕ → Bool
repeats v r d l zero s at = false
repeats v r d l (suc n) s at =
    found (label v s at) (λ m at'. same_label r l m || found (type v Siblings.Free d s at') (λ t at''. repeats v r d l n s at''))
