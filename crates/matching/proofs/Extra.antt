-- 53 over trees: exactly where a top column is extra under Raise, at the position of the first; under Ignore, and where
-- no column is extra, a build goes on as if there were no such test. Assumes nothing.
use Prim.Native.Nat.{ℕ, ◌+◌, ◌≤◌, ◌<◌}
use mathlib.Core.Path.{◌≡◌, refl}
use mathlib.Core.Bool.{Bool, true, false}
use native.Mathlib.Omega.{arith}
use Rattle.layout.specs.Parser.{choose}
use Rattle.layout.specs.Tree.{Columns, cnil, ccons, count_columns}
use Rattle.layout.specs.Find.{counterpart}
use Rattle.layout.specs.declared.matching.Matching.{Matching}
use Rattle.layout.proofs.Ways.{clash}
use Rattle.rules.specs.declared.policy.Policy.{Policy}
use Rattle.rules.specs.declared.policy.ExtraColumnsPolicy.{ExtraColumnsPolicy}
use Rattle.rules.specs.declared.policy.ExtraColumnsPolicy.TheVariants.{Ignore, Raise}
use Rattle.plan.specs.Result.{Answer, accepted, refused_at, answered}
use Rattle.matching.specs.Default.{Defaults}
use Rattle.matching.specs.Build.{is_absent, extra_column_err, extra_columns, build_from, build}
use Rattle.matching.specs.Extra.{FirstExtra, first-here, first-later}

-- ---- the first extra column

module _ (v : Matching) (gs : Columns) where
  -- a refusal has the number 53, and is about the first extra column
  pub extra_refused : (fs : Columns) (i : ℕ) {n k : ℕ} → extra_column_err v fs gs i ≡ refused_at n k → (n ≡ 53) × FirstExtra v gs fs i k
  unfolding extra_column_err choose
  extra_refused cnil i e = clash (cc)
  extra_refused (ccons l t fs) i {n} {k} e = go (is_absent (counterpart v l gs)) refl e (λ e. extra_refused fs (i + 1) e)
    where
      go : (b : Bool) → is_absent (counterpart v l gs) ≡ b → choose b (refused_at 53 i) (extra_column_err v fs gs (i + 1)) ≡ refused_at n k
          → (extra_column_err v fs gs (i + 1) ≡ refused_at n k → (n ≡ 53) × FirstExtra v gs fs (i + 1) k) → (n ≡ 53) × FirstExtra v gs (ccons l t fs) i k
      go true q e ih = let z : i ≡ k = cc in let y : n ≡ 53 = cc in (y, rw (← z) (first-here q))
      go false q e ih = let (y, f) = ih e in (y, first-later q f)

  -- and the first extra column is refused with it
  pub extra_raised : {fs : Columns} {i k : ℕ} → FirstExtra v gs fs i k → extra_column_err v fs gs i ≡ refused_at 53 k
  unfolding extra_column_err choose
  extra_raised (first-here q) = rw q
  extra_raised (first-later q f) = rw q (extra_raised f)

  -- it stands among the columns
  pub extra_within : {fs : Columns} {i k : ℕ} → FirstExtra v gs fs i k → (i ≤ k) × (k < i + count_columns fs)
  unfolding count_columns
  extra_within (first-here q) = (omega arith, omega arith)
  extra_within (first-later q f) = let (a, b) = extra_within f in (omega arith, omega arith)

-- ---- the policy

pub columns-refused : (e : ExtraColumnsPolicy) (v : Matching) (fs gs : Columns) {n k : ℕ} → extra_columns e v fs gs ≡ refused_at n k
    → (e ≡ Raise) × ((n ≡ 53) × FirstExtra v gs fs 0 k)
unfolding extra_columns
columns-refused Ignore v fs gs e = clash (cc)
columns-refused Raise v fs gs e = (refl, extra_refused v gs fs 0 e)

-- ---- a build

module _ (v : Matching) (p : Policy) (d : Defaults) (Γ Δ : Columns) where
  -- 53 where a column is extra under Raise
  pub build_raised : {k : ℕ} → p.extra_columns ≡ Raise → FirstExtra v Δ Γ 0 k → build v p d Γ Δ ≡ refused_at 53 k
  unfolding build extra_columns answered
  build_raised r f = rw (r, extra_raised v Δ f)

  -- "Ignore is as before"
  pub build_ignoring : p.extra_columns ≡ Ignore → build v p d Γ Δ ≡ build_from v p d Δ Γ 0
  unfolding build extra_columns answered
  build_ignoring h = rw h

  -- and so is Raise where no column is extra
  pub build_unextra : ((k : ℕ) → FirstExtra v Δ Γ 0 k → ⊥) → build v p d Γ Δ ≡ build_from v p d Δ Γ 0
  unfolding build answered
  build_unextra h = go (extra_columns p.extra_columns v Γ Δ) refl
    where
      go : (x : Answer (Unit {0})) → extra_columns p.extra_columns v Γ Δ ≡ x → answered x (λ u. build_from v p d Δ Γ 0) ≡ build_from v p d Δ Γ 0
      go (accepted u) e = refl
      go (refused_at n k) e = let (r, (q, f)) = columns-refused p.extra_columns v Γ Δ e in absurd (h k f)
