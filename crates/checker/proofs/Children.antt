-- The selectors of a struct mapping that makes a type, one after the other (`walk/proofs/Children.antt`). Assumes
-- nothing.
use Prim.Native.Nat.{ℕ, ◌+◌, ◌<◌}
use mathlib.Core.Path.{◌≡◌, ◌∙◌}
use native.Mathlib.Omega.{arith}
use Rattle.layout.specs.Bytes.{Bytes}
use Rattle.layout.specs.Tree.{struct, Fields, count_fields}
use Rattle.layout.specs.declared.edition.Edition.{Edition}
use Rattle.plan.specs.Result.{gives}
use Rattle.plan.specs.Check.{Column, column_at}
use Rattle.walk.specs.code.Children.{PartStands, PassedTo}
use Rattle.walk.specs.code.Stands.{SelectorAt}
use Rattle.walk.specs.declared.walk.Walk.{Walk}
use Rattle.walk.proofs.Children.{ChildAt, part-stands, passed-more}
use Rattle.walk.proofs.Walks.{walk_small}
use Rattle.checker.specs.code.TypesAt.{NamedAt, MappedAt}
use Rattle.checker.proofs.Making.{made-parts}
use Rattle.checker.proofs.Parting.{made-deep, child-named}

-- of what makes a struct
module _ {incoming : Bytes} {v : Edition} {n : ℕ} {plan : Bytes} {w : Walk} {gs : Fields} (M : MappedAt incoming v n plan w (struct gs)) {k m : ℕ}
    (B : PassedTo plan w.at k m) (l : k < count_fields gs) where
  pub made-stands : PartStands plan w.at k m
  made-stands = let D = made-parts M.made in let c = D.count in part-stands M.standing.here (M.standing.selector ∙ D.is) B (omega arith)

  pub made_more : {e : ℕ} → ((P : SelectorAt plan m) → e ≡ P.end) → PassedTo plan w.at (k + 1) e
  made_more = let D = made-parts M.made in let c = D.count in passed-more M.standing.here (M.standing.selector ∙ D.is) B (omega arith)

  pub made-named : {x : Walk} → ChildAt w k m x → {fs : Fields} {a : Column} → MappedAt incoming v n plan w (struct fs) → column_at fs k ≡ gives a
      → NamedAt incoming v n plan x a
  made-named g N e = child-named (g plan made-stands) N e

-- what `first_child` and `child_at` ask
pub made_asks : {incoming : Bytes} {v : Edition} {n : ℕ} {plan : Bytes} {w : Walk} {gs : Fields} → MappedAt incoming v n plan w (struct gs)
    → (w.at < 65536) × (w.deep < 64)
made_asks M = (walk_small M.standing, made-deep M)
