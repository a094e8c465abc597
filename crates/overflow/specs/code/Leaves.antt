-- The paths to the date-time leaves of a type: the field k of a struct is the number k, the element of a list or an
-- array, every one, the number 0.
use Rattle.std.specs.Prelude.{ℕ, suc, Bool, false, ◌||◌, List, [], ◌∷◌}
use Rattle.layout.specs.Tree.{leaf_of, DataType, leaf, struct, list, array, Fields, fnil, fcons}
use Rattle.layout.specs.declared.leaf.TimeUnit.{TimeUnit}
use Rattle.overflow.specs.code.Want.{time_of}
use Rattle.overflow.specs.declared.want.Timed.{Timed}
use Rattle.overflow.specs.declared.want.Timed.TheVariants.{In, Never}

unfoldable pub at_leaf : Timed → (List ℕ → TimeUnit → Bool) → Bool
at_leaf (In u) f = f [] u
at_leaf Never f = false

-- f of the path and the unit of one of them
unfoldable mutual
  pub leaves : DataType → (List ℕ → TimeUnit → Bool) → Bool
  leaves (leaf l) f = at_leaf (time_of (leaf_of l)) f
  leaves (struct fs) f = leaves_from fs 0 f
  leaves (list t) f = leaves t (λ p u. f (0 ∷ p) u)
  leaves (array w t) f = leaves t (λ p u. f (0 ∷ p) u)

  -- the first of these fields has the number k
  pub leaves_from : Fields → ℕ → (List ℕ → TimeUnit → Bool) → Bool
  leaves_from fnil k f = false
  leaves_from (fcons n t fs) k f = leaves t (λ p u. f (k ∷ p) u) || leaves_from fs (suc k) f
