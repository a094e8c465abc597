-- The range test of two integer kinds: the target has every incoming value.
use mathlib.Core.Path.{◌≡◌, refl, sym, subst}
use mathlib.Core.Bool.{Bool, true, false}
use native.Mathlib.Nat.{le_trans}
use lib.Dec.{T, leb→le, le→leb}
use lib.IntN.{ℤ, pos, negsuc}
use lib.Signed.{le_z, ◌≤ℤ◌, le_z_yes, ≤ℤ_refl}
use Rattle.layout.specs.declared.leaf.Leaf.{Leaf}
use Rattle.rules.specs.Classes.{lowest, highest}
use Rattle.rules.specs.Promotion.{holds}
use Rattle.rules.proofs.EachLeaf.{each-leaf}
use Rattle.rules.proofs.Interval.{left, right, both}

-- v is a value of the integer kind l
pub record Within (l : Leaf) (v : ℤ) : Type 0 where
  pub above : lowest l ≤ℤ v
  pub below : v ≤ℤ highest l

≤ℤ-trans : (a b c : ℤ) → a ≤ℤ b → b ≤ℤ c → a ≤ℤ c
≤ℤ-trans (pos a) (pos b) (pos c) h k = le_z_yes (le→leb a c (le_trans (leb→le a b h.le) (leb→le b c k.le)))
≤ℤ-trans (pos a) (pos b) (negsuc c) h k = absurd k.le
≤ℤ-trans (pos a) (negsuc b) c h k = absurd h.le
≤ℤ-trans (negsuc a) (pos b) (pos c) h k = le_z_yes tt
≤ℤ-trans (negsuc a) (pos b) (negsuc c) h k = absurd k.le
≤ℤ-trans (negsuc a) (negsuc b) (pos c) h k = le_z_yes tt
≤ℤ-trans (negsuc a) (negsuc b) (negsuc c) h k = le_z_yes (le→leb c a (le_trans (leb→le c b k.le) (leb→le b a h.le)))

holds_T : (b : Bool) → b ≡ true → T b
holds_T b e = subst T (sym e) tt

T-holds : (b : Bool) → T b → b ≡ true
T-holds true t = refl
T-holds false t = absurd t

-- lowest values are not above highest ones; a kind that is no integer has 0 for both
ordered : (l : Leaf) → lowest l ≤ℤ highest l
ordered l = le_z_yes (holds_T _ (each-leaf (λ l. le_z (lowest l) (highest l)) (λ l. true) (λ d. refl) l))

pub holds-all : (i t : Leaf) → holds t i ≡ true → (v : ℤ) → Within i v → Within t v
holds-all i t h v w =
    record {
      above = ≤ℤ-trans (lowest t) (lowest i) v (le_z_yes (left (le_z (lowest t) (lowest i)) _ (holds_T _ h))) w.above;
      below = ≤ℤ-trans v (highest i) (highest t) w.below (le_z_yes (right (le_z (lowest t) (lowest i)) _ (holds_T _ h)));
    }

pub all-holds : (i t : Leaf) → ((v : ℤ) → Within i v → Within t v) → holds t i ≡ true
all-holds i t h =
    T-holds (holds t i)
    (both (le_z (lowest t) (lowest i)) _
    (h (lowest i) (record { above = ≤ℤ_refl (lowest i); below = ordered i })).above.le
    (h (highest i) (record { above = ordered i; below = ≤ℤ_refl (highest i) })).below.le)
