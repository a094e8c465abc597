-- What a result that was given went through. Assumes nothing.
use Prim.Native.Nat.{ℕ}
use mathlib.Core.Path.{◌≡◌, refl}
use mathlib.Core.Bool.{Bool, true, false, ◌&&◌}
use Rattle.layout.proofs.Ways.{clash}
use Rattle.plan.specs.Result.{Result, gives, refuses, ◌>>=◌, demand, Answer, accepted, refused_at, placed, answered}

-- nothing is both given and refused
pub never_refused : {A X : Type 0} {r : Result A} {a : A} {n : ℕ} → r ≡ gives a → r ≡ refuses n → X
never_refused p q = clash (cc)

pub gives_eq : {A : Type 0} {a b : A} → gives a ≡ gives b → a ≡ b
gives_eq e = cc

pub accepted_eq : {A : Type 0} {a b : A} → accepted a ≡ accepted b → a ≡ b
accepted_eq e = cc

pub true≠false : {X : Type 0} {b : Bool} → b ≡ true → b ≡ false → X
true≠false p q = clash (cc)

pub both : (a : Bool) {b : Bool} → (a && b) ≡ true → (a ≡ true) × (b ≡ true)
both true e = (refl, e)
both false e = true≠false e refl

pub and-true : {a b : Bool} → a ≡ true → b ≡ true → (a && b) ≡ true
and-true p q = rw (p, q)

pub bind_gives : {A B : Type 0} (r : Result A) (f : A → Result B) {b : B} → (r >>= f) ≡ gives b → (a : A) × (r ≡ gives a) × (f a ≡ gives b)
unfolding ◌>>=◌
bind_gives (gives a) f e = (a, refl, e)
bind_gives (refuses n) f e = never_refused e refl

pub demand-gives : {A : Type 0} (b : Bool) (n : ℕ) (r : Result A) {a : A} → demand b n r ≡ gives a → (b ≡ true) × (r ≡ gives a)
unfolding demand
demand-gives true n r e = (refl, e)
demand-gives false n r e = never_refused e refl

pub placed-accepted : {A B : Type 0} (k : ℕ) (r : Result A) (f : A → Answer B) {b : B} → placed k r f ≡ accepted b → (a : A) × (r ≡ gives a) ×
    (f a ≡ accepted b)
unfolding placed
placed-accepted k (gives a) f e = (a, refl, e)
placed-accepted k (refuses n) f e = clash (cc)

pub answered-accepted : {A B : Type 0} (r : Answer A) (f : A → Answer B) {b : B} → answered r f ≡ accepted b → (a : A) × (r ≡ accepted a) × (f a ≡ accepted b)
unfolding answered
answered-accepted (accepted a) f e = (a, refl, e)
answered-accepted (refused_at n k) f e = clash (cc)
