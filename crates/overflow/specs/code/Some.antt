-- Whether one of the nodes at a path is such as is wanted, where the path takes every element of the lists and arrays
-- that it goes through; and the same of what a selector gives inside the mappings that a walk entered.
use Rattle.std.specs.Prelude.{ℕ, ◌≤◌, Bool, false, ◌||◌, List, [], ◌∷◌, length}
use Rattle.std.proofs.Math.Seq.{slice}
use Rattle.values.specs.Value.{Value, vnull, vnumber, vtext, voverflow, vstruct, vlist, varray, Values, vnil, vcons, is_null_value}
use Rattle.plan.specs.Run.{value_at, eval}
use Rattle.walk.specs.code.State.{Frame, fields, element, State}
use Rattle.overflow.specs.code.Want.{meets, SmallWant}
use Rattle.overflow.specs.declared.want.Want.{Want}
use Rattle.overflow.specs.declared.scan.Sought.{Sought}
use Rattle.overflow.specs.declared.scan.Search.{Search}

-- one of the values is such
unfoldable pub any_of : (Value → Bool) → Values → Bool
any_of f vnil = false
any_of f (vcons v vs) = f v || any_of f vs

-- a step of a path: the field k of a struct; of a list or an array any element, whatever the number
unfoldable pub some_part : ℕ → (Value → Bool) → Value → Bool
some_part k f vnull = false
some_part k f (vnumber i n) = false
some_part k f (vtext b) = false
some_part k f voverflow = false
some_part k f (vstruct vs) = f (value_at vs k)
some_part k f (vlist vs) = any_of f vs
some_part k f (varray vs) = any_of f vs

unfoldable pub some : Want → List ℕ → Value → Bool
some w [] v = meets w v
some w (k ∷ p) v = some_part k (λ x. some w p x) v

-- a null, or a value such as is wanted
abbrev pub is_sought : Sought → Value → Bool
is_sought Sought.Null v = is_null_value v
is_sought (Sought.Present w) v = meets w v

abbrev pub SmallSought : Sought → Type 0
SmallSought Sought.Null = Unit {0}
SmallSought (Sought.Present w) = SmallWant w

-- whether one of the nodes at a path is such as is sought
unfoldable pub some_sought : Sought → List ℕ → Value → Bool
some_sought q [] v = is_sought q v
some_sought q (k ∷ p) v = some_part k (λ x. some_sought q p x) v

-- the same of a search
abbrev pub some_found : Search → Value → Bool
some_found s v = some_sought s.sought (slice s.from s.len s.path) v

abbrev pub SmallSearch : Search → Type 0
SmallSearch s = (s.from ≤ s.len) × (s.len ≤ length s.path) × SmallSought s.sought

-- f of the fields of a struct
unfoldable pub in_struct_lem : (Values → Bool) → Value → Bool
in_struct_lem f vnull = false
in_struct_lem f (vnumber k n) = false
in_struct_lem f (vtext b) = false
in_struct_lem f voverflow = false
in_struct_lem f (vstruct vs) = f vs
in_struct_lem f (vlist vs) = false
in_struct_lem f (varray vs) = false

-- f of an element alone, any of a list or an array
unfoldable pub in_elements : (Values → Bool) → Value → Bool
in_elements f vnull = false
in_elements f (vnumber k n) = false
in_elements f (vtext b) = false
in_elements f voverflow = false
in_elements f (vstruct vs) = false
in_elements f (vlist vs) = any_of (λ v. f (vcons v vnil)) vs
in_elements f (varray vs) = any_of (λ v. f (vcons v vnil)) vs

-- f of the values that positions take inside the entered mappings, any of them: over a record's values ρ
unfoldable pub some_in : Values → List Frame → (Values → Bool) → Bool
some_in ρ [] f = f ρ
some_in ρ (fields s ∷ E) f = some_in ρ E (λ σ. in_struct_lem f (eval σ s))
some_in ρ (element s i ∷ E) f = some_in ρ E (λ σ. in_elements f (eval σ s))

-- whether a node where a walk stands is such
unfoldable pub asked : Values → State → Want → Bool
asked ρ x w = some_in ρ x.frames (λ σ. some w x.path (eval σ x.selector))
