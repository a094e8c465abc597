-- Where the parts of a mapping stand: what the functions that go from one to the next ask and speak of.
use Rattle.std.specs.Prelude.{ℕ, ◌+◌, ◌≡◌, get_or}
use Rattle.layout.specs.Bytes.{Bytes}
use Rattle.walk.specs.code.Stands.{SelectorAt, SelectorsAt}
use Rattle.walk.specs.code.Parts.{StructAt}
use Rattle.walk.specs.code.Moves.{Mapping}
use Rattle.walk.specs.code.Walks.{PartAt}

-- the part k of the mapping at an offset stands at m
pub record PartStands (plan : Bytes) (at k m : ℕ) : Type 0 where
  pub stands : (P : SelectorAt plan at) → Mapping P.tree → PartAt plan at P k m

-- the first k selectors of the struct mapping at an offset end at m
pub record PassedTo (plan : Bytes) (at k m : ℕ) : Type 0 where
  pub passed : (P : SelectorAt plan at) (i : ℕ) (S : StructAt plan at P i) → (Q : SelectorsAt plan k S.fields.first) × (Q.end ≡ m)

-- of the mapping at an offset the first k parts were passed: the next stands at m, and of a list or array mapping each
-- does
pub record Reached (plan : Bytes) (at k m : ℕ) : Type 0 where
  pub fields : PassedTo plan at k m
  pub element : (get_or plan at 0 ≡ 4 → ⊥) → (I : SelectorAt plan (at + 1)) → m ≡ I.end
