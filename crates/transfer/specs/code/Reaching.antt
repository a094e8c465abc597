-- What an answer of the one-pass run says: of one that gives up, nothing.
use Rattle.std.specs.Prelude.{ℕ, ◌+◌, ◌≤◌, ◌≡◌, Bool, true}
use Rattle.layout.specs.Bytes.{Bytes}
use Rattle.values.specs.Record.{longest}
use Rattle.plan.specs.Selector.{Selector, position, constant, cast, rename, struct_mapping, list_mapping, array_mapping}
use Rattle.walk.specs.code.Stands.{SelectorAt}
use Rattle.values.specs.Value.{Value}
use Rattle.nodes.specs.code.Raw.{NodeOf}
use Rattle.raw.specs.code.Stored.{Stores}
use Rattle.transfer.specs.declared.leaf.Node.{Node}
use Rattle.transfer.specs.declared.leaf.Reached.{Reached}
use Rattle.transfer.specs.declared.origin.Taken.{Taken}

-- the position whose value a selector takes, past the transforms around it; a constant takes none
unfoldable pub takes : Selector → ℕ
takes (position k) = k.0
takes (constant n t v) = 0
takes (cast s t o) = takes s
takes (rename s n) = takes s
takes (struct_mapping s ss) = takes s
takes (list_mapping s e) = takes s
takes (array_mapping s e) = takes s

-- the value x stands there
abbrev pub NodeIn : Bytes → Bytes → Value → Node → Type 0
NodeIn lay rec x node = NodeOf node.edition lay rec x node.at

-- the bytes b, of what is clean, were stored from index k on, and r is where they end, within the limit
pub record Kept (ok : Bool) (b : Bytes) (out : Bytes) (k r : ℕ) (out' : Bytes) : Type 0 where
  pub clean : ok ≡ true
  pub stores : Stores out k b r out'
  pub within : r ≤ longest

-- the selector ends at e
abbrev pub ReachedAnswer : Bool → Bytes → ℕ → Bytes → ℕ → Reached → Bytes → Type 0
ReachedAnswer ok b e out k (Reached.To c r) out' = (c.at ≡ e) × Kept ok b out k r out'
ReachedAnswer ok b e out k Reached.Unknown out' = Unit {0}

pub record ReachedIs (ok : Bool) (b : Bytes) (e : ℕ) (out : Bytes) (k : ℕ) (r : Reached) (out' : Bytes) : Type 0 where
  pub answer : ReachedAnswer ok b e out k r out'

-- ---- src/origin.rt

-- the input of a transform takes the same
pub record TakesFrom (s : Bytes) (at : ℕ) (P : SelectorAt s at) (m : ℕ) : Type 0 where
  pub input : SelectorAt s m
  pub same : takes input.tree ≡ takes P.tree
  pub starts : m ≡ at + 1

abbrev pub TakenAnswer : (s : Bytes) (at : ℕ) (P : SelectorAt s at) → Taken → Type 0
TakenAnswer s at P (Taken.Position k) = k ≡ takes P.tree
TakenAnswer s at P (Taken.Input c) = TakesFrom s at P c.at

pub record TakenIs (s : Bytes) (at : ℕ) (P : SelectorAt s at) (r : Taken) : Type 0 where
  pub answer : TakenAnswer s at P r
