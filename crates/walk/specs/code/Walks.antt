-- What a walk over bytes stands for.
use Rattle.std.specs.Prelude.{◌≡◌, List, [], ◌∷◌, ℕ, suc, ◌+◌, ◌-◌, ◌*◌, ◌<◌, ◌≤◌, length, get_or}
use Rattle.std.proofs.Math.Seq.{slice}
use Rattle.layout.specs.Bytes.{Bytes}
use Rattle.layout.specs.declared.columns.Position.{Position}
use Rattle.plan.specs.Selector.{Selector, position as atPosition, rename}
use Rattle.plan.specs.Read.{longest_plan}
use Rattle.walk.specs.code.Stands.{SelectorAt}
use Rattle.walk.specs.code.State.{Frame, fields, element, State, state}
use Rattle.walk.specs.code.Moves.{Moves, Stopped, Part, NoPart, Takes}
use Rattle.walk.specs.declared.walk.Walk.{Walk}
use Rattle.walk.specs.declared.walk.PartFound.{PartFound}
use Rattle.walk.specs.declared.walk.Move.{Move}

-- the mapping at m was entered, of which the part i was taken; what is inside stands at p, after the mapping's input
pub data Entered (plan : Bytes) (m i p : ℕ) : Frame → Type 0 where
  e_fields : {s : Selector} (code : get_or plan m 0 ≡ 4) (P : SelectorAt plan (m + 1)) → P.tree ≡ s → P.end ≤ p → Entered plan m i p (fields s)
  e_list : {s : Selector} (code : get_or plan m 0 ≡ 5) (P : SelectorAt plan (m + 1)) → P.tree ≡ s → P.end ≤ p → Entered plan m i p (element s i)
  e_array : {s : Selector} (code : get_or plan m 0 ≡ 6) (P : SelectorAt plan (m + 1)) → P.tree ≡ s → P.end ≤ p → Entered plan m i p (element s i)

-- E are the d mappings that were entered, innermost first
pub data Entries (plan : Bytes) (maps path : List ℕ) : ℕ → ℕ → List Frame → Type 0 where
  e_none : {p : ℕ} → Entries plan maps path 0 p []
  e_more : {d p : ℕ} {f : Frame} {E : List Frame} → Entered plan (get_or maps d 0) (get_or path d 0) p f → Entries plan maps path d (get_or maps d 0) E
      → Entries plan maps path (suc d) p (f ∷ E)

pub record WalkAt (plan : Bytes) (w : Walk) (x : State) : Type 0 where
  pub here : SelectorAt plan w.at
  pub selector : here.tree ≡ x.selector
  pub ends : here.end ≤ w.lim
  pub bound : w.lim ≤ length plan
  pub small : length plan ≤ longest_plan
  pub entries : Entries plan w.maps w.path w.deep w.at x.frames
  pub deep : w.deep ≤ w.len
  pub short : w.len ≤ 64
  pub room : (length w.maps ≡ 64) × (length w.path ≡ 64)
  pub path : slice w.deep w.len w.path ≡ x.path

-- what falls with each move: first the end of the selector, then what is left up to it
unfoldable pub rank : Walk → ℕ
rank w = w.lim * 131072 + (w.lim - w.at)

-- r stands where no move of x is left
pub record Located (plan : Bytes) (x : State) (w r : Walk) : Type 0 where
  pub state : State
  pub standing : WalkAt plan r state
  pub moves : Moves x state
  pub stopped : Stopped state
  pub falls : rank r ≤ rank w

-- at the input of the innermost mapping, with no path
abbrev pub outward_of : Walk → Walk
outward_of w = record { at = get_or w.maps (w.deep - 1) 0 + 1; lim = w.at; deep = w.deep - 1; len = w.deep - 1; maps = w.maps; path = w.path }

-- the part k of the mapping P stands at m
pub record PartAt (plan : Bytes) (at : ℕ) (P : SelectorAt plan at) (k m : ℕ) : Type 0 where
  pub frame : Frame
  pub here : SelectorAt plan m
  pub part : Part P.tree k frame here.tree
  pub entered : Entered plan at k m frame
  pub starts : at < m
  pub ends : here.end ≤ P.end

abbrev pub PartAnswer : (plan : Bytes) (at : ℕ) (P : SelectorAt plan at) (k : ℕ) → PartFound → Type 0
PartAnswer plan at P k (PartFound.At c) = PartAt plan at P k c.at
PartAnswer plan at P k PartFound.None = NoPart P.tree k

pub record PartIs (plan : Bytes) (at : ℕ) (P : SelectorAt plan at) (k : ℕ) (r : PartFound) : Type 0 where
  pub answer : PartAnswer plan at P k r

-- r stands for y, and less is left than for w
pub record StepsTo (plan : Bytes) (y : State) (w r : Walk) : Type 0 where
  pub standing : WalkAt plan r y
  pub falls : rank r < rank w

-- the next move: to the input of a rename that has no say; into a part; out of the innermost mapping
pub record Renames (x : State) : Type 0 where
  pub input : Selector
  pub name : Bytes
  pub is : x.selector ≡ rename input name
  pub number : ℕ
  pub rest : List ℕ
  pub path : x.path ≡ number ∷ rest

pub record Enters (plan : Bytes) (w : Walk) (x : State) (M : WalkAt plan w x) (m : ℕ) : Type 0 where
  pub number : ℕ
  pub rest : List ℕ
  pub path : x.path ≡ number ∷ rest
  pub part : PartAt plan w.at M.here number m

pub record Leaves (x : State) (i : ℕ) : Type 0 where
  pub position : Position
  pub is : x.selector ≡ atPosition position
  pub frame : Frame
  pub outer : List Frame
  pub frames : x.frames ≡ frame ∷ outer
  pub input : Selector
  pub takes : Takes position frame i input

abbrev pub MoveAnswer : (plan : Bytes) (w : Walk) (x : State) → WalkAt plan w x → Move → Type 0
MoveAnswer plan w x M Move.Input = Renames x
MoveAnswer plan w x M (Move.Enter c) = Enters plan w x M c.at
MoveAnswer plan w x M (Move.Leave i) = Leaves x i
MoveAnswer plan w x M Move.Stop = Stopped x

pub record MoveIs (plan : Bytes) (w : Walk) (x : State) (M : WalkAt plan w x) (r : Move) : Type 0 where
  pub answer : MoveAnswer plan w x M r
