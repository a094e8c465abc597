-- What each answer of the code stands for.
use Rattle.std.specs.Prelude.{ℕ, ◌+◌, ◌<◌, ◌≤◌, ◌≡◌, Bool, true, false, List, [], ◌∷◌, length}
use Rattle.layout.specs.Bytes.{Bytes}
use Rattle.layout.specs.Tree.{leaf_of, DataType, leaf, struct, list, array}
use Rattle.layout.specs.declared.leaf.Leaf.{Leaf}
use Rattle.layout.specs.declared.edition.Edition.{Edition}
use Rattle.layout.specs.declared.edition.Edition.TheVariants.{One}
use Rattle.values.specs.Value.{Value, vnull, vnumber, voverflow, Values}
use Rattle.values.specs.Encode.{encode_values}
use Rattle.values.specs.Record.{longest}
use Rattle.plan.specs.Read.{longest_plan}
use Rattle.plan.specs.Result.{Answer, accepted, refused_at}
use Rattle.plan.specs.Selector.{Selector, position, constant, cast, rename, struct_mapping, list_mapping, array_mapping, Selectors, count_selectors}
use Rattle.plan.specs.Run.{eval, evals, clean, clean_all_of, run}
use Rattle.plan.specs.Calls.{buffer_after}
use Rattle.walk.specs.code.State.{Frame, fields, element, input_of, State, state}
use Rattle.walk.specs.code.Moves.{Moves, Stopped, Input, Mapping}
use Rattle.walk.specs.code.Stands.{SelectorAt}
use Rattle.walk.specs.code.Walks.{WalkAt, rank}
use Rattle.walk.specs.code.Values.{given, within, state_value}
use Rattle.walk.specs.declared.walk.Walk.{Walk}
use Rattle.nodes.specs.code.Raw.{RowAt, NodeIs, parts_of}
use Rattle.nodes.specs.declared.raw.NodeAt.{NodeAt}
use Rattle.nodes.specs.declared.raw.Parts.{Parts}
use Rattle.output.specs.code.Chain.{ends, goes, casts, next, Passed}
use Rattle.output.specs.code.Output.{Emits, levels, answer}
use Rattle.output.specs.declared.casts.Pass.{Pass}
use Rattle.output.specs.declared.casts.Origin.{Origin}
use Rattle.output.specs.declared.leaf.CastLeaf.{CastLeaf}
use Rattle.output.specs.declared.leaf.CastValue.{CastValue}
use Rattle.output.specs.declared.parts.Asked.{Asked}
use Rattle.output.specs.declared.source.Source.{Source}
use Rattle.output.specs.declared.write.Written.{Written}

abbrev pub cast_value_of : CastValue → Value
cast_value_of (CastValue.Number k n) = vnumber k n
cast_value_of CastValue.Overflow = voverflow

-- what casts leave of the value u
abbrev pub cast_leaf_of : Value → CastLeaf → Value
cast_leaf_of u CastLeaf.Same = u
cast_leaf_of u (CastLeaf.Cast q) = cast_value_of q

-- ---- src/casts.rt

-- a cast to a type, no path being left
abbrev pub cast_pass : DataType → Pass
cast_pass (leaf l) = Pass.Casts (leaf_of l)
cast_pass (struct fs) = Pass.Goes
cast_pass (list t) = Pass.Goes
cast_pass (array w t) = Pass.Goes

-- the selector at x is a transform, whose input is next
pub record GoesOn (x : State) : Type 0 where
  pub input : Selector
  pub is : Input x.selector input
  pub next : next x ≡ goes (state input x.frames x.path)

pub record CastsOn (x : State) (k : Leaf) : Type 0 where
  pub input : Selector
  pub is : Input x.selector input
  pub next : next x ≡ casts k (state input x.frames x.path)

abbrev pub PassAnswer : State → Pass → Type 0
PassAnswer x Pass.Ends = next x ≡ ends
PassAnswer x Pass.Goes = GoesOn x
PassAnswer x (Pass.Casts k) = CastsOn x k

pub record PassIs (x : State) (r : Pass) : Type 0 where
  pub answer : PassAnswer x r

-- r stands where no move is left of the input s of the transform at x
pub record OnwardTo (plan : Bytes) (x : State) (s : Selector) (w r : Walk) : Type 0 where
  pub state : State
  pub standing : WalkAt plan r state
  pub moves : Moves (record { selector = s; frames = x.frames; path = x.path }) state
  pub stopped : Stopped state
  pub falls : rank r < rank w

-- the value of x comes from where r stands, through as many casts as r says
pub record OriginIs (plan : Bytes) (x : State) (w : Walk) (r : Origin) : Type 0 where
  pub kinds : List Leaf
  pub state : State
  pub passed : Passed x kinds state
  pub ended : next state ≡ ends
  pub counted : length kinds ≡ r.casts
  pub standing : WalkAt plan r.walk state
  pub falls : rank r.walk ≤ rank w

-- ---- src/source.rt

abbrev pub record_source : NodeAt → Source
record_source NodeAt.Null = Source.Null
record_source (NodeAt.At t c) = Source.Record t c

abbrev pub constant_source : NodeAt → Source
constant_source NodeAt.Null = Source.Null
constant_source (NodeAt.At t c) = Source.Constant t c

-- the struct mapping P, if no path is left
pub record StructSource (plan : Bytes) (w : Walk) (P : SelectorAt plan w.at) (r : Source) : Type 0 where
  pub below : w.deep < w.len → r ≡ Source.Null
  pub ended : w.len ≤ w.deep → (s : Selector) × (ss : Selectors) × (P.tree ≡ struct_mapping s ss) × (r ≡ Source.Struct (count_selectors ss))

-- the constant's value u, wherever its selector is run
pub record ConstantIs (ρ : Values) (plan : Bytes) (x : State) (t c : ℕ) : Type 0 where
  pub value : Value
  pub node : NodeIs One plan t plan c value
  pub is : state_value ρ x ≡ within ρ x.frames (λ σ. value)

pub record StructIs (x : State) (n : ℕ) : Type 0 where
  pub input : Selector
  pub parts : Selectors
  pub selector : x.selector ≡ struct_mapping input parts
  pub path : x.path ≡ []
  pub count : count_selectors parts ≡ n

pub record ListIs (x : State) : Type 0 where
  pub input : Selector
  pub element : Selector
  pub selector : x.selector ≡ list_mapping input element
  pub path : x.path ≡ []

pub record ArrayIs (x : State) : Type 0 where
  pub input : Selector
  pub element : Selector
  pub selector : x.selector ≡ array_mapping input element
  pub path : x.path ≡ []

abbrev pub SourceAnswer : Values → Edition → Bytes → Bytes → Bytes → State → Source → Type 0
SourceAnswer ρ v lay rec plan x Source.Null = state_value ρ x ≡ vnull
SourceAnswer ρ v lay rec plan x (Source.Record t c) = NodeIs v lay t.at rec c.at (state_value ρ x)
SourceAnswer ρ v lay rec plan x (Source.Constant t c) = ConstantIs ρ plan x t.at c.at
SourceAnswer ρ v lay rec plan x (Source.Struct n) = StructIs x n
SourceAnswer ρ v lay rec plan x Source.List = ListIs x
SourceAnswer ρ v lay rec plan x Source.Array = ArrayIs x
SourceAnswer ρ v lay rec plan x Source.Refused = ⊥

-- where the value of x comes from
pub record SourceIs (ρ : Values) (v : Edition) (lay rec plan : Bytes) (x : State) (r : Source) : Type 0 where
  pub answer : SourceAnswer ρ v lay rec plan x r

-- ---- src/parts.rt

-- how many parts an entered mapping's input must have, for what is inside to be run
unfoldable pub least_of : Frame → ℕ
least_of (fields s) = 0
least_of (element s i) = i + 1

-- the same is asked of a transform's input
pub record AskInput (ρ : Values) (x : State) (least : ℕ) (own : Parts) (m : ℕ) (k : Parts) : Type 0 where
  pub input : Selector
  pub is : Input x.selector input
  pub same : answer least own (parts_of (state_value ρ x)) ≡ answer m k (parts_of (state_value ρ (state input x.frames x.path)))

-- the same is asked of the innermost mapping's input
pub record AskOutward (ρ : Values) (x : State) (least : ℕ) (own : Parts) (m : ℕ) (k : Parts) : Type 0 where
  pub frame : Frame
  pub outer : List Frame
  pub is : x.frames ≡ frame ∷ outer
  pub same : answer least own (parts_of (state_value ρ x)) ≡ answer m k (parts_of (state_value ρ (state (input_of frame) outer [])))

abbrev pub AskedAnswer : Values → State → ℕ → Parts → Asked → Type 0
AskedAnswer ρ x least own (Asked.Answer p) = p ≡ answer least own (parts_of (state_value ρ x))
AskedAnswer ρ x least own (Asked.Input m k) = AskInput ρ x least own m k
AskedAnswer ρ x least own (Asked.Outward m k) = AskOutward ρ x least own m k

pub record AskedIs (ρ : Values) (x : State) (least : ℕ) (own : Parts) (r : Asked) : Type 0 where
  pub means : AskedAnswer ρ x least own r

-- ---- src/emit.rt

-- how many mappings and path numbers a walk holds
unfoldable pub size : State → ℕ
size x = length x.frames + length x.path

-- over the record's values, the value where w stands has no date-time that is too large, and its parts nest no deeper
-- than a walk can follow
pub record EmitAt (v : Edition) (lay : Bytes) (n t : ℕ) (rec plan : Bytes) (w : Walk) : Type 0 where
  pub row : RowAt v lay n t rec 0
  pub state : State
  pub standing : WalkAt plan w state
  pub clean : clean (state_value row.values.values state) ≡ true
  pub low : size state + levels (state_value row.values.values state) ≤ 64
  pub short : length rec ≤ longest

-- a mapping with no path left
pub record Mapped (x : State) : Type 0 where
  pub mapping : Mapping x.selector
  pub path : x.path ≡ []

abbrev pub is_list : Selector → Bool
is_list (position k) = false
is_list (constant n t v) = false
is_list (cast s t o) = false
is_list (rename s n) = false
is_list (struct_mapping s ss) = false
is_list (list_mapping s e) = true
is_list (array_mapping s e) = false

-- ---- src/write.rt

-- over the record's values, the selector at `at` gives what it evaluates to, with no date-time that is too large and
-- parts that nest no deeper than a walk can follow
pub record EmitTopAt (v : Edition) (lay : Bytes) (n t : ℕ) (rec plan : Bytes) (at : ℕ) : Type 0 where
  pub row : RowAt v lay n t rec 0
  pub selector : SelectorAt plan at
  pub same : eval row.values.values selector.tree ≡ given row.values.values selector.tree
  pub clean : clean (eval row.values.values selector.tree) ≡ true
  pub low : levels (eval row.values.values selector.tree) ≤ 64
  pub short : length rec ≤ longest
  pub small : length plan ≤ longest_plan

-- 45, or the output's length
abbrev pub written_of : Answer Bytes → Written
written_of (accepted b) = Written.Written (length b)
written_of (refused_at n k) = Written.TooLong

-- what was written aside from its start on, of whatever run is clean
abbrev pub HandedOver : Bytes → ℕ → Bytes → Written → Bytes → Type 0
HandedOver aside len out w out' =
    (ρ : Values) (ss : Selectors) (aside₀ : Bytes) → clean_all_of (evals ρ ss) ≡ true → longest ≡ length aside₀
    → Emits aside₀ 0 (encode_values (evals ρ ss)) len aside
    → (w ≡ written_of (run ρ ss (length out))) × (out' ≡ buffer_after (run ρ ss (length out)) out)
