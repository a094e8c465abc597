-- Document 01, 44, "a strict date-time too large anywhere in the output": asked of each path to a date-time leaf of the
-- target's types.
use Rattle.std.specs.Prelude.{ℕ, ◌+◌, ◌≤◌, ◌≡◌, Bool, List, ◌++◌, length, replicate, set}
use Rattle.std.proofs.Math.Seq.{slice}
use Rattle.layout.specs.Bytes.{Bytes}
use Rattle.layout.specs.Parser.{ok}
use Rattle.layout.specs.Tree.{Label, Fields}
use Rattle.layout.specs.Layout.{element_label}
use Rattle.layout.specs.code.Stands.{TypeAt}
use Rattle.layout.specs.declared.edition.Edition.{Edition}
use Rattle.layout.specs.declared.leaf.TimeUnit.{TimeUnit}
use Rattle.values.specs.Value.{Values}
use Rattle.plan.specs.Result.{gives, accepted}
use Rattle.plan.specs.Selector.{Selector}
use Rattle.plan.specs.Check.{Column, type_of, check}
use Rattle.plan.specs.Read.{longest_plan}
use Rattle.plan.specs.Run.{eval}
use Rattle.walk.specs.code.Stands.{SelectorAt, SelectorsAt}
use Rattle.walk.specs.declared.walk.Walk.{Walk}
use Rattle.nodes.specs.declared.places.TopPath.{TopPath}
use Rattle.overflow.specs.code.Want.{overflowing}
use Rattle.overflow.specs.code.Some.{some}

-- a column's selector stands at `at`, and passed the check over the columns Γ
pub record TopAt (plan : Bytes) (at : ℕ) (Γ : Fields) : Type 0 where
  pub here : SelectorAt plan at
  pub ends : here.end ≤ length plan
  pub small : length plan ≤ longest_plan
  pub column : Column
  pub passes : type_of Γ here.tree ≡ gives column

-- the columns' selectors begin at `first`, and pass the check from the columns Γ to the columns Δ
pub record PlanAt (plan : Bytes) (first : ℕ) (Γ Δ : Fields) : Type 0 where
  pub count : ℕ
  pub selectors : SelectorsAt plan count first
  pub starts : first ≤ length plan
  pub small : length plan ≤ longest_plan
  pub passes : check Γ Δ selectors.trees ≡ accepted tt

-- the label of a list's or array's element, and behind it its type, of at most d levels
pub record ElementTypeAt (v : Edition) (d : ℕ) (s : Bytes) (at : ℕ) : Type 0 where
  pub label : Label
  pub start : ℕ
  pub labelled : element_label v s at ≡ ok label start
  pub type : TypeAt v d s start

-- an overflow stands in what s gives at the path that begins with the first numbers of `path`, or is beneath them
abbrev pub over_at : Values → Selector → List ℕ → ℕ → List ℕ → TimeUnit → Bool
over_at ρ s path len p u = some (overflowing u) (slice 0 len path ++ p) (eval ρ s)

abbrev pub started : ℕ → ℕ → List ℕ → ℕ → Walk
started at lim path len = record { at = at; lim = lim; deep = 0; len = len; maps = replicate 64 0; path = path }

-- a step further, to the part k
abbrev pub part_path : TopPath → ℕ → TopPath
part_path path k = record { top = path.top; steps = set path.steps path.len k; len = path.len + 1 }
