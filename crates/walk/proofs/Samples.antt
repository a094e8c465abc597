-- A walk through a small plan: the second field of column 0, by a struct mapping that has it as its first. Assumes
-- nothing.
use mathlib.Core.Path.{refl}
use mathlib.Core.List.{[], ◌∷◌, replicate}
use native.Mathlib.Omega.{arith}
use Rattle.layout.specs.Bytes.{Bytes}
use Rattle.layout.specs.Parser.{next, choose, byte, u16}
use Rattle.plan.specs.Selector.{Selector, position, struct_mapping, snil, scons}
use Rattle.plan.specs.Read.{selectors, position_rest, struct_rest, selector_rest, selector}
use Rattle.plan.specs.Reach.{s_here}
use Rattle.walk.specs.code.Stands.{SelectorAt}
use Rattle.walk.specs.code.State.{state}
use Rattle.walk.specs.code.Moves.{Moves, m_here, m_field, m_leave, Stopped, s_column}
use Rattle.walk.specs.code.Walks.{WalkAt}
use Rattle.walk.proofs.Walks.{top}

-- a struct mapping of position 0, whose one field is position 1
abbrev pub sample : Bytes
sample = 4 ∷ 0 ∷ 0 ∷ 0 ∷ 1 ∷ 0 ∷ 0 ∷ 1 ∷ 0 ∷ []

abbrev pub column : Selector
column = position (record { 0 = 0 })

abbrev pub mapping : Selector
mapping = struct_mapping column (scons (position (record { 0 = 1 })) snil)

stands : SelectorAt sample 0
unfolding selector selector_rest struct_rest position_rest selectors byte u16 next choose
stands = record { tree = mapping; end = 9; reads = refl }

-- what `locate` asks can be had
pub starts : WalkAt sample (record { at = 0; lim = 9; deep = 0; len = 0; maps = replicate 64 0; path = replicate 64 0 }) (state mapping [] [])
unfolding stands
starts = top stands (omega arith) (omega arith) (omega arith) refl refl

-- field 0 of what the mapping makes is field 1 of column 0
pub found : Moves (state mapping [] (0 ∷ [])) (state column [] (1 ∷ []))
found = m_field s_here (m_leave m_here)

pub no_more : Stopped (state column [] (1 ∷ []))
no_more = s_column
