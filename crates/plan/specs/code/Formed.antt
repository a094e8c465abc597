-- Document 01, 30, as conditions on a plan: what the reading of a plan has tested of its selectors, but for their
-- nesting and the plan's length.
use Rattle.std.specs.Prelude.{◌<◌, ◌≤◌}
use Rattle.layout.specs.Bytes.{Bytes}
use Rattle.layout.specs.Tree.{DataType}
use Rattle.layout.specs.Layout.{deepest}
use Rattle.layout.specs.declared.columns.Position.{Position}
use Rattle.forms.specs.code.Readable.{ShortText, Readable}
use Rattle.forms.specs.Depth.{depth_of}
use Rattle.rules.specs.declared.outcome.CastOption.{CastOption}
use Rattle.values.specs.Value.{Value}
use Rattle.values.specs.Fits.{Fits}
use Rattle.plan.specs.Selector.{Selector, position, constant, cast, rename, struct_mapping, list_mapping, array_mapping, Selectors, snil, scons}
use Rattle.plan.specs.Selector.{count_selectors}

-- a type within the rules of a layout
pub record FormedType (t : DataType) : Type 0 where
  pub readable : Readable t
  pub deep : depth_of t ≤ deepest

mutual
  pub data Formed : Selector → Type 0 where
    f_position : {k : Position} → k.0 < 65536 → Formed (position k)
    f_constant : {n : Bytes} {t : DataType} {v : Value} → ShortText n → FormedType t → Fits t v → Formed (constant n t v)
    f_cast : {s : Selector} {t : DataType} {o : CastOption} → Formed s → FormedType t → Formed (cast s t o)
    f_rename : {s : Selector} {n : Bytes} → Formed s → ShortText n → Formed (rename s n)
    f_struct : {s : Selector} {ss : Selectors} → Formed s → count_selectors ss < 65536 → FormedAll ss → Formed (struct_mapping s ss)
    f_list : {s e : Selector} → Formed s → Formed e → Formed (list_mapping s e)
    f_array : {s e : Selector} → Formed s → Formed e → Formed (array_mapping s e)

  pub data FormedAll : Selectors → Type 0 where
    f_nil : FormedAll snil
    f_cons : {s : Selector} {ss : Selectors} → Formed s → FormedAll ss → FormedAll (scons s ss)
