-- Document 01, "Plans, check and run", its first paragraph: a plan's bytes.
use Rattle.std.specs.Prelude.{[], ◌∷◌, ◌++◌}
use Rattle.layout.specs.Bytes.{Bytes}
use Rattle.forms.specs.Form.{u16_bytes, text_bytes, form}
use Rattle.rules.specs.Outcomes.{option_code}
use Rattle.values.specs.Encode.{encode_value}
use Rattle.plan.specs.Selector.{Selector, position, constant, cast, rename, struct_mapping, list_mapping, array_mapping, Selectors, snil, scons}
use Rattle.plan.specs.Selector.{count_selectors}

-- A code, then a transform's input selector, then its own data.
unfoldable mutual
  pub encode_selector : Selector → Bytes
  encode_selector (position k) = 0 ∷ u16_bytes k.0
  encode_selector (constant n t v) = 1 ∷ (text_bytes n ++ (form t ++ encode_value v))
  encode_selector (cast s t o) = 2 ∷ (encode_selector s ++ (form t ++ (option_code o ∷ [])))
  encode_selector (rename s n) = 3 ∷ (encode_selector s ++ text_bytes n)
  encode_selector (struct_mapping s ss) = 4 ∷ (encode_selector s ++ (u16_bytes (count_selectors ss) ++ encode_selectors ss))
  encode_selector (list_mapping s e) = 5 ∷ (encode_selector s ++ encode_selector e)
  encode_selector (array_mapping s e) = 6 ∷ (encode_selector s ++ encode_selector e)

  pub encode_selectors : Selectors → Bytes
  encode_selectors snil = []
  encode_selectors (scons s ss) = encode_selector s ++ encode_selectors ss

-- `PLN` and version 1
abbrev pub plan_mark : Bytes
plan_mark = 0x50 ∷ 0x4C ∷ 0x4E ∷ 1 ∷ 0 ∷ []

unfoldable pub encode_plan : Selectors → Bytes
encode_plan ss = plan_mark ++ (u16_bytes (count_selectors ss) ++ encode_selectors ss)
