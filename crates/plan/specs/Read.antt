-- Document 01, "Checking a plan", 30: bytes to a plan. Any fault is 30: over 65,536 bytes, wrong mark or version, early
-- end, unknown code or option, a type or value that breaks its rule, a name over 63 bytes, selectors nested over 64,
-- bytes left. The parsers below refuse with the numbers of a layout's faults (2 the bytes end, 3 an unknown code, 4 too
-- long or too deep, 6 bytes left); `plan` gives 30 for each.
use Rattle.std.specs.Prelude.{ℕ, zero, suc, length, take, leb, eqb}
use Rattle.layout.specs.Bytes.{Bytes, same_bytes}
use Rattle.layout.specs.Parser.{Res, refuse, ok, Parser, ◌>>=◌, ◌>>◌, pure, fail, test, if, choose, byte, u16}
use Rattle.layout.specs.Tree.{DataType, dtype_of}
pub use Rattle.layout.specs.Limits.{longest_plan, deepest_selector}
use Rattle.layout.specs.Layout.{text, type, deepest, ended}
use Rattle.layout.specs.declared.columns.Siblings.TheVariants.{Free}
use Rattle.layout.specs.declared.edition.Edition.TheVariants.{One}
use Rattle.rules.specs.declared.outcome.CastOption.{CastOption}
use Rattle.rules.specs.declared.outcome.OptionCode.{OptionCode}
use Rattle.rules.specs.declared.outcome.OptionCode.TheVariants.{Known, Unknown}
use Rattle.rules.specs.Outcomes.{option_at}
use Rattle.values.specs.Reading.{value}
use Rattle.values.specs.Record.{renumber}
use Rattle.plan.specs.Selector.{Selector, position, constant, cast, rename, struct_mapping, list_mapping, array_mapping, Selectors, snil, scons}
use Rattle.plan.specs.Encode.{plan_mark}

-- a type in version 1 form; its inner names may repeat, and it starts at depth 1 wherever its selector stands
unfoldable pub data_type : Parser DataType
data_type = do
  c ← type One Free deepest
  pure (dtype_of c)

unfoldable pub known_option : OptionCode → Parser CastOption
known_option (Known o) = pure o
known_option Unknown = fail 3

unfoldable pub cast_option : Parser CastOption
cast_option = do
  c ← byte
  known_option (option_at c)

-- n selectors, each read by p
unfoldable pub selectors : Parser Selector → ℕ → Parser Selectors
selectors p zero = pure snil
selectors p (suc n) = do
  s ← p
  ss ← selectors p n
  pure (scons s ss)

unfoldable pub position_rest : Parser Selector
position_rest = do
  k ← u16
  pure (position (record { 0 = k }))

unfoldable pub constant_rest : Parser Selector
constant_rest = do
  n ← text
  t ← data_type
  v ← value t
  pure (constant n t v)

unfoldable pub cast_rest : Parser Selector → Parser Selector
cast_rest p = do
  s ← p
  t ← data_type
  o ← cast_option
  pure (cast s t o)

unfoldable pub rename_rest : Parser Selector → Parser Selector
rename_rest p = do
  s ← p
  n ← text
  pure (rename s n)

unfoldable pub struct_rest : Parser Selector → Parser Selector
struct_rest p = do
  s ← p
  n ← u16
  ss ← selectors p n
  pure (struct_mapping s ss)

unfoldable pub list_rest : Parser Selector → Parser Selector
list_rest p = do
  s ← p
  e ← p
  pure (list_mapping s e)

unfoldable pub array_rest : Parser Selector → Parser Selector
array_rest p = do
  s ← p
  e ← p
  pure (array_mapping s e)

-- what follows a code, where p reads the selectors inside
unfoldable pub selector_rest : Parser Selector → ℕ → Parser Selector
selector_rest p c =
    if (eqb c 0) position_rest
    (if (eqb c 1) constant_rest
    (if (eqb c 2) (cast_rest p)
    (if (eqb c 3) (rename_rest p)
    (if (eqb c 4) (struct_rest p)
    (if (eqb c 5) (list_rest p)
    (if (eqb c 6) (array_rest p)
    (fail 3)))))))

-- a selector of at most d levels
unfoldable pub selector : ℕ → Parser Selector
selector zero = fail 4
selector (suc d) = do
  c ← byte
  selector_rest (selector d) c

unfoldable pub plan_sized : Parser (Unit {0})
plan_sized s at = test (leb (length s) longest_plan) 4 s at

unfoldable pub plan_version : Parser (Unit {0})
plan_version s at = choose (same_bytes (take 5 s) plan_mark) (ok tt 5) (refuse 1)

-- the count, the selectors and the end
unfoldable pub plan_counted : Parser Selectors
plan_counted = do
  n ← u16
  ss ← selectors (selector deepest_selector) n
  ended
  pure ss

unfoldable pub plan_from : Parser Selectors
plan_from = do
  plan_sized
  plan_version
  plan_counted

-- any fault is 30
abbrev pub faulty : {A : Type 0} → Res A → Res A
faulty r = renumber (λ n. 30) r

-- reading a plan
unfoldable pub plan : Bytes → Res Selectors
plan s = faulty (plan_from s 0)
