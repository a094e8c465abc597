-- Document 01, "A cast is reached when its result, changed further or not, goes into the output; what an outer mapping
-- drops is not worked out", and demand 3, "a strict cast that it reaches multiplies a non-null date-time beyond signed
-- 64 bits". Nothing here speaks of `voverflow` in an output.
use Rattle.std.specs.Prelude.{ℕ, suc, ◌^◌, ◌≤◌, ◌<◌, ◌≡◌, List, [], ◌∷◌, ℤ, pos, ◌*ℤ◌}
use Rattle.std.specs.Int.Signed.{mag}
use Rattle.layout.specs.Bytes.{Bytes}
use Rattle.layout.specs.Tree.{datetime, DataType, leaf}
use Rattle.layout.specs.declared.leaf.TimeUnit.{TimeUnit}
use Rattle.layout.specs.declared.leaf.Leaf.TheVariants.{Datetime}
use Rattle.layout.specs.declared.columns.Position.{Position}
use Rattle.rules.specs.declared.outcome.CastOption.{CastOption}
use Rattle.rules.specs.declared.outcome.CastOption.TheVariants.{Strict}
use Rattle.numeric.specs.Integers.{signed}
use Rattle.values.specs.Value.{Value, vnull, vnumber, vtext, voverflow, vstruct, vlist, varray, Values, vnil, vcons, count_values}
use Rattle.plan.specs.Selector.{Selector, position, cast, rename, struct_mapping, list_mapping, array_mapping, Selectors, scons}
use Rattle.plan.specs.Convert.{multiply, unit_change}
use Rattle.plan.specs.Run.{value_at, eval}

-- Where a selector is run: over the record, over the fields of the struct that s gives there, over the element j of the
-- list or array that s gives there.
pub data Scope : Type 0 where
  top : Scope
  in_struct_lem : Scope → Selector → Scope
  in_element : Scope → Selector → ℕ → Scope

-- the fields or elements of a value
unfoldable pub parts : Value → Values
parts vnull = vnil
parts (vnumber k n) = vnil
parts (vtext b) = vnil
parts voverflow = vnil
parts (vstruct vs) = vs
parts (vlist vs) = vs
parts (varray vs) = vs

-- the values that a selector is run over, from a record's
unfoldable pub values_in : Values → Scope → Values
values_in ρ top = ρ
values_in ρ (in_struct_lem E s) = parts (eval (values_in ρ E) s)
values_in ρ (in_element E s j) = vcons (value_at (parts (eval (values_in ρ E) s)) j) vnil

-- what a selector gives where it is run
unfoldable pub value_in : Values → Scope → Selector → Value
value_in ρ E s = eval (values_in ρ E) s

-- the selector of the k-th field of a mapping, or column of a plan
pub data SelectorAt : Selectors → ℕ → Selector → Type 0 where
  s_here : {s : Selector} {ss : Selectors} → SelectorAt (scons s ss) 0 s
  s_there : {s x : Selector} {ss : Selectors} {k : ℕ} → SelectorAt ss k s → SelectorAt (scons x ss) (suc k) s

-- a product beyond signed 64 bits; `mag` is n both of n and of -(n + 1)
pub record Beyond (z : ℤ) : Type 0 where
  pub beyond : 2 ^ 63 ≤ mag z

-- `Overflows ρ E s p`: what s gives in E has at the path p (of field and element numbers) the result, changed further
-- or not, of a strict cast that multiplies a non-null date-time beyond signed 64 bits.
pub data Overflows (ρ : Values) : Scope → Selector → List ℕ → Type 0 where
  -- the cast itself
  o_cast : {E : Scope} {s : Selector} {u v : TimeUnit} {z : Bytes} {n f : ℕ} → value_in ρ E s ≡ vnumber (Datetime u) n → unit_change u v ≡ multiply f →
      Beyond (signed 64 n *ℤ pos f)
      → Overflows ρ E (cast s (leaf (datetime v z)) Strict) []
  -- its result, cast further, renamed
  o_further : {E : Scope} {s : Selector} {t : DataType} {o : CastOption} {p : List ℕ} → Overflows ρ E s p → Overflows ρ E (cast s t o) p
  o_rename : {E : Scope} {s : Selector} {n : Bytes} {p : List ℕ} → Overflows ρ E s p → Overflows ρ E (rename s n) p
  -- in a field or an element that a mapping of a present input makes
  o_struct : {E : Scope} {s x : Selector} {ss : Selectors} {vs : Values} {k : ℕ} {p : List ℕ} → value_in ρ E s ≡ vstruct vs → SelectorAt ss k x →
      Overflows ρ (in_struct_lem E s) x p
      → Overflows ρ E (struct_mapping s ss) (k ∷ p)
  o_list : {E : Scope} {s e : Selector} {vs : Values} {j : ℕ} {p : List ℕ} → value_in ρ E s ≡ vlist vs → j < count_values vs → Overflows ρ (in_element E s j) e p
      → Overflows ρ E (list_mapping s e) (j ∷ p)
  o_array : {E : Scope} {s e : Selector} {vs : Values} {j : ℕ} {p : List ℕ} → value_in ρ E s ≡ varray vs → j < count_values vs → Overflows ρ (in_element E s j) e p
      → Overflows ρ E (array_mapping s e) (j ∷ p)
  -- in a field or an element of the input that a mapping's selector takes
  o_field : {E : Scope} {s : Selector} {k : Position} {p : List ℕ} → Overflows ρ E s (k.0 ∷ p) → Overflows ρ (in_struct_lem E s) (position k) p
  o_element : {E : Scope} {s : Selector} {j : ℕ} {k : Position} {p : List ℕ} → k.0 ≡ 0 → Overflows ρ E s (j ∷ p) → Overflows ρ (in_element E s j) (position k) p

-- a strict cast that the run of a plan reaches does so
pub record ReachesOverflow (ρ : Values) (ss : Selectors) : Type 0 where
  pub column : ℕ
  pub selector : Selector
  pub selects : SelectorAt ss column selector
  pub path : List ℕ
  pub overflows : Overflows ρ top selector path
