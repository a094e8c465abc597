-- Document 01, "Run": what selectors give over a record, and "Running", 44 and 45. The types have no say: a number
-- carries its kind, and the check has passed what the selectors do. A strict date-time that is too large becomes
-- `voverflow`, and what a mapping drops is dropped with it; so 44 is that `voverflow` stands in the output.
use Rattle.std.specs.Prelude.{ℕ, zero, suc, Bool, true, false, ◌&&◌, leb, length}
use Rattle.layout.specs.Bytes.{Bytes}
use Rattle.layout.specs.Tree.{leaf_of, DataType, leaf, struct, list, array}
use Rattle.layout.specs.declared.leaf.Leaf.{Leaf}
use Rattle.values.specs.Value.{Value, vnull, vnumber, vtext, voverflow, vstruct, vlist, varray, Values, vnil, vcons}
use Rattle.values.specs.Encode.{encode_values}
use Rattle.values.specs.Record.{longest}
use Rattle.plan.specs.Result.{gives, demand, Answer, accepted, placed}
use Rattle.plan.specs.Selector.{Selector, position, constant, cast, rename, struct_mapping, list_mapping, array_mapping, Selectors, snil, scons}
use Rattle.plan.specs.Convert.{convert}

-- the k-th value; null where there is none
unfoldable pub value_at : Values → ℕ → Value
value_at vnil k = vnull
value_at (vcons v vs) zero = v
value_at (vcons v vs) (suc k) = value_at vs k

-- a value cast to a leaf kind: "a null input of a cast stays null"; a text keeps its bytes
unfoldable pub cast_leaf : Leaf → Value → Value
cast_leaf k vnull = vnull
cast_leaf k (vnumber i n) = convert i k n
cast_leaf k (vtext b) = vtext b
cast_leaf k voverflow = voverflow
cast_leaf k (vstruct vs) = vstruct vs
cast_leaf k (vlist vs) = vlist vs
cast_leaf k (varray vs) = varray vs

-- only null is cast to a nested type
unfoldable pub cast_value : DataType → Value → Value
cast_value (leaf l) v = cast_leaf (leaf_of l) v
cast_value (struct fs) v = v
cast_value (list t) v = v
cast_value (array w t) v = v

unfoldable pub map_values : (Value → Value) → Values → Values
map_values f vnil = vnil
map_values f (vcons v vs) = vcons (f v) (map_values f vs)

-- a mapping of a present struct, list or array: "a null input of a mapping stays null, at each level"
unfoldable pub on_struct : (Values → Values) → Value → Value
on_struct f vnull = vnull
on_struct f (vnumber k n) = vnumber k n
on_struct f (vtext b) = vtext b
on_struct f voverflow = voverflow
on_struct f (vstruct vs) = vstruct (f vs)
on_struct f (vlist vs) = vlist vs
on_struct f (varray vs) = varray vs

unfoldable pub on_list : (Value → Value) → Value → Value
on_list f vnull = vnull
on_list f (vnumber k n) = vnumber k n
on_list f (vtext b) = vtext b
on_list f voverflow = voverflow
on_list f (vstruct vs) = vstruct vs
on_list f (vlist vs) = vlist (map_values f vs)
on_list f (varray vs) = varray vs

unfoldable pub on_array : (Value → Value) → Value → Value
on_array f vnull = vnull
on_array f (vnumber k n) = vnumber k n
on_array f (vtext b) = vtext b
on_array f voverflow = voverflow
on_array f (vstruct vs) = vstruct vs
on_array f (vlist vs) = vlist vs
on_array f (varray vs) = varray (map_values f vs)

-- what a selector gives over the values ρ: those of a record, of a struct's fields, or the one of an element
unfoldable mutual
  pub eval : Values → Selector → Value
  eval ρ (position k) = value_at ρ k.0
  eval ρ (constant n t v) = v
  eval ρ (cast s t o) = cast_value t (eval ρ s)
  eval ρ (rename s n) = eval ρ s
  eval ρ (struct_mapping s ss) = on_struct (λ vs. evals vs ss) (eval ρ s)
  eval ρ (list_mapping s e) = on_list (λ v. eval (vcons v vnil) e) (eval ρ s)
  eval ρ (array_mapping s e) = on_array (λ v. eval (vcons v vnil) e) (eval ρ s)

  pub evals : Values → Selectors → Values
  evals ρ snil = vnil
  evals ρ (scons s ss) = vcons (eval ρ s) (evals ρ ss)

-- no date-time in it is too large
unfoldable mutual
  pub clean : Value → Bool
  clean vnull = true
  clean (vnumber k n) = true
  clean (vtext b) = true
  clean voverflow = false
  clean (vstruct vs) = clean_all_of vs
  clean (vlist vs) = clean_all_of vs
  clean (varray vs) = clean_all_of vs

  pub clean_all_of : Values → Bool
  clean_all_of vnil = true
  clean_all_of (vcons v vs) = clean v && clean_all_of vs

-- the bytes fit a buffer of that many bytes, and a record's longest length
unfoldable pub spacious : ℕ → Bytes → Bool
spacious room b = leb (length b) room && leb (length b) longest

-- An output: 44 a strict date-time too large anywhere in it; 45 it exceeds the buffer or 16,384 bytes; else its bytes.
unfoldable pub written : Values → ℕ → Answer Bytes
written vs room = placed 0 (demand (clean_all_of vs) 44 (demand (spacious room (encode_values vs)) 45 (gives (encode_values vs)))) accepted

-- the run of a plan over a record that was read, into a buffer of that many bytes
unfoldable pub run : Values → Selectors → ℕ → Answer Bytes
run ρ ss room = written (evals ρ ss) room
