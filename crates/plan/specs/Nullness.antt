-- Document 02, L5, "The check carries nullness": at which places what a selector gives can be null, cannot be null, or
-- has no value at all.
use Rattle.std.specs.Prelude.{ℕ, zero, suc}
use Rattle.values.specs.Value.{Value, vnull, vnumber, vtext, voverflow, vstruct, vlist, varray, Values, vnil, vcons}
use Rattle.plan.specs.Selector.{Selector, position, constant, cast, rename, struct_mapping, list_mapping, array_mapping, Selectors, snil, scons}

pub data Place : Type 0 where
  required optional novalue : Place

-- A place and the places inside it: a struct's fields, or the one place of all elements of a list or array. What is
-- left out, as below a null, has no value; so a leaf and a null of any type have nothing inside.
mutual
  pub data Nullness : Type 0 where
    node : Place → Nullnesses → Nullness

  pub data Nullnesses : Type 0 where
    nnil : Nullnesses
    ncons : Nullness → Nullnesses → Nullnesses

abbrev pub top_of : Nullness → Place
top_of (node p ns) = p

abbrev pub inside_of : Nullness → Nullnesses
inside_of (node p ns) = ns

abbrev pub nowhere : Nullness
nowhere = node novalue nnil

unfoldable pub nullness_at : Nullnesses → ℕ → Nullness
nullness_at nnil k = nowhere
nullness_at (ncons n ns) zero = n
nullness_at (ncons n ns) (suc k) = nullness_at ns k

-- ---- constants

-- the values of both
unfoldable pub join_place : Place → Place → Place
join_place required required = required
join_place required optional = optional
join_place required novalue = required
join_place optional q = optional
join_place novalue q = q

unfoldable mutual
  pub join : Nullness → Nullness → Nullness
  join (node p ns) (node q ms) = node (join_place p q) (join_all ns ms)

  pub join_all : Nullnesses → Nullnesses → Nullnesses
  join_all nnil ms = ms
  join_all (ncons n ns) nnil = ncons n ns
  join_all (ncons n ns) (ncons m ms) = ncons (join n m) (join_all ns ms)

-- "a constant, run or not, counts as required at each place where none of the values it has there is null; below a null
-- there is no value"
unfoldable mutual
  pub of_value : Value → Nullness
  of_value vnull = node optional nnil
  of_value (vnumber k n) = node required nnil
  of_value (vtext b) = node required nnil
  of_value voverflow = node required nnil
  of_value (vstruct vs) = node required (of_fields vs)
  of_value (vlist vs) = node required (of_elements vs)
  of_value (varray vs) = node required (of_elements vs)

  pub of_fields : Values → Nullnesses
  of_fields vnil = nnil
  of_fields (vcons v vs) = ncons (of_value v) (of_fields vs)

  -- all elements are one place
  pub of_elements : Values → Nullnesses
  of_elements vnil = nnil
  of_elements (vcons v vs) = join_all (ncons (of_value v) nnil) (of_elements vs)

-- ---- each selector, over the nullness of the columns: those of a record, of a struct's fields, or the one of an
-- element

-- "a position has its column's mark, casts, renames and mappings keep their input's". A cast's input is a leaf: a
-- result of a nested type is null, with nothing inside.
unfoldable mutual
  pub nullness_of : Nullnesses → Selector → Nullness
  nullness_of Γ (position k) = nullness_at Γ k.0
  nullness_of Γ (constant n t v) = of_value v
  nullness_of Γ (cast s t o) = node (top_of (nullness_of Γ s)) nnil
  nullness_of Γ (rename s n) = nullness_of Γ s
  nullness_of Γ (struct_mapping s ss) = node (top_of (nullness_of Γ s)) (nullnesses_of (inside_of (nullness_of Γ s)) ss)
  nullness_of Γ (list_mapping s e) = node (top_of (nullness_of Γ s)) (ncons (nullness_of (inside_of (nullness_of Γ s)) e) nnil)
  nullness_of Γ (array_mapping s e) = node (top_of (nullness_of Γ s)) (ncons (nullness_of (inside_of (nullness_of Γ s)) e) nnil)

  pub nullnesses_of : Nullnesses → Selectors → Nullnesses
  nullnesses_of Γ snil = nnil
  nullnesses_of Γ (scons s ss) = ncons (nullness_of Γ s) (nullnesses_of Γ ss)
