-- `voverflow` stands in the output of a plan that passed the check exactly where the run reaches a strict cast that
-- overflows. Assumes nothing.
use Prim.Native.Nat.{ℕ, zero, suc, ◌<◌}
use mathlib.Core.Path.{◌≡◌, refl, ap, ◌∙◌}
use mathlib.Core.Bool.{Bool, true, false, ◌&&◌}
use mathlib.Core.List.{List, [], ◌∷◌}
use mathlib.Core.Logic.{◌↔◌}
use native.Mathlib.Omega.{arith}
use lib.IntN.{pos, ◌*ℤ◌}
use Rattle.layout.specs.Bytes.{Bytes}
use Rattle.layout.specs.Tree.{LeafType, leaf_of, datetime, DataType, leaf, struct, list, array, Fields}
use Rattle.layout.specs.declared.leaf.TimeUnit.{TimeUnit}
use Rattle.layout.specs.declared.leaf.TimeUnit.TheVariants.{Nanoseconds, Microseconds, Milliseconds}
use Rattle.layout.specs.declared.leaf.Leaf.{Leaf}
use Rattle.layout.specs.declared.leaf.Leaf.TheVariants.{Datetime}
use Rattle.layout.specs.declared.columns.Position.{Position}
use Rattle.layout.proofs.Ways.{clash}
use Rattle.rules.specs.declared.outcome.CastOption.{CastOption}
use Rattle.rules.specs.declared.outcome.CastOption.TheVariants.{Strict}
use Rattle.rules.specs.Chain.{unit_option}
use Rattle.rules.specs.Pairs.{cast_passes}
use Rattle.rules.proofs.Casts.{Casts, from_null, integer-to-integer, integer_to_float_lem, float_to_float_lem, datetime-to-datetime, category_to-string}
use Rattle.rules.proofs.Casts.{decimal-to-decimal, passes-casts}
use Rattle.numeric.specs.Integers.{signed}
use Rattle.numeric.specs.Times.{finer}
use Rattle.numeric.proofs.Units.{finer_large, large_is}
use Rattle.values.specs.Value.{Value, vnull, vnumber, vtext, voverflow, vstruct, vlist, varray, Values, vnil, vcons, count_values}
use Rattle.values.specs.Content.{patterns_of}
use Rattle.values.specs.Fits.{FitsAll}
use Rattle.plan.specs.Selector.{Selector, position, cast, Selectors}
use Rattle.plan.specs.Check.{cast_fits_of}
use Rattle.plan.specs.Convert.{UnitChange, multiply, divide, keep, unit_change, counted, rescaled, convert_as, convert}
use Rattle.plan.specs.Run.{value_at, cast_leaf, cast_value, map_values, on_struct, on_list, on_array, eval, evals, clean, clean_all_of}
use Rattle.plan.specs.code.Fits.{FitsOver, over-null, over-number, over-text, over-datetime, over-struct, over-list, over-array, FitsAllOver}
use Rattle.plan.specs.code.Fits.{FitsEachOver, over_none, over-more}
use Rattle.plan.specs.Reach.{Scope, top, in_struct_lem, in_element, parts, values_in, value_in, SelectorAt, s_here, s_there, Beyond, Overflows, o_cast, o_further}
use Rattle.plan.specs.Reach.{o_rename, o_struct, o_list, o_array, o_field, o_element, ReachesOverflow}
use Rattle.plan.proofs.Results.{true≠false}
use Rattle.plan.proofs.Typed.{Typed, t_position, t_constant, t_cast, t_rename, t_struct, t_list, t_array, TypedAll, t_nil, t_cons}
use Rattle.plan.proofs.Over.{fits-clean, all-clean, all-over}
use Rattle.plan.proofs.Leaves.{integer-kind, float-kind, integers-convert, integer-float-convert, floats_convert}
use Rattle.plan.proofs.Preserve.{eval-over, only}
use Rattle.plan.proofs.Reading.{map_at}
use Rattle.std.specs.Prelude.{Option, Some, None}

-- ---- where `voverflow` stands in a value

mutual
  data OverAt : Value → List ℕ → Type 0 where
    itself : OverAt voverflow []
    in_struct : {vs : Values} {k : ℕ} {p : List ℕ} → OverIn vs k p → OverAt (vstruct vs) (k ∷ p)
    in_list : {vs : Values} {k : ℕ} {p : List ℕ} → OverIn vs k p → OverAt (vlist vs) (k ∷ p)
    in_array : {vs : Values} {k : ℕ} {p : List ℕ} → OverIn vs k p → OverAt (varray vs) (k ∷ p)

  data OverIn : Values → ℕ → List ℕ → Type 0 where
    first : {v : Value} {vs : Values} {p : List ℕ} → OverAt v p → OverIn (vcons v vs) 0 p
    later : {v : Value} {vs : Values} {k : ℕ} {p : List ℕ} → OverIn vs k p → OverIn (vcons v vs) (suc k) p

record SomeAt (v : Value) : Type 0 where
  path : List ℕ
  over : OverAt v path

record SomeIn (vs : Values) : Type 0 where
  index : ℕ
  path : List ℕ
  over : OverIn vs index path

-- a test of two that fails
either : (a : Bool) {b : Bool} {X : Type 0} → (a && b) ≡ false → (a ≡ false → X) → (b ≡ false → X) → X
either true e f g = g e
either false e f g = f refl

mutual
  unfolding clean clean_all_of

  unclean : (v : Value) → clean v ≡ false → SomeAt v
  unclean vnull e = clash (cc)
  unclean (vnumber k n) e = clash (cc)
  unclean (vtext b) e = clash (cc)
  unclean voverflow e = record { path = []; over = itself }
  unclean (vstruct vs) e = let x = unclean_all vs e in record { path = x.index ∷ x.path; over = in_struct x.over }
  unclean (vlist vs) e = let x = unclean_all vs e in record { path = x.index ∷ x.path; over = in_list x.over }
  unclean (varray vs) e = let x = unclean_all vs e in record { path = x.index ∷ x.path; over = in_array x.over }

  unclean_all : (vs : Values) → clean_all_of vs ≡ false → SomeIn vs
  unclean_all vnil e = clash (cc)
  unclean_all (vcons v vs) e =
      either (clean v) e (λ h. let x = unclean v h in record { index = 0; path = x.path; over = first x.over })
      (λ h. let x = unclean_all vs h in record { index = suc x.index; path = x.path; over = later x.over })

and_left : {a : Bool} (b : Bool) → a ≡ false → (a && b) ≡ false
and_left b p = rw p

and_right : (a : Bool) {b : Bool} → b ≡ false → (a && b) ≡ false
and_right true p = p
and_right false p = refl

mutual
  unfolding clean clean_all_of

  over_unclean : {v : Value} {p : List ℕ} → OverAt v p → clean v ≡ false
  over_unclean itself = refl
  over_unclean (in_struct x) = over_unclean_all x
  over_unclean (in_list x) = over_unclean_all x
  over_unclean (in_array x) = over_unclean_all x

  over_unclean_all : {vs : Values} {k : ℕ} {p : List ℕ} → OverIn vs k p → clean_all_of vs ≡ false
  over_unclean_all (first {vs = vs} x) = and_left (clean_all_of vs) (over_unclean x)
  over_unclean_all (later {v = v} x) = and_right (clean v) (over_unclean_all x)

-- a clean value has none
never : {X : Type 0} {v : Value} {p : List ℕ} → clean v ≡ true → OverAt v p → X
never e x = true≠false e (over_unclean x)

never_number : {X : Type 0} {v : Value} {k : Leaf} {n : ℕ} {p : List ℕ} → v ≡ vnumber k n → OverAt v p → X
unfolding clean
never_number e x = never (rw e) x

at_in : (vs : Values) (k : ℕ) {p : List ℕ} → OverAt (value_at vs k) p → OverIn vs k p
unfolding value_at clean
at_in vnil k x = never refl x
at_in (vcons v vs) zero x = first x
at_in (vcons v vs) (suc k) x = later (at_in vs k x)

in_at : {vs : Values} {k : ℕ} {p : List ℕ} → OverIn vs k p → OverAt (value_at vs k) p
unfolding value_at
in_at (first x) = x
in_at (later x) = in_at x

none_in : {X : Type 0} {k : ℕ} {p : List ℕ} → OverIn vnil k p → X
unfolding clean_all_of
none_in x = true≠false refl (over_unclean_all x)

-- the parts of a value
of_parts : (v : Value) {k : ℕ} {p : List ℕ} → OverIn (parts v) k p → OverAt v (k ∷ p)
unfolding parts
of_parts vnull x = none_in x
of_parts (vnumber i n) x = none_in x
of_parts (vtext b) x = none_in x
of_parts voverflow x = none_in x
of_parts (vstruct vs) x = in_struct x
of_parts (vlist vs) x = in_list x
of_parts (varray vs) x = in_array x

in_parts : {v : Value} {k : ℕ} {p : List ℕ} → OverAt v (k ∷ p) → OverIn (parts v) k p
unfolding parts
in_parts (in_struct x) = x
in_parts (in_list x) = x
in_parts (in_array x) = x

-- ---- a cast that is reached overflows in the output

cast-keeps : (t : DataType) {v : Value} {p : List ℕ} → OverAt v p → OverAt (cast_value t v) p
unfolding cast_value cast_leaf
cast-keeps (leaf l) itself = itself
cast-keeps (leaf l) (in_struct x) = in_struct x
cast-keeps (leaf l) (in_list x) = in_list x
cast-keeps (leaf l) (in_array x) = in_array x
cast-keeps (struct fs) x = x
cast-keeps (list t) x = x
cast-keeps (array w t) x = x

cast-made : (u v : TimeUnit) (z : Bytes) (n f : ℕ) {x : Value} → x ≡ vnumber (Datetime u) n → unit_change u v ≡ multiply f → Beyond (signed 64 n *ℤ pos f)
    → cast_value (leaf (datetime v z)) x ≡ voverflow
unfolding cast_value cast_leaf convert convert_as rescaled counted
cast-made u v z n f e q b = rw (e, q, ← finer_large (signed 64 n) (signed 64 n *ℤ pos f) f refl b.beyond)

over-is : {v : Value} → v ≡ voverflow → OverAt v []
over-is e = rw e itself

evals_in : (ρ : Values) {ss : Selectors} {k : ℕ} {x : Selector} {p : List ℕ} → SelectorAt ss k x → OverAt (eval ρ x) p → OverIn (evals ρ ss) k p
unfolding evals
evals_in ρ s_here o = first o
evals_in ρ (s_there a) o = later (evals_in ρ a o)

struct_in : (f : Values → Values) {v : Value} {vs : Values} {k : ℕ} {p : List ℕ} → v ≡ vstruct vs → OverIn (f (parts v)) k p → OverAt (on_struct f v) (k ∷ p)
unfolding on_struct parts
struct_in f {v} {vs} {k} {p} e o =
    let x : OverIn (f vs) k p = rw e at o in
    rw e (in_struct x)

list_in : (f : Value → Value) {v : Value} {vs : Values} (j : ℕ) {p : List ℕ} → v ≡ vlist vs → j < count_values vs → OverAt (f (value_at (parts v) j)) p →
    OverAt (on_list f v) (j ∷ p)
unfolding on_list parts
list_in f {v} {vs} j {p} e h o =
    let x : OverAt (f (value_at vs j)) p = rw e at o in
    rw e (in_list {p = p} (at_in (map_values f vs) j (rw (map_at f vs j h) x)))

array_in : (f : Value → Value) {v : Value} {vs : Values} (j : ℕ) {p : List ℕ} → v ≡ varray vs → j < count_values vs → OverAt (f (value_at (parts v) j)) p
    → OverAt (on_array f v) (j ∷ p)
unfolding on_array parts
array_in f {v} {vs} j {p} e h o =
    let x : OverAt (f (value_at vs j)) p = rw e at o in
    rw e (in_array {p = p} (at_in (map_values f vs) j (rw (map_at f vs j h) x)))

module _ (ρ : Values) where
  reached-over : {E : Scope} {s : Selector} {p : List ℕ} → Overflows ρ E s p → OverAt (value_in ρ E s) p
  unfolding value_in values_in eval value_at
  reached-over (o_cast {E} {s} {u} {v} {z} {n} {f} e q b) = over-is (cast-made u v z n f e q b)
  reached-over (o_further {t = t} o) = cast-keeps t (reached-over o)
  reached-over (o_rename o) = reached-over o
  reached-over (o_struct {E} {s} {ss = ss} e a o) = struct_in (λ vs. evals vs ss) e (evals_in (parts (value_in ρ E s)) a (reached-over o))
  reached-over (o_list {e = x} {j = j} e h o) = list_in (λ v. eval (vcons v vnil) x) j e h (reached-over o)
  reached-over (o_array {e = x} {j = j} e h o) = array_in (λ v. eval (vcons v vnil) x) j e h (reached-over o)
  reached-over (o_field o) = in_at (in_parts (reached-over o))
  reached-over (o_element {k = k} e o) = rw e (in_at (in_parts (reached-over o)))

-- ---- what overflows in the output is reached

-- only a strict cast multiplies
multiply_strict : (u v : TimeUnit) {f : ℕ} → unit_change u v ≡ multiply f → unit_option u v ≡ Strict
multiply_strict Nanoseconds Nanoseconds e = clash (cc)
multiply_strict Nanoseconds Microseconds e = clash (cc)
multiply_strict Nanoseconds Milliseconds e = clash (cc)
multiply_strict Microseconds Nanoseconds e = refl
multiply_strict Microseconds Microseconds e = clash (cc)
multiply_strict Microseconds Milliseconds e = clash (cc)
multiply_strict Milliseconds Nanoseconds e = refl
multiply_strict Milliseconds Microseconds e = refl
multiply_strict Milliseconds Milliseconds e = clash (cc)

-- what overflows in the result of a cast came with its input, or the cast made it
data CastOver (x : Value) : DataType → CastOption → List ℕ → Type 0 where
  came : {t : DataType} {o : CastOption} {p : List ℕ} → OverAt x p → CastOver x t o p
  made : {u v : TimeUnit} {z : Bytes} {n f : ℕ} → x ≡ vnumber (Datetime u) n → unit_change u v ≡ multiply f → Beyond (signed 64 n *ℤ pos f) → CastOver x
      (leaf (datetime v z)) Strict []

empty-path : {v : Value} {p : List ℕ} → v ≡ voverflow → OverAt v p → p ≡ []
empty-path e o = go (rw e at o)
  where
    go : {p : List ℕ} → OverAt voverflow p → p ≡ []
    go itself = refl

counted-made : (k : Leaf) (f : Option ℕ) {p : List ℕ} → OverAt (counted k f) p → (f ≡ None) × (p ≡ [])
unfolding counted
counted-made k (Some n) o = never_number refl o
counted-made k None o = (refl, empty-path refl o)

rescaled-made : (u v : TimeUnit) (z : Bytes) (n : ℕ) {x : Value} {o : CastOption} {p : List ℕ} (c : UnitChange) → unit_change u v ≡ c → x ≡ vnumber
    (Datetime u) n → o ≡ unit_option u v
    → OverAt (rescaled c (Datetime v) n) p → CastOver x (leaf (datetime v z)) o p
unfolding rescaled
rescaled-made u v z n (multiply f) q e s a =
    let (l, r) = counted-made (Datetime v) (finer (signed 64 n) f) a in
    rw (s ∙ multiply_strict u v q, r) (made e q (record { beyond = large_is (signed 64 n) f l }))
rescaled-made u v z n (divide f) q e s a = never_number refl a
rescaled-made u v z n keep q e s a = never_number refl a

number-made : {l m : LeafType} {o : CastOption} → Casts l m o → (n : ℕ) {x : Value} {p : List ℕ} → n < patterns_of (leaf_of l) → x ≡ vnumber (leaf_of l) n
    → OverAt (convert (leaf_of l) (leaf_of m) n) p → CastOver x (leaf m) o p
unfolding convert convert_as
number-made (from_null ne) n h e a = absurd (omega arith)
number-made {l} {m} (integer-to-integer ne c d r) n h e a =
    let (x, q, k) = integers-convert (leaf_of l) (leaf_of m) n (integer-kind (leaf_of l) c) (integer-kind (leaf_of m) d) in never_number q a
number-made {l} {m} (integer_to_float_lem c d) n h e a =
    let (x, q, k) = integer-float-convert (leaf_of l) (leaf_of m) n (integer-kind (leaf_of l) c) (float-kind (leaf_of m) d) in never_number q a
number-made {l} {m} (float_to_float_lem ne c d) n h e a =
    let (x, q, k) = floats_convert (leaf_of l) (leaf_of m) n (float-kind (leaf_of l) c) (float-kind (leaf_of m) d) in never_number q a
number-made (datetime-to-datetime {u} {v} {z} {w} ne s) n h e a = rescaled-made u v w n (unit_change u v) refl e s a
number-made category_to-string n h e a = absurd (omega arith)
number-made (decimal-to-decimal w) n h e a = never_number refl a

-- only a strict cast overflows
pub overflow_strict : (l m : LeafType) (o : CastOption) → cast_passes l m o ≡ true → (n : ℕ) → n < patterns_of (leaf_of l) → convert (leaf_of l) (leaf_of m)
    n ≡ voverflow → o ≡ Strict
overflow_strict l m o e n h q = strict (number-made (passes-casts l m o e) n h refl (over-is q))
  where
    strict : {t : DataType} {o : CastOption} {p : List ℕ} → CastOver (vnumber (leaf_of l) n) t o p → o ≡ Strict
    strict (came a) = never_number refl a
    strict (made e q b) = refl

leaf-made : {l m : LeafType} {o : CastOption} {x : Value} {p : List ℕ} → Casts l m o → FitsOver (leaf l) x → OverAt (cast_leaf (leaf_of m) x) p → CastOver
    x (leaf m) o p
unfolding cast_leaf clean
leaf-made c over-null a = never refl a
leaf-made {l} {m} c (over-number {k = k} {n = n} e h t) a = number-made c n (rw e h) (rw e) (rw e a)
leaf-made c (over-text e h) a = never refl a
leaf-made c (over-datetime e) a = came a

cast_source : (t u : DataType) (o : CastOption) {x : Value} {p : List ℕ} → cast_fits_of t u o ≡ true → FitsOver t x → OverAt (cast_value u x) p → CastOver x u o p
unfolding cast_fits_of cast_value
cast_source (leaf l) (leaf m) o e h a = leaf-made (passes-casts l m o e) h a
cast_source (leaf l) (struct gs) o e h a = came a
cast_source (leaf l) (list u) o e h a = came a
cast_source (leaf l) (array w u) o e h a = came a
cast_source (struct fs) u o e h a = true≠false e refl
cast_source (list t) u o e h a = true≠false e refl
cast_source (array w t) u o e h a = true≠false e refl

-- the field or element of a mapping's result
record StructSource (fs : Fields) (f : Values → Values) (x : Value) (p : List ℕ) : Type 0 where
  values : Values
  index : ℕ
  path : List ℕ
  is : x ≡ vstruct values
  splits : p ≡ index ∷ path
  over : OverIn (f values) index path
  fits : FitsAllOver fs values

struct_source : {fs : Fields} (f : Values → Values) {x : Value} {p : List ℕ} → FitsOver (struct fs) x → OverAt (on_struct f x) p → StructSource fs f x p
unfolding on_struct clean
struct_source f over-null a = never refl a
struct_source {fs} f (over-struct {vs = vs} h) a = go a
  where
    go : {p : List ℕ} → OverAt (vstruct (f vs)) p → StructSource fs f (vstruct vs) p
    go (in_struct o) = record { values = vs; index = _; path = _; is = refl; splits = refl; over = o; fits = h }

each_at : {t : DataType} {vs : Values} → FitsEachOver t vs → (j : ℕ) → FitsOver t (value_at vs j)
unfolding value_at
each_at over_none j = over-null
each_at (over-more h hs) zero = h
each_at (over-more h hs) (suc j) = each_at hs j

mapped_at : (f : Value → Value) (vs : Values) {j : ℕ} {p : List ℕ} → OverIn (map_values f vs) j p → (j < count_values vs) × OverAt (f (value_at vs j)) p
unfolding map_values count_values value_at
mapped_at f vnil o = none_in o
mapped_at f (vcons v vs) (first o) = (omega arith, o)
mapped_at f (vcons v vs) (later o) = let (h, x) = mapped_at f vs o in (omega arith, x)

-- of a list or an array
record EachSource (t : DataType) (f : Value → Value) (x y : Value) (vs : Values) (p : List ℕ) : Type 0 where
  index : ℕ
  path : List ℕ
  is : x ≡ y
  splits : p ≡ index ∷ path
  below : index < count_values vs
  over : OverAt (f (value_at vs index)) path
  fits : FitsOver t (value_at vs index)

record ListSource (t : DataType) (f : Value → Value) (x : Value) (p : List ℕ) : Type 0 where
  values : Values
  each : EachSource t f x (vlist values) values p

record ArraySource (t : DataType) (f : Value → Value) (x : Value) (p : List ℕ) : Type 0 where
  values : Values
  each : EachSource t f x (varray values) values p

list_source : {t : DataType} (f : Value → Value) {x : Value} {p : List ℕ} → FitsOver (list t) x → OverAt (on_list f x) p → ListSource t f x p
unfolding on_list clean
list_source f over-null a = never refl a
list_source {t} f (over-list {vs = vs} c h) a = go a
  where
    go : {p : List ℕ} → OverAt (vlist (map_values f vs)) p → ListSource t f (vlist vs) p
    go (in_list {k = k} o) =
        let (l, x) = mapped_at f vs o in
        record { values = vs; each = record { index = k; path = _; is = refl; splits = refl; below = l; over = x; fits = each_at h k } }

array_source : {w : ℕ} {t : DataType} (f : Value → Value) {x : Value} {p : List ℕ} → FitsOver (array w t) x → OverAt (on_array f x) p → ArraySource t f x p
unfolding on_array clean
array_source f over-null a = never refl a
array_source {w} {t} f (over-array {vs = vs} c h) a = go a
  where
    go : {p : List ℕ} → OverAt (varray (map_values f vs)) p → ArraySource t f (varray vs) p
    go (in_array {k = k} o) =
        let (l, x) = mapped_at f vs o in
        record { values = vs; each = record { index = k; path = _; is = refl; splits = refl; below = l; over = x; fits = each_at h k } }

-- the one value of an element
single_at : {v : Value} (k : ℕ) {p : List ℕ} → OverAt (value_at (vcons v vnil) k) p → (k ≡ 0) × OverAt v p
unfolding value_at clean
single_at zero o = (refl, o)
single_at (suc k) o = never refl o

record Selected (ρ : Values) (E : Scope) (ss : Selectors) (k : ℕ) (p : List ℕ) : Type 0 where
  selector : Selector
  selects : SelectorAt ss k selector
  overflows : Overflows ρ E selector p

module _ (ρ : Values) where
  -- what a position gives in E is reached
  abbrev Sourced : Scope → Type 0
  Sourced E = (k : Position) (p : List ℕ) → OverAt (value_at (values_in ρ E) k.0) p → Overflows ρ E (position k) p

  abbrev Traced : Scope → Selector → Type 0
  Traced E s = (p : List ℕ) → OverAt (value_in ρ E s) p → Overflows ρ E s p

  -- inside a mapping whose input is traced
  field-sourced : (E : Scope) (s : Selector) → Traced E s → Sourced (in_struct_lem E s)
  unfolding values_in value_in
  field-sourced E s f k p o = o_field (f (k.0 ∷ p) (of_parts (value_in ρ E s) (at_in (parts (value_in ρ E s)) k.0 o)))

  element-sourced : (E : Scope) (s : Selector) (j : ℕ) → Traced E s → Sourced (in_element E s j)
  unfolding values_in value_in
  element-sourced E s j f k p o =
      let (z, x) = single_at k.0 o in
      o_element z (f (j ∷ p) (of_parts (value_in ρ E s) (at_in (parts (value_in ρ E s)) j x)))

  cast-traced : {E : Scope} {s : Selector} {u : DataType} {o : CastOption} {p : List ℕ} → Traced E s → CastOver (value_in ρ E s) u o p → Overflows ρ E
      (cast s u o) p
  cast-traced f (came a) = o_further (f _ a)
  cast-traced f (made e q b) = o_cast e q b

  -- a mapping's parts, at the values that it was found to have
  parts_are : (E : Scope) (s : Selector) {x : Value} → value_in ρ E s ≡ x → values_in ρ (in_struct_lem E s) ≡ parts x
  unfolding values_in value_in
  parts_are E s e = ap parts e

  element-is : (E : Scope) (s : Selector) (j : ℕ) {x : Value} → value_in ρ E s ≡ x → values_in ρ (in_element E s j) ≡ vcons (value_at (parts x) j) vnil
  unfolding values_in value_in
  element-is E s j e = ap (λ (x : Value). vcons (value_at (parts x) j) vnil) e

  mutual
    unfolding value_in eval evals parts

    over-reached : {Γ : Fields} {s : Selector} {n : Bytes} {t : DataType} → Typed Γ s n t → (E : Scope) → FitsAllOver Γ (values_in ρ E) → Sourced E → Traced E s
    over-reached (t_position {k = k} a) E h f p o = f k p o
    over-reached (t_constant c) E h f p o = never (fits-clean c) o
    over-reached (t_cast {t = t} {u = u} {o = c} d r b) E h f p o = cast-traced (over-reached d E h f) (cast_source t u c r (eval-over d h) o)
    over-reached (t_rename d b) E h f p o = o_rename (over-reached d E h f p o)
    over-reached (t_struct {s = s} {ss = ss} d ds b) E h f p o =
        let S = struct_source (λ vs. evals vs ss) (eval-over d h) o in
        let q = parts_are E s S.is in
        let X = overs-reached ds (in_struct_lem E s) (rw q S.fits) (field-sourced E s (over-reached d E h f)) S.index S.path (rw q S.over) in
        rw S.splits (o_struct S.is X.selects X.overflows)
    over-reached (t_list {s = s} {e = e} d x b) E h f p o =
        let S = list_source (λ v. eval (vcons v vnil) e) (eval-over d h) o in
        let T = S.each in
        let q = element-is E s T.index T.is in
        rw T.splits (o_list T.is T.below (over-reached x (in_element E s T.index) (rw q (only T.fits))
        (element-sourced E s T.index (over-reached d E h f)) T.path (rw q T.over)))
    over-reached (t_array {s = s} {e = e} d x b) E h f p o =
        let S = array_source (λ v. eval (vcons v vnil) e) (eval-over d h) o in
        let T = S.each in
        let q = element-is E s T.index T.is in
        rw T.splits (o_array T.is T.below (over-reached x (in_element E s T.index) (rw q (only T.fits))
        (element-sourced E s T.index (over-reached d E h f)) T.path (rw q T.over)))

    overs-reached : {Γ : Fields} {ss : Selectors} {gs : Fields} → TypedAll Γ ss gs → (E : Scope) → FitsAllOver Γ (values_in ρ E) → Sourced E
        → (k : ℕ) (p : List ℕ) → OverIn (evals (values_in ρ E) ss) k p → Selected ρ E ss k p
    overs-reached t_nil E h f k p o = none_in o
    overs-reached (t_cons d ds) E h f k p (first o) = record { selector = _; selects = s_here; overflows = over-reached d E h f p o }
    overs-reached (t_cons d ds) E h f k p (later o) = let X = overs-reached ds E h f _ p o in record
        { selector = X.selector; selects = s_there X.selects; overflows = X.overflows }

-- ---- a plan over a record

-- a record has none
top_sourced : {Γ : Fields} {ρ : Values} → FitsAll Γ ρ → Sourced ρ top
unfolding values_in
top_sourced {ρ = ρ} h k p o = true≠false (all-clean h) (over_unclean_all (at_in ρ k.0 o))

module _ {Γ Δ : Fields} {ss : Selectors} {ρ : Values} (d : TypedAll Γ ss Δ) (h : FitsAll Γ ρ) where
  reaches : clean_all_of (evals ρ ss) ≡ false → ReachesOverflow ρ ss
  unfolding values_in
  reaches e =
      let x = unclean_all (evals ρ ss) e in
      let X = overs-reached ρ d top (all-over h) (top_sourced h) x.index x.path x.over in
      record { column = x.index; selector = X.selector; selects = X.selects; path = x.path; overflows = X.overflows }

  reaches-unclean : ReachesOverflow ρ ss → clean_all_of (evals ρ ss) ≡ false
  unfolding values_in value_in
  reaches-unclean r = over_unclean_all (evals_in ρ r.selects (reached-over ρ r.overflows))

  pub unclean_reaches : (clean_all_of (evals ρ ss) ≡ false) ↔ ReachesOverflow ρ ss
  unclean_reaches = (reaches, reaches-unclean)
