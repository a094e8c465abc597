-- An output is clean exactly where it is the same whatever the casts give that overflow. Assumes nothing.
use Prim.Native.Nat.{ℕ, zero, suc}
use mathlib.Core.Path.{◌≡◌, refl, ap, ap₂, ◌∙◌}
use mathlib.Core.Bool.{true}
use mathlib.Core.Logic.{◌↔◌}
use Rattle.layout.specs.Bytes.{Bytes}
use Rattle.layout.specs.Tree.{leaf_of, DataType, leaf, struct, list, array}
use Rattle.layout.specs.declared.leaf.Leaf.{Leaf}
use Rattle.layout.proofs.Ways.{clash}
use Rattle.values.specs.Value.{Value, vnull, vnumber, vtext, voverflow, vstruct, vlist, varray, Values, vnil, vcons}
use Rattle.plan.specs.Selector.{Selector, position, constant, cast, rename, struct_mapping, list_mapping, array_mapping, Selectors, snil, scons}
use Rattle.numeric.specs.Integers.{signed}
use Rattle.numeric.specs.Times.{finer}
use Rattle.rules.specs.declared.kinds.Class.{Class}
use Rattle.rules.specs.Classes.{class_of}
use Rattle.plan.specs.Convert.{UnitChange, multiply, divide, keep, unit_change, counted, rescaled, convert_as, convert}
use Rattle.plan.specs.Run.{value_at, cast_leaf, cast_value, map_values, on_struct, on_list, on_array, eval, evals, clean, clean_all_of}
use Rattle.plan.specs.code.Fallback.{Fallback, unless_over, cast_leaf_with, cast_value_with, eval_with, evals_with}
use Rattle.plan.specs.code.Formed.{Formed, f_position, f_constant, f_cast, f_rename, f_struct, f_list, f_array, FormedAll, f_nil, f_cons}
use Rattle.plan.proofs.Results.{both, and-true}
use Rattle.plan.proofs.Over.{fits-clean}
use Rattle.std.specs.Prelude.{Option, Some, None}

-- ---- equal but where the first has `voverflow`

mutual
  data Like : Value → Value → Type 0 where
    l_over : {w : Value} → Like voverflow w
    l_null : Like vnull vnull
    l_number : {k : Leaf} {n : ℕ} → Like (vnumber k n) (vnumber k n)
    l_text : {b : Bytes} → Like (vtext b) (vtext b)
    l_struct : {vs ws : Values} → LikeAll vs ws → Like (vstruct vs) (vstruct ws)
    l_list : {vs ws : Values} → LikeAll vs ws → Like (vlist vs) (vlist ws)
    l_array : {vs ws : Values} → LikeAll vs ws → Like (varray vs) (varray ws)

  data LikeAll : Values → Values → Type 0 where
    l_nil : LikeAll vnil vnil
    l_cons : {v w : Value} {vs ws : Values} → Like v w → LikeAll vs ws → LikeAll (vcons v vs) (vcons w ws)

mutual
  like_refl : (v : Value) → Like v v
  like_refl vnull = l_null
  like_refl (vnumber k n) = l_number
  like_refl (vtext b) = l_text
  like_refl voverflow = l_over
  like_refl (vstruct vs) = l_struct (like_all_refl vs)
  like_refl (vlist vs) = l_list (like_all_refl vs)
  like_refl (varray vs) = l_array (like_all_refl vs)

  like_all_refl : (vs : Values) → LikeAll vs vs
  like_all_refl vnil = l_nil
  like_all_refl (vcons v vs) = l_cons (like_refl v) (like_all_refl vs)

mutual
  unfolding clean clean_all_of

  clean_like : {v w : Value} → Like v w → clean v ≡ true → v ≡ w
  clean_like l_over e = clash (cc)
  clean_like l_null e = refl
  clean_like l_number e = refl
  clean_like l_text e = refl
  clean_like (l_struct h) e = ap vstruct (clean_all_like h e)
  clean_like (l_list h) e = ap vlist (clean_all_like h e)
  clean_like (l_array h) e = ap varray (clean_all_like h e)

  clean_all_like : {vs ws : Values} → LikeAll vs ws → clean_all_of vs ≡ true → vs ≡ ws
  clean_all_like l_nil e = refl
  clean_all_like (l_cons {v} h hs) e = let (p, q) = both (clean v) e in ap₂ vcons (clean_like h p) (clean_all_like hs q)

at_like : {vs ws : Values} → LikeAll vs ws → (k : ℕ) → Like (value_at vs k) (value_at ws k)
unfolding value_at
at_like l_nil k = l_null
at_like (l_cons h hs) zero = h
at_like (l_cons h hs) (suc k) = at_like hs k

unless_like : (v w : Value) → Like v (unless_over v w)
unfolding unless_over
unless_like vnull w = l_null
unless_like (vnumber k n) w = l_number
unless_like (vtext b) w = l_text
unless_like voverflow w = l_over
unless_like (vstruct vs) w = like_refl (vstruct vs)
unless_like (vlist vs) w = like_refl (vlist vs)
unless_like (varray vs) w = like_refl (varray vs)

leaf_like : (c : Fallback) (k : Leaf) {v w : Value} → Like v w → Like (cast_leaf k v) (cast_leaf_with c k w)
unfolding cast_leaf cast_leaf_with
leaf_like c k l_over = l_over
leaf_like c k l_null = l_null
leaf_like c k (l_number {k = i} {n = n}) = unless_like (convert i k n) (c i k n)
leaf_like c k l_text = l_text
leaf_like c k (l_struct h) = l_struct h
leaf_like c k (l_list h) = l_list h
leaf_like c k (l_array h) = l_array h

cast_like : (c : Fallback) (t : DataType) {v w : Value} → Like v w → Like (cast_value t v) (cast_value_with c t w)
unfolding cast_value cast_value_with
cast_like c (leaf l) h = leaf_like c (leaf_of l) h
cast_like c (struct fs) h = h
cast_like c (list t) h = h
cast_like c (array w t) h = h

struct_like : (f g : Values → Values) → ((vs ws : Values) → LikeAll vs ws → LikeAll (f vs) (g ws)) → {v w : Value} → Like v w → Like (on_struct f v)
    (on_struct g w)
unfolding on_struct
struct_like f g h l_over = l_over
struct_like f g h l_null = l_null
struct_like f g h l_number = l_number
struct_like f g h l_text = l_text
struct_like f g h (l_struct x) = l_struct (h _ _ x)
struct_like f g h (l_list x) = l_list x
struct_like f g h (l_array x) = l_array x

map_like : (f g : Value → Value) → ((v w : Value) → Like v w → Like (f v) (g w)) → {vs ws : Values} → LikeAll vs ws → LikeAll (map_values f vs) (map_values g ws)
unfolding map_values
map_like f g h l_nil = l_nil
map_like f g h (l_cons x xs) = l_cons (h _ _ x) (map_like f g h xs)

list_like : (f g : Value → Value) → ((v w : Value) → Like v w → Like (f v) (g w)) → {v w : Value} → Like v w → Like (on_list f v) (on_list g w)
unfolding on_list
list_like f g h l_over = l_over
list_like f g h l_null = l_null
list_like f g h l_number = l_number
list_like f g h l_text = l_text
list_like f g h (l_struct x) = l_struct x
list_like f g h (l_list x) = l_list (map_like f g h x)
list_like f g h (l_array x) = l_array x

array_like : (f g : Value → Value) → ((v w : Value) → Like v w → Like (f v) (g w)) → {v w : Value} → Like v w → Like (on_array f v) (on_array g w)
unfolding on_array
array_like f g h l_over = l_over
array_like f g h l_null = l_null
array_like f g h l_number = l_number
array_like f g h l_text = l_text
array_like f g h (l_struct x) = l_struct x
array_like f g h (l_list x) = l_list x
array_like f g h (l_array x) = l_array (map_like f g h x)

module _ (c : Fallback) where
  mutual
    unfolding eval evals eval_with evals_with

    eval-like : (s : Selector) {ρ σ : Values} → LikeAll ρ σ → Like (eval ρ s) (eval_with c σ s)
    eval-like (position k) h = at_like h k.0
    eval-like (constant n t v) h = like_refl v
    eval-like (cast s t o) h = cast_like c t (eval-like s h)
    eval-like (rename s n) h = eval-like s h
    eval-like (struct_mapping s ss) h = struct_like _ _ (λ vs ws x. evals-like ss x) (eval-like s h)
    eval-like (list_mapping s e) h = list_like _ _ (λ v w x. eval-like e (l_cons x l_nil)) (eval-like s h)
    eval-like (array_mapping s e) h = array_like _ _ (λ v w x. eval-like e (l_cons x l_nil)) (eval-like s h)

    evals-like : (ss : Selectors) {ρ σ : Values} → LikeAll ρ σ → LikeAll (evals ρ ss) (evals_with c σ ss)
    evals-like snil h = l_nil
    evals-like (scons s ss) h = l_cons (eval-like s h) (evals-like ss h)

  -- a clean output is the same whatever the casts give that overflow
  pub clean→same : (ρ : Values) (ss : Selectors) → clean_all_of (evals ρ ss) ≡ true → evals ρ ss ≡ evals_with c ρ ss
  clean→same ρ ss e = clean_all_like (evals-like ss (like_all_refl ρ)) e

-- ---- an output without fallbacks is clean

unless_counted : (k : Leaf) (f : Option ℕ) (w : Value) → clean w ≡ true → clean (unless_over (counted k f) w) ≡ true
unfolding counted unless_over clean
unless_counted k (Some n) w h = refl
unless_counted k None w h = h

unless_rescaled : (c : UnitChange) (k : Leaf) (n : ℕ) (w : Value) → clean w ≡ true → clean (unless_over (rescaled c k n) w) ≡ true
unfolding rescaled unless_over clean
unless_rescaled (multiply f) k n w h = unless_counted k (finer (signed 64 n) f) w h
unless_rescaled (divide f) k n w h = refl
unless_rescaled keep k n w h = refl

unless_converted : (a b : Class) (k : Leaf) (n : ℕ) (w : Value) → clean w ≡ true → clean (unless_over (convert_as a b k n) w) ≡ true
unfolding convert_as unless_over clean
unless_converted (Class.Integer i) (Class.Integer j) k n w h = refl
unless_converted (Class.Integer i) (Class.Float g) k n w h = refl
unless_converted (Class.Integer i) (Class.Datetime v) k n w h = refl
unless_converted (Class.Integer i) Class.Other k n w h = refl
unless_converted (Class.Float f) (Class.Integer j) k n w h = refl
unless_converted (Class.Float f) (Class.Float g) k n w h = refl
unless_converted (Class.Float f) (Class.Datetime v) k n w h = refl
unless_converted (Class.Float f) Class.Other k n w h = refl
unless_converted (Class.Datetime u) (Class.Integer j) k n w h = refl
unless_converted (Class.Datetime u) (Class.Float g) k n w h = refl
unless_converted (Class.Datetime u) (Class.Datetime v) k n w h = unless_rescaled (unit_change u v) k n w h
unless_converted (Class.Datetime u) Class.Other k n w h = refl
unless_converted Class.Other b k n w h = refl

at-clean : (vs : Values) (k : ℕ) → clean_all_of vs ≡ true → clean (value_at vs k) ≡ true
unfolding value_at clean clean_all_of
at-clean vnil k h = refl
at-clean (vcons v vs) zero h = (both (clean v) h).0
at-clean (vcons v vs) (suc k) h = at-clean vs k (both (clean v) h).1

struct-clean : (f : Values → Values) (v : Value) → ((vs : Values) → clean_all_of vs ≡ true → clean_all_of (f vs) ≡ true) → clean v ≡ true → clean (on_struct f v) ≡ true
unfolding on_struct clean
struct-clean f vnull h e = e
struct-clean f (vnumber k n) h e = e
struct-clean f (vtext b) h e = e
struct-clean f voverflow h e = e
struct-clean f (vstruct vs) h e = h vs e
struct-clean f (vlist vs) h e = e
struct-clean f (varray vs) h e = e

map-clean : (f : Value → Value) (vs : Values) → ((v : Value) → clean v ≡ true → clean (f v) ≡ true) → clean_all_of vs ≡ true → clean_all_of (map_values f vs) ≡ true
unfolding map_values clean_all_of
map-clean f vnil h e = refl
map-clean f (vcons v vs) h e = let (p, q) = both (clean v) e in and-true (h v p) (map-clean f vs h q)

list-clean : (f : Value → Value) (v : Value) → ((v : Value) → clean v ≡ true → clean (f v) ≡ true) → clean v ≡ true → clean (on_list f v) ≡ true
unfolding on_list clean
list-clean f vnull h e = e
list-clean f (vnumber k n) h e = e
list-clean f (vtext b) h e = e
list-clean f voverflow h e = e
list-clean f (vstruct vs) h e = e
list-clean f (vlist vs) h e = map-clean f vs h e
list-clean f (varray vs) h e = e

array-clean : (f : Value → Value) (v : Value) → ((v : Value) → clean v ≡ true → clean (f v) ≡ true) → clean v ≡ true → clean (on_array f v) ≡ true
unfolding on_array clean
array-clean f vnull h e = e
array-clean f (vnumber k n) h e = e
array-clean f (vtext b) h e = e
array-clean f voverflow h e = e
array-clean f (vstruct vs) h e = e
array-clean f (vlist vs) h e = e
array-clean f (varray vs) h e = map-clean f vs h e

module _ (c : Fallback) (cl : (i k : Leaf) (n : ℕ) → clean (c i k n) ≡ true) where
  leaf-clean : (k : Leaf) (v : Value) → clean v ≡ true → clean (cast_leaf_with c k v) ≡ true
  unfolding cast_leaf_with convert clean
  leaf-clean k vnull e = e
  leaf-clean k (vnumber i n) e = unless_converted (class_of i) (class_of k) k n (c i k n) (cl i k n)
  leaf-clean k (vtext b) e = e
  leaf-clean k voverflow e = e
  leaf-clean k (vstruct vs) e = e
  leaf-clean k (vlist vs) e = e
  leaf-clean k (varray vs) e = e

  cast-clean : (t : DataType) (v : Value) → clean v ≡ true → clean (cast_value_with c t v) ≡ true
  unfolding cast_value_with
  cast-clean (leaf l) v e = leaf-clean (leaf_of l) v e
  cast-clean (struct fs) v e = e
  cast-clean (list t) v e = e
  cast-clean (array w t) v e = e

  mutual
    unfolding eval_with evals_with clean_all_of clean

    evalWith-clean : {s : Selector} → Formed s → (ρ : Values) → clean_all_of ρ ≡ true → clean (eval_with c ρ s) ≡ true
    evalWith-clean (f_position {k} b) ρ h = at-clean ρ k.0 h
    evalWith-clean (f_constant n t f) ρ h = fits-clean f
    evalWith-clean (f_cast {t = t} f g) ρ h = cast-clean t _ (evalWith-clean f ρ h)
    evalWith-clean (f_rename f g) ρ h = evalWith-clean f ρ h
    evalWith-clean (f_struct f b fs) ρ h = struct-clean _ _ (λ vs e. evalsWith-clean fs vs e) (evalWith-clean f ρ h)
    evalWith-clean (f_list f g) ρ h = list-clean _ _ (λ v e. evalWith-clean g (vcons v vnil) (and-true e refl)) (evalWith-clean f ρ h)
    evalWith-clean (f_array f g) ρ h = array-clean _ _ (λ v e. evalWith-clean g (vcons v vnil) (and-true e refl)) (evalWith-clean f ρ h)

    evalsWith-clean : {ss : Selectors} → FormedAll ss → (ρ : Values) → clean_all_of ρ ≡ true → clean_all_of (evals_with c ρ ss) ≡ true
    evalsWith-clean f_nil ρ h = refl
    evalsWith-clean (f_cons f fs) ρ h = and-true (evalWith-clean f ρ h) (evalsWith-clean fs ρ h)

-- the output of a record is clean exactly where no fallback has a say in it
pub clean_independent : (ρ : Values) (ss : Selectors) → FormedAll ss → clean_all_of ρ ≡ true → (clean_all_of (evals ρ ss) ≡ true) ↔
    ((c : Fallback) → evals ρ ss ≡ evals_with c ρ ss)
clean_independent ρ ss f h = (λ e c. clean→same c ρ ss e, λ k. ap clean_all_of (k nulls) ∙ evalsWith-clean nulls (λ i k n. null-clean) f ρ h)
  where
    nulls : Fallback
    nulls i k n = vnull

    null-clean : clean vnull ≡ true
    null-clean = unfold clean in refl
