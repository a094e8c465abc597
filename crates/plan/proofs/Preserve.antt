-- What passes the check gives what its type says. Assumes nothing.
use Prim.Native.Nat.{ℕ, suc, ◌<◌}
use mathlib.Core.Path.{◌≡◌, refl, ap, ◌∙◌}
use mathlib.Core.Bool.{true}
use native.Mathlib.Omega.{arith}
use Rattle.layout.specs.Bytes.{Bytes}
use Rattle.layout.specs.Tree.{LeafType, null, DataType, leaf, struct, list, array, Fields}
use Rattle.layout.proofs.Ways.{clash}
use Rattle.rules.specs.declared.outcome.CastOption.{CastOption}
use Rattle.rules.proofs.OfClass.{null-type}
use Rattle.rules.proofs.Casts.{passes-casts}
use Rattle.values.specs.Value.{Value, vnull, Values, vnil, vcons, count_values}
use Rattle.plan.specs.Selector.{Selector, Selectors}
use Rattle.plan.specs.Check.{element_of, cast_fits_of, from_null_of}
use Rattle.plan.specs.Run.{value_at, cast_value, map_values, on_struct, on_list, on_array, eval, evals}
use Rattle.plan.specs.code.Fits.{FitsOver, over-null, over-number, over-text, over-datetime, over-struct, over-list, over-array, FitsAllOver, over_nil}
use Rattle.plan.specs.code.Fits.{over_cons, FitsEachOver, over_none, over-more}
use Rattle.plan.proofs.Results.{true≠false, both}
use Rattle.plan.proofs.Typed.{At, here, there, Typed, t_position, t_constant, t_cast, t_rename, t_struct, t_list, t_array, TypedAll, t_nil, t_cons}
use Rattle.plan.proofs.Over.{fits-over}
use Rattle.plan.proofs.Leaves.{leaf-cast}

pub at-over : {Γ : Fields} {ρ : Values} {k : ℕ} {n : Bytes} {t : DataType} → At Γ k n t → FitsAllOver Γ ρ → FitsOver t (value_at ρ k)
unfolding value_at
at-over here (over_cons h hs) = h
at-over (there a) (over_cons h hs) = at-over a hs

-- ---- casts

-- null's only value is null
null-over : {v : Value} → FitsOver (leaf null) v → v ≡ vnull
null-over over-null = refl
null-over (over-number {n = n} e h t) = let z : n < 0 = rw (← e) at h in absurd (omega arith)
null-over (over-text e h) = clash (cc)
null-over (over-datetime e) = clash (cc)

from_null-over : (l : LeafType) (o : CastOption) {v : Value} → from_null_of l o ≡ true → FitsOver (leaf l) v → v ≡ vnull
unfolding from_null_of
from_null-over l o e h = null-over (rw (null-type l (both _ e).0) at h)

null-fits : {t : DataType} {v : Value} → v ≡ vnull → FitsOver t v
null-fits e = rw e over-null

cast_over : (t u : DataType) {v : Value} (o : CastOption) → cast_fits_of t u o ≡ true → FitsOver t v → FitsOver u (cast_value u v)
unfolding cast_fits_of cast_value
cast_over (leaf l) (leaf m) o e h = leaf-cast (passes-casts l m o e) h
cast_over (leaf l) (struct gs) o e h = null-fits (from_null-over l o e h)
cast_over (leaf l) (list u) o e h = null-fits (from_null-over l o e h)
cast_over (leaf l) (array w u) o e h = null-fits (from_null-over l o e h)
cast_over (struct fs) u o e h = true≠false e refl
cast_over (list t) u o e h = true≠false e refl
cast_over (array w t) u o e h = true≠false e refl

-- ---- mappings

struct_over : {fs gs : Fields} {v : Value} (f : Values → Values) → ((vs : Values) → FitsAllOver fs vs → FitsAllOver gs (f vs)) → FitsOver (struct fs) v
    → FitsOver (struct gs) (on_struct f v)
unfolding on_struct
struct_over f h over-null = over-null
struct_over f h (over-struct a) = over-struct (h _ a)

each-mapped : {t u : DataType} {vs : Values} (f : Value → Value) → ((v : Value) → FitsOver t v → FitsOver u (f v)) → FitsEachOver t vs → FitsEachOver u
    (map_values f vs)
unfolding map_values
each-mapped f h over_none = over_none
each-mapped f h (over-more a hs) = over-more (h _ a) (each-mapped f h hs)

pub count-mapped : (f : Value → Value) (vs : Values) → count_values (map_values f vs) ≡ count_values vs
unfolding map_values count_values
count-mapped f vnil = refl
count-mapped f (vcons v vs) = ap suc (count-mapped f vs)

list_over : {t u : DataType} {v : Value} (f : Value → Value) → ((v : Value) → FitsOver t v → FitsOver u (f v)) → FitsOver (list t) v → FitsOver (list u)
    (on_list f v)
unfolding on_list
list_over f h over-null = over-null
list_over f h (over-list {vs = vs} c a) = over-list {vs = map_values f vs} (rw (count-mapped f vs) c) (each-mapped f h a)

array_over : {w : ℕ} {t u : DataType} {v : Value} (f : Value → Value) → ((v : Value) → FitsOver t v → FitsOver u (f v)) → FitsOver (array w t) v →
    FitsOver (array w u) (on_array f v)
unfolding on_array
array_over f h over-null = over-null
array_over f h (over-array {vs = vs} c a) = over-array (count-mapped f vs ∙ c) (each-mapped f h a)

pub only : {t : DataType} {v : Value} → FitsOver t v → FitsAllOver (element_of t) (vcons v vnil)
only h = over_cons h over_nil

mutual
  unfolding eval evals

  pub eval-over : {Γ : Fields} {ρ : Values} {s : Selector} {n : Bytes} {t : DataType} → Typed Γ s n t → FitsAllOver Γ ρ → FitsOver t (eval ρ s)
  eval-over (t_position a) h = at-over a h
  eval-over (t_constant f) h = fits-over f
  eval-over (t_cast {t = t} {u = u} {o = o} d r b) h = cast_over t u o r (eval-over d h)
  eval-over (t_rename d b) h = eval-over d h
  eval-over (t_struct d ds b) h = struct_over _ (λ vs k. evals-over ds k) (eval-over d h)
  eval-over (t_list d e b) h = list_over _ (λ v k. eval-over e (only k)) (eval-over d h)
  eval-over (t_array d e b) h = array_over _ (λ v k. eval-over e (only k)) (eval-over d h)

  pub evals-over : {Γ : Fields} {ρ : Values} {ss : Selectors} {fs : Fields} → TypedAll Γ ss fs → FitsAllOver Γ ρ → FitsAllOver fs (evals ρ ss)
  evals-over t_nil h = over_nil
  evals-over (t_cons d ds) h = over_cons (eval-over d h) (evals-over ds h)
