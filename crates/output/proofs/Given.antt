-- Where the check has passed, what a selector gives is what it evaluates to. Assumes nothing.
use Prim.Native.Nat.{ℕ}
use mathlib.Core.Path.{◌≡◌, refl, ap, ◌∙◌}
use Rattle.layout.specs.Bytes.{Bytes}
use Rattle.layout.specs.Tree.{DataType, struct, list, array, Fields}
use Rattle.values.specs.Value.{Value, Values, vlist, varray, vstruct, vnil, vcons}
use Rattle.plan.specs.Selector.{Selector, Selectors}
use Rattle.plan.specs.Run.{cast_value, map_values, on_struct, on_list, on_array, eval, evals}
use Rattle.plan.specs.code.Fits.{FitsOver, over-null, over-struct, over-list, over-array, FitsAllOver, FitsEachOver, over_none, over-more}
use Rattle.plan.proofs.Typed.{Typed, t_position, t_constant, t_cast, t_rename, t_struct, t_list, t_array, TypedAll, t_nil, t_cons}
use Rattle.plan.proofs.Preserve.{eval-over, only}
use Rattle.walk.specs.code.Values.{opened, given, givens}

struct-given : {fs : Fields} {v : Value} (f g : Values → Values) → ((vs : Values) → FitsAllOver fs vs → f vs ≡ g vs) → FitsOver (struct fs) v
    → on_struct f v ≡ opened (λ vs. vstruct (g vs)) v
unfolding on_struct opened
struct-given f g h over-null = refl
struct-given f g h (over-struct a) = ap vstruct (h _ a)

each-given : {t : DataType} {vs : Values} (f g : Value → Value) → ((v : Value) → FitsOver t v → f v ≡ g v) → FitsEachOver t vs → map_values f vs ≡ map_values g vs
unfolding map_values
each-given f g h over_none = refl
each-given f g h (over-more {v = v} a b) = let p = h v a in let q = each-given f g h b in rw (p, q)

list-given : {t : DataType} {v : Value} (f g : Value → Value) → ((v : Value) → FitsOver t v → f v ≡ g v) → FitsOver (list t) v
    → on_list f v ≡ opened (λ vs. vlist (map_values g vs)) v
unfolding on_list opened
list-given f g h over-null = refl
list-given f g h (over-list c a) = ap vlist (each-given f g h a)

array-given : {w : ℕ} {t : DataType} {v : Value} (f g : Value → Value) → ((v : Value) → FitsOver t v → f v ≡ g v) → FitsOver (array w t) v
    → on_array f v ≡ opened (λ vs. varray (map_values g vs)) v
unfolding on_array opened
array-given f g h over-null = refl
array-given f g h (over-array c a) = ap varray (each-given f g h a)

mutual
  unfolding eval evals given givens

  pub eval-given : {Γ : Fields} {ρ : Values} {s : Selector} {n : Bytes} {t : DataType} → Typed Γ s n t → FitsAllOver Γ ρ → eval ρ s ≡ given ρ s
  eval-given (t_position a) h = refl
  eval-given (t_constant f) h = refl
  eval-given (t_cast {u = u} d r b) h = ap (cast_value u) (eval-given d h)
  eval-given (t_rename d b) h = eval-given d h
  eval-given (t_struct {ss = ss} d ds b) h =
      struct-given _ (λ vs. givens vs ss) (λ vs k. evals-given ds k) (eval-over d h) ∙ ap (opened (λ vs. vstruct (givens vs ss))) (eval-given d h)
  eval-given (t_list {e = x} d e b) h =
      list-given _ (λ v. given (vcons v vnil) x) (λ v k. eval-given e (only k)) (eval-over d h)
      ∙ ap (opened (λ vs. vlist (map_values (λ v. given (vcons v vnil) x) vs))) (eval-given d h)
  eval-given (t_array {e = x} d e b) h =
      array-given _ (λ v. given (vcons v vnil) x) (λ v k. eval-given e (only k)) (eval-over d h)
      ∙ ap (opened (λ vs. varray (map_values (λ v. given (vcons v vnil) x) vs))) (eval-given d h)

  evals-given : {Γ : Fields} {ρ : Values} {ss : Selectors} {fs : Fields} → TypedAll Γ ss fs → FitsAllOver Γ ρ → evals ρ ss ≡ givens ρ ss
  evals-given t_nil h = refl
  evals-given (t_cons d ds) h = let p = eval-given d h in let q = evals-given ds h in rw (p, q)
