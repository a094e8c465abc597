-- A constant counts as required where no null is found among its values at the place. Assumes nothing.
use Prim.Native.Nat.{ℕ, zero, suc}
use mathlib.Core.Path.{◌≡◌, refl, ap, ◌∙◌}
use mathlib.Core.Bool.{Bool, true, false, not, ◌||◌}
use mathlib.Core.List.{List}
use Rattle.layout.specs.Parser.{choose}
use Rattle.layout.specs.Tree.{DataType, Fields}
use Rattle.values.specs.Value.{Value, Values, vnil, vcons, is_null_value}
use Rattle.values.specs.Fits.{Fits, fit_null, fit_struct, fit_list, fit_array, FitsAll, all_nil, all_cons, FitsEach, each_nil, each_cons}
use Rattle.plan.specs.Result.{gives}
use Rattle.plan.specs.Check.{Column, column_at}
use Rattle.plan.specs.Run.{value_at}
use Rattle.plan.specs.Nullness.{Place, optional, required, of_value}
use Rattle.plan.specs.Marks.{allowed}
use Rattle.plan.specs.code.Paths.{append, gather, field_at, parts_at, values_at, any_null, collected}
use Rattle.plan.proofs.Results.{never_refused, gives_eq}
use Rattle.plan.proofs.Paths.{constant-place}
use Rattle.overflow.specs.code.Some.{any_of, some_part, some_sought}
use Rattle.overflow.specs.declared.scan.Sought.{Sought}
use Rattle.nullness.specs.code.Places.{Leads, l_here, l_field, l_list, l_array, fills_at}

chosen_or : (a b : Bool) → choose a true b ≡ (a || b)
unfolding choose
chosen_or true b = refl
chosen_or false b = refl

or_assoc : (a b c : Bool) → (a || (b || c)) ≡ ((a || b) || c)
or_assoc true b c = refl
or_assoc false b c = refl

or-false : (a : Bool) → (a || false) ≡ a
or-false true = refl
or-false false = refl

any_append : (vs ws : Values) → any_null (append vs ws) ≡ (any_null vs || any_null ws)
unfolding append any_null choose
any_append vnil ws = refl
any_append (vcons v vs) ws =
    chosen_or (is_null_value v) (any_null (append vs ws)) ∙ ap (λ (b : Bool). is_null_value v || b) (any_append vs ws) ∙ or_assoc (is_null_value v)
    (any_null vs) (any_null ws)
    ∙ ap (λ (b : Bool). b || any_null ws) (chosen-back (is_null_value v) (any_null vs))
  where
    chosen-back : (a b : Bool) → (a || b) ≡ choose a true b
    chosen-back true b = refl
    chosen-back false b = refl

module _ (f : Value → Values) (g : Value → Bool) where
  gather-any : {t : DataType} {vs : Values} → ((w : Value) → Fits t w → any_null (f w) ≡ g w) → FitsEach t vs → any_null (gather f vs) ≡ any_of g vs
  unfolding gather any_of any_null
  gather-any h each_nil = refl
  gather-any h (each_cons {v = v} {vs} a hs) = any_append (f v) (gather f vs) ∙ rw (h v a, gather-any h hs)

  field-any : {fs : Fields} {vs : Values} (k : ℕ) {c : Column} → ((w : Value) → Fits c.type w → any_null (f w) ≡ g w) → FitsAll fs vs → column_at fs k
      ≡ gives c
      → any_null (gather f (field_at vs k)) ≡ g (value_at vs k)
  unfolding gather field_at value_at column_at any_null
  field-any zero {c} h (all_cons {n} {t} {v = v} a hs) e =
      any_append (f v) vnil ∙ or-false (any_null (f v)) ∙ h v (rw (← gives_eq e) a)
  field-any (suc k) h (all_cons a hs) e = field-any k h hs e
  field-any zero h all_nil e = never_refused e refl
  field-any (suc k) h all_nil e = never_refused e refl

null_alone : (v : Value) → any_null (vcons v vnil) ≡ is_null_value v
unfolding any_null
null_alone v = chosen_or (is_null_value v) false ∙ or-false (is_null_value v)

some-null : {t u : DataType} {p : List ℕ} {v : Value} → Leads t p u → Fits t v → any_null (values_at v p) ≡ some_sought Sought.Null p v
unfolding values_at parts_at gather any_null some_sought some_part
some-null {v = v} l_here f = null_alone v
some-null (l_field e L) fit_null = refl
some-null (l_field {k = k} {p = p} e L) (fit_struct a) = field-any (λ w. values_at w p) (λ w. some_sought Sought.Null p w) k (λ w f. some-null L f) a e
some-null (l_list L) fit_null = refl
some-null (l_list {p = p} L) (fit_list c a) = gather-any (λ w. values_at w p) (λ w. some_sought Sought.Null p w) (λ w f. some-null L f) a
some-null (l_array L) fit_null = refl
some-null (l_array {p = p} L) (fit_array c a) = gather-any (λ w. values_at w p) (λ w. some_sought Sought.Null p w) (λ w f. some-null L f) a

allowed-collected : (vs : Values) → allowed (collected vs) true ≡ not (any_null vs)
unfolding allowed collected any_null choose
allowed-collected vnil = refl
allowed-collected (vcons v vs) = go (choose (is_null_value v) true (any_null vs))
  where
    go : (b : Bool) → allowed (choose b optional required) true ≡ not b
    go true = refl
    go false = refl

pub constant_fills : {t u : DataType} {p : List ℕ} {v : Value} → Leads t p u → Fits t v → fills_at (of_value v) p ≡ not (some_sought Sought.Null p v)
constant_fills {p = p} {v} L f = ap (λ (q : Place). allowed q true) (constant-place p v) ∙ allowed-collected (values_at v p) ∙ ap not (some-null L f)
