-- A built selector gives the value due. Assumes nothing.
use Prim.Native.Nat.{ℕ, suc, ◌+◌, ◌<◌}
use mathlib.Core.Path.{◌≡◌, refl, sym, ap, ap₂, ◌∙◌}
use mathlib.Core.Bool.{Bool, true, false}
use native.Mathlib.Omega.{arith}
use Rattle.layout.specs.Bytes.{Bytes, same_bytes}
use Rattle.layout.specs.Parser.{choose}
use Rattle.layout.specs.Tree.{LeafType, null, Label, ColumnType, cleaf, cstruct, clist, carray, Columns, DataType, leaf, struct, list, array, Fields, dtype_of}
use Rattle.layout.specs.Tree.{fields_of}
use Rattle.layout.specs.declared.columns.Position.{Position}
use Rattle.layout.specs.declared.matching.Matching.{Matching}
use Rattle.layout.specs.declared.matching.Matching.TheVariants.{ByName, ByNumber}
use Rattle.layout.proofs.Ways.{clash}
use Rattle.forms.specs.Same.{equal_types}
use Rattle.forms.proofs.Equal.{equal_types-refl, equal_types_eq}
use Rattle.rules.specs.declared.outcome.CastOption.{CastOption}
use Rattle.rules.proofs.OfClass.{null-type}
use Rattle.rules.proofs.PairRule.{cast_unequal}
use Rattle.rules.proofs.Casts.{passes-casts, casts-allowed}
use Rattle.values.specs.Value.{Value, vnull, vnumber, vtext, voverflow, vstruct, vlist, varray, Values, vnil, vcons}
use Rattle.values.specs.Fits.{Fits, fit_null, fit_number, fit_text, fit_struct, fit_list, fit_array, FitsAll, all_nil, all_cons, FitsEach, each_nil, each_cons}
use Rattle.plan.specs.Selector.{Selector, position, rename, struct_mapping, list_mapping, array_mapping, Selectors, snil, scons}
use Rattle.plan.specs.Check.{element_of, cast_fits_of, from_null_of}
use Rattle.plan.specs.Run.{value_at, cast_value, map_values, on_struct, on_list, on_array, eval, evals}
use Rattle.plan.proofs.Results.{true≠false, both}
use Rattle.plan.proofs.Typed.{At, here, there}
use Rattle.matching.specs.Default.{Defaults}
use Rattle.matching.specs.Build.{renamed, is_position, list_selector, array_selector, first}
use Rattle.matching.specs.Due.{due_leaf, or_else_null, from_counterpart, due, dues}
use Rattle.matching.proofs.Lookup.{counterpart-at}
use Rattle.matching.proofs.Attach.{Attach, a-same, a-cast, a_struct_lem, a_list_lem, a_array, AttachAll, a_nil, a-found, a-missing}
use Rattle.matching.proofs.InPlace.{is_bare_lem, straight, struct_selector_lem}
use Rattle.matching.proofs.Passes.{at-element}

pub at-fits : {Γ : Fields} {ρ : Values} {k : ℕ} {n : Bytes} {t : DataType} → At Γ k n t → FitsAll Γ ρ → Fits t (value_at ρ k)
unfolding value_at
at-fits here (all_cons h hs) = h
at-fits (there a) (all_cons h hs) = at-fits a hs

only : {t : DataType} {x : Value} → Fits t x → FitsAll (element_of t) (vcons x vnil)
only h = all_cons h all_nil

-- ---- functions that agree on what fits

struct_agree : {fs : Fields} {x : Value} (f g : Values → Values) → ((xs : Values) → FitsAll fs xs → f xs ≡ g xs) → Fits (struct fs) x → on_struct f x ≡
    on_struct g x
unfolding on_struct
struct_agree f g h fit_null = refl
struct_agree f g h (fit_struct a) = ap vstruct (h _ a)

each_agree : {t : DataType} {xs : Values} (f g : Value → Value) → ((x : Value) → Fits t x → f x ≡ g x) → FitsEach t xs → map_values f xs ≡ map_values g xs
unfolding map_values
each_agree f g h each_nil = refl
each_agree f g h (each_cons a hs) = ap₂ vcons (h _ a) (each_agree f g h hs)

list_agree : {t : DataType} {x : Value} (f g : Value → Value) → ((x : Value) → Fits t x → f x ≡ g x) → Fits (list t) x → on_list f x ≡ on_list g x
unfolding on_list
list_agree f g h fit_null = refl
list_agree f g h (fit_list c a) = ap vlist (each_agree f g h a)

array_agree : {w : ℕ} {t : DataType} {x : Value} (f g : Value → Value) → ((x : Value) → Fits t x → f x ≡ g x) → Fits (array w t) x → on_array f x ≡ on_array g x
unfolding on_array
array_agree f g h fit_null = refl
array_agree f g h (fit_array c a) = ap varray (each_agree f g h a)

-- ---- functions that change nothing

map_same : (xs : Values) → map_values (λ x. x) xs ≡ xs
unfolding map_values
map_same vnil = refl
map_same (vcons x xs) = ap (vcons x) (map_same xs)

struct-same : (x : Value) → on_struct (λ xs. xs) x ≡ x
unfolding on_struct
struct-same vnull = refl
struct-same (vnumber k n) = refl
struct-same (vtext b) = refl
struct-same voverflow = refl
struct-same (vstruct xs) = refl
struct-same (vlist xs) = refl
struct-same (varray xs) = refl

list_same : (x : Value) → on_list (λ x. x) x ≡ x
unfolding on_list
list_same vnull = refl
list_same (vnumber k n) = refl
list_same (vtext b) = refl
list_same voverflow = refl
list_same (vstruct xs) = refl
list_same (vlist xs) = ap vlist (map_same xs)
list_same (varray xs) = refl

array_same : (x : Value) → on_array (λ x. x) x ≡ x
unfolding on_array
array_same vnull = refl
array_same (vnumber k n) = refl
array_same (vtext b) = refl
array_same voverflow = refl
array_same (vstruct xs) = refl
array_same (vlist xs) = refl
array_same (varray xs) = ap varray (map_same xs)

-- ---- leaves

-- null's only value is null
null-value : {x : Value} → Fits (leaf null) x → x ≡ vnull
null-value fit_null = refl
null-value (fit_number {n = n} e h t) = let z : n < 0 = rw (← e) at h in absurd (omega arith)
null-value (fit_text e h) = clash (cc)

pub from_null-value : (l : LeafType) (o : CastOption) {x : Value} → from_null_of l o ≡ true → Fits (leaf l) x → x ≡ vnull
unfolding from_null_of
from_null-value l o e h = null-value (rw (null-type l (both _ e).0) at h)

-- no cast is between equal types
cast-differs : (a b : LeafType) (o : CastOption) → cast_fits_of (leaf a) (leaf b) o ≡ true → equal_types (leaf a) (leaf b) ≡ false
unfolding cast_fits_of
cast-differs a b o e = go (equal_types (leaf a) (leaf b)) refl
  where
    leaf_eq : leaf a ≡ leaf b → a ≡ b
    leaf_eq q = cc

    go : (c : Bool) → equal_types (leaf a) (leaf b) ≡ c → c ≡ false
    go true q = absurd (cast_unequal _ a b o (casts-allowed a b o (passes-casts a b o e)) (leaf_eq (equal_types_eq (leaf a) (leaf b) q)))
    go false q = refl

cast-due : (v : Matching) (d : Defaults) (t u : ColumnType) {x : Value} (o : CastOption) → cast_fits_of (dtype_of t) (dtype_of u) o ≡ true → Fits (dtype_of t)
    x → cast_value (dtype_of u) x ≡ due v d u t x
unfolding cast_fits_of dtype_of due due_leaf cast_value on_struct on_list on_array choose
cast-due v d (cleaf a) (cleaf b) o r h = rw (cast-differs a b o r)
cast-due v d (cleaf a) (cstruct gs) o r h = rw (from_null-value a o r h)
cast-due v d (cleaf a) (clist l u) o r h = rw (from_null-value a o r h)
cast-due v d (cleaf a) (carray w l u) o r h = rw (from_null-value a o r h)
cast-due v d (cstruct fs) u o r h = true≠false r refl
cast-due v d (clist l t) u o r h = true≠false r refl
cast-due v d (carray w l t) u o r h = true≠false r refl

-- ---- selectors that take each position

-- `ValuesFrom i xs ys`: ys is xs without its first i values
data ValuesFrom : ℕ → Values → Values → Type 0 where
  all : {xs : Values} → ValuesFrom 0 xs xs
  past : {i : ℕ} {x : Value} {xs ys : Values} → ValuesFrom i xs ys → ValuesFrom (suc i) (vcons x xs) ys

from_at : {i : ℕ} {x : Value} {xs ys : Values} → ValuesFrom i xs (vcons x ys) → value_at xs i ≡ x
unfolding value_at
from_at all = refl
from_at (past s) = from_at s

from_suc : {i : ℕ} {x : Value} {xs ys : Values} → ValuesFrom i xs (vcons x ys) → ValuesFrom (suc i) xs ys
from_suc all = past all
from_suc (past s) = past (from_suc s)

from_next : {i : ℕ} {x : Value} {xs ys : Values} → ValuesFrom i xs (vcons x ys) → ValuesFrom (i + 1) xs ys
from_next {i} s = let e : suc i ≡ i + 1 = omega arith in rw e at (from_suc s)

straight_eval : {fs : Fields} {ρ xs : Values} (i : ℕ) (ss : Selectors) → FitsAll fs xs → ValuesFrom i ρ xs → straight i fs ss ≡ true → evals ρ ss ≡ xs
unfolding straight evals eval
straight_eval i snil all_nil s e = refl
straight_eval i (scons x ss) all_nil s e = clash (cc)
straight_eval i snil (all_cons h hs) s e = clash (cc)
straight_eval i (scons x ss) (all_cons h hs) s e =
    let (p, q) = both (is_position i x) e in
    ap₂ vcons (rw (is_bare_lem i x p) (from_at s)) (straight_eval (i + 1) ss hs (from_next s) q)

bare-eval : (y : Value) {x : Selector} → x ≡ position first → eval (vcons y vnil) x ≡ y
unfolding eval value_at
bare-eval y p = rw p

-- ---- the mappings, left out or not

module _ {Γ : Fields} {ρ : Values} {n : Bytes} (h : FitsAll Γ ρ) (k : Position) where
  struct-due : {fs : Fields} (g : Values → Values) (ss : Selectors) (b : Bool) → straight 0 fs ss ≡ b → At Γ k.0 n (struct fs) →
      ((xs : Values) → FitsAll fs xs → evals xs ss ≡ g xs)
      → eval ρ (choose b (position k) (struct_mapping (position k) ss)) ≡ on_struct g (value_at ρ k.0)
  unfolding choose eval
  struct-due g ss true e a ih = sym (struct-same _) ∙ struct_agree _ _ (λ xs f. sym (straight_eval 0 ss f all e) ∙ ih xs f) (at-fits a h)
  struct-due g ss false e a ih = struct_agree _ _ ih (at-fits a h)

  list-due : {t : DataType} (g : Value → Value) (x : Selector) (b : Bool) → is_position 0 x ≡ b → At Γ k.0 n (list t) →
      ((y : Value) → Fits t y → eval (vcons y vnil) x ≡ g y)
      → eval ρ (choose b (position k) (list_mapping (position k) x)) ≡ on_list g (value_at ρ k.0)
  unfolding choose eval
  list-due g x true e a ih = sym (list_same _) ∙ list_agree _ _ (λ y f. sym (bare-eval y (is_bare_lem 0 x e)) ∙ ih y f) (at-fits a h)
  list-due g x false e a ih = list_agree _ _ ih (at-fits a h)

  array-due : {w : ℕ} {t : DataType} (g : Value → Value) (x : Selector) (b : Bool) → is_position 0 x ≡ b → At Γ k.0 n (array w t) →
      ((y : Value) → Fits t y → eval (vcons y vnil) x ≡ g y)
      → eval ρ (choose b (position k) (array_mapping (position k) x)) ≡ on_array g (value_at ρ k.0)
  unfolding choose eval
  array-due g x true e a ih = sym (array_same _) ∙ array_agree _ _ (λ y f. sym (bare-eval y (is_bare_lem 0 x e)) ∙ ih y f) (at-fits a h)
  array-due g x false e a ih = array_agree _ _ ih (at-fits a h)

-- a rename has no effect on values
renamed-eval : (ρ : Values) (v : Matching) (b a : Label) (s : Selector) → eval ρ (renamed v b a s) ≡ eval ρ s
unfolding renamed choose eval
renamed-eval ρ ByName b a s = refl
renamed-eval ρ ByNumber b a s = go (same_bytes a.name b.name)
  where
    go : (x : Bool) → eval ρ (choose x s (rename s b.name)) ≡ eval ρ s
    go true = refl
    go false = refl

module _ (v : Matching) where
  mutual
    unfolding list_selector array_selector due dues due_leaf choose eval evals dtype_of fields_of from_counterpart or_else_null value_at

    pub attach_due : {d : Defaults} {Γ : Fields} {ρ : Values} {n : Bytes} {u t : ColumnType} {k : Position} {s : Selector} → Attach v d u k t s → At Γ
        k.0 n (dtype_of t) → FitsAll Γ ρ
        → eval ρ s ≡ due v d u t (value_at ρ k.0)
    attach_due (a-same {l = l}) a h = rw (equal_types-refl (leaf l))
    attach_due (a-cast {d} {k} {t} {u} {o = o} r p) a h = rw (← p) (cast-due v d t u o (rw (← p) at r) (at-fits a h))
    attach_due (a_struct_lem {k = k} {fs} {ss = ss} c g r) a h = rw (← r, struct_selector_lem k fs ss) (struct-due h k _ ss _ refl a (λ xs f. attach_all_due g f))
    attach_due (a_list_lem {k = k} {a = x} {b} {e = e} y m g r) a h = rw (← r) (list-due h k _ (renamed v b x e) _ refl a
        (λ y f. renamed-eval _ v b x e ∙ attach_due g at-element (only f)))
    attach_due (a_array {k = k} {a = x} {b} {e = e} y m g r) a h = rw (← r) (array-due h k _ (renamed v b x e) _ refl a
        (λ y f. renamed-eval _ v b x e ∙ attach_due g at-element (only f)))

    pub attach_all_due : {d : Defaults} {gs fs : Columns} {ss : Selectors} {ρ : Values} → AttachAll v d gs fs ss → FitsAll (fields_of fs) ρ → evals ρ ss ≡
        dues v d gs fs ρ
    attach_all_due a_nil h = refl
    attach_all_due (a-found {a = a} {b} {fs = fs} {s = s} q m g r gs) h = ap₂ vcons
        (rw (← r, q) (renamed-eval _ v b a s ∙ attach_due g (counterpart-at v b fs q).place h)) (attach_all_due gs h)
    attach_all_due (a-missing q y m r gs) h = ap₂ vcons (rw (← r, q, y)) (attach_all_due gs h)
