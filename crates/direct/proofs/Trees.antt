-- What a selector gives, from what its parts give. Assumes nothing.
use Prim.Native.Nat.{ℕ, ◌+◌, ◌≤◌}
use mathlib.Core.Path.{◌≡◌, ap}
use mathlib.Core.Bool.{true}
use native.Mathlib.Omega.{arith}
use lib.ListN.{length}
use borrow.Author.Tests.{le-leb}
use Rattle.layout.specs.Bytes.{Bytes}
use Rattle.layout.specs.Tree.{DataType, struct, list, array, Fields, fcons, dtype_of}
use Rattle.layout.specs.code.Stands.{TypeAt}
use Rattle.layout.specs.declared.edition.Edition.{Edition}
use Rattle.forms.specs.Form.{form}
use Rattle.forms.specs.Depth.{depth_of}
use Rattle.forms.proofs.Equal.{equal_fields-refl}
use Rattle.forms.proofs.Writing.{extent}
use Rattle.nodes.proofs.Sizes.{depth-within}
use Rattle.rules.specs.declared.outcome.CastOption.{CastOption}
use Rattle.plan.specs.Result.{gives, ◌>>=◌, demand, accepted, placed, answered}
use Rattle.plan.specs.Selector.{Selector, cast, rename, struct_mapping, list_mapping, array_mapping, Selectors, snil, scons}
use Rattle.plan.specs.Check.{Column, column, element_of, struct_of, list_of, array_of, cast_fits_of, within_limits, resulting, check_cast, check_rename, check_struct}
use Rattle.plan.specs.Check.{check_list, check_array, type_of, types_of, top_types, against, check}
use Rattle.plan.proofs.Results.{and-true, bind_gives, gives_eq}

-- a type that stands in bytes no longer than a result may be
pub within : {v : Edition} {s : Bytes} {at : ℕ} (Q : TypeAt v 16 s at) → length s ≤ 16384 → within_limits (dtype_of Q.tree) ≡ true
unfolding within_limits
within Q h =
    let (a, b) = extent Q in
    and-true (le-leb (depth_of (dtype_of Q.tree)) 16 (depth-within Q)) (le-leb (length (form (dtype_of Q.tree))) 16384 (omega arith))

module _ (Γ : Fields) (s : Selector) {n : Bytes} {t : DataType} (e : type_of Γ s ≡ gives (column n t)) where
  pub cast-gives : (u : DataType) (o : CastOption) → cast_fits_of t u o ≡ true → within_limits u ≡ true → type_of Γ (cast s u o) ≡ gives (column n u)
  unfolding type_of ◌>>=◌ check_cast resulting demand
  cast-gives u o f w = rw (e, f, w)

  pub rename-gives : (m : Bytes) → within_limits t ≡ true → type_of Γ (rename s m) ≡ gives (column m t)
  unfolding type_of ◌>>=◌ check_rename resulting demand
  rename-gives m w = rw (e, w)

  pub struct-gives : (ss : Selectors) {fs gs : Fields} → t ≡ struct fs → types_of fs ss ≡ gives gs → within_limits (struct gs) ≡ true → type_of Γ
      (struct_mapping s ss) ≡ gives (column n (struct gs))
  unfolding type_of ◌>>=◌ check_struct struct_of resulting demand
  struct-gives ss p f w = rw (e, p, f, w)

  pub list-gives : (x : Selector) {u w : DataType} {m : Bytes} → t ≡ list u → type_of (element_of u) x ≡ gives (column m w) → within_limits (list w) ≡ true
      → type_of Γ (list_mapping s x) ≡ gives (column n (list w))
  unfolding type_of ◌>>=◌ check_list list_of resulting demand
  list-gives x p f w = rw (e, p, f, w)

  pub array-gives : (x : Selector) {k : ℕ} {u w : DataType} {m : Bytes} → t ≡ array k u → type_of (element_of u) x ≡ gives (column m w) → within_limits
      (array k w) ≡ true
      → type_of Γ (array_mapping s x) ≡ gives (column n (array k w))
  unfolding type_of ◌>>=◌ check_array array_of resulting demand
  array-gives x p f w = rw (e, p, f, w)

pub fields_give : (Γ : Fields) (s : Selector) (ss : Selectors) {c : Column} {fs : Fields} → type_of Γ s ≡ gives c → types_of Γ ss ≡ gives fs → types_of Γ
    (scons s ss) ≡ gives (fcons c.name c.type fs)
unfolding types_of ◌>>=◌
fields_give Γ s ss e f = rw (e, f)

tops-given : (Γ : Fields) (ss : Selectors) (k : ℕ) {fs : Fields} → types_of Γ ss ≡ gives fs → top_types Γ ss k ≡ accepted fs
unfolding top_types types_of placed answered
tops-given Γ snil k e = ap accepted (gives_eq e)
tops-given Γ (scons s ss) k e =
    let (c, p, q) = bind_gives (type_of Γ s) _ e in
    let (gs, p₁, q₁) = bind_gives (types_of Γ ss) _ q in
    rw (p, tops-given Γ ss (k + 1) p₁) (ap accepted (gives_eq q₁))

-- a plan that gives the target's columns
pub plan-passes : (Γ Δ : Fields) (ss : Selectors) → types_of Γ ss ≡ gives Δ → check Γ Δ ss ≡ accepted tt
unfolding check against answered placed demand
plan-passes Γ Δ ss e = rw (tops-given Γ ss 0 e, equal_fields-refl Δ)
