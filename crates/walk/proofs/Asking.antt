-- What `to_input` and `child` ask of the selector where a walk stands, from what `head` said of it. Assumes nothing.
use Prim.Native.Nat.{ℕ, ◌<◌}
use mathlib.Core.Path.{sym, subst}
use native.Mathlib.Omega.{arith}
use Rattle.layout.specs.Bytes.{Bytes}
use Rattle.plan.specs.Selector.{Selector}
use Rattle.plan.specs.Reach.{SelectorAt as Nth}
use Rattle.walk.specs.code.Parts.{CastAt, RenameAt, StructAt, ListAt, ArrayAt}
use Rattle.walk.specs.code.State.{fields, element, State}
use Rattle.walk.specs.code.Moves.{Input, i_cast, i_rename, i_struct, i_list, i_array, Part, p_field, p_list, p_array}
use Rattle.walk.specs.code.Walks.{WalkAt}
use Rattle.walk.specs.declared.walk.Walk.{Walk}
use Rattle.walk.proofs.View.{nth_exists, selectors-counted}
use Rattle.walk.proofs.Moving.{walk_is}

module _ {plan : Bytes} {w : Walk} {x : State} (M : WalkAt plan w x) {m : ℕ} where
  pub cast-input : (C : CastAt plan w.at M.here m) → Input x.selector C.input.tree
  cast-input C = subst (λ (y : Selector). Input y C.input.tree) (sym (walk_is M C.is)) i_cast

  pub rename-input : (R : RenameAt plan w.at M.here m) → Input x.selector R.input.tree
  rename-input R = subst (λ (y : Selector). Input y R.input.tree) (sym (walk_is M R.is)) i_rename

  pub struct-input : (S : StructAt plan w.at M.here m) → Input x.selector S.input.tree
  struct-input S = subst (λ (y : Selector). Input y S.input.tree) (sym (walk_is M S.is)) i_struct

  pub list-input : (L : ListAt plan w.at M.here m) → Input x.selector L.input.tree
  list-input L = subst (λ (y : Selector). Input y L.input.tree) (sym (walk_is M L.is)) i_list

  pub array-input : (A : ArrayAt plan w.at M.here m) → Input x.selector A.input.tree
  array-input A = subst (λ (y : Selector). Input y A.input.tree) (sym (walk_is M A.is)) i_array

  -- a struct mapping has as many selectors as its count says
  pub struct-nth : (S : StructAt plan w.at M.here m) {k : ℕ} → k < S.fields.count → (t : Selector) × Nth S.fields.selectors.trees k t
  struct-nth S {k} h = nth_exists S.fields.selectors.trees k (omega (arith, selectors-counted S.fields.count S.fields.selectors))

  pub struct_part_lem : (S : StructAt plan w.at M.here m) {k : ℕ} {t : Selector} → Nth S.fields.selectors.trees k t → Part x.selector k
      (fields S.input.tree) t
  struct_part_lem S {k} {t} n = subst (λ (y : Selector). Part y k (fields S.input.tree) t) (sym (walk_is M S.is)) (p_field n)

  pub list_part_lem : (L : ListAt plan w.at M.here m) (k : ℕ) → Part x.selector k (element L.input.tree k) L.element.tree
  list_part_lem L k = subst (λ (y : Selector). Part y k (element L.input.tree k) L.element.tree) (sym (walk_is M L.is)) p_list

  pub array_part_lem : (A : ArrayAt plan w.at M.here m) (k : ℕ) → Part x.selector k (element A.input.tree k) A.element.tree
  array_part_lem A k = subst (λ (y : Selector). Part y k (element A.input.tree k) A.element.tree) (sym (walk_is M A.is)) p_array
