-- Evaluation in which a cast that overflows gives another value, which leaves no mark: an output depends on these
-- values exactly where it has the result of such a cast in it.
use Rattle.std.specs.Prelude.{ℕ}
use Rattle.layout.specs.Tree.{leaf_of, DataType, leaf, struct, list, array}
use Rattle.layout.specs.declared.leaf.Leaf.{Leaf}
use Rattle.values.specs.Value.{Value, vnull, vnumber, vtext, voverflow, vstruct, vlist, varray, Values, vnil, vcons}
use Rattle.plan.specs.Selector.{Selector, position, constant, cast, rename, struct_mapping, list_mapping, array_mapping, Selectors, snil, scons}
use Rattle.plan.specs.Convert.{convert}
use Rattle.plan.specs.Run.{value_at, on_struct, on_list, on_array}

-- what a number of one kind gives in another where that overflows
abbrev pub Fallback : Type 0
Fallback = Leaf → Leaf → ℕ → Value

unfoldable pub unless_over : Value → Value → Value
unless_over vnull w = vnull
unless_over (vnumber k n) w = vnumber k n
unless_over (vtext b) w = vtext b
unless_over voverflow w = w
unless_over (vstruct vs) w = vstruct vs
unless_over (vlist vs) w = vlist vs
unless_over (varray vs) w = varray vs

unfoldable pub cast_leaf_with : Fallback → Leaf → Value → Value
cast_leaf_with c k vnull = vnull
cast_leaf_with c k (vnumber i n) = unless_over (convert i k n) (c i k n)
cast_leaf_with c k (vtext b) = vtext b
cast_leaf_with c k voverflow = voverflow
cast_leaf_with c k (vstruct vs) = vstruct vs
cast_leaf_with c k (vlist vs) = vlist vs
cast_leaf_with c k (varray vs) = varray vs

unfoldable pub cast_value_with : Fallback → DataType → Value → Value
cast_value_with c (leaf l) v = cast_leaf_with c (leaf_of l) v
cast_value_with c (struct fs) v = v
cast_value_with c (list t) v = v
cast_value_with c (array w t) v = v

unfoldable mutual
  pub eval_with : Fallback → Values → Selector → Value
  eval_with c ρ (position k) = value_at ρ k.0
  eval_with c ρ (constant n t v) = v
  eval_with c ρ (cast s t o) = cast_value_with c t (eval_with c ρ s)
  eval_with c ρ (rename s n) = eval_with c ρ s
  eval_with c ρ (struct_mapping s ss) = on_struct (λ vs. evals_with c vs ss) (eval_with c ρ s)
  eval_with c ρ (list_mapping s e) = on_list (λ v. eval_with c (vcons v vnil) e) (eval_with c ρ s)
  eval_with c ρ (array_mapping s e) = on_array (λ v. eval_with c (vcons v vnil) e) (eval_with c ρ s)

  pub evals_with : Fallback → Values → Selectors → Values
  evals_with c ρ snil = vnil
  evals_with c ρ (scons s ss) = vcons (eval_with c ρ s) (evals_with c ρ ss)
