-- The table of leaf pairs agrees with the chain of tests: one computation over the whole table, at every policy.
use mathlib.Core.Path.{◌≡◌, ap₂, ◌∙◌}
use mathlib.Core.Bool.{Bool}
use mathlib.Core.List.{List, []}
use Prim.Native.Nat.{ℕ, ◌+◌, ◌*◌, ◌/◌, ◌%◌, ◌<◌}
use native.Mathlib.Omega.{arith}
use lib.ListN.{get_or}
use Rattle.layout.specs.declared.leaf.Leaf.{Leaf}
use Rattle.layout.specs.declared.leaf.Decimal.{Decimal}
use Rattle.rules.specs.declared.policy.Policy.{Policy}
use Rattle.rules.specs.declared.params.Params.{Params}
use Rattle.rules.specs.Outcomes.{Verdict}
use Rattle.rules.specs.Kinds.{kind_of}
use Rattle.rules.specs.Promotion.{promotes}
use Rattle.rules.specs.Chain.{chain}
use Rattle.rules.specs.code.Rules.{rule_of, entry, Agrees}
use Rattle.rules.proofs.EachLeaf.{kind<, rows, each-pair}

-- what the table xs says of a pair
abbrev pub tabled : List (List ℕ) → Policy → Params → Leaf → Leaf → Verdict
tabled xs p z i t = rule_of p z (promotes (kind_of i) (kind_of t)) (entry xs i t)

-- one computation over the table, at a policy and at decimals that stay variables, gives the rule at every pair
pub agrees : {xs : List (List ℕ)} → ((p : Policy) (z : Params) (d e : Decimal) → rows d e (tabled xs p z) ≡ rows d e (chain p z)) → Agrees xs
agrees {xs} same = record { at = λ p z. each-pair (tabled xs p z) (chain p z) (same p z) }

-- the same, from what the callees of `leaf_pair` ensure
pub looked_up : {xs : List (List ℕ)} → Agrees xs → (p : Policy) (z : Params) (i t : Leaf) {a b : ℕ} {f : Bool} → a ≡ kind_of i → b ≡ kind_of t → f ≡
    promotes a b → rule_of p z f (get_or (get_or xs (3 * a + b / 7) []) (b % 7) 0) ≡ chain p z i t
looked_up {xs} g p z i t ea eb ef =
    ap₂ (λ (f : Bool) (k : ℕ). rule_of p z f k) (ef ∙ ap₂ promotes ea eb) (ap₂ (λ (m n : ℕ). get_or (get_or xs (3 * m + n / 7) []) (n % 7) 0) ea eb)
    ∙ g.at p z i t

-- a pair's row is one of the table's
pub row_within : (i t : Leaf) {a b : ℕ} → a ≡ kind_of i → b ≡ kind_of t → 3 * a + b / 7 < 63
row_within i t e f =
    let h : kind_of i < 21 = kind< i in
    let k : kind_of t < 21 = kind< t in
    omega arith
