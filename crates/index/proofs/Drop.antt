-- Columns and values after the first i, and multiples of the stride. Assumes nothing.
use Prim.Native.Nat.{ℕ, zero, suc, ◌+◌, ◌*◌, ◌/◌, ◌%◌}
use mathlib.Core.Path.{◌≡◌, refl, sym, ap, ◌∙◌}
use mathlib.Core.Bool.{false}
use native.Mathlib.Omega.{arith}
use native.Mathlib.Nat.{div-add-mod', suc-mul}
use native.Mathlib.Numerals.{add-one}
use lib.Dec.{eqb}
use borrow.Author.Tests.{eq-eqb, ne_eqb}
use Rattle.layout.specs.Parser.{choose}
use Rattle.layout.specs.Tree.{Columns, cnil, ccons}
use Rattle.layout.specs.Find.{present, find_from}
use Rattle.values.specs.Value.{Values, vnil, vcons}
use Rattle.plan.specs.Run.{value_at}
use Rattle.index.specs.code.Indexed.{drop_columns, first_as, drop_values}

pub none_left : (m : ℕ) → drop_columns m cnil ≡ cnil
unfolding drop_columns
none_left zero = refl
none_left (suc m) = refl

pub drop_more : (i m k : ℕ) (cs : Columns) → k ≡ i + m → drop_columns m (drop_columns i cs) ≡ drop_columns k cs
unfolding drop_columns
drop_more zero m k cs e = let h : m ≡ k = omega arith in ap (λ (j : ℕ). drop_columns j cs) h
drop_more (suc i) m k cnil e = none_left m ∙ sym (none_left k)
drop_more (suc i) m zero (ccons l t cs) e = absurd (omega arith)
drop_more (suc i) m (suc k) (ccons l t cs) e = drop_more i m k cs (omega arith)

-- the column at a position is the first after as many
pub find-drop : (m i k : ℕ) (cs : Columns) → k ≡ i + m → find_from (λ j l. eqb j k) i cs ≡ first_as (record { 0 = k }) (drop_columns m cs)
unfolding find_from choose drop_columns first_as
find-drop zero i k cnil e = refl
find-drop (suc m) i k cnil e = refl
find-drop zero i k (ccons l t cs) e =
    let z : i ≡ k = omega arith in
    rw (eq-eqb i k z) (ap (λ (j : ℕ). present (record { 0 = j }) l t) z)
find-drop (suc m) i k (ccons l t cs) e =
    let z : eqb i k ≡ false = ne_eqb i k (λ q. omega arith) in
    rw z (find-drop m (i + 1) k cs (omega arith))

no_value : (m : ℕ) → drop_values m vnil ≡ vnil
unfolding drop_values
no_value zero = refl
no_value (suc m) = refl

pub drop_values-more : (i m k : ℕ) (vs : Values) → k ≡ i + m → drop_values m (drop_values i vs) ≡ drop_values k vs
unfolding drop_values
drop_values-more zero m k vs e = let h : m ≡ k = omega arith in ap (λ (j : ℕ). drop_values j vs) h
drop_values-more (suc i) m k vnil e = no_value m ∙ sym (no_value k)
drop_values-more (suc i) m zero (vcons v vs) e = absurd (omega arith)
drop_values-more (suc i) m (suc k) (vcons v vs) e = drop_values-more i m k vs (omega arith)

pub value-drop : (i m k : ℕ) (vs : Values) → k ≡ i + m → value_at (drop_values i vs) m ≡ value_at vs k
unfolding drop_values value_at
value-drop zero m k vs e = let h : m ≡ k = omega arith in ap (λ (j : ℕ). value_at vs j) h
value-drop (suc i) m k vnil e = refl
value-drop (suc i) m zero (vcons v vs) e = absurd (omega arith)
value-drop (suc i) m (suc k) (vcons v vs) e = value-drop i m k vs (omega arith)

-- ---- multiples of the stride

-- a number by the last multiple that it reaches
pub parts : (k stride : ℕ) {j : ℕ} → j ≡ k / stride → k ≡ j * stride + k % stride
parts k stride q = sym (div-add-mod' k stride) ∙ ap (λ (b : ℕ). b * stride + k % stride) (sym q)

pub next_multiple : {i : ℕ} (j stride : ℕ) → i ≡ j * stride → i + stride ≡ (j + 1) * stride
next_multiple j stride e = ap (λ (a : ℕ). a + stride) e ∙ sym (suc-mul j stride) ∙ ap (λ (a : ℕ). a * stride) (sym (add-one j))
