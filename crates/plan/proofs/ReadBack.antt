-- What was read as a plan is formed, is not nested too deep, and was written as its encoding. Assumes nothing.
use Prim.Native.Nat.{ℕ, zero, suc, ◌≤◌, ◌<◌}
use mathlib.Core.Path.{◌≡◌, refl, sym, ap, ◌∙◌}
use mathlib.Core.List.{◌∷◌, ◌++◌, append-nil}
use mathlib.Core.Bool.{Bool, true, false}
use native.Mathlib.Omega.{arith}
use lib.ListN.{length, take, drop, take-append-drop, drop_of_length-le, length-take}
use lib.Dec.{eqb}
use borrow.Author.Tests.{leb-true, eqb-true}
use Rattle.layout.specs.Bytes.{Bytes, AllBytes}
use Rattle.layout.specs.Parser.{Res, refuse, ok, choose, Parser, u16}
use Rattle.layout.specs.Layout.{ended}
use Rattle.layout.proofs.Ways.{clash}
use Rattle.layout.proofs.View.{next-ok}
use Rattle.forms.specs.Form.{u16_bytes}
use Rattle.layout.proofs.OfBytes.{same_bytes_eq}
use Rattle.forms.proofs.Read.{chosen}
use Rattle.values.specs.Record.{renumber}
use Rattle.values.proofs.Inside.{renumber-ok}
use Rattle.values.proofs.Stand.{Stand, stand_none, stand_append, stand_same, byte_back, ok_same}
use Rattle.values.proofs.Back.{value_back}
use Rattle.plan.specs.Selector.{Selector, Selectors, count_selectors, nesting, nesting_all}
use Rattle.plan.specs.Encode.{encode_selector, encode_selectors, plan_mark, encode_plan}
use Rattle.plan.specs.Read.{selectors, position_rest, constant_rest, cast_rest, rename_rest, struct_rest, list_rest, array_rest, selector_rest, selector}
use Rattle.plan.specs.Read.{longest_plan, deepest_selector, plan_sized, plan_version, plan_from, plan_counted, plan}
use Rattle.plan.specs.code.Formed.{Formed, f_position, f_constant, f_cast, f_rename, f_struct, f_list, f_array, FormedAll, f_nil, f_cons}
use Rattle.plan.proofs.Parts.{count_back, text_back, type_back, option_back}

-- what is known of a selector that was read at an offset, of at most d levels
pub record SelectorBack (d : ℕ) (s : Bytes) (at : ℕ) (x : Selector) (m : ℕ) : Type 0 where
  pub formed : Formed x
  pub nests : nesting x ≤ d
  pub stands : Stand s at (encode_selector x) m

pub record SelectorsBack (d n : ℕ) (s : Bytes) (at : ℕ) (xs : Selectors) (m : ℕ) : Type 0 where
  pub formed : FormedAll xs
  pub nests : nesting_all xs ≤ d
  pub counts : count_selectors xs ≡ n
  pub stands : Stand s at (encode_selectors xs) m

-- the number is k, or the other cases go on
case : {A P : Type 0} (c k : ℕ) (x y : Res A) {a : A} {m : ℕ} → choose (eqb c k) x y ≡ ok a m → (c ≡ k → x ≡ ok a m → P) → (y ≡ ok a m → P) → P
unfolding choose
case {A} {P} c k x y {a} {m} e f g = go (eqb c k) refl e
  where
    go : (t : Bool) → eqb c k ≡ t → choose t x y ≡ ok a m → P
    go true h e = f (eqb-true c k h) e
    go false h e = g e

module _ (s : Bytes) (o : AllBytes s) where
  abbrev Backs : ℕ → Parser Selector → Type 0
  Backs d p = (at : ℕ) (x : Selector) (m : ℕ) → p s at ≡ ok x m → SelectorBack d s at x m

  -- behind a code
  record RestBack (d c at : ℕ) (x : Selector) (m : ℕ) : Type 0 where
    formed : Formed x
    nests : nesting x ≤ suc d
    rest : Bytes
    is : encode_selector x ≡ c ∷ rest
    stands : Stand s at rest m

  rest_of : {d c at : ℕ} {x y : Selector} {i m : ℕ} → ok x i ≡ ok y m → RestBack d c at x i → RestBack d c at y m
  rest_of {d} {c} {at} e r = ok_same (λ x m. RestBack d c at x m) e r

  selectors-back : (d : ℕ) (p : Parser Selector) → Backs d p → (n at : ℕ) {xs : Selectors} {m : ℕ} → at ≤ length s → selectors p n s at ≡ ok xs m →
      SelectorsBack d n s at xs m
  unfolding selectors encode_selectors count_selectors nesting_all
  selectors-back d p B zero at l e =
      ok_same (λ xs m. SelectorsBack d 0 s at xs m) e (record { formed = f_nil; nests = omega arith; counts = refl; stands = stand_none s at l })
  selectors-back d p B (suc n) at l e =
      let (x, i, h, e) = next-ok _ _ e in
      let X = B at x i h in
      let (xs, j, k, e) = next-ok _ _ e in
      let Y = selectors-back d p B n i X.stands.within k in
      ok_same (λ xs m. SelectorsBack d (suc n) s at xs m) e
      (record {
        formed = f_cons X.formed Y.formed;
        nests = let a = X.nests in let b = Y.nests in omega arith;
        counts = ap suc Y.counts;
        stands = stand_append X.stands Y.stands;
      })

  module _ (d : ℕ) (p : Parser Selector) (B : Backs d p) (at : ℕ) where
    position-back : {x : Selector} {m : ℕ} → position_rest s at ≡ ok x m → RestBack d 0 at x m
    unfolding position_rest encode_selector nesting
    position-back e =
        let (k, i, h, e) = next-ok _ _ e in
        let (P, b) = count_back s o at h in
        rest_of e (record { formed = f_position b; nests = omega arith; rest = u16_bytes k; is = refl; stands = P })

    constant-back : {x : Selector} {m : ℕ} → constant_rest s at ≡ ok x m → RestBack d 1 at x m
    unfolding constant_rest encode_selector nesting
    constant-back e =
        let (n, i, h, e) = next-ok _ _ e in
        let (N, a) = text_back s o at h in
        let (t, j, h, e) = next-ok _ _ e in
        let (T, b) = type_back s o i h in
        let (v, k, h, e) = next-ok _ _ e in
        let W = value_back t s o j v k h in
        rest_of e (record { formed = f_constant a b W.fits; nests = omega arith; rest = _; is = refl; stands = stand_append N (stand_append T W.stands) })

    cast-back : {x : Selector} {m : ℕ} → cast_rest p s at ≡ ok x m → RestBack d 2 at x m
    unfolding cast_rest encode_selector nesting
    cast-back e =
        let (x, i, h, e) = next-ok _ _ e in
        let X = B at x i h in
        let (t, j, h, e) = next-ok _ _ e in
        let (T, b) = type_back s o i h in
        let (c, k, h, e) = next-ok _ _ e in
        let C = option_back s o j h in
        let n = X.nests in
        rest_of e (record { formed = f_cast X.formed b; nests = omega arith; rest = _; is = refl; stands = stand_append X.stands (stand_append T C) })

    rename-back : {x : Selector} {m : ℕ} → rename_rest p s at ≡ ok x m → RestBack d 3 at x m
    unfolding rename_rest encode_selector nesting
    rename-back e =
        let (x, i, h, e) = next-ok _ _ e in
        let X = B at x i h in
        let (b, j, h, e) = next-ok _ _ e in
        let (N, a) = text_back s o i h in
        let n = X.nests in
        rest_of e (record { formed = f_rename X.formed a; nests = omega arith; rest = _; is = refl; stands = stand_append X.stands N })

    struct_back : {x : Selector} {m : ℕ} → struct_rest p s at ≡ ok x m → RestBack d 4 at x m
    unfolding struct_rest encode_selector nesting
    struct_back e =
        let (x, i, h, e) = next-ok _ _ e in
        let X = B at x i h in
        let (c, j, h, e) = next-ok _ _ e in
        let (C, b) = count_back s o i h in
        let (xs, k, h, e) = next-ok _ _ e in
        let Y = selectors-back d p B c j C.within h in
        let n = X.nests in
        let l = Y.nests in
        let q = Y.counts in
        rest_of e (record {
          formed = f_struct X.formed (omega arith) Y.formed;
          nests = omega arith;
          rest = _;
          is = refl;
          stands = stand_append X.stands (stand_append (stand_same (ap u16_bytes (sym q)) C) Y.stands);
        })

    list_back : {x : Selector} {m : ℕ} → list_rest p s at ≡ ok x m → RestBack d 5 at x m
    unfolding list_rest encode_selector nesting
    list_back e =
        let (x, i, h, e) = next-ok _ _ e in
        let X = B at x i h in
        let (y, j, h, e) = next-ok _ _ e in
        let Y = B i y j h in
        let n = X.nests in
        let l = Y.nests in
        rest_of e (record { formed = f_list X.formed Y.formed; nests = omega arith; rest = _; is = refl; stands = stand_append X.stands Y.stands })

    array_back : {x : Selector} {m : ℕ} → array_rest p s at ≡ ok x m → RestBack d 6 at x m
    unfolding array_rest encode_selector nesting
    array_back e =
        let (x, i, h, e) = next-ok _ _ e in
        let X = B at x i h in
        let (y, j, h, e) = next-ok _ _ e in
        let Y = B i y j h in
        let n = X.nests in
        let l = Y.nests in
        rest_of e (record { formed = f_array X.formed Y.formed; nests = omega arith; rest = _; is = refl; stands = stand_append X.stands Y.stands })

    rest_back : (c : ℕ) {x : Selector} {m : ℕ} → selector_rest p c s at ≡ ok x m → RestBack d c at x m
    unfolding selector_rest
    rest_back c e =
        case c 0 _ _ e (λ q e. rw q (position-back e)) (λ e.
        case c 1 _ _ e (λ q e. rw q (constant-back e)) (λ e.
        case c 2 _ _ e (λ q e. rw q (cast-back e)) (λ e.
        case c 3 _ _ e (λ q e. rw q (rename-back e)) (λ e.
        case c 4 _ _ e (λ q e. rw q (struct_back e)) (λ e.
        case c 5 _ _ e (λ q e. rw q (list_back e)) (λ e.
        case c 6 _ _ e (λ q e. rw q (array_back e)) (λ e. clash (cc))))))))

  pub selector_back : (d at : ℕ) (x : Selector) (m : ℕ) → selector d s at ≡ ok x m → SelectorBack d s at x m
  unfolding selector
  selector_back zero at x m e = clash (cc)
  selector_back (suc d) at x m e =
      let (c, i, h, e) = next-ok _ _ e in
      let R = rest_back d (selector d) (selector_back d) i c e in
      record { formed = R.formed; nests = R.nests; stands = stand_same (sym R.is) (stand_append (byte_back s at h) R.stands) }

  pub selectors-read : (d n at : ℕ) {xs : Selectors} {m : ℕ} → at ≤ length s → selectors (selector d) n s at ≡ ok xs m → SelectorsBack d n s at xs m
  selectors-read d n at l e = selectors-back d (selector d) (selector_back d) n at l e

-- ---- a plan

refuse_eq : {A : Type 0} {m n : ℕ} → ◌≡◌ {A = Res A} (refuse m) (refuse n) → n ≡ m
refuse_eq e = cc

-- every fault is 30
pub plan-refuses : (s : Bytes) {n : ℕ} → plan s ≡ refuse n → n ≡ 30
unfolding plan renumber
plan-refuses s e = go (plan_from s 0) e
  where
    go : (x : Res Selectors) {n : ℕ} → renumber (λ n. 30) x ≡ refuse n → n ≡ 30
    go (refuse n) e = refuse_eq e
    go (ok a m) e = clash (cc)

mark-stands : (s : Bytes) → take 5 s ≡ plan_mark → Stand s 0 plan_mark 5
mark-stands s e =
    let l : length (take 5 s) ≡ 5 = ap length e in
    record {
      is = sym (take-append-drop 5 s) ∙ ap (λ (r : Bytes). r ++ drop 5 s) e;
      ends = refl;
      within = let k : length (take 5 s) ≤ length s = simp length-take (omega arith) in omega arith;
    }

pub record PlanBack (s : Bytes) (ss : Selectors) (m : ℕ) : Type 0 where
  pub formed : FormedAll ss
  pub counts : count_selectors ss < 65536
  pub nests : nesting_all ss ≤ deepest_selector
  pub is : encode_plan ss ≡ s
  pub ends : m ≡ length s
  pub short : length s ≤ longest_plan

-- bytes that stand from the start to the end
all : {s bs : Bytes} {m : ℕ} → m ≡ length s → Stand s 0 bs m → bs ≡ s
all {s} {bs} {m} e P =
    let l : length s ≤ m = omega arith in
    sym (P.is ∙ ap (λ (r : Bytes). bs ++ r) (drop_of_length-le s l) ∙ append-nil bs)

pub plan_back : (s : Bytes) → AllBytes s → {ss : Selectors} {m : ℕ} → plan s ≡ ok ss m → PlanBack s ss m
unfolding plan plan_from plan_counted plan_sized plan_version ended encode_plan
plan_back s o e =
    let e = renumber-ok (λ n. 30) (plan_from s 0) e in
    let (x, i, h, e) = next-ok _ _ e in
    let (l, h) = chosen _ _ _ h in
    let (x, i₁, h, e) = next-ok _ _ e in
    let (v, h) = chosen _ _ _ h in
    let z : i₁ ≡ 5 = cc in
    let M = mark-stands s (same_bytes_eq _ _ v) in
    let (n, j, h, e) = next-ok _ _ e in
    let (C, b) = count_back s o 5 (ap (λ (i : ℕ). u16 s i) (sym z) ∙ h) in
    let (xs, k, h, e) = next-ok _ _ e in
    let X = selectors-read s o deepest_selector n j C.within h in
    let (x, k₁, h, e) = next-ok _ _ e in
    let (t, h) = chosen _ _ _ h in
    let q = X.counts in
    let y : k ≡ k₁ = cc in
    let w : k ≡ length s = eqb-true _ _ t in
    ok_same (λ ss m. PlanBack s ss m) e (record {
      formed = X.formed;
      counts = omega arith;
      nests = X.nests;
      is = all w (stand_append M (stand_append (stand_same (ap u16_bytes (sym q)) C) X.stands));
      ends = sym y ∙ w;
      short = leb-true _ _ l;
    })
