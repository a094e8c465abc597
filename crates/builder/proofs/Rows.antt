-- Laws of the matchers over a variable answer X: what a mapping or a rename around it answers and writes. Assumes
-- nothing.
use Prim.Native.Nat.{ℕ, suc, ◌+◌, ◌*◌, ◌≤◌, ◌<◌}
use mathlib.Core.Path.{◌≡◌, refl, sym, ap, ◌∙◌, subst}
use mathlib.Core.Bool.{Bool, true, false, ◌&&◌}
use mathlib.Core.List.{[], ◌∷◌, ◌++◌}
use native.Mathlib.Omega.{arith}
use lib.ListN.{length, set, length-append}
use lib.Dec.{eqb}
use Rattle.store.specs.code.Overlay.{overlay, Agree, Holds}
use Rattle.store.proofs.Overlay.{overlay-append}
use Rattle.store.proofs.Holds.{holds_exact, holds-before, holds-append, holds-over, agree_less}
use Rattle.layout.specs.Bytes.{Bytes}
use Rattle.layout.specs.Parser.{choose}
use Rattle.layout.specs.declared.columns.Position.{Position}
use Rattle.layout.proofs.Ways.{clash}
use Rattle.forms.specs.Form.{u16_bytes, text_bytes}
use Rattle.plan.specs.Result.{Result, gives, refuses, ◌>>=◌}
use Rattle.plan.specs.Selector.{Selector, position, constant, cast, rename, struct_mapping, list_mapping, array_mapping, Selectors, snil, scons, count_selectors}
use Rattle.plan.specs.Encode.{encode_selector, encode_selectors}
use Rattle.matching.specs.Build.{is_position, in_place_of, list_selector, array_selector, struct_selector, attach_fields}
use Rattle.builder.specs.code.Answers.{made_of, row_of, is_refused, is_bare, len_of, failed_of, refused_row, join_row, Wrote, WroteRow, Makes, MakesRow, Maps}
use Rattle.builder.specs.declared.answer.Made.{Made}
use Rattle.builder.specs.declared.answer.Made.TheVariants.{Bare, Built}
use Rattle.builder.specs.declared.answer.Row.{Row}
use Rattle.builder.specs.declared.answer.Row.TheVariants.{Failed, Done}
use Rattle.layout.specs.Tree.{Columns, cnil, ccons, count_columns}
use Rattle.layout.specs.declared.matching.Matching.{Matching}
use Rattle.rules.specs.declared.policy.Policy.{Policy}
use Rattle.matching.specs.Default.{Defaults}
use Rattle.builder.proofs.Putting.{position-long}

never : {B : Type 0} → true ≡ false → B
never h = clash (cc)

-- a selector's answer
pub not-refused : (s : Selector) → is_refused (made_of (gives s)) ≡ false
unfolding made_of
not-refused (position k) = refl
not-refused (constant n t x) = refl
not-refused (cast s t o) = refl
not-refused (rename s n) = refl
not-refused (struct_mapping s ss) = refl
not-refused (list_mapping s e) = refl
not-refused (array_mapping s e) = refl

pub bare-is : (i : ℕ) (s : Selector) → is_bare i (made_of (gives s)) ≡ is_position i s
unfolding made_of is_position
bare-is i (position k) = refl
bare-is i (constant n t x) = refl
bare-is i (cast s t o) = refl
bare-is i (rename s n) = refl
bare-is i (struct_mapping s ss) = refl
bare-is i (list_mapping s e) = refl
bare-is i (array_mapping s e) = refl

pub len_is : (s : Selector) → len_of (made_of (gives s)) ≡ length (encode_selector s)
unfolding made_of encode_selector u16_bytes
len_is (position k) = refl
len_is (constant n t x) = refl
len_is (cast s t o) = refl
len_is (rename s n) = refl
len_is (struct_mapping s ss) = refl
len_is (list_mapping s e) = refl
len_is (array_mapping s e) = refl

module _ {b e : ℕ} {out : Bytes} {k : ℕ} {r : Made} {o : Bytes} where
  -- an index behind what was written stays in its bounds
  pub makes-room : (X : Result Selector) → Makes b e out k X r o → is_refused r ≡ false → len_of r + 65536 * b ≤ 65536 * e
  unfolding made_of Wrote
  makes-room (refuses n) m h = never (sym (ap is_refused m.answer) ∙ h)
  makes-room (gives s) m h = let l = m.wrote.1 in let q : len_of r ≡ length (encode_selector s) = ap len_of m.answer ∙ len_is s in omega arith

  -- a refusal goes on
  pub makes-stopped : (X : Result Selector) (f : Selector → Result Selector) (b' e' : ℕ) (out' : Bytes) (k' : ℕ) (o' : Bytes) → Makes b e out k X r o →
      is_refused r ≡ true
      → Makes b' e' out' k' (X >>= f) r o'
  unfolding made_of Wrote ◌>>=◌
  makes-stopped (refuses n) f b' e' out' k' o' m h = record { answer = m.answer; wrote = tt }
  makes-stopped (gives s) f b' e' out' k' o' m h = never (sym h ∙ ap is_refused m.answer ∙ not-refused s)

  -- what stood before the index stands there still
  pub makes-before : (X : Result Selector) → Makes b e out k X r o → is_refused r ≡ false → Agree k o out
  unfolding made_of Wrote
  makes-before (refuses n) m h = never (sym (ap is_refused m.answer) ∙ h)
  makes-before (gives s) m h = holds-before out k (encode_selector s) o m.wrote.0

-- ---- a mapping of a list or an array

pub list_maps : (k : Position) → Maps k 5 (list_selector k) (λ s. list_mapping (position k) s)
unfolding list_selector encode_selector made_of
list_maps k = record { chooses = λ s. refl; bytes = λ s. refl; made = λ s. refl }

pub array_maps : (k : Position) → Maps k 6 (array_selector k) (λ s. array_mapping (position k) s)
unfolding array_selector encode_selector made_of
array_maps k = record { chooses = λ s. refl; bytes = λ s. refl; made = λ s. refl }

module _ {k : Position} {c : ℕ} {f g : Selector → Selector} (M : Maps k c f g) {b e : ℕ} {r : Made} (out : Bytes) (to : ℕ) where
  -- the mapping is left out, and its bytes are written over
  pub mapped-bare : (X : Result Selector) (b₀ : ℕ) (o₁ o₂ : Bytes) {o₃ : Bytes} → length o₂ ≡ length out → o₁ ≡ overlay out to (c ∷ encode_selector (position k))
      → Makes b e o₁ (to + 4) X r o₂ → is_refused r ≡ false → is_bare 0 r ≡ true → o₃ ≡ overlay o₂ to (encode_selector (position k)) → b₀ < e
      → Makes b₀ e out to (X >>= λ s. gives (f s)) (Bare k) o₃
  unfolding made_of Wrote ◌>>=◌ choose
  mapped-bare (refuses n) b₀ o₁ o₂ l h A a q z lt = never (sym (ap is_refused A.answer) ∙ a)
  mapped-bare (gives s) b₀ o₁ o₂ {o₃} l h A a q z lt =
      let p = A.answer in
      let w = A.wrote.0 in
      let y : is_position 0 s ≡ true = sym (bare-is 0 s) ∙ ap (is_bare 0) (sym p) ∙ q in
      let x : f s ≡ position k = M.chooses s ∙ ap (λ (t : Bool). choose t (position k) (g s)) y in
      let i = position-long k in
      let u : Agree to o₂ out = agree_less to (to + 4) o₂ o₁ out (omega arith) (holds-before o₁ (to + 4) (encode_selector s) o₂ w)
      (holds-before out to (c ∷ encode_selector (position k)) o₁ (holds_exact out to (c ∷ encode_selector (position k)) h)) in
      subst (λ (t : Selector). Makes b₀ e out to (gives t) (Bare k) o₃) (sym x) (record
      { answer = refl; wrote = (holds-over out to (encode_selector (position k)) o₂ l u z, omega arith) })

  pub mapped : (X : Result Selector) (b₀ : ℕ) (o₁ o₂ : Bytes) → length o₁ ≡ length out → o₁ ≡ overlay out to (c ∷ encode_selector (position k))
      → Makes b e o₁ (to + 4) X r o₂ → is_refused r ≡ false → is_bare 0 r ≡ false → b₀ < b → Makes b₀ e out to (X >>= λ s. gives (f s)) (Built (4 + len_of r)) o₂
  unfolding made_of Wrote ◌>>=◌ choose
  mapped (refuses n) b₀ o₁ o₂ l h A a q lt = never (sym (ap is_refused A.answer) ∙ a)
  mapped (gives s) b₀ o₁ o₂ l h A a q lt =
      let p = A.answer in
      let w = A.wrote.0 in
      let j = A.wrote.1 in
      let y : is_position 0 s ≡ false = sym (bare-is 0 s) ∙ ap (is_bare 0) (sym p) ∙ q in
      let x : f s ≡ g s = M.chooses s ∙ ap (λ (t : Bool). choose t (position k) (g s)) y in
      let i = position-long k in
      let m : len_of r ≡ length (encode_selector s) = ap len_of p ∙ len_is s in
      let n = ap length (M.bytes s) in
      let v = length-append (encode_selector (position k)) (encode_selector s) in
      let z : 4 + len_of r ≡ length (encode_selector (g s)) = omega arith in
      let at4 : to + length (c ∷ encode_selector (position k)) ≡ to + 4 = omega arith in
      let w' : Holds o₁ (to + length (c ∷ encode_selector (position k))) (encode_selector s) o₂ = subst (λ (t : ℕ). Holds o₁ t (encode_selector s) o₂)
      (sym at4) w in
      let u : Holds out to (encode_selector (g s)) o₂ = subst (λ (t : Bytes). Holds out to t o₂) (sym (M.bytes s))
      (holds-append out to (c ∷ encode_selector (position k)) (encode_selector s) o₁ o₂ l (holds_exact out to (c ∷ encode_selector (position k)) h) w')
      in
      subst (λ (t : Selector). Makes b₀ e out to (gives t) (Built (4 + len_of r)) o₂) (sym x)
      (record { answer = ap Built z ∙ sym (M.made s); wrote = (u, omega arith) })

-- ---- a rename outside

module _ {b e : ℕ} {r : Made} (out : Bytes) (to : ℕ) where
  pub renamed-around : (X : Result Selector) (name : Bytes) (b₀ : ℕ) (o₁ o₂ : Bytes) {o₃ : Bytes} {n : ℕ} → length o₁ ≡ length out → length o₂ ≡ length
      out → o₁ ≡ set out to 3
      → Makes b e o₁ (to + 1) X r o₂ → is_refused r ≡ false → n ≡ length (text_bytes name) → o₃ ≡ overlay o₂ (to + 1 + len_of r) (text_bytes name) → n ≤ 64 → b₀ < b
      → Makes b₀ e out to (X >>= λ s. gives (rename s name)) (Built (1 + len_of r + n)) o₃
  unfolding made_of Wrote ◌>>=◌ overlay encode_selector
  renamed-around (refuses x) name b₀ o₁ o₂ l l₂ h A a en z short lt = never (sym (ap is_refused A.answer) ∙ a)
  renamed-around (gives s) name b₀ o₁ o₂ {o₃} {n} l l₂ h A a en z short lt =
      let w = A.wrote.0 in
      let j = A.wrote.1 in
      let m : len_of r ≡ length (encode_selector s) = ap len_of A.answer ∙ len_is s in
      let v = length-append (encode_selector s) (text_bytes name) in
      let u : Holds out to (3 ∷ encode_selector s) o₂ = holds-append out to (3 ∷ []) (encode_selector s) o₁ o₂ l (holds_exact out to (3 ∷ []) h) w in
      let i : to + 1 + len_of r ≡ to + length (3 ∷ encode_selector s) = omega arith in
      let y : Holds out to ((3 ∷ encode_selector s) ++ text_bytes name) o₃ =
      holds-append out to (3 ∷ encode_selector s) (text_bytes name) o₂ o₃ l₂ u (holds_exact o₂ (to + length (3 ∷ encode_selector s)) (text_bytes name)
      (z ∙ ap (λ (t : ℕ). overlay o₂ t (text_bytes name)) i)) in
      let x : 1 + len_of r + n ≡ length (encode_selector (rename s name)) = omega arith in
      record { answer = ap Built x; wrote = (y, omega arith) }

-- ---- a struct, where the fields' answer is X

-- as many selectors as target fields
row_count : (X : Result Selector) (Y : Result Selectors) (ss : Selectors) (n : ℕ) → ((rs : Selectors) → Y ≡ gives rs → count_selectors rs ≡ n)
    → (X >>= λ s. Y >>= λ rs. gives (scons s rs)) ≡ gives ss → count_selectors ss ≡ suc n
unfolding ◌>>=◌ count_selectors
row_count (refuses k) Y ss n f h = clash (cc)
row_count (gives s) (refuses k) ss n f h = clash (cc)
row_count (gives s) (gives rs) ss n f h = let q : ss ≡ scons s rs = cc in rw q (ap suc (f rs refl))

pub count-is : (v : Matching) (p : Policy) (d : Defaults) (gs fs : Columns) (ss : Selectors) → attach_fields v p d gs fs ≡ gives ss → count_selectors ss ≡
    count_columns gs
unfolding attach_fields count_columns count_selectors
count-is v p d cnil fs ss h = let q : ss ≡ snil = cc in rw q
count-is v p d (ccons l u gs) fs ss h = row_count _ (attach_fields v p d gs fs) ss (count_columns gs) (count-is v p d gs fs) h

module _ (k : Position) (fs : Columns) {b e : ℕ} (out : Bytes) (to : ℕ) where
  pub struct-stopped : (X : Result Selectors) (b₀ : ℕ) (o₁ o₂ : Bytes) {i n : ℕ} {r : Row} → MakesRow b e o₁ i X r o₂ → r ≡ Failed n
      → Makes b₀ e out to (X >>= λ ss. gives (struct_selector k fs ss)) (refused_row r) o₂
  unfolding made_of Wrote ◌>>=◌ row_of
  struct-stopped (refuses m) b₀ o₁ o₂ A q = record { answer = ap refused_row A.answer; wrote = tt }
  struct-stopped (gives ss) b₀ o₁ o₂ {n = n} A q = let z : Done (in_place_of 0 ss) (length (encode_selectors ss)) ≡ Failed n = sym A.answer ∙ q in clash (cc)

  module _ {n m : ℕ} (count : count_columns fs ≡ n) {same : Bool} {len : ℕ} {r : Row} (q : r ≡ Done same len) where
    pub struct-bare : (X : Result Selectors) (b₀ i : ℕ) (o₁ o₂ : Bytes) {o₃ : Bytes} → ((ss : Selectors) → X ≡ gives ss → count_selectors ss ≡ m) →
        MakesRow b e o₁ i X r o₂
        → (eqb n m && same) ≡ true → length o₂ ≡ length out → Agree to o₁ out → to ≤ i → o₃ ≡ overlay o₂ to (encode_selector (position k)) → b₀ < e
        → Makes b₀ e out to (X >>= λ ss. gives (struct_selector k fs ss)) (Bare k) o₃
    unfolding made_of Wrote WroteRow ◌>>=◌ row_of struct_selector choose
    struct-bare (refuses x) b₀ i o₁ o₂ f A t l h le z lt = let y : Failed x ≡ Done same len = sym A.answer ∙ q in clash (cc)
    struct-bare (gives ss) b₀ i o₁ o₂ {o₃} f A t l h le z lt =
        let y : Done (in_place_of 0 ss) (length (encode_selectors ss)) ≡ Done same len = sym A.answer ∙ q in
        let s : in_place_of 0 ss ≡ same = cc in
        let j = position-long k in
        let u : Agree to o₂ out = agree_less to i o₂ o₁ out le (holds-before o₁ i (encode_selectors ss) o₂ A.wrote.0) h in
        rw (count, f ss refl, s, t) (record { answer = refl; wrote = (holds-over out to (encode_selector (position k)) o₂ l u z, omega arith) })

    pub struct-mapped : (X : Result Selectors) (b₀ : ℕ) (o₁ o₂ o₃ : Bytes) → ((ss : Selectors) → X ≡ gives ss → count_selectors ss ≡ m) → MakesRow b e o₂
        (to + 6) X r o₃
        → (eqb n m && same) ≡ false → length o₂ ≡ length out → o₁ ≡ overlay out to (4 ∷ encode_selector (position k)) → o₂ ≡ overlay o₁ (to + 4)
        (u16_bytes m) → b₀ < b
        → Makes b₀ e out to (X >>= λ ss. gives (struct_selector k fs ss)) (Built (6 + len)) o₃
    unfolding made_of Wrote WroteRow ◌>>=◌ row_of struct_selector choose encode_selector u16_bytes
    struct-mapped (refuses x) b₀ o₁ o₂ o₃ f A t l h₁ h₂ lt = let y : Failed x ≡ Done same len = sym A.answer ∙ q in clash (cc)
    struct-mapped (gives ss) b₀ o₁ o₂ o₃ f A t l h₁ h₂ lt =
        let y : Done (in_place_of 0 ss) (length (encode_selectors ss)) ≡ Done same len = sym A.answer ∙ q in
        let s : in_place_of 0 ss ≡ same = cc in
        let g : length (encode_selectors ss) ≡ len = cc in
        let j = A.wrote.1 in
        let head : o₂ ≡ overlay out to ((4 ∷ encode_selector (position k)) ++ u16_bytes m) = h₂ ∙ ap (λ (o : Bytes). overlay o (to + 4) (u16_bytes m)) h₁ ∙
        overlay-append out to (4 ∷ encode_selector (position k)) (u16_bytes m) in
        let w = holds-append out to ((4 ∷ encode_selector (position k)) ++ u16_bytes m) (encode_selectors ss) o₂ o₃ l
        (holds_exact out to ((4 ∷ encode_selector (position k)) ++ u16_bytes m) head) A.wrote.0 in
        let bytes : ((4 ∷ encode_selector (position k)) ++ u16_bytes m) ++ encode_selectors ss ≡ encode_selector (struct_mapping (position k) ss) =
        ap (λ (x : ℕ). ((4 ∷ encode_selector (position k)) ++ u16_bytes x) ++ encode_selectors ss) (sym (f ss refl)) in
        let x : 6 + len ≡ length (encode_selector (struct_mapping (position k) ss)) = let x : 6 + len ≡ suc
        (suc (suc (suc (suc (suc (length (encode_selectors ss))))))) = omega arith in x in
        let is : struct_selector k fs ss ≡ struct_mapping (position k) ss = rw (count, f ss refl, s, t) in
        subst (λ (t : Selector). Makes b₀ e out to (gives t) (Built (6 + len)) o₃) (sym is)
        (record { answer = ap Built x; wrote = (subst (λ (t : Bytes). Holds out to t o₃) bytes w, omega arith) })

-- ---- a field, whose answer is X, before others, whose answer is Y

abbrev pub before : Result Selector → Result Selectors → Result Selectors
before X Y = X >>= λ s. Y >>= λ ss. gives (scons s ss)

pub row_stop : (i : ℕ) (X : Result Selector) (Y : Result Selectors) {r : Made} → r ≡ made_of X → is_refused r ≡ true → failed_of r ≡ row_of i (before X Y)
unfolding ◌>>=◌ made_of row_of
row_stop i (refuses n) Y e h = ap failed_of e
row_stop i (gives s) Y e h = never (sym h ∙ ap is_refused e ∙ not-refused s)

pub row_more : (i : ℕ) (X : Result Selector) (Y : Result Selectors) {r : Made} → r ≡ made_of X → is_refused r ≡ false
    → row_of i (before X Y) ≡ join_row (is_bare i r) (len_of r) (row_of (i + 1) Y)
unfolding ◌>>=◌ made_of row_of in_place_of encode_selectors
row_more i (refuses n) Y e h = never (sym (ap is_refused e) ∙ h)
row_more i (gives s) (refuses n) e h = refl
row_more i (gives s) (gives ss) {r} e h =
    let p : is_bare i r ≡ is_position i s = ap (is_bare i) e ∙ bare-is i s in
    let q : len_of r ≡ length (encode_selector s) = ap len_of e ∙ len_is s in
    rw (p, q) (ap (λ (l : ℕ). Done (is_position i s && in_place_of (i + 1) ss) l) (length-append (encode_selector s) (encode_selectors ss)))

module _ {b e : ℕ} {out : Bytes} {k : ℕ} {r : Made} {o : Bytes} where
  pub row-wrote-stopped : (X : Result Selector) (Y : Result Selectors) (b' e' : ℕ) (out' : Bytes) (k' : ℕ) (o' : Bytes) → Makes b e out k X r o →
      is_refused r ≡ true
      → WroteRow b' e' out' k' (before X Y) o'
  unfolding ◌>>=◌ made_of WroteRow
  row-wrote-stopped (refuses n) Y b' e' out' k' o' A h = tt
  row-wrote-stopped (gives s) Y b' e' out' k' o' A h = never (sym h ∙ ap is_refused A.answer ∙ not-refused s)

  pub row_wrote : (X : Result Selector) (Y : Result Selectors) (e' : ℕ) (o' : Bytes) → Makes b e out k X r o → is_refused r ≡ false → length o ≡ length out
      → WroteRow e e' o (k + len_of r) Y o' → WroteRow b e' out k (before X Y) o'
  unfolding ◌>>=◌ made_of Wrote WroteRow encode_selectors
  row_wrote (refuses n) Y e' o' A h l w = never (sym (ap is_refused A.answer) ∙ h)
  row_wrote (gives s) (refuses n) e' o' A h l w = tt
  row_wrote (gives s) (gives ss) e' o' A h l w =
      let q : len_of r ≡ length (encode_selector s) = ap len_of A.answer ∙ len_is s in
      let u : Holds o (k + length (encode_selector s)) (encode_selectors ss) o' = subst (λ (n : ℕ). Holds o (k + n) (encode_selectors ss) o') q w.0 in
      let j = A.wrote.1 in
      let i = w.1 in
      let v = length-append (encode_selector s) (encode_selectors ss) in
      (holds-append out k (encode_selector s) (encode_selectors ss) o o' l A.wrote.0 u, omega arith)
