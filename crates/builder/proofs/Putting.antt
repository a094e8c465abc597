-- The bytes of selectors, store by store. Assumes nothing.
use Prim.Native.Nat.{ℕ, ◌+◌, ◌/◌, ◌%◌, ◌<◌}
use mathlib.Core.Path.{◌≡◌, refl, ap, ◌∙◌}
use mathlib.Core.List.{[], ◌∷◌, ◌++◌}
use native.Mathlib.Omega.{arith}
use lib.ListN.{length, set, length-append}
use Rattle.store.specs.code.Overlay.{overlay}
use Rattle.store.proofs.Overlay.{overlay-append}
use Rattle.store.proofs.Holds.{holds_exact}
use Rattle.layout.specs.Bytes.{Bytes}
use Rattle.layout.specs.Tree.{DataType, leaf, struct, list, array, dtype_of}
use Rattle.layout.specs.code.Stands.{TypeAt}
use Rattle.layout.specs.declared.columns.Position.{Position}
use Rattle.layout.specs.declared.edition.Edition.{Edition}
use Rattle.forms.specs.Form.{u16_bytes, text_bytes, leaf_form, kind_form, form}
use Rattle.forms.proofs.Writing.{extent}
use Rattle.rules.specs.Outcomes.{option_code}
use Rattle.rules.specs.code.Answers.{number_of, verdict_of}
use Rattle.rules.specs.declared.outcome.CastOption.{CastOption}
use Rattle.rules.specs.declared.outcome.Mismatch.{Mismatch}
use Rattle.rules.specs.declared.outcome.Outcome.{Outcome}
use Rattle.plan.specs.Selector.{position, cast}
use Rattle.plan.specs.Encode.{encode_selector}
use Rattle.builder.specs.code.Answers.{made_of, Wrote, Makes, by_rule, constant_head}
use Rattle.builder.specs.declared.answer.Made.{Made}

module _ (out : Bytes) (k : ℕ) where
  pub short-put : (n : ℕ) {o o' : Bytes} → o ≡ set out k (n % 256) → o' ≡ set o (k + 1) (n / 256) → o' ≡ overlay out k (u16_bytes n)
  unfolding overlay u16_bytes
  short-put n e f = rw (f, e)

  pub position-put : (p : Position) {o o' : Bytes} → o ≡ set out k 0 → o' ≡ overlay o (k + 1) (u16_bytes p.0) → o' ≡ overlay out k
      (encode_selector (position p))
  unfolding overlay encode_selector
  position-put p e f = rw (f, e)

  pub head-put : (c : ℕ) (p : Position) {o o' : Bytes} → o ≡ set out k c → o' ≡ overlay o (k + 1) (encode_selector (position p)) → o' ≡ overlay out k
      (c ∷ encode_selector (position p))
  unfolding overlay
  head-put c p e f = rw (f, e)

  pub cast-put : (p : Position) (t : DataType) (x : CastOption) {n c : ℕ} {o₁ o₂ o₃ : Bytes} → o₁ ≡ overlay out k (2 ∷ encode_selector (position p))
      → n ≡ length (form t) → o₂ ≡ overlay o₁ (k + 4) (form t) → c ≡ option_code x → o₃ ≡ set o₂ (k + 4 + n) c → o₃ ≡ overlay out k
      (encode_selector (cast (position p) t x))
  unfolding overlay encode_selector u16_bytes
  cast-put p t x {n} {c} {o₁} {o₂} {o₃} e₁ en e₂ ec e₃ =
      rw (e₃, ec, en, e₂, e₁)
      (overlay-append (overlay out k (2 ∷ encode_selector (position p))) (k + 4) (form t) (option_code x ∷ [])
      ∙ overlay-append out k (2 ∷ encode_selector (position p)) (form t ++ (option_code x ∷ [])))

  pub constant_head-put : (b : Bytes) (t : DataType) {n : ℕ} {o₁ o₂ o₃ : Bytes} → o₁ ≡ set out k 1 → n ≡ length (text_bytes b) → o₂ ≡ overlay o₁ (k + 1)
      (text_bytes b)
      → o₃ ≡ overlay o₂ (k + 1 + n) (form t) → o₃ ≡ overlay out k (constant_head b t)
  unfolding overlay
  constant_head-put b t e₁ en e₂ e₃ = rw (e₃, en, e₂, e₁) (overlay-append (set out k 1) (k + 1) (text_bytes b) (form t))

pub position-long : (p : Position) → length (encode_selector (position p)) ≡ 3
unfolding encode_selector u16_bytes
position-long p = refl

pub cast-long : (p : Position) (t : DataType) (x : CastOption) {n : ℕ} → n ≡ length (form t) → 5 + n ≡ length (encode_selector (cast (position p) t x))
unfolding encode_selector u16_bytes
cast-long p t x e = let h = length-append (form t) (option_code x ∷ []) in omega arith

pub constant_head-long : (b : Bytes) (t : DataType) {n m : ℕ} → n ≡ length (text_bytes b) → m ≡ length (form t) → 1 + n + m ≡ length (constant_head b t)
constant_head-long b t e f = let h = length-append (text_bytes b) (form t) in omega arith

-- a type has a byte at least
pub form-some : (t : DataType) → 0 < length (form t)
unfolding form kind_form u16_bytes leaf_form
form-some (leaf l) = omega arith
form-some (struct fs) = omega arith
form-some (list t) = omega arith
form-some (array w t) = omega arith

pub type-after : {v : Edition} {d : ℕ} {s : Bytes} {at : ℕ} (P : TypeAt v d s at) → at < P.end
type-after P = let (a, b) = extent P in let h = form-some (dtype_of P.tree) in omega arith

-- ---- what an outcome comes to

module _ {v : Edition} {d : ℕ} {s : Bytes} {at : ℕ} (Q : TypeAt v d s at) (p : Position) (out : Bytes) (k : ℕ) {x : Outcome} where
  pub ruled-bare : {o : Bytes} → x ≡ Outcome.Untouched → o ≡ overlay out k (encode_selector (position p)) → Makes at Q.end out k
      (by_rule (verdict_of x) p Q.tree) (Made.Bare p) o
  unfolding made_of Wrote
  ruled-bare h e = let l = position-long p in let a = type-after Q in rw h (record
      { answer = refl; wrote = (holds_exact out k (encode_selector (position p)) e, omega arith) })

  pub ruled-refused : (o : Bytes) {m : Mismatch} {n : ℕ} → x ≡ Outcome.Refused m → n ≡ number_of m → Makes at Q.end out k
      (by_rule (verdict_of x) p Q.tree) (Made.Refused n) o
  unfolding made_of Wrote
  ruled-refused o h e = rw h (record { answer = ap Made.Refused e; wrote = tt })

  pub ruled-cast : {c : CastOption} {n : ℕ} {o : Bytes} → x ≡ Outcome.Cast c → n ≡ length (encode_selector (cast (position p) (dtype_of Q.tree) c))
      → o ≡ overlay out k (encode_selector (cast (position p) (dtype_of Q.tree) c)) → Makes at Q.end out k (by_rule (verdict_of x) p Q.tree)
      (Made.Built n) o
  unfolding made_of Wrote
  ruled-cast {c = c} h l e =
      let f = cast-long p (dtype_of Q.tree) c refl in
      let (a, b) = extent Q in
      let g = form-some (dtype_of Q.tree) in
      rw h (record { answer = ap Made.Built l; wrote = (holds_exact out k (encode_selector (cast (position p) (dtype_of Q.tree) c)) e, omega arith) })
