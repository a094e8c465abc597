-- Casts over casts, one by one. Assumes nothing.
use Prim.Native.Nat.{ℕ}
use mathlib.Core.Path.{◌≡◌, refl, sym, ap, subst, ◌∙◌}
use mathlib.Core.Bool.{true}
use Rattle.layout.specs.Bytes.{Bytes}
use Rattle.layout.specs.Tree.{dtype_of}
use Rattle.layout.specs.Layout.{kind, text, type as typeRead}
use Rattle.layout.specs.code.Stands.{TypeAt}
use Rattle.layout.specs.code.Answers.{head_res}
use Rattle.layout.specs.declared.columns.Position.{Position}
use Rattle.layout.specs.declared.columns.Siblings.TheVariants.{Free}
use Rattle.layout.specs.declared.cursor.Cursor.{Cursor}
use Rattle.layout.specs.declared.leaf.Leaf.{Leaf}
use Rattle.layout.specs.declared.types.Head.{Head}
use Rattle.layout.specs.declared.types.LeafType.{LeafType as LeafSpan}
use Rattle.layout.specs.declared.edition.Edition.{Edition}
use Rattle.layout.specs.declared.edition.Edition.TheVariants.{One}
use Rattle.values.specs.Value.{Value, Values, vnull, vnumber}
use Rattle.values.specs.Encode.{encode_value}
use Rattle.plan.specs.Selector.{position}
use Rattle.plan.specs.Convert.{convert}
use Rattle.plan.specs.Run.{value_at, cast_leaf, cast_value, eval, clean}
use Rattle.convert.specs.code.Converted.{value_of}
use Rattle.convert.specs.declared.leaf.Converted.{Converted}
use Rattle.walk.specs.code.Stands.{SelectorAt}
use Rattle.walk.specs.code.Parts.{TextAt, OptionAt, CastAt, RenameAt}
use Rattle.raw.specs.code.Number.{is_number, LeafAnswer, LeafIs}
use Rattle.raw.specs.declared.leaf.LeafValue.{LeafValue}
use Rattle.raw.proofs.Leaves.{is_nested}
use Rattle.raw.proofs.Storing.{cast-kept}
use Rattle.transfer.specs.code.Reaching.{takes, ReachedIs}
use Rattle.transfer.specs.code.Chains.{ChainAnswer, ChainIs, ChainedAnswer, ChainedIs}
use Rattle.transfer.specs.declared.chain.ChainValue.{ChainValue}
use Rattle.transfer.specs.declared.chain.Chained.{Chained}
use Rattle.transfer.specs.declared.leaf.Reached.{Reached}
use Rattle.transfer.proofs.Origins.{position-value}
use Rattle.transfer.proofs.Reaching.{reached_as, converted, cast_nested, cast_leaf_lem}

-- the same answer, by equations of the values
chain_as : {x x' y y' : Value} {q : ChainValue} → x ≡ x' → y ≡ y' → ChainIs x y q → ChainIs x' y' q
chain_as {x} {x'} {y} {y'} {q} e f C = subst (λ (z : Value). ChainIs x' z q) f (subst (λ (z : Value). ChainIs z y q) e C)

chain-to : {x y : Value} {q p : ChainValue} → ChainIs x y q → q ≡ p → ChainAnswer x y p
chain-to {x} {y} C e = subst (λ (z : ChainValue). ChainAnswer x y z) e C.answer

pub chained-to : {x y : Value} {e : ℕ} {r : Chained} {q : ChainValue} {c : Cursor} → ChainedIs x y e r → r ≡ Chained.To q c → ChainIs x y q × (c.at ≡ e)
chained-to {x} {y} {e} R h = subst (λ (z : Chained). ChainedAnswer x y e z) h R.answer

-- ---- the value that was taken

pub chain-is : {x y : Value} {q : ChainValue} → x ≡ y → ChainIs x x q → ChainIs y y q
chain-is e C = chain_as e e C

pub taken-null : {x : Value} → x ≡ vnull → ChainIs x x ChainValue.Same
unfolding is_number
taken-null e = record { answer = (refl, ap is_number e) }

module _ {x : Value} {q : LeafValue} (L : LeafIs x q) where
  pub taken-number : {k : Leaf} {n : ℕ} → q ≡ LeafValue.Number k n → ChainIs x x (ChainValue.Number k n)
  taken-number f = record { answer = subst (λ (z : LeafValue). LeafAnswer x z) f L.answer }

  pub taken-other : q ≡ LeafValue.Other → ChainIs x x ChainValue.Same
  taken-other f = record { answer = (refl, subst (λ (z : LeafValue). LeafAnswer x z) f L.answer) }

-- ---- one cast

pub chain-converted : (i k : Leaf) (n : ℕ) {q : Converted} → value_of k q ≡ convert i k n → {m : ℕ} → q ≡ Converted.Number m → (y : Value) → ChainIs
    (cast_leaf k (vnumber i n)) y (ChainValue.Number k m)
chain-converted i k n h f y = record { answer = sym (converted i k n h f) }

module _ {x y : Value} {q : ChainValue} (C : ChainIs x y q) where
  pub cast_number : (k : Leaf) {i : Leaf} {n : ℕ} {r : ChainValue} → q ≡ ChainValue.Number i n → ((z : Value) → ChainIs (cast_leaf k (vnumber i n)) z r)
      → ChainIs (cast_leaf k x) y r
  cast_number k f R = chain_as (ap (cast_leaf k) (sym (chain-to C f))) refl (R y)

  pub cast_same : (k : Leaf) → q ≡ ChainValue.Same → ChainIs (cast_leaf k x) y ChainValue.Same
  cast_same k f =
      let (e, n) = chain-to C f in
      record { answer = (cast-kept k x (ap is_number e ∙ n) ∙ e, n) }

  module _ {v : Edition} {s : Bytes} {at : ℕ} (T : TypeAt v 16 s at) where
    pub by_nested : is_nested (dtype_of T.tree) ≡ true → ChainIs (cast_value (dtype_of T.tree) x) y q
    by_nested n = chain_as (cast_nested (dtype_of T.tree) x n) refl C

pub by_leaf : {v : Edition} {s : Bytes} {at : ℕ} (T : TypeAt v 16 s at) (x : Value) {y : Value} {r : ChainValue} {p : Head} {l : LeafSpan} {c : Cursor}
    → head_res s p ≡ kind s at → p ≡ Head.Leaf l c
    → ChainIs (cast_leaf l.leaf x) y r → ChainIs (cast_value (dtype_of T.tree) x) y r
by_leaf T x h q C = chain_as (cast_leaf_lem T x h q) refl C

-- ---- a chain

module _ {s : Bytes} {at : ℕ} (P : SelectorAt s at) (ρ : Values) where
  pub chain-position : {k : Position} {r : ChainValue} → P.tree ≡ position k → ChainIs (value_at ρ (takes P.tree)) (value_at ρ (takes P.tree)) r
      → ChainIs (eval ρ P.tree) (value_at ρ (takes P.tree)) r
  chain-position e C = chain_as (position-value P e ρ) refl C

  pub cast-takes : {m : ℕ} (K : CastAt s at P m) → takes K.input.tree ≡ takes P.tree
  unfolding takes
  cast-takes K = sym (ap takes K.is)

  pub rename-takes : {m : ℕ} (K : RenameAt s at P m) → takes K.input.tree ≡ takes P.tree
  unfolding takes
  rename-takes K = sym (ap takes K.is)

  -- the cast's type, where its input ends
  abbrev pub type_moved : {m : ℕ} (K : CastAt s at P m) {t : ℕ} → t ≡ K.input.end → TypeAt One 16 s t
  type_moved K h = record { tree = K.type.tree; end = K.type.end; reads = ap (λ (o : ℕ). typeRead One Free 16 s o) h ∙ K.type.reads }

  pub cast_over : {m : ℕ} (K : CastAt s at P m) {y : Value} {r : ChainValue} → ChainIs (cast_value (dtype_of K.type.tree) (eval ρ K.input.tree)) y
      r → ChainIs (eval ρ P.tree) y r
  unfolding eval
  cast_over K C = chain_as (sym (ap (eval ρ) K.is)) refl C

  pub chain-cast : {m : ℕ} (K : CastAt s at P m) {r : ChainValue} → ChainIs (cast_value (dtype_of K.type.tree) (eval ρ K.input.tree))
      (value_at ρ (takes K.input.tree)) r
      → ChainIs (eval ρ P.tree) (value_at ρ (takes P.tree)) r
  chain-cast K C = chain_as refl (ap (value_at ρ) (cast-takes K)) (cast_over K C)

  pub chain-rename : {m : ℕ} (K : RenameAt s at P m) {r : ChainValue} → ChainIs (eval ρ K.input.tree) (value_at ρ (takes K.input.tree)) r
      → ChainIs (eval ρ P.tree) (value_at ρ (takes P.tree)) r
  unfolding eval
  chain-rename K C = chain_as (sym (ap (eval ρ) K.is)) (ap (value_at ρ) (rename-takes K)) C

  -- where they end
  pub cast_end : {m : ℕ} (K : CastAt s at P m) {t r : ℕ} → t ≡ K.input.end → ((T : TypeAt One 16 s t) (O : OptionAt s T.end) → r ≡ O.end) → r ≡ P.end
  cast_end K h g = g (type_moved K h) K.option ∙ K.ends.1

  pub rename_end : {m : ℕ} (K : RenameAt s at P m) {d r : ℕ} → d ≡ K.input.end → ((N : TextAt s d) → r ≡ N.end) → r ≡ P.end
  rename_end K h g = g (record { bytes = K.name.bytes; end = K.name.end; reads = ap (λ (o : ℕ). text s o) h ∙ K.name.reads }) ∙ K.ends

-- ---- what is stored

module _ {x y : Value} {q : ChainValue} (C : ChainIs x y q) {e : ℕ} {out : Bytes} {k : ℕ} {r : Reached} {new : Bytes} where
  pub chain-number : {i : Leaf} {n : ℕ} → q ≡ ChainValue.Number i n → ReachedIs true (encode_value (vnumber i n)) e out k r new → ReachedIs (clean x)
      (encode_value x) e out k r new
  unfolding clean
  chain-number f R = reached_as (sym (chain-to C f)) R

  pub chain_same : q ≡ ChainValue.Same → ReachedIs (clean y) (encode_value y) e out k r new → ReachedIs (clean x) (encode_value x) e out k r new
  chain_same f R = reached_as (sym (chain-to C f).0) R
