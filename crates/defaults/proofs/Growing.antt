-- Where a parser ends that reads an entry: never before the offset it began at, and what an entry gives has a byte.
-- Assumes nothing.
use Prim.Native.Nat.{ℕ, zero, suc, ◌+◌, ◌≤◌}
use mathlib.Core.Path.{◌≡◌}
use mathlib.Core.Bool.{Bool, true, false}
use native.Mathlib.Omega.{arith}
use Rattle.layout.specs.Bytes.{Bytes}
use Rattle.layout.specs.Parser.{Res, refuse, ok, next, choose, byte, chunk, u16}
use Rattle.layout.specs.Tree.{LeafType, leaf_of, leaf}
use Rattle.layout.specs.Layout.{Head, a_leaf, a_struct, a_list, an_array, plain_leaf, text, unit, leaf_head, datetime_head, decimal_params, decimal_head}
use Rattle.layout.specs.declared.leaf.Leaf.{Leaf}
use Rattle.layout.specs.declared.types.PlainLeaf.{PlainLeaf}
use Rattle.layout.specs.declared.types.PlainLeaf.TheVariants.{Known, Unknown}
use Rattle.layout.proofs.Ways.{clash}
use Rattle.layout.proofs.View.{next-ok}
use Rattle.values.specs.Content.{content_of}
use Rattle.values.specs.declared.content.Content.{Content}
use Rattle.values.specs.declared.content.Content.TheVariants.{Nothing, Flag, Number, Decimal, Text}
use Rattle.values.specs.Reading.{presence, nullable, flag, decimal, long_text, content_by, leaf_content, content, value, times}
use Rattle.defaults.specs.Table.{only_leaf, default_type, initial_entry, loaded_entry, partition_entry, given_of}
use Rattle.defaults.specs.declared.read.EntryKind.{EntryKind}
use Rattle.defaults.specs.declared.read.EntryKind.TheVariants.{Initial, Partition}

-- what was read ends at the offset or behind it
pub record Ends {A : Type 0} (at : ℕ) (r : Res A) : Type 0 where
  pub behind : (a : A) (m : ℕ) → r ≡ ok a m → at ≤ m

ends-ok : {A : Type 0} {a : A} {at m : ℕ} → at ≤ m → Ends at (ok a m)
ends-ok {A} {a} {at} {m} h = record { behind = λ b k e. let z : m ≡ k = cc in omega arith }

ends-refuse : {A : Type 0} {at n : ℕ} → Ends {A = A} at (refuse n)
ends-refuse = record { behind = λ b k e. clash (cc) }

ends-choose : {A : Type 0} {at : ℕ} (b : Bool) {x y : Res A} → Ends at x → Ends at y → Ends at (choose b x y)
unfolding choose
ends-choose true P Q = P
ends-choose false P Q = Q

ends_next : {A B : Type 0} {at : ℕ} {x : Res A} {k : A → ℕ → Res B} → Ends at x → ((a : A) (m : ℕ) → Ends m (k a m)) → Ends at (next x k)
ends_next {A} {B} {at} {x} {k} P Q = record {
  behind = λ b m e. let (a, i, p, q) = next-ok x k e in let y = P.behind a i p in let z = (Q a i).behind b m q in omega arith;
}

ends_from_lem : {A : Type 0} {at to : ℕ} {r : Res A} → at ≤ to → Ends to r → Ends at r
ends_from_lem h P = record { behind = λ a m e. let z = P.behind a m e in omega arith }

module _ (s : Bytes) where
  byte-ends : (at : ℕ) → Ends (at + 1) (byte s at)
  unfolding byte
  byte-ends at = ends-choose _ (ends-ok (omega arith)) ends-refuse

  one_byte : (at : ℕ) → Ends at (byte s at)
  one_byte at = ends_from_lem (omega arith) (byte-ends at)

  chunk-ends : (n at : ℕ) → Ends at (chunk n s at)
  unfolding chunk
  chunk-ends n at = ends-choose _ (ends-ok (omega arith)) ends-refuse

  u16-ends : (at : ℕ) → Ends at (u16 s at)
  unfolding u16
  u16-ends at = ends_next (one_byte at) (λ a i. ends_next (one_byte i) (λ b j. ends-ok (omega arith)))

  -- ---- a leaf type

  text-ends : (at : ℕ) → Ends at (text s at)
  unfolding text
  text-ends at = ends_next (one_byte at) (λ n i. ends-choose _ (chunk-ends n i) ends-refuse)

  unit_ends : (at : ℕ) → Ends at (unit s at)
  unfolding unit
  unit_ends at =
      ends_next (one_byte at)
      (λ u i. ends-choose _ (ends-ok (omega arith)) (ends-choose _ (ends-ok (omega arith)) (ends-choose _ (ends-ok (omega arith)) ends-refuse)))

  leaf-kind-ends : (l : PlainLeaf) (at : ℕ) → Ends at (leaf_head l s at)
  unfolding leaf_head
  leaf-kind-ends (Known l) at = ends-ok (omega arith)
  leaf-kind-ends Unknown at = ends-refuse

  datetime-kind-ends : (at : ℕ) → Ends at (datetime_head s at)
  unfolding datetime_head
  datetime-kind-ends at = ends_next (unit_ends at) (λ u i. ends_next (text-ends i) (λ z j. ends-ok (omega arith)))

  decimal-kind-ends : (at : ℕ) → Ends at (decimal_head s at)
  unfolding decimal_head decimal_params
  decimal-kind-ends at =
      ends_next (ends_next (one_byte at) (λ p i. ends_next (one_byte i) (λ c j. ends-choose _ (ends-ok (omega arith)) ends-refuse)))
      (λ d i. ends-ok (omega arith))

  only-leaf-ends : (k : Head) (at : ℕ) → Ends at (only_leaf k s at)
  unfolding only_leaf
  only-leaf-ends (a_leaf l) at = ends-ok (omega arith)
  only-leaf-ends (a_struct n) at = ends-refuse
  only-leaf-ends a_list at = ends-refuse
  only-leaf-ends (an_array w) at = ends-refuse

  type-ends : (at : ℕ) → Ends (at + 1) (default_type s at)
  unfolding default_type
  type-ends at =
      ends_next (byte-ends at)
      (λ c i. ends_next (ends-choose _ (datetime-kind-ends i) (ends-choose _ (decimal-kind-ends i) (leaf-kind-ends (plain_leaf c) i)))
      (λ k j. only-leaf-ends k j))

  -- ---- a value of a leaf type

  content-ends : (c : Content) (k : Leaf) (at : ℕ) → Ends at (content_by c k s at)
  unfolding content_by flag decimal long_text
  content-ends Nothing k at = ends-refuse
  content-ends Flag k at = ends_next (ends_next (one_byte at) (λ b i. ends-choose _ (ends-ok (omega arith)) ends-refuse)) (λ b i. ends-ok (omega arith))
  content-ends (Number w) k at = ends_next (chunk-ends w at) (λ bs i. ends-ok (omega arith))
  content-ends (Decimal p) k at =
      ends_next (ends_next (chunk-ends 8 at) (λ bs i. ends-choose _ (ends-ok (omega arith)) ends-refuse)) (λ n i. ends-ok (omega arith))
  content-ends Text k at = ends_next (ends_next (u16-ends at) (λ n i. chunk-ends n i)) (λ bs i. ends-ok (omega arith))

  value-ends : (l : LeafType) (at : ℕ) → Ends at (value (leaf l) s at)
  unfolding value nullable presence content leaf_content
  value-ends l at =
      ends_next (ends_next (one_byte at) (λ b i. ends-choose _ (ends-ok (omega arith)) (ends-choose _ (ends-ok (omega arith)) ends-refuse)))
      (λ here i. ends-choose here (content-ends (content_of (leaf_of l)) (leaf_of l) i) (ends-ok (omega arith)))

  times-ends : (l : LeafType) (n at : ℕ) → Ends at (times n (value (leaf l)) s at)
  unfolding times
  times-ends l zero at = ends-ok (omega arith)
  times-ends l (suc n) at = ends_next (value-ends l at) (λ v i. ends_next (times-ends l n i) (λ vs j. ends-ok (omega arith)))

  -- ---- what an entry gives

  initial-ends : (at : ℕ) → Ends (at + 1) (initial_entry s at)
  unfolding initial_entry
  initial-ends at = ends_next (type-ends at) (λ l i. ends_next (value-ends l i) (λ v j. ends-ok (omega arith)))

  loaded-ends : (at : ℕ) → Ends (at + 1) (loaded_entry s at)
  unfolding loaded_entry
  loaded-ends at = ends_next (type-ends at) (λ l i. ends_next (u16-ends i) (λ n j. ends_next (times-ends l n j) (λ vs k. ends-ok (omega arith))))

  partition-ends : (at : ℕ) → Ends (at + 1) (partition_entry s at)
  unfolding partition_entry
  partition-ends at =
      ends_next (byte-ends at) (λ b i. ends-choose _ (ends_from_lem (omega arith) (loaded-ends i)) (ends-choose _ (ends-ok (omega arith)) ends-refuse))

  pub given-ends : (k : EntryKind) (at : ℕ) → Ends (at + 1) (given_of k s at)
  unfolding given_of
  given-ends Initial at = initial-ends at
  given-ends Partition at = partition-ends at
