-- Rules for `search`: each way through what an entry holds, from what the callees answered and what the tests said.
-- Assumes nothing.
use Prim.Native.Nat.{ℕ, suc, ◌+◌, ◌-◌, ◌≤◌, ◌<◌}
use mathlib.Core.Path.{◌≡◌, refl, sym, ap, ◌∙◌}
use native.Mathlib.Omega.{arith}
use borrow.Author.Tests.{ne_eqb}
use Rattle.layout.specs.Bytes.{Bytes}
use Rattle.layout.specs.Parser.{Res, refuse, ok, next, choose, byte, u16}
use Rattle.layout.specs.Tree.{LeafType, leaf}
use Rattle.layout.specs.Layout.{kind, kind_of, leaf_head}
use Rattle.layout.specs.code.Answers.{step_res, short_res, head_res, leaf_at, moved_of}
use Rattle.layout.specs.declared.cursor.Cursor.{Cursor}
use Rattle.layout.specs.declared.cursor.Step.{Step}
use Rattle.layout.specs.declared.cursor.Short.{Short}
use Rattle.layout.specs.declared.cursor.Moved.{Moved}
use Rattle.layout.specs.declared.leaf.Leaf.{Leaf}
use Rattle.layout.specs.declared.types.Head.{Head}
use Rattle.layout.specs.declared.types.LeafType.{LeafType as LeafSpan}
use Rattle.layout.proofs.Leaves.{leaf_of-type}
use Rattle.layout.proofs.Ways.{moved_to, moved_refused, to-pure}
use Rattle.values.specs.Value.{vcons}
use Rattle.values.specs.Reading.{presence, nullable, leaf_content, content, value, times}
use Rattle.values.specs.code.Answers.{presence_res}
use Rattle.values.specs.declared.leaf.Presence.{Presence}
use Rattle.defaults.specs.Table.{initial, partition, only_leaf, default_type, initial_entry, loaded_entry, partition_entry, given_of, owner_of}
use Rattle.defaults.specs.code.Answers.{leaf_res}
use Rattle.defaults.specs.declared.types.LeafRead.{LeafRead}
use Rattle.defaults.specs.declared.read.Owner.{Owner}
use Rattle.defaults.specs.declared.read.TableVersion.{TableVersion}
use Rattle.defaults.specs.declared.read.TableVersion.TheVariants.{Shared, ByOwner}
use Rattle.defaults.specs.declared.read.EntryKind.{EntryKind}
use Rattle.defaults.specs.declared.read.EntryKind.TheVariants.{Initial, Partition}

-- ---- a leaf type

module _ (s : Bytes) (at : ℕ) {p : Head} (e : head_res s p ≡ kind s at) where
  pub only_leaf_lem : {l : LeafSpan} {c : Cursor} → p ≡ Head.Leaf l c → ok (leaf_at s l) c.at ≡ next (kind s at) (λ k m. only_leaf k s m)
  unfolding next only_leaf
  only_leaf_lem f = rw (← e, f)

  pub only-struct : {n : ℕ} {c : Cursor} → p ≡ Head.Struct n c → refuse 3 ≡ next (kind s at) (λ k m. only_leaf k s m)
  unfolding next only_leaf
  only-struct f = rw (← e, f)

  pub only-list : {c : Cursor} → p ≡ Head.List c → refuse 3 ≡ next (kind s at) (λ k m. only_leaf k s m)
  unfolding next only_leaf
  only-list f = rw (← e, f)

  pub only-array : {n : ℕ} {c : Cursor} → p ≡ Head.Array n c → refuse 3 ≡ next (kind s at) (λ k m. only_leaf k s m)
  unfolding next only_leaf
  only-array f = rw (← e, f)

  pub only_none : {n : ℕ} → p ≡ Head.Refused n → refuse n ≡ next (kind s at) (λ k m. only_leaf k s m)
  unfolding next
  only_none f = rw (← e, f)

pub ruleset only-ways = (only_leaf_lem, only-struct, only-list, only-array, only_none)

module _ (s : Bytes) (at : ℕ) {p : Step} (e : step_res p ≡ byte s at) where
  pub type-none : {n : ℕ} → p ≡ Step.Refused n → refuse n ≡ default_type s at
  unfolding default_type next
  type-none f = rw (← e, f)

  module _ {k : ℕ} {c : Cursor} (f : p ≡ Step.Byte k c) where
    pub type-struct : k ≡ 18 → refuse 3 ≡ default_type s at
    unfolding default_type next choose leaf_head
    type-struct h = rw (← e, f, h)

    pub type-list : k ≡ 19 → refuse 3 ≡ default_type s at
    unfolding default_type next choose leaf_head
    type-list h = rw (← e, f, h)

    pub type-array : k ≡ 20 → refuse 3 ≡ default_type s at
    unfolding default_type next choose leaf_head
    type-array h = rw (← e, f, h)

    pub type-other : {r : Res LeafType} → (k ≡ 18 → ⊥) → (k ≡ 19 → ⊥) → (k ≡ 20 → ⊥) → r ≡ next (kind s at) (λ k m. only_leaf k s m) → r ≡ default_type s at
    unfolding default_type kind kind_of next choose
    type-other x y z g = g ∙ rw (← e, f, ne_eqb k 18 x, ne_eqb k 19 y, ne_eqb k 20 z) refl

pub ruleset leaf-type-ways = (type-none, type-struct, type-list, type-array, type-other)

-- ---- a value of a leaf type

-- what follows the presence byte is read by the leaf's kind alone
pub leaf_content_lem : (s : Bytes) (l : LeafSpan) (at : ℕ) → content (leaf (leaf_at s l)) s at ≡ leaf_content l.leaf s at
unfolding content
leaf_content_lem s l at = ap (λ (k : Leaf). leaf_content k s at) (leaf_of-type l.leaf _)

module _ (s : Bytes) (l : LeafSpan) (at : ℕ) {p : Presence} (e : presence_res p ≡ presence s at) where
  pub leaf-null : {d : Cursor} → p ≡ Presence.Null d → Moved.To d ≡ moved_of (value (leaf (leaf_at s l)) s at)
  unfolding value nullable next choose moved_of
  leaf-null f = rw (← e, f)

  pub leaf-refused : {k : ℕ} → p ≡ Presence.Refused k → Moved.Refused k ≡ moved_of (value (leaf (leaf_at s l)) s at)
  unfolding value nullable next moved_of
  leaf-refused f = rw (← e, f)

  pub leaf-present : {d : Cursor} {r : Moved} → p ≡ Presence.Present d → r ≡ moved_of (leaf_content l.leaf s d.at) → r ≡ moved_of
      (value (leaf (leaf_at s l)) s at)
  unfolding value nullable next choose
  leaf-present {d} f g = rw (← e, f) (g ∙ ap moved_of (sym (leaf_content_lem s l d.at)))

pub ruleset value-ways = (leaf-null, leaf-refused, leaf-present)

-- ---- values of a leaf type, one after the other

pub record Repeating (s : Bytes) (l : LeafSpan) (n c i at : ℕ) : Type 0 where
  pub within : i ≤ n
  pub same : moved_of (times n (value (leaf (leaf_at s l))) s c) ≡ moved_of (times (n - i) (value (leaf (leaf_at s l))) s at)

module _ (s : Bytes) (l : LeafSpan) (n c : ℕ) where
  pub repeating_none : Repeating s l n c 0 c
  repeating_none = record {
    within = omega arith;
    same = ap (λ (k : ℕ). moved_of (times k (value (leaf (leaf_at s l))) s c))
        (let e : n ≡ n - 0 = omega arith in e);
  }

  module _ (i at : ℕ) (a : Repeating s l n c i at) where
    pub repeating_all : n ≤ i → Moved.To (record { at = at }) ≡ moved_of (times n (value (leaf (leaf_at s l))) s c)
    unfolding times moved_of
    repeating_all h = let e : n - i ≡ 0 = omega arith in rw (a.same, e)

    module _ (lt : i < n) {r : Moved} (h : r ≡ moved_of (value (leaf (leaf_at s l)) s at)) where
      step : n - i ≡ suc (n - (i + 1))
      step = omega arith

      pub repeating-stopped : {k : ℕ} → r ≡ Moved.Refused k → Moved.Refused k ≡ moved_of (times n (value (leaf (leaf_at s l))) s c)
      unfolding times next moved_of
      repeating-stopped f = rw (a.same, step) (rw (moved_refused (value (leaf (leaf_at s l)) s at) h f))

      pub repeating-more : {m : Cursor} → r ≡ Moved.To m → Repeating s l n c (i + 1) m.at
      unfolding times next
      repeating-more {m} f =
          let t = moved_to (value (leaf (leaf_at s l)) s at) h f in
          record {
            within = omega arith;
            same = a.same ∙ rw step (rw t.1 (sym (to-pure (vcons t.0) (times (n - (i + 1)) (value (leaf (leaf_at s l))) s m.at) refl)));
          }

-- ---- what an entry gives

module _ (s : Bytes) (at : ℕ) {p : LeafRead} (e : leaf_res s p ≡ default_type s at) where
  pub initial_untyped : {k : ℕ} → p ≡ LeafRead.Refused k → Moved.Refused k ≡ moved_of (initial_entry s at)
  unfolding initial_entry next moved_of
  initial_untyped f = rw (← e, f)

  pub loaded_untyped : {k : ℕ} → p ≡ LeafRead.Refused k → Moved.Refused k ≡ moved_of (loaded_entry s at)
  unfolding loaded_entry next moved_of
  loaded_untyped f = rw (← e, f)

  module _ {l : LeafSpan} {c : Cursor} (f : p ≡ LeafRead.Is l c) where
    pub initial-typed : {r : Moved} → r ≡ moved_of (value (leaf (leaf_at s l)) s c.at) → r ≡ moved_of (initial_entry s at)
    unfolding initial_entry next
    initial-typed g = rw (← e, f) (to-pure (initial (leaf_at s l)) (value (leaf (leaf_at s l)) s c.at) g)

    module _ {q : Short} (g : short_res q ≡ u16 s c.at) where
      pub loaded-uncounted : {k : ℕ} → q ≡ Short.Refused k → Moved.Refused k ≡ moved_of (loaded_entry s at)
      unfolding loaded_entry next moved_of
      loaded-uncounted h = rw (← e, f, ← g, h)

      pub loaded-counted : {n : ℕ} {d : Cursor} {r : Moved} → q ≡ Short.Is n d → r ≡ moved_of (times n (value (leaf (leaf_at s l))) s d.at) → r ≡
          moved_of (loaded_entry s at)
      unfolding loaded_entry next
      loaded-counted {n} {d} h i = rw (← e, f, ← g, h) (to-pure (partition (leaf_at s l)) (times n (value (leaf (leaf_at s l))) s d.at) i)

module _ (s : Bytes) (at : ℕ) {p : Step} (e : step_res p ≡ byte s at) where
  pub load_none : {k : ℕ} → p ≡ Step.Refused k → Moved.Refused k ≡ moved_of (partition_entry s at)
  unfolding partition_entry next moved_of
  load_none f = rw (← e, f)

  module _ {b : ℕ} {c : Cursor} (f : p ≡ Step.Byte b c) where
    pub load_good : {r : Moved} → b ≡ 0 → r ≡ moved_of (loaded_entry s c.at) → r ≡ moved_of (partition_entry s at)
    unfolding partition_entry next choose
    load_good h g = rw (← e, f, h) g

    pub load_failed : b ≡ 1 → Moved.To c ≡ moved_of (partition_entry s at)
    unfolding partition_entry next choose moved_of
    load_failed h = rw (← e, f, h)

    pub load_unknown : (b ≡ 0 → ⊥) → (b ≡ 1 → ⊥) → Moved.Refused 3 ≡ moved_of (partition_entry s at)
    unfolding partition_entry next choose moved_of
    load_unknown x y = rw (← e, f, ne_eqb b 0 x, ne_eqb b 1 y)

module _ (s : Bytes) (k : EntryKind) (at : ℕ) where
  pub given-initial : {r : Moved} → k ≡ Initial → r ≡ moved_of (initial_entry s at) → r ≡ moved_of (given_of k s at)
  unfolding given_of
  given-initial h g = rw h g

  pub given-partition : {r : Moved} → k ≡ Partition → r ≡ moved_of (partition_entry s at) → r ≡ moved_of (given_of k s at)
  unfolding given_of
  given-partition h g = rw h g

pub ruleset given-ways = (initial_untyped, initial-typed, loaded_untyped, loaded-uncounted, loaded-counted, load_none, load_good, load_failed, load_unknown)

pub ruleset kind-ways = (given-initial, given-partition)

-- ---- an entry's owner

module _ (s : Bytes) (v : TableVersion) (at : ℕ) where
  pub owner_every : v ≡ Shared → ok Owner.Every at ≡ owner_of v s at
  unfolding owner_of
  owner_every h = rw h

  module _ (h : v ≡ ByOwner) {q : Short} (e : short_res q ≡ u16 s at) where
    pub owner-only : {n : ℕ} {c : Cursor} → q ≡ Short.Is n c → ok (Owner.Only n) c.at ≡ owner_of v s at
    unfolding owner_of next
    owner-only f = rw (h, ← e, f)

    pub owner-none : {k : ℕ} → q ≡ Short.Refused k → refuse k ≡ owner_of v s at
    unfolding owner_of next
    owner-none f = rw (h, ← e, f)

pub ruleset owner-ways = (owner_every, owner-only, owner-none)
