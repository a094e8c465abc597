-- The labels that were read, in a table of slots: a slot holds where a column begins, or 0. A label is looked for from
-- the slot of its hash on, up to an empty one. All that matters is that a search meets every label that was noted; that
-- it meets few others is not stated.
use Rattle.std.specs.Prelude.{ℕ, ◌+◌, ◌-◌, ◌*◌, ◌/◌, ◌%◌, ◌≤◌, ◌<◌, ◌≡◌, List, [], ◌∷◌, Bool, true, false, length, get_or, ltb, eqb}
use Rattle.layout.specs.Bytes.{Bytes}
use Rattle.layout.specs.Parser.{ok, choose}
use Rattle.layout.specs.Tree.{Label}
use Rattle.layout.specs.Layout.{label, same_label}
use Rattle.layout.specs.code.Scan.{found, repeats}
use Rattle.layout.specs.declared.edition.Edition.{Edition}
use Rattle.layout.specs.declared.columns.Siblings.{Siblings}
use Rattle.layout.specs.declared.columns.Siblings.TheVariants.{Names, Ids, Free}

unfoldable pub mixed : ℕ → ℕ → ℕ
mixed h x = (h + x) * 0x5BD1E995 % 4294967296

unfoldable pub hash_bytes : ℕ → Bytes → ℕ
hash_bytes h [] = h
hash_bytes h (a ∷ []) = mixed h a
hash_bytes h (a ∷ (b ∷ bs)) = hash_bytes (mixed h (a + 256 * b)) bs

-- of what a rule compares, among the siblings that begin at an offset
abbrev pub label_hash : Siblings → ℕ → Label → ℕ
label_hash Names from l = hash_bytes (from % 65536) l.name
label_hash Ids from l = mixed (mixed 0 (from % 65536)) l.id.0
label_hash Free from l = 0

-- what a slot holds of a column that begins where a slot can't say
abbrev pub far : ℕ
far = 65535

-- the slot of a hash of 32 bits, of n
unfoldable pub first_slot : ℕ → ℕ → ℕ
first_slot n h = h * (n % 4294967296) / 4294967296

-- the slot that is looked at after i others; the first slot follows the last
unfoldable pub slot_after : ℕ → ℕ → ℕ → ℕ
slot_after n first i = choose (ltb i (n - first)) (first + i) (i - (n - first))

-- what stands in the slot that is looked at after i others for a hash
abbrev pub slot_at : List ℕ → ℕ → ℕ → ℕ
slot_at t h i = get_or t (slot_after (length t) (first_slot (length t) h) i) 0

-- whether the column that a slot tells of may have a label that this one repeats
unfoldable pub may_repeat : Edition → Siblings → Label → Bytes → ℕ → Bool
may_repeat v r l s x = choose (eqb x far) true (found (label v s x) (λ m e. same_label r l m))

-- a search for a label of a hash meets a column that it may repeat, or no empty slot
pub record Meets (v : Edition) (r : Siblings) (l : Label) (s : Bytes) (t : List ℕ) (h : ℕ) : Type 0 where
  pub i : ℕ
  pub filled : (j : ℕ) → j < i → 0 < slot_at t h j
  pub told : i < length t → (0 < slot_at t h i) × (may_repeat v r l s (slot_at t h i) ≡ true)

-- a search ends at the empty slot k, and has met no column that the label may repeat
pub record Empty (v : Edition) (r : Siblings) (l : Label) (s : Bytes) (t : List ℕ) (h k : ℕ) : Type 0 where
  pub i : ℕ
  pub is : k ≡ slot_after (length t) (first_slot (length t) h) i
  pub empty : get_or t k 0 ≡ 0
  pub filled : (j : ℕ) → j < i → 0 < slot_at t h j
  pub new : Meets v r l s t h → ⊥

-- an empty slot, or past the last one
pub record Searched (v : Edition) (r : Siblings) (l : Label) (s : Bytes) (t : List ℕ) (h k : ℕ) : Type 0 where
  pub new : k < length t → Empty v r l s t h k
  pub met : length t ≤ k → Meets v r l s t h

-- u is as long as t, and what stands in a slot of t stands there in u
pub record Keeps (t u : List ℕ) : Type 0 where
  pub long : length t ≡ length u
  pub kept : (k : ℕ) → 0 < get_or t k 0 → get_or u k 0 ≡ get_or t k 0

-- a column with this label begins there
pub record Begins (v : Edition) (s : Bytes) (at : ℕ) (l : Label) : Type 0 where
  pub next : ℕ
  pub reads : label v s at ≡ ok l next

-- a search for a label that one of n columns repeats meets one
pub record Noted (v : Edition) (r : Siblings) (d : ℕ) (l : Label) (n : ℕ) (s : Bytes) (from : ℕ) (t : List ℕ) : Type 0 where
  pub noted : repeats v r d l n s from ≡ true → Meets v r l s t (label_hash r from l)

-- so does one for a label that repeats l
pub record Notes (v : Edition) (r : Siblings) (s : Bytes) (from : ℕ) (l : Label) (t : List ℕ) : Type 0 where
  pub notes : (k : Label) → same_label r k l ≡ true → Meets v r k s t (label_hash r from k)
