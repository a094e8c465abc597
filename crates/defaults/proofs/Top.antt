-- What reading a whole table returns on each way. Assumes nothing.
use Prim.Native.Nat.{ℕ, zero, suc, ◌+◌, ◌≤◌, ◌<◌}
use mathlib.Core.Path.{◌≡◌, refl, sym, ap, ap₂, ◌∙◌}
use mathlib.Core.List.{List, [], ◌∷◌, ◌++◌}
use mathlib.Core.Bool.{Bool, true, false, not, and-false}
use native.Mathlib.Omega.{arith}
use lib.ListN.{length, take, length-append, length-take}
use lib.Dec.{eqb}
use borrow.Author.Tests.{le-leb, lt-leb, eq-eqb, ne_eqb}
use Rattle.layout.specs.Bytes.{Bytes, same_bytes}
use Rattle.layout.specs.Parser.{refuse, ok, next, choose, test, u16}
use Rattle.layout.specs.Layout.{sized, ended}
use Rattle.layout.specs.code.Answers.{moved_of, short_res}
use Rattle.layout.specs.declared.columns.FieldId.{FieldId}
use Rattle.layout.specs.declared.cursor.Cursor.{Cursor}
use Rattle.layout.specs.declared.cursor.Moved.{Moved}
use Rattle.layout.specs.declared.cursor.Short.{Short}
use Rattle.layout.proofs.Ways.{moved_to, moved_refused}
use Rattle.layout.proofs.View.{next-ok}
use Rattle.layout.proofs.Whole.{tested, u16-at}
use Rattle.defaults.specs.Table.{OwnedEntry, repeats_any_entry, owned_entry, entries, table_mark, table_version, counted_table, table_from, table}
use Rattle.defaults.specs.Table.{counts_for, same_kind_of, same_owner}
use Rattle.defaults.specs.code.Answers.{version_res, table_of}
use Rattle.defaults.specs.code.Scan.{is_of}
use Rattle.defaults.specs.declared.read.Owner.{Owner}
use Rattle.defaults.specs.declared.read.EntryKind.{EntryKind}
use Rattle.defaults.specs.declared.read.EntryKind.TheVariants.{Initial, Partition}
use Rattle.defaults.specs.declared.read.TableVersion.{TableVersion}
use Rattle.defaults.specs.declared.read.VersionRead.{VersionRead}
use Rattle.defaults.specs.declared.read.TableRead.{TableRead}

-- ---- the tests of an entry

module _ (o : Owner) (i : FieldId) (k : EntryKind) (p : Owner) (j : FieldId) (l : EntryKind) where
  pub of_other-id : (i.0 ≡ j.0 → ⊥) → false ≡ is_of o i k p j l
  of_other-id h = rw (ne_eqb i.0 j.0 h)

  module _ (h : i.0 ≡ j.0) {b : Bool} (x : b ≡ same_kind_of k l) where
    pub of_other-kind : b ≡ false → false ≡ is_of o i k p j l
    of_other-kind y = rw (eq-eqb i.0 j.0 h, ← x, y)

    pub of_same : {c : Bool} → b ≡ true → c ≡ same_owner o p → c ≡ is_of o i k p j l
    of_same y z = rw (eq-eqb i.0 j.0 h, ← x, y) z

pub ruleset of-ways = (of_other-id, of_other-kind, of_same)

module _ (a b : Owner) where
  pub every_first : a ≡ Owner.Every → true ≡ same_owner a b
  unfolding same_owner
  every_first h = rw h

  module _ {n : ℕ} (h : a ≡ Owner.Only n) where
    pub every_second : b ≡ Owner.Every → true ≡ same_owner a b
    unfolding same_owner counts_for
    every_second g = rw (h, g)

    pub both-only : {m : ℕ} → b ≡ Owner.Only m → eqb n m ≡ same_owner a b
    unfolding same_owner counts_for
    both-only g = rw (h, g)

pub ruleset same-owner-ways = (every_first, every_second, both-only)

module _ (a b : EntryKind) where
  pub both-initial : a ≡ Initial → b ≡ Initial → true ≡ same_kind_of a b
  unfolding same_kind_of
  both-initial h g = rw (h, g)

  pub initial-partition : a ≡ Initial → b ≡ Partition → false ≡ same_kind_of a b
  unfolding same_kind_of
  initial-partition h g = rw (h, g)

  pub partition-initial : a ≡ Partition → b ≡ Initial → false ≡ same_kind_of a b
  unfolding same_kind_of
  partition-initial h g = rw (h, g)

  pub both-partition : a ≡ Partition → b ≡ Partition → true ≡ same_kind_of a b
  unfolding same_kind_of
  both-partition h g = rw (h, g)

pub ruleset same-kind-ways = (both-initial, initial-partition, partition-initial, both-partition)

-- ---- the mark

-- a mark longer than the bytes is not theirs
shorter : (a b : Bytes) → length a < length b → same_bytes a b ≡ false
unfolding same_bytes
shorter [] [] h = absurd (omega arith)
shorter [] (y ∷ ys) h = refl
shorter (x ∷ xs) [] h = refl
shorter (x ∷ xs) (y ∷ ys) h = rw (shorter xs ys (omega arith)) (and-false (eqb x y))

pub mark-short : (s : Bytes) → length s < 5 → refuse 1 ≡ table_version s 0
unfolding table_version choose
mark-short s h =
    let k : length (take 5 s) < 5 = simp length-take (omega arith) in
    rw (shorter (take 5 s) (table_mark 1) k, shorter (take 5 s) (table_mark 2) k)

-- ---- entries that were read

-- the first of them, and the others
pub record FirstEntry (v : TableVersion) (n : ℕ) (es : List OwnedEntry) (s : Bytes) (at : ℕ) (fs : List OwnedEntry) (m : ℕ) : Type 0 where
  pub tree : OwnedEntry
  pub end : ℕ
  pub reads : owned_entry v s at ≡ ok tree end
  pub rest : entries v n (es ++ (tree ∷ [])) s end ≡ ok fs m

pub first_entry : (v : TableVersion) (n : ℕ) (es : List OwnedEntry) (s : Bytes) (at : ℕ) {fs : List OwnedEntry} {m : ℕ} → entries v (suc n) es s at ≡ ok fs m
    → FirstEntry v n es s at fs m
unfolding entries
first_entry v n es s at h =
    let (e, i, a, b) = next-ok (owned_entry v s at) _ h in
    let (u, j, a₁, b₁) = next-ok (test (not (repeats_any_entry e es)) 5 s i) _ b in
    let w : j ≡ i = (tested (not (repeats_any_entry e es)) 5 s i a₁).1 in
    record { tree = e; end = i; reads = a; rest = ap (λ (o : ℕ). entries v n (es ++ (e ∷ [])) s o) (sym w) ∙ b₁ }

-- as many entries are read as were asked for
pub entries-count : (v : TableVersion) (n : ℕ) (es : List OwnedEntry) (s : Bytes) (at : ℕ) {fs : List OwnedEntry} {m : ℕ} → entries v n es s at ≡ ok fs m
    → length fs ≡ length es + n
unfolding entries
entries-count v zero es s at {fs} h = let e : fs ≡ es = cc in rw e (omega arith)
entries-count v (suc n) es s at {fs} {m} h =
    let F = first_entry v n es s at h in
    let r = entries-count v n (es ++ (F.tree ∷ [])) s F.end F.rest in
    let l = length-append es (F.tree ∷ []) in
    omega arith

-- ---- rules for `search`

module _ (s : Bytes) where
  pub table_big : 16384 < length s → TableRead.Refused 4 ≡ table_of (table s)
  unfolding table table_from sized table_of next choose
  table_big h = rw (lt-leb (length s) 16384 h)

  module _ (small : length s ≤ 16384) {q : VersionRead} (x : version_res q ≡ table_version s 0) where
    pub table_unmarked : {k : ℕ} → q ≡ VersionRead.Refused k → TableRead.Refused k ≡ table_of (table s)
    unfolding table table_from sized table_of next choose
    table_unmarked y = rw (le-leb (length s) 16384 small, ← x, y)

    pub table_marked : {v : TableVersion} {r : TableRead} → q ≡ VersionRead.Is v → r ≡ table_of (counted_table v s 5) → r ≡ table_of (table s)
    unfolding table table_from sized next choose
    table_marked y h = rw (le-leb (length s) 16384 small, ← x, y) h

pub ruleset table-ways = (table_big, table_unmarked, table_marked)

module _ (s : Bytes) (v : TableVersion) {q : Short} (g : short_res q ≡ u16 s 5) where
  pub table_uncounted : {k : ℕ} → q ≡ Short.Refused k → TableRead.Refused k ≡ table_of (counted_table v s 5)
  unfolding counted_table table_of next
  table_uncounted h = rw (← g, h)

  pub counted_at : {n : ℕ} {c : Cursor} → q ≡ Short.Is n c → c.at ≡ 7
  counted_at {n} {c} h = let z : u16 s 5 ≡ ok n c.at = sym g ∙ ap short_res h in let w = u16-at s 5 z in omega arith

  module _ {n : ℕ} {c : Cursor} {o : Moved} (h : q ≡ Short.Is n c) (i : o ≡ moved_of (entries v n [] s c.at)) where
    pub table_broken : {k : ℕ} → o ≡ Moved.Refused k → TableRead.Refused k ≡ table_of (counted_table v s 5)
    unfolding counted_table table_of next
    table_broken j = rw (← g, h, moved_refused (entries v n [] s c.at) i j)

    module _ {d : Cursor} (j : o ≡ Moved.To d) where
      pub table-longer : (d.at ≡ length s → ⊥) → TableRead.Refused 6 ≡ table_of (counted_table v s 5)
      unfolding counted_table ended table_of next choose
      table-longer k = rw (← g, h, (moved_to (entries v n [] s c.at) i j).1, ne_eqb d.at (length s) k)

      pub table-read : d.at ≡ length s → TableRead.Read v n c ≡ table_of (counted_table v s 5)
      unfolding counted_table ended table_of next choose
      table-read k =
          let t = moved_to (entries v n [] s c.at) i j in
          let l : length t.0 ≡ n = let e = entries-count v n [] s c.at t.1 in e ∙ (let w : 0 + n ≡ n = omega arith in w) in
          rw (← g, h, t.1, eq-eqb d.at (length s) k) (ap₂ (λ (m o : ℕ). TableRead.Read v m (record { at = o })) (sym l) (counted_at h))

pub ruleset counted-ways = (table_uncounted, table_broken, table-longer, table-read)
