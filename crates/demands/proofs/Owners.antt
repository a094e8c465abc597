-- Document 02, L7, "Two works on one defaults table", over bytes and in the terms of the exported calls' contracts.
-- Assumes nothing.
use Prim.Native.Nat.{ℕ, zero, suc}
use mathlib.Core.Path.{◌≡◌, refl, sym, ap, ◌∙◌, subst}
use mathlib.Core.Bool.{false}
use mathlib.Core.List.{List, [], ◌∷◌, ◌++◌}
use Rattle.layout.specs.Bytes.{Bytes}
use Rattle.layout.specs.Tree.{integer}
use Rattle.layout.specs.declared.leaf.Leaf.{Leaf}
use Rattle.numeric.specs.declared.integers.Integer.TheVariants.{Int8}
use Rattle.values.specs.Value.{vnumber}
use Rattle.layout.specs.Parser.{Res, refuse, ok, next, choose}
use Rattle.layout.proofs.Ways.{clash}
use Rattle.layout.proofs.View.{next-ok}
use Rattle.rules.specs.declared.policy.Policy.{Policy}
use Rattle.plan.specs.Result.{Answer}
use Rattle.plan.specs.Calls.{read_at_of, buffer_after}
use Rattle.defaults.specs.declared.read.Owner.{Owner}
use Rattle.defaults.specs.declared.read.TableVersion.{TableVersion}
use Rattle.defaults.specs.declared.read.TableVersion.TheVariants.{Shared, ByOwner}
use Rattle.defaults.specs.Table.{initial, Entry, OwnedEntry, counts_for, entries_of, entry, owner_of, owned_entry, entries, TableTree}
use Rattle.defaults.specs.Table.{counted_table, table_from, table}
use Rattle.defaults.proofs.Top.{first_entry}
use Rattle.matching.specs.Calls.{build_by_number}
use Rattle.matching.proofs.Samples.{built}
use Rattle.demands.specs.Stated.{SameEntries, bare}

-- ---- "For any two accepted tables, of either version, that have the same entries of one owner (owner bytes aside) in
-- the same order, that owner's builds, all else equal, agree in plan, refusal and place." The entries of an owner are
-- `entries_of` (crate defaults, specs/Table.antt); an answer is the plan, or the refusal and its place.

module _ (p : Policy) (index owner : ℕ) (incoming target : Bytes) (space : ℕ) {left right : Bytes} (S : SameEntries owner left right) where
  pub by_number-owned : build_by_number p index owner incoming target left space ≡ build_by_number p index owner incoming target right space
  unfolding build_by_number read_at_of
  by_number-owned = rw (S.reads, S.other_reads, S.same)

  -- and so does the final buffer
  pub by_number-owned-buffer : (buffer : Bytes) → buffer_after (build_by_number p index owner incoming target left space) buffer
      ≡ buffer_after (build_by_number p index owner incoming target right space) buffer
  by_number-owned-buffer buffer = ap (λ (r : Answer Bytes). buffer_after r buffer) by_number-owned

-- ---- another owner's entry, wherever it stands, is none of the owner's

pub others_entry : (owner : ℕ) (xs : List OwnedEntry) (e : OwnedEntry) (ys : List OwnedEntry) → counts_for owner e.owner ≡ false
    → entries_of owner (xs ++ (e ∷ ys)) ≡ entries_of owner (xs ++ ys)
unfolding entries_of choose
others_entry owner [] e ys h = rw h
others_entry owner (x ∷ xs) e ys h = rw (others_entry owner xs e ys h)

-- ---- "version 1 entries count for every owner": all of them are each owner's

data AllEvery : List OwnedEntry → Type 0 where
  every_nil : AllEvery []
  every_cons : {e : OwnedEntry} {es : List OwnedEntry} → e.owner ≡ Owner.Every → AllEvery es → AllEvery (e ∷ es)

every_end : (e : OwnedEntry) {es : List OwnedEntry} → e.owner ≡ Owner.Every → AllEvery es → AllEvery (es ++ (e ∷ []))
every_end e h every_nil = every_cons h every_nil
every_end e h (every_cons g gs) = every_cons g (every_end e h gs)

every_all : (owner : ℕ) {es : List OwnedEntry} → AllEvery es → entries_of owner es ≡ bare es
unfolding entries_of bare counts_for choose
every_all owner every_nil = refl
every_all owner (every_cons {e} {es} h hs) = rw h (ap (λ (l : List Entry). e.entry ∷ l) (every_all owner hs))

module _ (s : Bytes) where
  every-owner : (at : ℕ) {e : OwnedEntry} {m : ℕ} → owned_entry Shared s at ≡ ok e m → e.owner ≡ Owner.Every
  unfolding owned_entry owner_of next
  every-owner at {e} {m} h = go (entry s at) h
    where
      owner_in : Res OwnedEntry → Owner
      owner_in (refuse n) = Owner.Every
      owner_in (ok x m) = x.owner

      go : (x : Res Entry) → next {B = OwnedEntry} x (λ y i. ok (record { owner = Owner.Every; entry = y }) i) ≡ ok e m → e.owner ≡ Owner.Every
      go (refuse n) h = clash (cc)
      go (ok y i) h = sym (ap owner_in h)

  entries-every : (n : ℕ) (es : List OwnedEntry) (at : ℕ) {fs : List OwnedEntry} {m : ℕ} → AllEvery es → entries Shared n es s at ≡ ok fs m → AllEvery fs
  unfolding entries
  entries-every zero es at {fs} a h = let e : es ≡ fs = cc in subst AllEvery e a
  entries-every (suc n) es at a h =
      let F = first_entry Shared n es s at h in
      entries-every n (es ++ (F.tree ∷ [])) F.end (every_end F.tree (every-owner at F.reads) a) F.rest

  pub shared_entries : (owner : ℕ) {t : TableTree} {m : ℕ} → table s ≡ ok t m → t.version ≡ Shared → entries_of owner t.entries ≡ bare t.entries
  unfolding table table_from counted_table
  shared_entries owner {t} {m} h v =
      let (u, i, p, e) = next-ok _ _ h in
      let (w, j, p, e) = next-ok _ _ e in
      let (n, a, p, e) = next-ok _ _ e in
      let (es, b, q, e) = next-ok _ _ e in
      let (u, c, p, e) = next-ok _ _ e in
      let x : w ≡ Shared = ap (versionIn Shared) e ∙ v in
      let y : es ≡ t.entries = ap (entriesIn es) e in
      every_all owner (subst AllEvery y (entries-every n [] a every_nil (ap (λ (w : TableVersion). entries w n [] s a) (sym x) ∙ q)))
    where
      versionIn : TableVersion → Res TableTree → TableVersion
      versionIn v (refuse n) = v
      versionIn v (ok t m) = t.version

      entriesIn : List OwnedEntry → Res TableTree → List OwnedEntry
      entriesIn es (refuse n) = es
      entriesIn es (ok t m) = t.entries

-- ---- a table of each version with the same entries of the owner 1, beside which the owner 257 has one of the same id
-- and kind

-- an initial int8 for the id 2, as bytes and as it is read
abbrev int8_bytes : ℕ → Bytes
int8_bytes x = 2 ∷ 0 ∷ 0 ∷ 0 ∷ 0 ∷ 2 ∷ 1 ∷ x ∷ []

abbrev int8_for : Owner → ℕ → OwnedEntry
int8_for o x = record { owner = o; entry = record { id = record { 0 = 2 }; given = initial (integer Int8) (vnumber (Leaf.Integer Int8) x) } }

abbrev first-version : Bytes
first-version = 0x44 ∷ 0x45 ∷ 0x46 ∷ 1 ∷ 0 ∷ 1 ∷ 0 ∷ int8_bytes 7

abbrev second-version : Bytes
second-version = 0x44 ∷ 0x45 ∷ 0x46 ∷ 2 ∷ 0 ∷ 2 ∷ 0 ∷ 1 ∷ 1 ∷ (int8_bytes 9 ++ (1 ∷ 0 ∷ int8_bytes 7))

pub mixed : SameEntries 1 first-version second-version
unfolding built
mixed =
    record {
      tree = record { version = Shared; entries = int8_for Owner.Every 7 ∷ [] };
      end = 15;
      reads = refl;
      other = record { version = ByOwner; entries = int8_for (Owner.Only 257) 9 ∷ int8_for (Owner.Only 1) 7 ∷ [] };
      other_end = 27;
      other_reads = refl;
      same = refl;
    }
