-- The scan for an entry over a table that was read: it finds what the first entry of the owner with this id and kind
-- gives; and how the two lookups of `get_default_value` make its definition. Assumes nothing.
use Prim.Native.Nat.{ℕ, zero, suc}
use mathlib.Core.Path.{◌≡◌, refl, sym, ap, ap₂, ◌∙◌, subst}
use mathlib.Core.List.{List, [], ◌∷◌, ◌++◌, append-nil, append_assoc}
use mathlib.Core.Bool.{Bool, true, false, not, ◌&&◌}
use lib.Dec.{eqb}
use borrow.Author.Tests.{eqb-true, eqb-false, eq-eqb, ne_eqb}
use Rattle.layout.specs.Bytes.{Bytes}
use Rattle.layout.specs.Parser.{ok, choose}
use Rattle.layout.specs.declared.columns.FieldId.{FieldId}
use Rattle.layout.specs.declared.cursor.Cursor.{Cursor}
use Rattle.layout.proofs.Ways.{clash}
use Rattle.layout.proofs.OfBytes.{both}
use Rattle.defaults.specs.Table.{Given, initial, partition, failed, Entry, OwnedEntry, kind_of, is_partition, same_kind_of, counts_for, same_owner, entries_of}
use Rattle.defaults.specs.Table.{given_of, entries}
use Rattle.defaults.specs.Lookup.{Taken, nothing, given_to, is_partition_of, is_initial_of, first_entry_of, get_default_value}
use Rattle.defaults.specs.code.Scan.{seek}
use Rattle.defaults.specs.code.Stands.{TableAt, GivenAt, First, absent, first, FindsEntry, Answers}
use Rattle.defaults.specs.declared.lookup.DefaultFieldValues.{DefaultFieldValues}
use Rattle.defaults.specs.declared.lookup.DefaultValue.{DefaultValue}
use Rattle.defaults.specs.declared.read.Owner.{Owner}
use Rattle.defaults.specs.declared.read.TableVersion.{TableVersion}
use Rattle.defaults.specs.declared.read.EntryKind.{EntryKind}
use Rattle.defaults.specs.declared.read.EntryKind.TheVariants.{Initial, Partition}
use Rattle.defaults.specs.declared.read.EntryFound.{EntryFound}
use Rattle.defaults.proofs.Reading.{entry-is, seek-suc}
use Rattle.defaults.proofs.Top.{first_entry}
use Rattle.defaults.proofs.Taking.{answers_as}

-- whether an entry is of the id i and of the kind k
abbrev is_entry_of : FieldId → EntryKind → Entry → Bool
is_entry_of i k e = eqb i.0 e.id.0 && same_kind_of k (kind_of e.given)

abbrev sought : FieldId → EntryKind → List Entry → First
sought i k es = first_entry_of (is_entry_of i k) first es absent

pub same_kind_eq : (a b : EntryKind) → same_kind_of a b ≡ true → a ≡ b
unfolding same_kind_of
same_kind_eq Initial Initial e = refl
same_kind_eq Initial Partition e = clash (cc)
same_kind_eq Partition Initial e = clash (cc)
same_kind_eq Partition Partition e = refl

-- ---- the scan

module _ (u : ℕ) (i : FieldId) (k : EntryKind) (s : Bytes) where
  -- one entry that was read, before others of which the scan found r
  one_more : (t : Entry) (b c : Bool) → is_entry_of i k t ≡ b → (es : List Entry) (g : Cursor) {m : ℕ} (r : EntryFound)
      → given_of (kind_of t.given) s g.at ≡ ok t.given m → FindsEntry s k (sought i k es) r
      → FindsEntry s k (sought i k (choose c (t ∷ es) es)) (choose (b && c) (EntryFound.At g) r)
  unfolding first_entry_of choose
  one_more t true true q es g {m} r h F =
      let e : k ≡ kind_of t.given = same_kind_eq _ _ (both (eqb i.0 t.id.0) (same_kind_of k (kind_of t.given)) q).1 in
      rw q (record { start = g; end = m; is = refl; reads = ap (λ (l : EntryKind). given_of l s g.at) e ∙ h })
  one_more t false true q es g r h F = rw q F
  one_more t true false q es g r h F = F
  one_more t false false q es g r h F = F

  -- what is left of a table, as it was read and as it is scanned
  scanned : (v : TableVersion) (n : ℕ) (es : List OwnedEntry) (at : ℕ) {fs : List OwnedEntry} {m : ℕ} → entries v n es s at ≡ ok fs m
      → (gs : List OwnedEntry) × (fs ≡ es ++ gs) × FindsEntry s k (sought i k (entries_of u gs)) (seek v (Owner.Only u) i k n s at)
  unfolding entries entries_of first_entry_of seek same_owner
  scanned v zero es at {fs} h = let e : fs ≡ es = cc in ([], e ∙ sym (append-nil es), refl)
  scanned v (suc n) es at h =
      let F = first_entry v n es s at h in
      let t = F.tree in
      let E = entry-is v s at F.reads in
      let (gs, e, G) = scanned v n (es ++ (t ∷ [])) F.end F.rest in
      let q = seek-suc v (Owner.Only u) i k n s at E in (
        t ∷ gs,
        e ∙ append_assoc es (t ∷ []) gs,
        subst (λ (r : EntryFound). FindsEntry s k (sought i k (entries_of u (t ∷ gs))) r) (sym q)
            (one_more t.entry (is_entry_of i k t.entry) (counts_for u t.owner) refl (entries_of u gs) E.start _ E.given G),
      )

-- ---- the two scans

-- what the first entry gives, or else d
abbrev chosen : (Given → Taken) → Taken → First → Taken
chosen g d absent = d
chosen g d (first x) = g x

chosen_first : (f : Entry → Bool) (g : Given → Taken) (d : Taken) (es : List Entry) → first_entry_of f g es d ≡ chosen g d (first_entry_of f first es absent)
unfolding first_entry_of choose
chosen_first f g d [] = refl
chosen_first f g d (e ∷ es) = go (f e) (chosen_first f g d es)
  where
    go : (b : Bool) → first_entry_of f g es d ≡ chosen g d (first_entry_of f first es absent) → choose b (g e.given) (first_entry_of f g es d) ≡ chosen g d
        (choose b (first e.given) (first_entry_of f first es absent))
    go true h = refl
    go false h = h

eqb-sym : (a b : ℕ) → eqb a b ≡ eqb b a
eqb-sym a b = go (eqb a b) refl
  where
    go : (t : Bool) → eqb a b ≡ t → t ≡ eqb b a
    go true h = sym (eq-eqb b a (sym (eqb-true a b h)))
    go false h = sym (ne_eqb b a (λ q. eqb-false a b h (sym q)))

kind-partition : (g : Given) → is_partition g ≡ same_kind_of Partition (kind_of g)
unfolding same_kind_of
kind-partition (initial l v) = refl
kind-partition (partition l vs) = refl
kind-partition failed = refl

kind-initial : (g : Given) → not (is_partition g) ≡ same_kind_of Initial (kind_of g)
unfolding same_kind_of
kind-initial (initial l v) = refl
kind-initial (partition l vs) = refl
kind-initial failed = refl

-- the definition's tests are the code's
of_partition : (i : FieldId) (e : Entry) → is_partition_of i e ≡ is_entry_of i Partition e
of_partition i e = ap₂ ◌&&◌ (eqb-sym e.id.0 i.0) (kind-partition e.given)

of_initial : (i : FieldId) (e : Entry) → is_initial_of i e ≡ is_entry_of i Initial e
of_initial i e = ap₂ ◌&&◌ (eqb-sym e.id.0 i.0) (kind-initial e.given)

-- what a scan found
module _ (s : Bytes) (k : EntryKind) (r : EntryFound) where
  scan-absent : (x : First) → FindsEntry s k x r → r ≡ EntryFound.Absent → x ≡ absent
  scan-absent absent F f = refl
  scan-absent (first g) F f = clash (let z : EntryFound.Absent ≡ EntryFound.At F.start = sym f ∙ F.is in cc)

  pub scan_at : {c : Cursor} (x : First) → FindsEntry s k x r → r ≡ EntryFound.At c → (P : GivenAt k s c.at) × (x ≡ first P.given)
  scan_at {c} absent F f = clash (let z : EntryFound.At c ≡ EntryFound.Absent = sym f ∙ F in cc)
  scan_at {c} (first g) F f =
      let z : EntryFound.At c ≡ EntryFound.At F.start = sym f ∙ F.is in
      let y : c ≡ F.start = cc in
      (record { given = g; end = F.end; reads = ap (λ (d : Cursor). given_of k s d.at) y ∙ F.reads }, refl)

module _ {s : Bytes} {d : DefaultFieldValues} (P : TableAt s d) (i : FieldId) where
  -- where the code found an entry there is the owner's first
  finds : (k : EntryKind) {r : EntryFound} → r ≡ seek d.version (Owner.Only d.owner) i k d.count s d.entries.at
      → FindsEntry s k (sought i k P.entries) r
  finds k {r} e =
      let (gs, q, F) = scanned d.owner i k s d.version d.count [] d.entries.at P.reads in
      let z : entries_of d.owner gs ≡ P.entries = sym (P.owned ∙ ap (entries_of d.owner) q) in
      let G : FindsEntry s k (sought i k (entries_of d.owner gs)) r =
      subst (λ (x : EntryFound). FindsEntry s k (sought i k (entries_of d.owner gs)) x) (sym e) F in
      subst (λ (es : List Entry). FindsEntry s k (sought i k es) r) z G

  looked : (k : ℕ) → get_default_value P.entries k i
      ≡ chosen (given_to k) (chosen (given_to k) nothing (sought i Initial P.entries)) (sought i Partition P.entries)
  unfolding get_default_value
  looked k =
      (λ t. first_entry_of (λ e. of_partition i e t) (given_to k) P.entries (first_entry_of (λ e. of_initial i e t) (given_to k) P.entries nothing))
      ∙ chosen_first (is_entry_of i Partition) (given_to k) _ P.entries
      ∙ ap (λ (d : Taken). chosen (given_to k) d (sought i Partition P.entries)) (chosen_first (is_entry_of i Initial) (given_to k) nothing P.entries)

  module _ {r : EntryFound} (F : r ≡ seek d.version (Owner.Only d.owner) i Partition d.count s d.entries.at) where
    pub partition-found : {c : Cursor} → r ≡ EntryFound.At c → GivenAt Partition s c.at
    partition-found f = (scan_at s Partition r (sought i Partition P.entries) (finds Partition F) f).0

    pub partition_wins : (k : ℕ) {c : Cursor} (x : DefaultValue) → r ≡ EntryFound.At c
        → ((G : GivenAt Partition s c.at) → Answers s (given_to k G.given) x) → Answers s (get_default_value P.entries k i) x
    partition_wins k x f g =
        let (G, e) = scan_at s Partition r (sought i Partition P.entries) (finds Partition F) f in
        answers_as s x (looked k ∙ ap (chosen (given_to k) _) e) (g G)

    module _ (f : r ≡ EntryFound.Absent) where
      no-partition : (k : ℕ) → get_default_value P.entries k i ≡ chosen (given_to k) nothing (sought i Initial P.entries)
      no-partition k = looked k ∙ ap (chosen (given_to k) _) (scan-absent s Partition r (sought i Partition P.entries) (finds Partition F) f)

      module _ {q : EntryFound} (H : q ≡ seek d.version (Owner.Only d.owner) i Initial d.count s d.entries.at) where
        pub initial-found : {c : Cursor} → q ≡ EntryFound.At c → GivenAt Initial s c.at
        initial-found h = (scan_at s Initial q (sought i Initial P.entries) (finds Initial H) h).0

        pub no-entry : (k : ℕ) → q ≡ EntryFound.Absent → Answers s (get_default_value P.entries k i) DefaultValue.Nothing
        no-entry k h =
            answers_as s DefaultValue.Nothing
            (no-partition k ∙ ap (chosen (given_to k) nothing) (scan-absent s Initial q (sought i Initial P.entries) (finds Initial H) h)) refl

        pub initial-wins : (k : ℕ) {c : Cursor} (x : DefaultValue) → q ≡ EntryFound.At c
            → ((k : ℕ) (G : GivenAt Initial s c.at) → Answers s (given_to k G.given) x) → Answers s (get_default_value P.entries k i) x
        initial-wins k x h g =
            let (G, e) = scan_at s Initial q (sought i Initial P.entries) (finds Initial H) h in
            answers_as s x (no-partition k ∙ ap (chosen (given_to k) nothing) e) (g k G)

  pub no_entries : d.count ≡ 0 → (k : ℕ) → Answers s (get_default_value P.entries k i) DefaultValue.Nothing
  unfolding seek
  no_entries e k =
      let a : EntryFound.Absent ≡ seek d.version (Owner.Only d.owner) i Partition d.count s d.entries.at = rw e in
      let b : EntryFound.Absent ≡ seek d.version (Owner.Only d.owner) i Initial d.count s d.entries.at = rw e in
      no-entry a refl b k refl
