-- Reading an entry and the entries: what an answer says of the parser, what holds after i of n entries, and what is
-- returned on each way out. Assumes nothing.
use Prim.Native.Nat.{ℕ, suc, ◌+◌, ◌-◌, ◌≤◌, ◌<◌}
use mathlib.Core.Path.{◌≡◌, refl, sym, ap, ap₂, ◌∙◌}
use mathlib.Core.List.{List, [], ◌∷◌, ◌++◌}
use mathlib.Core.Bool.{Bool, true, false, ◌||◌, or_assoc, or-false}
use native.Mathlib.Omega.{arith}
use lib.Dec.{eqb}
use Rattle.layout.specs.Bytes.{Bytes}
use Rattle.layout.specs.Parser.{Res, refuse, ok, next, choose, u16, u32}
use Rattle.layout.specs.code.Answers.{long_res, moved_of}
use Rattle.layout.specs.declared.columns.FieldId.{FieldId}
use Rattle.layout.specs.declared.cursor.Cursor.{Cursor}
use Rattle.layout.specs.declared.cursor.Long.{Long}
use Rattle.layout.specs.declared.cursor.Moved.{Moved}
use Rattle.layout.proofs.Ways.{clash, moved_to, moved_refused}
use Rattle.layout.proofs.View.{next-ok}
use Rattle.layout.proofs.Whole.{byte_at, u16-at}
use Rattle.values.specs.Record.{renumber}
use Rattle.values.proofs.Inside.{renumber-ok}
use Rattle.defaults.specs.Table.{Given, initial, partition, failed, Entry, OwnedEntry, kind_of, repeats_owned, repeats_any_entry}
use Rattle.defaults.specs.Table.{initial_entry, loaded_entry, partition_entry, entry_kind, given_of, table_number, entry, owner_of, owned_entry, entries}
use Rattle.defaults.specs.code.Answers.{kind_res, owner_res, entry_of, entry_after, entry_read_of}
use Rattle.defaults.specs.code.Scan.{is_of, seek_on, seek, is_found}
use Rattle.defaults.specs.declared.read.Owner.{Owner}
use Rattle.defaults.specs.declared.read.TableVersion.{TableVersion}
use Rattle.defaults.specs.declared.read.EntryKind.{EntryKind}
use Rattle.defaults.specs.declared.read.EntryKind.TheVariants.{Initial, Partition}
use Rattle.defaults.specs.declared.read.KindRead.{KindRead}
use Rattle.defaults.specs.declared.read.OwnerRead.{OwnerRead}
use Rattle.defaults.specs.declared.read.EntryRead.{EntryRead}
use Rattle.defaults.specs.declared.read.EntryFound.{EntryFound}

-- ---- the kind byte of what was read

initial-kind : (s : Bytes) (at : ℕ) {x : Given} {m : ℕ} → initial_entry s at ≡ ok x m → kind_of x ≡ Initial
unfolding initial_entry
initial-kind s at {x} q =
    let (l, i, a, b) = next-ok _ _ q in
    let (v, j, a₁, b₁) = next-ok _ _ b in
    let e : x ≡ initial l v = cc in
    ap kind_of e

loaded_kind : (s : Bytes) (at : ℕ) {x : Given} {m : ℕ} → loaded_entry s at ≡ ok x m → kind_of x ≡ Partition
unfolding loaded_entry
loaded_kind s at {x} q =
    let (l, i, a, b) = next-ok _ _ q in
    let (n, j, a₁, b₁) = next-ok _ _ b in
    let (vs, k, a₂, b₂) = next-ok _ _ b₁ in
    let e : x ≡ partition l vs = cc in
    ap kind_of e

partition-kind : (s : Bytes) (at : ℕ) {x : Given} {m : ℕ} → partition_entry s at ≡ ok x m → kind_of x ≡ Partition
unfolding partition_entry choose
partition-kind s at {x} {m} q = let (b, i, a, h) = next-ok _ _ q in go i (eqb b 0) (eqb b 1) h
  where
    go : (i : ℕ) (c d : Bool) → choose c (loaded_entry s i) (choose d (ok failed i) (refuse 3)) ≡ ok x m → kind_of x ≡ Partition
    go i true d e = loaded_kind s i e
    go i false true e = let f : x ≡ failed = cc in ap kind_of f
    go i false false e = clash (cc)

pub given-kind : (k : EntryKind) (s : Bytes) (at : ℕ) {x : Given} {m : ℕ} → given_of k s at ≡ ok x m → kind_of x ≡ k
unfolding given_of
given-kind Initial s at q = initial-kind s at q
given-kind Partition s at q = partition-kind s at q

pub kind_at : (s : Bytes) (at : ℕ) {k : EntryKind} {m : ℕ} → entry_kind s at ≡ ok k m → m ≡ at + 1
unfolding entry_kind choose
kind_at s at {k} {m} q = let (b, i, a, h) = next-ok _ _ q in go i (eqb b 0) (eqb b 1) h ∙ byte_at s at a
  where
    go : (i : ℕ) (c d : Bool) → choose c (ok Initial i) (choose d (ok Partition i) (refuse 3)) ≡ ok k m → m ≡ i
    go i true d e = cc
    go i false true e = cc
    go i false false e = clash (cc)

pub u32-at : (s : Bytes) (at : ℕ) {n m : ℕ} → u32 s at ≡ ok n m → m ≡ at + 4
unfolding u32
u32-at s at {n} {m} h =
    let (a, i, p, q) = next-ok (u16 s at) _ h in
    let (b, j, p₁, q₁) = next-ok (u16 s i) _ q in
    let e : j ≡ m = cc in
    let x = u16-at s at p in
    let y = u16-at s i p₁ in
    omega arith

-- ---- an entry

entry-made : (s : Bytes) (at : ℕ) {i d g m : ℕ} {k : EntryKind} {x : Given} → u32 s at ≡ ok i d → entry_kind s d ≡ ok k g → given_of k s g ≡ ok x m
    → entry s at ≡ ok (record { id = record { 0 = i }; given = x }) m
unfolding entry next renumber
entry-made s at a b c = rw (a, b, c)

module _ (s : Bytes) (o : Owner) (at : ℕ) {p : Long} (e : long_res p ≡ u32 s at) where
  pub entry_unnumbered : {n : ℕ} → p ≡ Long.Refused n → EntryRead.Refused n ≡ entry_of o at (entry s at)
  unfolding entry next entry_of
  entry_unnumbered f = rw (← e, f)

  module _ {i : ℕ} {d : Cursor} (f : p ≡ Long.Is i d) {q : KindRead} (g : kind_res q ≡ entry_kind s d.at) where
    pub entry_unkind : {n : ℕ} → q ≡ KindRead.Refused n → EntryRead.Refused n ≡ entry_of o at (entry s at)
    unfolding entry next entry_of
    entry_unkind h = rw (← e, f, ← g, h)

    module _ {k : EntryKind} {b : Cursor} (h : q ≡ KindRead.Is k b) {r : Moved} (t : r ≡ moved_of (given_of k s b.at)) where
      pub entry-broken : {n m : ℕ} → r ≡ Moved.Refused n → m ≡ table_number n → EntryRead.Refused m ≡ entry_of o at (entry s at)
      unfolding entry next renumber entry_of
      entry-broken u x = rw (← e, f, ← g, h, moved_refused (given_of k s b.at) t u, x)

      pub entry_read : {m : Cursor} → r ≡ Moved.To m → EntryRead.Is o (record { 0 = i }) k b m ≡ entry_of o at (entry s at)
      unfolding entry_of
      entry_read {m} u =
          let a : u32 s at ≡ ok i d.at = sym e ∙ ap long_res f in
          let b' : entry_kind s d.at ≡ ok k b.at = sym g ∙ ap kind_res h in
          let (x, c) = moved_to (given_of k s b.at) t u in
          let y = u32-at s at a in
          let z = kind_at s d.at b' in
          let w : b.at ≡ at + 5 = omega arith in
          ap₂ (λ (k : EntryKind) (j : ℕ). EntryRead.Is o (record { 0 = i }) k (record { at = j }) m) (sym (given-kind k s b.at c)) w
          ∙ ap (entry_of o at) (sym (entry-made s at a b' c))

pub ruleset entry-ways = (entry_unnumbered, entry_unkind, entry-broken, entry_read)

-- what an entry that was read gives stands after its id and kind
entry-given : (s : Bytes) (at : ℕ) {t : Entry} {m : ℕ} → entry s at ≡ ok t m → given_of (kind_of t.given) s (at + 5) ≡ ok t.given m
unfolding entry
entry-given s at {t} {m} q =
    let (i, d, a, b) = next-ok _ _ q in
    let (k, g, a₁, b₁) = next-ok _ _ b in
    let (x, o, a₂, b₂) = next-ok _ _ b₁ in
    let a₂ = renumber-ok table_number (given_of k s g) a₂ in
    let u = u32-at s at a in
    let v = kind_at s d a₁ in
    let w : g ≡ at + 5 = omega arith in
    let y : o ≡ m = cc in
    let z : x ≡ t.given = ap (entryIn x) b₂ in
    ap₂ (λ (k : EntryKind) (g : ℕ). given_of k s g) (sym (ap kind_of z) ∙ given-kind k s g a₂) (sym w) ∙ a₂ ∙ ap₂ ok z y
  where
    entryIn : Given → Res Entry → Given
    entryIn x (refuse n) = x
    entryIn x (ok t m) = t.given

-- ---- an entry behind its owner

abbrev owned_by : Owner → Entry → OwnedEntry
owned_by o e = record { owner = o; entry = e }

module _ (s : Bytes) (v : TableVersion) (at : ℕ) {p : OwnerRead} (e : owner_res p ≡ owner_of v s at) where
  pub owned-none : {n : ℕ} → p ≡ OwnerRead.Refused n → EntryRead.Refused n ≡ entry_read_of v s at
  unfolding entry_after
  owned-none f = rw (← e, f)

  pub owned_entry_lem : {o : Owner} {c : Cursor} {r : EntryRead} → p ≡ OwnerRead.Is o c → r ≡ entry_of o c.at (entry s c.at) → r ≡ entry_read_of v s at
  unfolding entry_after
  owned_entry_lem f h = rw (← e, f) h

pub ruleset owned-ways = (owned-none, owned_entry_lem)

-- the answer for an entry that is read: where that stands which it gives
pub record EntryIs (v : TableVersion) (s : Bytes) (at : ℕ) (t : OwnedEntry) (m : ℕ) : Type 0 where
  pub start : Cursor
  pub answer : entry_read_of v s at ≡ EntryRead.Is t.owner t.entry.id (kind_of t.entry.given) start (record { at = m })
  pub given : given_of (kind_of t.entry.given) s start.at ≡ ok t.entry.given m

pub entry-is : (v : TableVersion) (s : Bytes) (at : ℕ) {t : OwnedEntry} {m : ℕ} → owned_entry v s at ≡ ok t m → EntryIs v s at t m
unfolding owned_entry entry_after entry_of
entry-is v s at {t} {m} q =
    let (o, d, a, b) = next-ok _ _ q in
    let (x, l, a₁, b₁) = next-ok _ _ b in
    let y : l ≡ m = cc in
    made o x a (a₁ ∙ ap (ok x) y) (ap (ownedIn t) b₁)
  where
    ownedIn : OwnedEntry → Res OwnedEntry → OwnedEntry
    ownedIn x (refuse n) = x
    ownedIn x (ok t m) = t

    made : (o : Owner) (x : Entry) {d : ℕ} → owner_of v s at ≡ ok o d → entry s d ≡ ok x m → owned_by o x ≡ t → EntryIs v s at t m
    made o x {d} a b c =
        rw (← c)
        (record {
          start = record { at = d + 5 };
          answer = ap (entry_after s) a ∙ ap (entry_of o d) b;
          given = entry-given s d b;
        })

-- what an answer says of the parser
pub record EntryGot (v : TableVersion) (s : Bytes) (at : ℕ) (o : Owner) (i : FieldId) (k : EntryKind) (m : Cursor) : Type 0 where
  pub tree : OwnedEntry
  pub reads : owned_entry v s at ≡ ok tree m.at
  pub owner : tree.owner ≡ o
  pub id : tree.entry.id ≡ i
  pub kind : kind_of tree.entry.given ≡ k

owned-made : (v : TableVersion) (s : Bytes) (at : ℕ) {o : Owner} {d : ℕ} {x : Entry} {m : ℕ} → owner_of v s at ≡ ok o d → entry s d ≡ ok x m
    → owned_entry v s at ≡ ok (owned_by o x) m
unfolding owned_entry next
owned-made v s at a b = rw (a, b)

module _ (v : TableVersion) (s : Bytes) (at : ℕ) {r : EntryRead} (e : r ≡ entry_read_of v s at) where
  pub entry_got : {o : Owner} {i : FieldId} {k : EntryKind} {g m : Cursor} → r ≡ EntryRead.Is o i k g m → EntryGot v s at o i k m
  unfolding entry_after entry_of
  entry_got {o} {i} {k} {g} {m} f = go (owner_of v s at) refl e
    where
      inner : {p : Owner} {d : ℕ} → owner_of v s at ≡ ok p d → (x : Res Entry) → entry s d ≡ x → r ≡ entry_of p d x → EntryGot v s at o i k m
      inner a (refuse n) b e = clash (cc)
      inner {p} {d} a (ok t l) b e =
          let h : EntryRead.Is p t.id (kind_of t.given) (record { at = d + 5 }) (record { at = l }) ≡ EntryRead.Is o i k g m = sym e ∙ f in
          let y : l ≡ m.at = cc in
          record { tree = owned_by p t; reads = owned-made v s at a b ∙ ap (ok (owned_by p t)) y; owner = cc; id = cc; kind = cc }

      go : (x : Res Owner) → owner_of v s at ≡ x → r ≡ entry_after s x → EntryGot v s at o i k m
      go (refuse n) a e = clash (cc)
      go (ok p d) a e = inner a (entry s d) refl e

  pub entry-none : {n : ℕ} → r ≡ EntryRead.Refused n → owned_entry v s at ≡ refuse n
  unfolding entry_after entry_of owned_entry next
  entry-none {n} f = go (owner_of v s at) e
    where
      inner : (p : Owner) (d : ℕ) (x : Res Entry) → r ≡ entry_of p d x → next x (λ y m. ok (owned_by p y) m) ≡ refuse n
      inner p d (refuse k) e = cc
      inner p d (ok t l) e = clash (cc)

      go : (x : Res Owner) → r ≡ entry_after s x → next x (λ o d. next (entry s d) (λ y m. ok (owned_by o y) m)) ≡ refuse n
      go (refuse k) e = cc
      go (ok p d) e = inner p d (entry s d) e

-- ---- the scan for an entry

-- one more entry
pub seek-suc : (v : TableVersion) (o : Owner) (i : FieldId) (k : EntryKind) (n : ℕ) (s : Bytes) (at : ℕ) {t : OwnedEntry} {m : ℕ} (E : EntryIs v s at t m)
    → seek v o i k (suc n) s at ≡ choose (is_of o i k t.owner t.entry.id (kind_of t.entry.given)) (EntryFound.At E.start) (seek v o i k n s m)
unfolding seek seek_on
seek-suc v o i k n s at E = ap (λ (r : EntryRead). seek_on o i k r (λ m. seek v o i k n s m)) E.answer

-- ---- the entries

-- whether the earlier ones have an entry's owner, id and kind
abbrev scan : TableVersion → OwnedEntry → ℕ → Bytes → ℕ → Bool
scan v e n s at = is_found (seek v e.owner e.entry.id (kind_of e.entry.given) n s at)

found_or_lem : (b : Bool) (c : Cursor) (x : EntryFound) → is_found (choose b (EntryFound.At c) x) ≡ (b || is_found x)
unfolding choose
found_or_lem true c x = refl
found_or_lem false c x = refl

scan_suc : (v : TableVersion) (e : OwnedEntry) (n : ℕ) (s : Bytes) (at : ℕ) {f : OwnedEntry} {m : ℕ} → owned_entry v s at ≡ ok f m
    → scan v e (suc n) s at ≡ (repeats_owned e f || scan v e n s m)
scan_suc v e n s at {f} {m} h =
    let E = entry-is v s at h in
    ap is_found (seek-suc v e.owner e.entry.id (kind_of e.entry.given) n s at E) ∙ found_or_lem (repeats_owned e f) E.start _

repeats_snoc : (e : OwnedEntry) (fs : List OwnedEntry) (f : OwnedEntry) → repeats_any_entry e (fs ++ (f ∷ [])) ≡ (repeats_any_entry e fs || repeats_owned e f)
unfolding repeats_any_entry
repeats_snoc e [] f = or-false (repeats_owned e f)
repeats_snoc e (g ∷ fs) f = rw (repeats_snoc e fs f) (sym (or_assoc (repeats_owned e g) (repeats_any_entry e fs) (repeats_owned e f)))

module _ (v : TableVersion) (n : ℕ) (es : List OwnedEntry) (s : Bytes) (at : ℕ) where
  entries-suc : {e : OwnedEntry} {m : ℕ} → owned_entry v s at ≡ ok e m → repeats_any_entry e es ≡ false
      → entries v (suc n) es s at ≡ entries v n (es ++ (e ∷ [])) s m
  unfolding entries next choose
  entries-suc h z = rw (h, z)

  entries-repeated : {e : OwnedEntry} {m : ℕ} → owned_entry v s at ≡ ok e m → repeats_any_entry e es ≡ true → entries v (suc n) es s at ≡ refuse 5
  unfolding entries next choose
  entries-repeated h z = rw (h, z)

  entries-broken : {k : ℕ} → owned_entry v s at ≡ refuse k → entries v (suc n) es s at ≡ refuse k
  unfolding entries next
  entries-broken h = rw h

pub record Reading (v : TableVersion) (s : Bytes) (n from i at : ℕ) : Type 0 where
  pub within : i ≤ n
  pub earlier : List OwnedEntry
  pub rest : entries v n [] s from ≡ entries v (n - i) earlier s at
  pub passed : (e : OwnedEntry) (m : ℕ) → scan v e (i + m) s from ≡ (repeats_any_entry e earlier || scan v e m s at)

module _ (v : TableVersion) (s : Bytes) (n from : ℕ) where
  pub reading_none : Reading v s n from 0 from
  unfolding repeats_any_entry
  reading_none = record {
    within = omega arith;
    earlier = [];
    rest = ap (λ (k : ℕ). entries v k [] s from) (let e : n ≡ n - 0 = omega arith in e);
    passed = λ e m. ap (λ (k : ℕ). scan v e k s from) (let z : 0 + m ≡ m = omega arith in z);
  }

  module _ (i at : ℕ) (a : Reading v s n from i at) where
    pub reading_all : n ≤ i → Moved.To (record { at = at }) ≡ moved_of (entries v n [] s from)
    unfolding entries moved_of
    reading_all h = let e : n - i ≡ 0 = omega arith in rw (a.rest, e)

    module _ (lt : i < n) {r : EntryRead} (e : r ≡ entry_read_of v s at) where
      step : entries v n [] s from ≡ entries v (suc (n - (i + 1))) a.earlier s at
      step = a.rest ∙ ap (λ (k : ℕ). entries v k a.earlier s at) (let z : n - i ≡ suc (n - (i + 1)) = omega arith in z)

      pub reading-broken : {o : ℕ} → r ≡ EntryRead.Refused o → Moved.Refused o ≡ moved_of (entries v n [] s from)
      unfolding moved_of
      reading-broken f = ap moved_of (sym (step ∙ entries-broken v (n - (i + 1)) a.earlier s at (entry-none v s at e f)))

      module _ {o : Owner} {j : FieldId} {k : EntryKind} {g m : Cursor} {q : EntryFound} {b : Bool} (f : r ≡ EntryRead.Is o j k g m)
          (w : q ≡ seek v o j k i s from) (x : b ≡ is_found q) where
        -- the code's test is the definition's
        tested : (G : EntryGot v s at o j k m) → b ≡ repeats_any_entry G.tree a.earlier
        unfolding seek
        tested G =
            x ∙ ap is_found w
            ∙ ap (λ (o : Owner). is_found (seek v o j k i s from)) (sym G.owner)
            ∙ ap₂ (λ (j : FieldId) (k : EntryKind). is_found (seek v G.tree.owner j k i s from)) (sym G.id) (sym G.kind)
            ∙ ap (λ (l : ℕ). scan v G.tree l s from) (let z : i ≡ i + 0 = omega arith in z)
            ∙ a.passed G.tree 0 ∙ or-false (repeats_any_entry G.tree a.earlier)

        pub reading-repeated : b ≡ true → Moved.Refused 5 ≡ moved_of (entries v n [] s from)
        unfolding moved_of
        reading-repeated y =
            let G = entry_got v s at e f in
            ap moved_of (sym (step ∙ entries-repeated v (n - (i + 1)) a.earlier s at G.reads (sym (tested G) ∙ y)))

        pub reading-more : b ≡ false → Reading v s n from (i + 1) m.at
        reading-more y =
            let G = entry_got v s at e f in
            record {
              within = omega arith;
              earlier = a.earlier ++ (G.tree ∷ []);
              rest = step ∙ entries-suc v (n - (i + 1)) a.earlier s at G.reads (sym (tested G) ∙ y);
              passed = λ o l. ap (λ (k : ℕ). scan v o k s from) (let z : i + 1 + l ≡ i + suc l = omega arith in z)
                  ∙ a.passed o (suc l)
                  ∙ ap (λ (b : Bool). repeats_any_entry o a.earlier || b) (scan_suc v o l s at G.reads)
                  ∙ sym (or_assoc (repeats_any_entry o a.earlier) (repeats_owned o G.tree) (scan v o l s m.at))
                  ∙ ap (λ (b : Bool). b || scan v o l s m.at) (sym (repeats_snoc o a.earlier G.tree));
            }
