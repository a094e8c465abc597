-- An index of entries: how a chain is followed, and what holds after each entry that is put in. Assumes nothing.
use Prim.Native.Nat.{ℕ, zero, suc, ◌+◌, ◌-◌, ◌/◌, ◌%◌, ◌≤◌, ◌<◌, zero-le}
use mathlib.Core.Path.{◌≡◌, refl, sym, ap, ap₂, ◌∙◌, subst}
use mathlib.Core.List.{List, []}
use mathlib.Core.Bool.{Bool, true, false, ◌&&◌}
use native.Mathlib.Omega.{arith}
use native.Mathlib.Decide.{ℕ_discrete}
use native.Mathlib.Nat.{mod-lt}
use lib.Dec.{eqb, ltb}
use lib.ListN.{length, get_or, set, length-set, get_or-eq_default}
use lib.Seq.{get_or-set_same, get_or-set_other}
use borrow.Author.Tests.{eqb-true, eq-eqb, ne_eqb, ltb-true, ltb-false}
use Rattle.layout.specs.Bytes.{Bytes}
use Rattle.layout.specs.Parser.{Res, refuse, ok, next, choose, u16, u32}
use Rattle.layout.specs.code.Answers.{long_res, moved_of}
use Rattle.layout.specs.declared.columns.FieldId.{FieldId}
use Rattle.layout.specs.declared.cursor.Cursor.{Cursor}
use Rattle.layout.specs.declared.cursor.Long.{Long}
use Rattle.layout.specs.declared.cursor.Moved.{Moved}
use Rattle.layout.proofs.Ways.{clash}
use Rattle.layout.proofs.View.{next-ok}
use Rattle.layout.proofs.Whole.{u16-at}
use Rattle.layout.proofs.OfBytes.{both}
use Rattle.labels.specs.code.LabelTable.{Cleared}
use Rattle.values.proofs.Inside.{renumber-ok}
use Rattle.values.proofs.Stand.{byte_back}
use Rattle.defaults.specs.Table.{Given, Entry, kind_of, counts_for, same_kind_of, same_owner, entry_kind, given_of, table_number, entry, owner_of, entries}
use Rattle.defaults.specs.code.Answers.{kind_res, owner_res, entry_of, entry_after, entry_read_of}
use Rattle.defaults.specs.code.Scan.{is_of, seek_on, seek, is_found}
use Rattle.defaults.specs.code.Index.{entry_head, entry_head_res, owner_in, links, head_of, pushed, found_or, follow, followed, Inside}
use Rattle.defaults.specs.code.Index.{Indexed}
use Rattle.defaults.specs.declared.read.Owner.{Owner}
use Rattle.defaults.specs.declared.read.TableVersion.{TableVersion}
use Rattle.defaults.specs.declared.read.TableVersion.TheVariants.{Shared, ByOwner}
use Rattle.defaults.specs.declared.read.EntryKind.{EntryKind}
use Rattle.defaults.specs.declared.read.KindRead.{KindRead}
use Rattle.defaults.specs.declared.read.OwnerRead.{OwnerRead}
use Rattle.defaults.specs.declared.read.EntryRead.{EntryRead}
use Rattle.defaults.specs.declared.read.HeadRead.{HeadRead}
use Rattle.defaults.specs.declared.read.EntryFound.{EntryFound}
use Rattle.defaults.proofs.Reading.{u32-at, kind_at, given-kind, Reading, reading_none, reading_all, reading-broken, reading-repeated, reading-more}
use Rattle.defaults.proofs.Growing.{given-ends}
use Rattle.defaults.proofs.Seeking.{same_kind_eq}

-- ---- rules for `search`: what stands of an entry before that which it gives

module _ (s : Bytes) (v : TableVersion) (at : ℕ) {p : OwnerRead} (e : owner_res p ≡ owner_of v s at) where
  pub head_unowned : {n : ℕ} → p ≡ OwnerRead.Refused n → refuse n ≡ entry_head v s at
  unfolding entry_head next
  head_unowned f = rw (← e, f)

  module _ {o : Owner} {c : Cursor} (f : p ≡ OwnerRead.Is o c) {q : Long} (g : long_res q ≡ u32 s c.at) where
    pub head_unnumbered : {n : ℕ} → q ≡ Long.Refused n → refuse n ≡ entry_head v s at
    unfolding entry_head next
    head_unnumbered h = rw (← e, f, ← g, h)

    module _ {i : ℕ} {d : Cursor} (h : q ≡ Long.Is i d) {r : KindRead} (t : kind_res r ≡ entry_kind s d.at) where
      pub head-unkind : {n : ℕ} → r ≡ KindRead.Refused n → refuse n ≡ entry_head v s at
      unfolding entry_head next
      head-unkind x = rw (← e, f, ← g, h, ← t, x)

      pub head_read : {k : EntryKind} {b : Cursor} → r ≡ KindRead.Is k b → ok (record { owner = o; id = record { 0 = i }; kind = k }) b.at ≡ entry_head v s at
      unfolding entry_head next
      head_read x = rw (← e, f, ← g, h, ← t, x)

pub ruleset head-ways = (head_unowned, head_unnumbered, head-unkind, head_read)

-- ---- an entry that was read

record EntryParts (s : Bytes) (at : ℕ) (t : Entry) (m : ℕ) : Type 0 where
  numbered : u32 s at ≡ ok t.id.0 (at + 4)
  kinded : entry_kind s (at + 4) ≡ ok (kind_of t.given) (at + 5)
  long : at + 6 ≤ m
  inside : at < length s

u32-inside : (s : Bytes) (at : ℕ) {n m : ℕ} → u32 s at ≡ ok n m → at < length s
unfolding u32 u16
u32-inside s at h =
    let (a, i, p, q) = next-ok (u16 s at) _ h in
    let (b, j, p₁, q₁) = next-ok _ _ p in
    let B = byte_back s at p₁ in
    let x = B.ends in
    let y = B.within in
    omega arith

entry-parts : (s : Bytes) (at : ℕ) {t : Entry} {m : ℕ} → entry s at ≡ ok t m → EntryParts s at t m
unfolding entry
entry-parts s at {t} {m} q =
    let (i, d, a, b) = next-ok _ _ q in
    let (k, g, a₁, b₁) = next-ok _ _ b in
    let (x, o, a₂, b₂) = next-ok _ _ b₁ in
    let a₂ = renumber-ok table_number (given_of k s g) a₂ in
    let u : d ≡ at + 4 = u32-at s at a in
    let w = kind_at s d a₁ in
    let z : g ≡ at + 5 = omega arith in
    let y : o ≡ m = cc in
    let c : x ≡ t.given = ap (givenIn x) b₂ in
    let j : i ≡ t.id.0 = ap (idIn i) b₂ in
    let l : k ≡ kind_of t.given = sym (sym (ap kind_of c) ∙ given-kind k s g a₂) in
    let e = (given-ends s k g).behind x o a₂ in
    record { numbered = a ∙ ap₂ ok j u; kinded = ap (entry_kind s) (sym u) ∙ a₁ ∙ ap₂ ok l z; long = omega arith; inside = u32-inside s at a }
  where
    givenIn : Given → Res Entry → Given
    givenIn x (refuse n) = x
    givenIn x (ok t m) = t.given

    idIn : ℕ → Res Entry → ℕ
    idIn x (refuse n) = x
    idIn x (ok t m) = t.id.0

-- the owner of an entry that was read
record OwnerGot (v : TableVersion) (at : ℕ) (o : Owner) (d : ℕ) : Type 0 where
  number : ℕ
  is : o ≡ owner_in v number
  from : at ≤ d

owner_got : (v : TableVersion) (s : Bytes) (at : ℕ) {o : Owner} {d : ℕ} → owner_of v s at ≡ ok o d → OwnerGot v at o d
unfolding owner_of
owner_got Shared s at {o} {d} h = let z : at ≡ d = cc in record { number = 0; is = cc; from = omega arith }
owner_got ByOwner s at {o} {d} h =
    let (n, i, a, b) = next-ok _ _ h in
    let x = u16-at s at a in
    let y : i ≡ d = cc in
    record { number = n; is = cc; from = omega arith }

-- what the answer says of the bytes
pub record EntrySpan (v : TableVersion) (s : Bytes) (at : ℕ) (o : Owner) (i : FieldId) (k : EntryKind) (g m : Cursor) : Type 0 where
  pub head : entry_head v s at ≡ ok (record { owner = o; id = i; kind = k }) g.at
  pub number : ℕ
  pub owner : o ≡ owner_in v number
  pub long : at + 6 ≤ m.at
  pub inside : at < length s

head_of-parts : (v : TableVersion) (s : Bytes) (at : ℕ) {o : Owner} {d i : ℕ} {k : EntryKind} → owner_of v s at ≡ ok o d → u32 s d ≡ ok i (d + 4)
    → entry_kind s (d + 4) ≡ ok k (d + 5) → entry_head v s at ≡ ok (record { owner = o; id = record { 0 = i }; kind = k }) (d + 5)
unfolding entry_head next
head_of-parts v s at a b c = rw (a, b, c)

pub entry-span : (v : TableVersion) (s : Bytes) (at : ℕ) {r : EntryRead} → r ≡ entry_read_of v s at → {o : Owner} {i : FieldId} {k : EntryKind} {g m : Cursor}
    → r ≡ EntryRead.Is o i k g m → EntrySpan v s at o i k g m
unfolding entry_after entry_of
entry-span v s at {r} e {o} {i} {k} {g} {m} f = go (owner_of v s at) refl e
  where
    inner : {p : Owner} {d : ℕ} → owner_of v s at ≡ ok p d → (x : Res Entry) → entry s d ≡ x → r ≡ entry_of p d x → EntrySpan v s at o i k g m
    inner a (refuse n) b e = clash (cc)
    inner {p} {d} a (ok t l) b e =
        let h : EntryRead.Is p t.id (kind_of t.given) (record { at = d + 5 }) (record { at = l }) ≡ EntryRead.Is o i k g m = sym e ∙ f in
        let P = entry-parts s d b in
        let O = owner_got v s at a in
        let q : p ≡ o = cc in
        let j : t.id ≡ i = cc in
        let c : kind_of t.given ≡ k = cc in
        let y : d + 5 ≡ g.at = cc in
        let z : l ≡ m.at = cc in
        record {
          head = head_of-parts v s at a P.numbered P.kinded
              ∙ ap₂ ok (ap₂ (λ (p : Owner) (j : FieldId). record { owner = p; id = j; kind = kind_of t.given }) q j) y
              ∙ ap (λ (c : EntryKind). ok (record { owner = o; id = i; kind = c }) g.at) c;
          number = O.number;
          owner = sym q ∙ O.is;
          long = let w = P.long in let u = O.from in omega arith;
          inside = let w = P.inside in let u = O.from in omega arith;
        }

    go : (x : Res Owner) → owner_of v s at ≡ x → r ≡ entry_after s x → EntrySpan v s at o i k g m
    go (refuse n) a e = clash (cc)
    go (ok p d) a e = inner a (entry s d) refl e

-- ---- a chain is followed

follow-none : (v : TableVersion) (o : Owner) (i : FieldId) (k : EntryKind) (f : ℕ) (s : Bytes) (index : List ℕ) (x : ℕ) → x ≡ 0
    → follow v o i k f s index x ≡ EntryFound.Absent
unfolding follow choose
follow-none v o i k zero s index x h = refl
follow-none v o i k (suc f) s index x h = rw (eq-eqb x 0 h)

pub record Following (v : TableVersion) (o : Owner) (i : FieldId) (k : EntryKind) (s : Bytes) (index : List ℕ) (n j x : ℕ) : Type 0 where
  pub within : j ≤ n
  pub rest : followed v o i k n s index ≡ follow v o i k (n - j) s index x
  pub inside : x ≤ length s

module _ (v : TableVersion) (o : Owner) (i : FieldId) (k : EntryKind) (s : Bytes) (index : List ℕ) (n : ℕ) where
  pub following_none : ((l : ℕ) → get_or index l 0 ≤ length s) → {h x : ℕ} → h ≡ head_of (length s) (length index) i → x ≡ get_or index h 0
      → Following v o i k s index n 0 x
  following_none f {h} {x} p q = record {
    within = omega arith;
    rest = ap (follow v o i k n s index) (sym (q ∙ ap (λ (l : ℕ). get_or index l 0) p))
        ∙ ap (λ (l : ℕ). follow v o i k l s index x) (let e : n ≡ n - 0 = omega arith in e);
    inside = subst (λ (m : ℕ). m ≤ length s) (sym q) (f h);
  }

  module _ (j x : ℕ) (a : Following v o i k s index n j x) where
    pub following_all : n ≤ j → EntryFound.Absent ≡ followed v o i k n s index
    unfolding follow
    following_all h = sym (a.rest ∙ ap (λ (l : ℕ). follow v o i k l s index x) (let e : n - j ≡ 0 = omega arith in e))

    module _ (lt : j < n) where
      more : followed v o i k n s index ≡ follow v o i k (suc (n - (j + 1))) s index x
      more = a.rest ∙ ap (λ (l : ℕ). follow v o i k l s index x) (let e : n - j ≡ suc (n - (j + 1)) = omega arith in e)

      pub following-end : x ≡ 0 → EntryFound.Absent ≡ followed v o i k n s index
      following-end h = sym (more ∙ follow-none v o i k (suc (n - (j + 1))) s index x h)

      -- the chain's entry, and those before it
      one_more : (x ≡ 0 → ⊥) → followed v o i k n s index ≡ found_or o i k (entry_head v s x) (follow v o i k (n - (j + 1)) s index (get_or index (x / 6) 0))
      unfolding follow choose
      one_more some = more ∙ rw (ne_eqb x 0 some)

      module _ (some : x ≡ 0 → ⊥) {r : HeadRead} (e : entry_head_res r ≡ entry_head v s x) where
        pub following-broken : {m : ℕ} → r ≡ HeadRead.Refused m → EntryFound.Absent ≡ followed v o i k n s index
        unfolding found_or
        following-broken f = sym (one_more some ∙ rw (← e, f))

        module _ {p : Owner} {i' : FieldId} {k' : EntryKind} {g : Cursor} {b : Bool} (f : r ≡ HeadRead.Is p i' k' g) (y : b ≡ is_of o i k p i' k') where
          pub following-found : b ≡ true → EntryFound.At g ≡ followed v o i k n s index
          unfolding found_or choose
          following-found z = sym (one_more some ∙ rw (← e, f, ← y, z))

          pub following-more : b ≡ false → ((l : ℕ) → get_or index l 0 ≤ length s) → {w : ℕ} → w ≡ get_or index (x / 6) 0 → Following v o i k s index n (j + 1) w
          unfolding found_or choose
          following-more z h {w} q = record {
            within = omega arith;
            rest = one_more some ∙ rw (← e, f, ← y, z) (ap (follow v o i k (n - (j + 1)) s index) (sym q));
            inside = subst (λ (m : ℕ). m ≤ length s) (sym q) (h (x / 6));
          }

-- ---- the scan, from where entries end

-- the one, or where it is absent the other
abbrev or_else : EntryFound → EntryFound → EntryFound
or_else (EntryFound.At c) y = EntryFound.At c
or_else EntryFound.Absent y = y

or_absent : (x : EntryFound) → or_else x EntryFound.Absent ≡ x
or_absent (EntryFound.At c) = refl
or_absent EntryFound.Absent = refl

or_chosen : (x : EntryFound) (b : Bool) (g : Cursor) (y : EntryFound)
    → or_else x (choose b (EntryFound.At g) y) ≡ or_else (or_else x (choose b (EntryFound.At g) EntryFound.Absent)) y
unfolding choose
or_chosen (EntryFound.At c) b g y = refl
or_chosen EntryFound.Absent true g y = refl
or_chosen EntryFound.Absent false g y = refl

-- the last entry first, where no other is meant
last-first : (x : EntryFound) (b : Bool) (g : Cursor) → (b ≡ true → x ≡ EntryFound.Absent)
    → choose b (EntryFound.At g) x ≡ or_else x (choose b (EntryFound.At g) EntryFound.Absent)
unfolding choose
last-first x true g h = rw (h refl) refl
last-first x false g h = sym (or_absent x)

-- ---- an entry's owner, id and kind

same_owner_eq : (v : TableVersion) (n m : ℕ) → same_owner (owner_in v n) (owner_in v m) ≡ true → owner_in v n ≡ owner_in v m
unfolding same_owner counts_for
same_owner_eq Shared n m h = refl
same_owner_eq ByOwner n m h = ap Owner.Only (eqb-true n m h)

abbrev id_of : ℕ → FieldId
id_of n = record { 0 = n }

-- the scan finds the same where it is for the same
same-sought : (v : TableVersion) (n m : ℕ) (i j : FieldId) (k l : EntryKind) (c : ℕ) (s : Bytes) (at : ℕ)
    → is_of (owner_in v n) i k (owner_in v m) j l ≡ true → seek v (owner_in v n) i k c s at ≡ seek v (owner_in v m) j l c s at
same-sought v n m i j k l c s at h =
    let (p, q) = both (eqb i.0 j.0 && same_kind_of k l) (same_owner (owner_in v n) (owner_in v m)) h in
    let (x, y) = both (eqb i.0 j.0) (same_kind_of k l) p in
    ap (λ (o : Owner). seek v o i k c s at) (same_owner_eq v n m q)
    ∙ ap₂ (λ (i : FieldId) (k : EntryKind). seek v (owner_in v m) i k c s at) (ap id_of (eqb-true i.0 j.0 x)) (same_kind_eq k l y)

other-id : (o p : Owner) (i j : FieldId) (k l : EntryKind) → (i.0 ≡ j.0 → ⊥) → is_of o i k p j l ≡ false
other-id o p i j k l h = rw (ne_eqb i.0 j.0 h)

-- a table's owner is every one, or the one that is looked for
pub own_sought : (v : TableVersion) (u : ℕ) (i : FieldId) (k : EntryKind) (n : ℕ) (s : Bytes) (at : ℕ)
    → seek v (owner_in v u) i k n s at ≡ seek v (Owner.Only u) i k n s at
unfolding seek seek_on owner_of entry_after entry_of same_owner counts_for
own_sought ByOwner u i k n s at = refl
own_sought Shared u i k n s at = shared n at
  where
    step : (n at : ℕ) → ((m : ℕ) → seek Shared Owner.Every i k n s m ≡ seek Shared (Owner.Only u) i k n s m) → (r : Res Entry)
        → seek_on Owner.Every i k (entry_of Owner.Every at r) (λ m. seek Shared Owner.Every i k n s m)
        ≡ seek_on (Owner.Only u) i k (entry_of Owner.Every at r) (λ m. seek Shared (Owner.Only u) i k n s m)
    step n at h (refuse m) = refl
    step n at h (ok e m) =
        ap (λ (r : EntryFound). choose (is_of Owner.Every i k Owner.Every e.id (kind_of e.given)) (EntryFound.At (record { at = at + 5 })) r) (h m)

    shared : (n at : ℕ) → seek Shared Owner.Every i k n s at ≡ seek Shared (Owner.Only u) i k n s at
    shared zero at = refl
    shared (suc n) at = step n at (λ m. shared n m) (entry s at)

-- what the index finds is what the scan finds
pub own_found : {v : TableVersion} {s : Bytes} {n from : ℕ} {index : List ℕ} → Indexed v s n from index
    → (u : ℕ) (i : FieldId) (k : EntryKind) {o : Owner} {r : EntryFound}
    → o ≡ owner_in v u → r ≡ followed v o i k n s index → r ≡ seek v (Owner.Only u) i k n s from
own_found {v} {s} {n} {from} {index} I u i k e f = f ∙ ap (λ (o : Owner). followed v o i k n s index) e ∙ I.finds u i k ∙ own_sought v u i k n s from

-- ---- the numbers of an index

-- a head is behind the links
pub head-place : (len size : ℕ) (i : FieldId) → links len < size → (links len ≤ head_of len size i) × (head_of len size i < size)
head-place len size i h = let m = mod-lt i.0 (let z : 0 < size - links len = omega arith in z) in (omega arith, omega arith)

-- ---- the entries are put in

-- n entries from an offset are in their chains, and end at an offset
pub record Chained (v : TableVersion) (s : Bytes) (n from at : ℕ) (index : List ℕ) : Type 0 where
  pub inside : Inside s index
  pub below : (k : ℕ) → get_or index k 0 ≤ at - 6
  pub behind : 0 < at
  pub passed : (o : Owner) (i : FieldId) (k : EntryKind) (m : ℕ) → seek v o i k (n + m) s from ≡ or_else (seek v o i k n s from) (seek v o i k m s at)
  pub finds : (u : ℕ) (i : FieldId) (k : EntryKind) (f : ℕ) → n ≤ f → followed v (owner_in v u) i k f s index ≡ seek v (owner_in v u) i k n s from

-- behind a list's end there is nothing either
cleared-all : {t : List ℕ} → Cleared 0 0 (length t) t → (k : ℕ) → get_or t k 0 ≡ 0
cleared-all {t} C k = go (ltb k (length t)) refl
  where
    go : (b : Bool) → ltb k (length t) ≡ b → get_or t k 0 ≡ 0
    go true h = C.empty k zero-le (ltb-true k (length t) h)
    go false h = get_or-eq_default t 0 (ltb-false k (length t) h)

module _ {v : TableVersion} {s : Bytes} {from : ℕ} {index : List ℕ} where
  pub chained-start : links (length s) < length index → 0 < from → Cleared 0 0 (length index) index → Chained v s 0 from from index
  unfolding seek
  chained-start long pos C = record {
    inside = record { long = long; within = λ k. let e = cleared-all C k in omega arith };
    below = λ k. let e = cleared-all C k in omega arith;
    behind = pos;
    passed = λ o i k m. ap (λ (l : ℕ). seek v o i k l s from) (let e : 0 + m ≡ m = omega arith in e);
    finds = λ u i k f le. follow-none v (owner_in v u) i k f s index _ (cleared-all C (head_of (length s) (length index) i));
  }

  pub chained-end : {n at : ℕ} → Chained v s n from at index → Indexed v s n from index
  chained-end {n} a = record { inside = a.inside; finds = λ u i k. a.finds u i k n (omega arith) }

  -- one more entry, which the ones before do not repeat
  module _ {n at : ℕ} (a : Chained v s n from at index) {o : Owner} {j : FieldId} {l : EntryKind} {g m : Cursor}
      (read : entry_read_of v s at ≡ EntryRead.Is o j l g m) (E : EntrySpan v s at o j l g m) (new : seek v o j l n s from ≡ EntryFound.Absent) where
    y : ℕ
    y = at / 6

    h : ℕ
    h = head_of (length s) (length index) j

    h-place : (links (length s) ≤ h) × (h < length index)
    unfolding h
    h-place = head-place (length s) (length index) j a.inside.long

    y-place : y < links (length s)
    unfolding y
    y-place = let i = E.inside in omega arith

    once : List ℕ
    once = set index y (get_or index h 0)

    twice : List ℕ
    twice = set once h at

    as_long : length twice ≡ length index
    unfolding twice once
    as_long = length-set once h at ∙ length-set index y (get_or index h 0)

    at_head : get_or twice h 0 ≡ at
    unfolding twice once
    at_head = let p = h-place in get_or-set_same once h at 0 (let z = length-set index y (get_or index h 0) in omega arith)

    at-link : get_or twice y 0 ≡ get_or index h 0
    unfolding twice once
    at-link =
        let p = h-place in
        let q = y-place in
        get_or-set_other once h y at 0 (λ z. omega arith) ∙ get_or-set_same index y (get_or index h 0) 0 (omega arith)

    elsewhere : (k : ℕ) → (k ≡ h → ⊥) → (k ≡ y → ⊥) → get_or twice k 0 ≡ get_or index k 0
    unfolding twice once
    elsewhere k x z = get_or-set_other once h k at 0 x ∙ get_or-set_other index y k (get_or index h 0) 0 z

    bounded : (b : ℕ) → at ≤ b → ((k : ℕ) → get_or index k 0 ≤ b) → (k : ℕ) → get_or twice k 0 ≤ b
    bounded b le f k = go (ℕ_discrete k h) (ℕ_discrete k y)
      where
        go : Dec (k ≡ h) → Dec (k ≡ y) → get_or twice k 0 ≤ b
        go (yes e) d = let z = ap (λ (i : ℕ). get_or twice i 0) e ∙ at_head in omega arith
        go (no e) (yes d) = let z = ap (λ (i : ℕ). get_or twice i 0) d ∙ at-link in let w = f h in omega arith
        go (no e) (no d) = let z = elsewhere k e d in let w = f k in omega arith

    -- the link of an entry before is as it was
    link-kept : (x : ℕ) → (x ≡ 0 → ⊥) → x ≤ at - 6 → get_or twice (x / 6) 0 ≡ get_or index (x / 6) 0
    unfolding y
    link-kept x some le = let p = h-place in let q = y-place in elsewhere (x / 6) (λ z. omega arith) (λ z. omega arith)

    kept_step : (o : Owner) (i : FieldId) (k : EntryKind) (f x : ℕ) → ((z : ℕ) → z ≤ at - 6 → follow v o i k f s twice z ≡ follow v o i k f s index z)
        → x ≤ at - 6 → Dec (x ≡ 0) → follow v o i k (suc f) s twice x ≡ follow v o i k (suc f) s index x
    unfolding follow
    kept_step o i k f x ih le (yes e) = follow-none v o i k (suc f) s twice x e ∙ sym (follow-none v o i k (suc f) s index x e)
    kept_step o i k f x ih le (no e) =
        ap (λ (r : EntryFound). choose (eqb x 0) EntryFound.Absent (found_or o i k (entry_head v s x) r))
        (ap (follow v o i k f s twice) (link-kept x e le) ∙ ih (get_or index (x / 6) 0) (a.below (x / 6)))

    -- a chain of the entries before is as it was
    kept : (o : Owner) (i : FieldId) (k : EntryKind) (f x : ℕ) → x ≤ at - 6 → follow v o i k f s twice x ≡ follow v o i k f s index x
    unfolding follow
    kept o i k zero x le = refl
    kept o i k (suc f) x le = kept_step o i k f x (λ z q. kept o i k f z q) le (ℕ_discrete x 0)

    -- one entry from here
    one : (p : Owner) (i : FieldId) (k : EntryKind) → seek v p i k (n + 1) s from
        ≡ or_else (seek v p i k n s from) (choose (is_of p i k o j l) (EntryFound.At g) EntryFound.Absent)
    unfolding seek seek_on
    one p i k = a.passed p i k 1 ∙ ap (λ (r : EntryRead). or_else (seek v p i k n s from) (seek_on p i k r (λ m. EntryFound.Absent))) read

    seek-read : (p : Owner) (i : FieldId) (k : EntryKind) (r : ℕ) → seek v p i k (suc r) s at
        ≡ choose (is_of p i k o j l) (EntryFound.At g) (seek v p i k r s m.at)
    unfolding seek seek_on
    seek-read p i k r = ap (λ (x : EntryRead). seek_on p i k x (λ m. seek v p i k r s m)) read

    last : (u : ℕ) (i : FieldId) (k : EntryKind)
        → choose (is_of (owner_in v u) i k o j l) (EntryFound.At g) (seek v (owner_in v u) i k n s from) ≡ seek v (owner_in v u) i k (n + 1) s from
    last u i k =
        last-first (seek v (owner_in v u) i k n s from) (is_of (owner_in v u) i k o j l) g only ∙ sym (one (owner_in v u) i k)
      where
        only : is_of (owner_in v u) i k o j l ≡ true → seek v (owner_in v u) i k n s from ≡ EntryFound.Absent
        only q =
            same-sought v u E.number i j k l n s from (ap (λ (p : Owner). is_of (owner_in v u) i k p j l) (sym E.owner) ∙ q)
            ∙ ap (λ (p : Owner). seek v p j l n s from) (sym E.owner) ∙ new

    -- a chain that leads to the entry
    reached : (u : ℕ) (i : FieldId) (k : EntryKind) (f x : ℕ) → x ≡ at → head_of (length s) (length index) i ≡ h → n ≤ f
        → follow v (owner_in v u) i k (suc f) s twice x ≡ seek v (owner_in v u) i k (n + 1) s from
    unfolding follow choose found_or y
    reached u i k f x e q le =
        let b = a.behind in
        ap (follow v (owner_in v u) i k (suc f) s twice) e
        ∙ rw (ne_eqb at 0 (let z : at ≡ 0 → ⊥ = λ z. omega arith in z), E.head)
        (ap (λ (r : EntryFound). choose (is_of (owner_in v u) i k o j l) (EntryFound.At g) r)
        (ap (follow v (owner_in v u) i k f s twice) at-link
        ∙ kept (owner_in v u) i k f (get_or index h 0) (a.below h)
        ∙ ap (λ (b : ℕ). follow v (owner_in v u) i k f s index (get_or index b 0)) (sym q)
        ∙ a.finds u i k f le)
        ∙ last u i k)

    -- a chain that does not
    unreached : (u : ℕ) (i : FieldId) (k : EntryKind) (f : ℕ) → (head_of (length s) (length index) i ≡ h → ⊥) → n ≤ f
        → follow v (owner_in v u) i k f s twice (get_or index (head_of (length s) (length index) i) 0) ≡ seek v (owner_in v u) i k (n + 1) s from
    unfolding h choose
    unreached u i k f q le =
        kept (owner_in v u) i k f _ (a.below (head_of (length s) (length index) i)) ∙ a.finds u i k f le ∙ sym (or_absent _)
        ∙ ap (λ (b : Bool). or_else (seek v (owner_in v u) i k n s from) (choose b (EntryFound.At g) EntryFound.Absent))
        (sym (other-id (owner_in v u) o i j k l (λ z. q (ap (λ (b : ℕ). links (length s) + b % (length index - links (length s))) z))))
        ∙ sym (one (owner_in v u) i k)

    found : (u : ℕ) (i : FieldId) (k : EntryKind) (f : ℕ) → n + 1 ≤ f → Dec (head_of (length s) (length index) i ≡ h)
        → follow v (owner_in v u) i k f s twice (get_or twice (head_of (length s) (length index) i) 0) ≡ seek v (owner_in v u) i k (n + 1) s from
    found u i k zero le d = absurd (omega arith)
    found u i k (suc f) le (yes q) = reached u i k f _ (ap (λ (b : ℕ). get_or twice b 0) q ∙ at_head) q (omega arith)
    found u i k (suc f) le (no q) =
        let p = head-place (length s) (length index) i a.inside.long in
        let r = y-place in
        ap (follow v (owner_in v u) i k (suc f) s twice) (elsewhere (head_of (length s) (length index) i) q (λ z. omega arith))
        ∙ unreached u i k (suc f) q (omega arith)

    pub chained_more : Chained v s (n + 1) from m.at (pushed (length s) at j index)
    unfolding twice once y h
    chained_more = record {
      inside = record {
        long = let e = as_long in let i = a.inside.long in omega arith;
        within = bounded (length s) (let i = E.inside in omega arith) a.inside.within;
      };
      below = bounded (m.at - 6) (let i = E.long in omega arith) (λ k. let b = a.below k in let i = E.long in omega arith);
      behind = let i = E.long in omega arith;
      passed = λ p i k r.
          ap (λ (c : ℕ). seek v p i k c s from) (let z : n + 1 + r ≡ n + suc r = omega arith in z) ∙ a.passed p i k (suc r) ∙ next-passed p i k r;
      finds = λ u i k f le.
          ap (λ (c : ℕ). follow v (owner_in v u) i k f s twice (get_or twice (head_of (length s) c i) 0)) as_long
          ∙ found u i k f le (ℕ_discrete (head_of (length s) (length index) i) h);
    }
      where
        next-passed : (p : Owner) (i : FieldId) (k : EntryKind) (r : ℕ)
            → or_else (seek v p i k n s from) (seek v p i k (suc r) s at) ≡ or_else (seek v p i k (n + 1) s from) (seek v p i k r s m.at)
        next-passed p i k r =
            ap (or_else (seek v p i k n s from)) (seek-read p i k r)
            ∙ or_chosen (seek v p i k n s from) (is_of p i k o j l) g (seek v p i k r s m.at)
            ∙ ap (λ (x : EntryFound). or_else x (seek v p i k r s m.at)) (sym (one p i k))

-- ---- the loop that reads the entries

absent_of : (x : EntryFound) → is_found x ≡ false → x ≡ EntryFound.Absent
absent_of (EntryFound.At c) h = clash (cc)
absent_of EntryFound.Absent h = refl

-- of n entries the first i are read and in their chains
pub record Filling (v : TableVersion) (s : Bytes) (n from i at : ℕ) (index : List ℕ) : Type 0 where
  pub reading : Reading v s n from i at
  pub chained : Chained v s i from at index

module _ {v : TableVersion} {s : Bytes} {n from : ℕ} {index : List ℕ} where
  pub filling_start : links (length s) < length index → 0 < from → Cleared 0 0 (length index) index → Filling v s n from 0 from index
  filling_start long pos C = record { reading = reading_none v s n from; chained = chained-start long pos C }

  module _ {i at : ℕ} (a : Filling v s n from i at index) where
    pub filling_all : n ≤ i → Moved.To (record { at = at }) ≡ moved_of (entries v n [] s from)
    filling_all le = reading_all v s n from i at a.reading le

    pub filling_end : n ≤ i → Indexed v s n from index
    filling_end le =
        let w = a.reading.within in
        subst (λ (k : ℕ). Indexed v s k from index) (let z : i ≡ n = omega arith in z) (chained-end a.chained)

    module _ (lt : i < n) {r : EntryRead} (e : r ≡ entry_read_of v s at) where
      pub filling-broken : {k : ℕ} → r ≡ EntryRead.Refused k → Moved.Refused k ≡ moved_of (entries v n [] s from)
      filling-broken f = reading-broken v s n from i at a.reading lt e f

      module _ {o : Owner} {j : FieldId} {k : EntryKind} {g m : Cursor} (f : r ≡ EntryRead.Is o j k g m) where
        pub filling-inside : at < length s
        filling-inside = (entry-span v s at e f).inside

        module _ {q : EntryFound} {b : Bool} (w : q ≡ followed v o j k i s index) (x : b ≡ is_found q) where
          sought : q ≡ seek v o j k i s from
          sought =
              let E = entry-span v s at e f in
              w ∙ ap (λ (p : Owner). followed v p j k i s index) E.owner ∙ a.chained.finds E.number j k i (omega arith)
              ∙ ap (λ (p : Owner). seek v p j k i s from) (sym E.owner)

          pub filling-repeated : b ≡ true → Moved.Refused 5 ≡ moved_of (entries v n [] s from)
          filling-repeated y = reading-repeated v s n from i at a.reading lt e f sought x y

          pub filling-more : b ≡ false → {t : List ℕ} → t ≡ pushed (length s) at j index → Filling v s n from (i + 1) m.at t
          filling-more y h = record {
            reading = reading-more v s n from i at a.reading lt e f sought x y;
            chained = subst (λ (t : List ℕ). Chained v s (i + 1) from m.at t) (sym h)
                (chained_more a.chained (sym e ∙ f) (entry-span v s at e f) (sym sought ∙ absent_of q (sym x ∙ y)));
          }

pub pushed-length : (len at : ℕ) (i : FieldId) (index : List ℕ) → length (pushed len at i index) ≡ length index
pushed-length len at i index =
    length-set (set index (at / 6) (get_or index (head_of len (length index) i) 0)) (head_of len (length index) i) at
    ∙ length-set index (at / 6) (get_or index (head_of len (length index) i) 0)
