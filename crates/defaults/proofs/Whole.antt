-- From the answers of `read_table` and `get_default_value` to what stands in the bytes. Assumes nothing.
use Prim.Native.Nat.{ℕ, zero, suc, ◌+◌, ◌≤◌}
use mathlib.Core.Path.{◌≡◌, refl, sym, ap, ap₂, ◌∙◌}
use mathlib.Core.List.{List, [], ◌∷◌}
use mathlib.Core.Bool.{Bool, true, false}
use native.Mathlib.Omega.{arith}
use lib.ListN.{length, take}
use lib.Dec.{eqb}
use borrow.Author.Tests.{leb-true}
use Rattle.layout.specs.Bytes.{Bytes, AllBytes, same_bytes}
use Rattle.layout.specs.Parser.{Res, refuse, ok, choose, byte}
use Rattle.layout.specs.Tree.{LeafType, leaf}
use Rattle.layout.specs.Layout.{sized, ended}
use Rattle.layout.specs.code.Answers.{leaf_at, SpanIn}
use Rattle.layout.specs.declared.columns.FieldId.{FieldId}
use Rattle.layout.specs.declared.cursor.Cursor.{Cursor}
use Rattle.layout.specs.declared.types.LeafType.{LeafType as LeafSpan}
use Rattle.layout.proofs.Ways.{clash}
use Rattle.layout.proofs.View.{next-ok}
use Rattle.layout.proofs.Whole.{byte_at, u16-at, tested}
use Rattle.values.specs.Value.{Value, vnull, Values, vnil, vcons, is_null_value}
use Rattle.values.specs.Reading.{presence, nullable, content, value}
use Rattle.values.specs.Fits.{Fits}
use Rattle.values.proofs.Round.{value-fits}
use Rattle.defaults.specs.Table.{Given, initial, partition, failed, Entry, entries_of, entries, table_mark, table_version, TableTree}
use Rattle.defaults.specs.Table.{counted_table, table_from, table}
use Rattle.defaults.specs.Lookup.{Taken, refused, nothing, taken, unless_null, of_source, given_to, is_partition_of, is_initial_of, first_entry_of, get_default_value}
use Rattle.defaults.specs.code.Answers.{table_of}
use Rattle.defaults.specs.code.Stands.{TableAt, Answers}
use Rattle.defaults.specs.declared.lookup.DefaultFieldValues.{DefaultFieldValues}
use Rattle.defaults.specs.declared.lookup.DefaultValue.{DefaultValue}
use Rattle.defaults.specs.declared.read.TableVersion.{TableVersion}
use Rattle.defaults.specs.declared.read.TableVersion.TheVariants.{Shared, ByOwner}
use Rattle.defaults.specs.declared.read.TableRead.{TableRead}
use Rattle.defaults.proofs.Top.{entries-count}

-- ---- a table that was read

version-at : (s : Bytes) (at : ℕ) {v : TableVersion} {m : ℕ} → table_version s at ≡ ok v m → m ≡ 5
unfolding table_version choose
version-at s at {v} {m} h = go (same_bytes (take 5 s) (table_mark 1)) (same_bytes (take 5 s) (table_mark 2)) h
  where
    go : (b c : Bool) → choose b (ok Shared 5) (choose c (ok ByOwner 5) (refuse 1)) ≡ ok v m → m ≡ 5
    go true c e = cc
    go false true e = cc
    go false false e = clash (cc)

record Parts (s : Bytes) (t : TableTree) (m : ℕ) : Type 0 where
  small : length s ≤ 16384
  count : ℕ
  reads : entries t.version count [] s 7 ≡ ok t.entries m

parts : (s : Bytes) {t : TableTree} {m : ℕ} → table s ≡ ok t m → Parts s t m
unfolding table table_from counted_table sized ended
parts s {t} {m} h =
    let (u, i, a, b) = next-ok _ _ h in
    let (v, j, a₁, b₁) = next-ok _ _ b in
    let (k, o, a₂, b₂) = next-ok _ _ b₁ in
    let (fs, e, a₃, b₃) = next-ok _ _ b₂ in
    let (x, e', a₄, b₄) = next-ok _ _ b₃ in
    let z = tested _ 4 s 0 a in
    let y = tested _ 6 s e a₄ in
    let p = version-at s i a₁ in
    let q = u16-at s j a₂ in
    let r : o ≡ 7 = omega arith in
    let g : e ≡ m = sym y.1 ∙ (let g' : e' ≡ m = cc in g') in
    rw (← ap (treeIn t) b₄)
    (record { small = leb-true _ _ z.0; count = k; reads = ap (λ (i : ℕ). entries v k [] s i) (sym r) ∙ a₃ ∙ ap (ok fs) g })
  where
    treeIn : TableTree → Res TableTree → TableTree
    treeIn t (refuse n) = t
    treeIn t (ok x m) = x

-- a table whose version, number of entries and their start were answered, for an owner and a source
pub record TableGot (s : Bytes) (d : DefaultFieldValues) : Type 0 where
  pub entries : TableAt s d
  pub tree : TableTree
  pub reads : table s ≡ ok tree entries.end
  pub owned : entries.entries ≡ entries_of d.owner tree.entries

-- what `read_table` answered
pub table_at : (s : Bytes) {r : TableRead} {v : TableVersion} {n : ℕ} {c : Cursor} (o k : ℕ) → r ≡ table_of (table s) → r ≡ TableRead.Read v n c
    → TableGot s (record { version = v; count = n; entries = c; owner = o; source_index = k })
unfolding table_of
table_at s {r} {v} {n} {c} o k e f = go (table s) refl e
  where
    go : (x : Res TableTree) → table s ≡ x → r ≡ table_of x → TableGot s (record { version = v; count = n; entries = c; owner = o; source_index = k })
    go (refuse k) q e = clash (cc)
    go (ok t m) q e =
        let h : TableRead.Read t.version (length t.entries) (record { at = 7 }) ≡ TableRead.Read v n c = sym e ∙ f in
        let P = parts s q in
        let l = entries-count t.version P.count [] s 7 P.reads in
        let w : t.version ≡ v = cc in
        let j : length t.entries ≡ n = cc in
        let b : 7 ≡ c.at = cc in
        let i : n ≡ P.count = sym j ∙ l ∙ (let z : 0 + P.count ≡ P.count = omega arith in z) in
        record {
          entries = record {
            all = t.entries;
            end = m;
            reads = ap₂ (λ (u : TableVersion) (j : ℕ). entries u j [] s c.at) (sym w) i
                ∙ ap (λ (j : ℕ). entries t.version P.count [] s j) (sym b) ∙ P.reads;
            entries = entries_of o t.entries;
            owned = refl;
          };
          tree = t;
          reads = q;
          owned = refl;
        }

pub table-refused : (s : Bytes) {r : TableRead} {k : ℕ} → r ≡ table_of (table s) → r ≡ TableRead.Refused k → table s ≡ refuse k
unfolding table_of
table-refused s {r} {k} e f = go (table s) e
  where
    go : (x : Res TableTree) → r ≡ table_of x → x ≡ refuse k
    go (refuse n) e = cc
    go (ok t m) e = clash (cc)

-- a table that was read is within its limit
pub table-small : (s : Bytes) {t : TableTree} {m : ℕ} → table s ≡ ok t m → length s ≤ 16384
table-small s h = (parts s h).small

-- ---- what `get_default_value` answered

-- a value and its type, where the answer says
pub record DefaultAt (s : Bytes) (x : Taken) (l : LeafSpan) (at : ℕ) : Type 0 where
  pub tree : Value
  pub end : ℕ
  pub is : x ≡ taken (leaf_at s l) tree
  pub inside : SpanIn s l.zone
  pub reads : value (leaf (leaf_at s l)) s at ≡ ok tree end

module _ (s : Bytes) {r : DefaultValue} where
  pub default_failed : (x : Taken) → Answers s x r → r ≡ DefaultValue.Failed → x ≡ refused 26
  default_failed (refused n) h e = ap refused h.0
  default_failed nothing h e = clash (let z : DefaultValue.Failed ≡ DefaultValue.Nothing = sym e ∙ h in cc)
  default_failed (taken l v) h e = clash (let z : DefaultValue.Failed ≡ DefaultValue.At h.span h.start = sym e ∙ h.is in cc)

  pub default_none : (x : Taken) → Answers s x r → r ≡ DefaultValue.Nothing → x ≡ nothing
  default_none (refused n) h e = clash (let z : DefaultValue.Nothing ≡ DefaultValue.Failed = sym e ∙ h.1 in cc)
  default_none nothing h e = refl
  default_none (taken l v) h e = clash (let z : DefaultValue.Nothing ≡ DefaultValue.At h.span h.start = sym e ∙ h.is in cc)

  pub default_at : (x : Taken) {l : LeafSpan} {c : Cursor} → Answers s x r → r ≡ DefaultValue.At l c → DefaultAt s x l c.at
  default_at (refused n) {l} {c} h e = clash (let z : DefaultValue.At l c ≡ DefaultValue.Failed = sym e ∙ h.1 in cc)
  default_at nothing {l} {c} h e = clash (let z : DefaultValue.At l c ≡ DefaultValue.Nothing = sym e ∙ h in cc)
  default_at (taken t v) {l} {c} h e =
      let z : DefaultValue.At h.span h.start ≡ DefaultValue.At l c = sym h.is ∙ e in
      let p : h.span ≡ l = cc in
      let q : h.start ≡ c = cc in
      let w : t ≡ leaf_at s l = sym h.type ∙ ap (leaf_at s) p in
      made v h.end p q w h.inside h.reads
    where
      made : {t : LeafType} {l m : LeafSpan} {b c : Cursor} (v : Value) (o : ℕ) → m ≡ l → b ≡ c → t ≡ leaf_at s l → SpanIn s m.zone → value (leaf t) s
          b.at ≡ ok v o
          → DefaultAt s (taken t v) l c.at
      made {t} {l} {m} {b} {c} v o p q w i h = record {
        tree = v;
        end = o;
        is = ap (λ (k : LeafType). taken k v) w;
        inside = rw p at i;
        reads = ap (λ (k : LeafType). value (leaf k) s c.at) (sym w) ∙ ap (λ (d : Cursor). value (leaf t) s d.at) (sym q) ∙ h;
      }

-- with bytes below 256 the value fits its type
pub default_fits : {s : Bytes} {x : Taken} {l : LeafSpan} {at : ℕ} → AllBytes s → (D : DefaultAt s x l at) → Fits (leaf (leaf_at s l)) D.tree
default_fits {s} {x} {l} {at} o D = value-fits (leaf (leaf_at s l)) s o at D.tree D.end D.reads

-- ---- a value that is taken is not null

unless_taken : (l : LeafType) (v : Value) {m : LeafType} {w : Value} → unless_null l v ≡ taken m w → is_null_value w ≡ false
unfolding unless_null choose
unless_taken l v {m} {w} h = go (is_null_value v) refl h
  where
    go : (b : Bool) → is_null_value v ≡ b → choose b nothing (taken l v) ≡ taken m w → is_null_value w ≡ false
    go true e q = clash (cc)
    go false e q = let z : v ≡ w = cc in sym (ap is_null_value z) ∙ e

source_taken : (l : LeafType) (vs : Values) (k : ℕ) {m : LeafType} {w : Value} → of_source l vs k ≡ taken m w → is_null_value w ≡ false
unfolding of_source
source_taken l vnil k h = clash (cc)
source_taken l (vcons v vs) zero h = unless_taken l v h
source_taken l (vcons v vs) (suc k) h = source_taken l vs k h

given-taken : (k : ℕ) (g : Given) {m : LeafType} {w : Value} → given_to k g ≡ taken m w → is_null_value w ≡ false
unfolding given_to
given-taken k (initial l v) h = unless_taken l v h
given-taken k (partition l vs) h = source_taken l vs k h
given-taken k failed h = clash (cc)

first_taken : (f : Entry → Bool) (k : ℕ) (es : List Entry) (r : Taken) {m : LeafType} {w : Value} → (r ≡ taken m w → is_null_value w ≡ false)
    → first_entry_of f (given_to k) es r ≡ taken m w → is_null_value w ≡ false
unfolding first_entry_of choose
first_taken f k [] r i h = i h
first_taken f k (e ∷ es) r {m} {w} i h = go (f e) (first_taken f k es r i) h
  where
    go : (b : Bool) → (first_entry_of f (given_to k) es r ≡ taken m w → is_null_value w ≡ false) → choose b (given_to k e.given)
        (first_entry_of f (given_to k) es r) ≡ taken m w → is_null_value w ≡ false
    go true j q = given-taken k e.given q
    go false j q = j q

pub taken-present : (es : List Entry) (k : ℕ) (i : FieldId) {l : LeafType} {v : Value} → get_default_value es k i ≡ taken l v → is_null_value v ≡ false
unfolding get_default_value
taken-present es k i h = first_taken (is_partition_of i) k es _ (λ q. first_taken (is_initial_of i) k es nothing (λ z. clash (cc)) q) h

-- the presence byte of a value that is not null is 1
presence-ends : (s : Bytes) (at : ℕ) {b : Bool} {m : ℕ} → presence s at ≡ ok b m → m ≡ at + 1
unfolding presence choose
presence-ends s at {b} {m} e =
    let (x, i, a, q) = next-ok (byte s at) _ e in
    go i (eqb x 0) (eqb x 1) q ∙ byte_at s at a
  where
    go : (i : ℕ) (c d : Bool) → choose c (ok false i) (choose d (ok true i) (refuse 3)) ≡ ok b m → m ≡ i
    go i true d e = cc
    go i false true e = cc
    go i false false e = clash (cc)

pub present-byte : (l : LeafType) (s : Bytes) (at : ℕ) {v : Value} {m : ℕ} → value (leaf l) s at ≡ ok v m → is_null_value v ≡ false → presence s at ≡ ok
    true (at + 1)
unfolding value nullable choose
present-byte l s at {v} {m} h n =
    let (b, i, a, q) = next-ok (presence s at) _ h in
    go b a q
  where
    go : (b : Bool) {i : ℕ} → presence s at ≡ ok b i → choose b (content (leaf l) s i) (ok vnull i) ≡ ok v m → presence s at ≡ ok true (at + 1)
    go true a q = a ∙ ap (ok true) (presence-ends s at a)
    go false a q = let z : v ≡ vnull = cc in clash (let y : true ≡ false = sym (ap is_null_value z) ∙ n in cc)
