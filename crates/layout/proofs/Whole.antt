-- From the answer of `read_layout` to the columns that stand in the bytes. Assumes nothing.
use Prim.Native.Nat.{ℕ, ◌+◌, ◌≤◌}
use mathlib.Core.Path.{◌≡◌, refl, sym, ap, ◌∙◌, subst}
use mathlib.Core.List.{[]}
use mathlib.Core.Bool.{Bool, true, false}
use native.Mathlib.Omega.{arith}
use lib.ListN.{length, get_or, take}
use lib.Dec.{ltb}
use borrow.Author.Tests.{ltb-true, leb-true}
use Rattle.layout.specs.Bytes.{Bytes, same_bytes}
use Rattle.layout.specs.Parser.{Res, refuse, ok, choose, byte, u16, test}
use Rattle.layout.specs.Tree.{Layout, Columns, count_columns}
use Rattle.layout.specs.Layout.{columns, type, mark, edition, counted, ended, sized, layout_from, layout, top_rule, inner_rule}
use Rattle.layout.specs.code.Answers.{layout_of}
use Rattle.layout.specs.code.Stands.{LayoutAt}
use Rattle.layout.specs.declared.cursor.Cursor.{Cursor}
use Rattle.layout.specs.declared.columns.Siblings.{Siblings}
use Rattle.layout.specs.declared.read.LayoutRead.{LayoutRead}
use Rattle.layout.specs.declared.edition.Edition.{Edition}
use Rattle.layout.specs.declared.edition.Edition.TheVariants.{One, Two, Three}
use Rattle.layout.proofs.Ways.{clash}
use Rattle.layout.proofs.FreeRule.{type_free, columns_free}
use Rattle.layout.proofs.Top.{columns-count}
use Rattle.layout.proofs.View.{next-ok}

-- where a parser that reads ends
pub byte_at : (s : Bytes) (at : ℕ) {b m : ℕ} → byte s at ≡ ok b m → m ≡ at + 1
unfolding byte choose
byte_at s at {b} {m} h = go (ltb at (length s)) h
  where
    go : (t : Bool) → choose t (ok (get_or s at 0) (at + 1)) (refuse 2) ≡ ok b m → m ≡ at + 1
    go true e = cc
    go false e = clash (cc)

pub u16-at : (s : Bytes) (at : ℕ) {n m : ℕ} → u16 s at ≡ ok n m → m ≡ at + 2
unfolding u16
u16-at s at {n} {m} h =
    let (a, i, p, q) = next-ok (byte s at) _ h in
    let (b, j, p₁, q₁) = next-ok (byte s i) _ q in
    let e : j ≡ m = cc in
    let x = byte_at s at p in
    let y = byte_at s i p₁ in
    omega arith

-- and that it read what is there
byte-there : (s : Bytes) (at : ℕ) {b m : ℕ} → byte s at ≡ ok b m → m ≤ length s
unfolding byte choose
byte-there s at {b} {m} h = go (ltb at (length s)) refl h
  where
    go : (t : Bool) → ltb at (length s) ≡ t → choose t (ok (get_or s at 0) (at + 1)) (refuse 2) ≡ ok b m → m ≤ length s
    go true q e = let z : at + 1 ≡ m = cc in let l = ltb-true at (length s) q in omega arith
    go false q e = clash (cc)

u16-there : (s : Bytes) (at : ℕ) {n m : ℕ} → u16 s at ≡ ok n m → m ≤ length s
unfolding u16
u16-there s at {n} {m} h =
    let (a, i, p, q) = next-ok (byte s at) _ h in
    let (b, j, p₁, q₁) = next-ok (byte s i) _ q in
    let e : j ≡ m = cc in
    let x = byte-there s i p₁ in
    omega arith

edition-at : (s : Bytes) (at : ℕ) {v : Edition} {m : ℕ} → edition s at ≡ ok v m → m ≡ 5
unfolding edition choose
edition-at s at {v} {m} h = go (same_bytes (take 5 s) (mark 1)) (same_bytes (take 5 s) (mark 2)) (same_bytes (take 5 s) (mark 3)) h
  where
    go : (a b c : Bool) → choose a (ok One 5) (choose b (ok Two 5) (choose c (ok Three 5) (refuse 1))) ≡ ok v m → m ≡ 5
    go true b c e = cc
    go false true c e = cc
    go false false true e = cc
    go false false false e = clash (cc)

-- a test that passed held, and moves nothing
pub tested : (b : Bool) (n : ℕ) (s : Bytes) (at : ℕ) {u : Unit {0}} {m : ℕ} → test b n s at ≡ ok u m → (b ≡ true) × (m ≡ at)
unfolding choose
tested true n s at e = (refl, cc)
tested false n s at e = clash (cc)

-- the mark, the version and the count are there
pub header : (s : Bytes) {l : Layout} {m : ℕ} → layout s ≡ ok l m → 7 ≤ length s
unfolding layout layout_from counted
header s e =
    let (u, i, a, e) = next-ok _ _ e in
    let (v, j, b, e) = next-ok _ _ e in
    let (k, o, c, e) = next-ok _ _ e in
    let p = edition-at s i b in
    let q = u16-at s j c in
    let r = u16-there s j c in
    omega arith

-- what a reading that succeeded went through
record Parts (s : Bytes) (l : Layout) (m : ℕ) : Type 0 where
  small : length s ≤ 16384
  count : ℕ
  reads : columns l.edition (top_rule l.edition) (type l.edition (inner_rule l.edition) 16) count [] s 7 ≡ ok l.columns m

abbrev layout_in : Layout → Res Layout → Layout
layout_in d (refuse n) = d
layout_in d (ok l m) = l

parts : (s : Bytes) {l : Layout} {m : ℕ} → layout s ≡ ok l m → Parts s l m
unfolding layout layout_from sized counted ended
parts s {l} {m} h =
    let (u, i, a, b) = next-ok _ _ h in
    let (w, j, a₁, b₁) = next-ok _ _ b in
    let (k, o, a₂, b₂) = next-ok _ _ b₁ in
    let (cs, e, a₃, b₃) = next-ok _ _ b₂ in
    let (x, e', a₄, b₄) = next-ok _ _ b₃ in
    let z = tested _ 4 s 0 a in
    let y = tested _ 6 s e a₄ in
    let p = edition-at s i a₁ in
    let q = u16-at s j a₂ in
    let r : o ≡ 7 = omega arith in
    let f : record { edition = w; columns = cs } ≡ l = ap (layout_in l) b₄ in
    let g : e ≡ m = sym y.1 ∙ (let g' : e' ≡ m = cc in g') in
    made s k f g r (leb-true _ _ z.0) a₃
  where
    made : (s : Bytes) {w : Edition} {cs : Columns} {l : Layout} {e m o : ℕ} (k : ℕ) → record { edition = w; columns = cs } ≡ l → e ≡ m → o ≡ 7 → length
        s ≤ 16384
        → columns w (top_rule w) (type w (inner_rule w) 16) k [] s o ≡ ok cs e → Parts s l m
    made s {w} {cs} {l} {e} {m} {o} k f g r small h =
        subst (λ (l : Layout). Parts s l m) f
        (record { small = small; count = k; reads = ap (λ (i : ℕ). columns w (top_rule w) (type w (inner_rule w) 16) k [] s i) (sym r) ∙ h ∙ ap (ok cs) g })

at_least : {s : Bytes} {l : Layout} {m : ℕ} → layout s ≡ ok l m → Parts s l m → {v : Edition} {n : ℕ} → l.edition ≡ v → count_columns l.columns ≡ n →
    LayoutAt s v n
at_least {s} {l} {m} q P {v} {n} a b =
    let c : count_columns l.columns ≡ P.count = columns-count l.edition _ _ P.count [] s 7 l.columns m P.reads in
    let free = columns_free l.edition (top_rule l.edition) s (type l.edition (inner_rule l.edition) 16) (type l.edition Siblings.Free 16)
    (type_free l.edition (inner_rule l.edition) s 16) P.count [] 7 l.columns m P.reads in
    let k : P.count ≡ n = sym c ∙ b in
    record {
      columns = record {
        columns = l.columns;
        end = m;
        reads = ap (λ (w : Edition). columns w Siblings.Free (type w Siblings.Free 16) n [] s 7) (sym a)
            ∙ ap (λ (i : ℕ). columns l.edition Siblings.Free (type l.edition Siblings.Free 16) i [] s 7) (sym k) ∙ free;
      };
      reads = q ∙ ap (λ (w : Edition). ok (record { edition = w; columns = l.columns }) m) a;
    }

-- what `read_layout` answered
pub layout-at : (s : Bytes) {r : LayoutRead} {v : Edition} {n : ℕ} {c : Cursor} → r ≡ layout_of (layout s) → r ≡ LayoutRead.Read v n c → LayoutAt s v n ×
    (c.at ≡ 7)
unfolding layout_of
layout-at s {r} {v} {n} {c} e f = go (layout s) refl e
  where
    go : (x : Res Layout) → layout s ≡ x → r ≡ layout_of x → LayoutAt s v n × (c.at ≡ 7)
    go (refuse k) q e = clash (cc)
    go (ok l m) q e =
        let h : LayoutRead.Read l.edition (count_columns l.columns) (record { at = 7 }) ≡ LayoutRead.Read v n c = sym e ∙ f in
        (at_least q (parts s q) (cc) (cc), cc)

pub layout-refused : (s : Bytes) {r : LayoutRead} {k : ℕ} → r ≡ layout_of (layout s) → r ≡ LayoutRead.Refused k → layout s ≡ refuse k
unfolding layout_of
layout-refused s {r} {k} e f = go (layout s) e
  where
    go : (x : Res Layout) → r ≡ layout_of x → x ≡ refuse k
    go (refuse n) e = cc
    go (ok l m) e = clash (cc)

-- a layout that was read is within its limit
pub layout-small : {s : Bytes} {v : Edition} {n : ℕ} → LayoutAt s v n → length s ≤ 16384
layout-small L = (parts _ L.reads).small
