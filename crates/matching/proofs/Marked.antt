-- A built plan passes the check's last test, 55 (document 02, L5): what it gives a required column is never null.
-- Assumes nothing.
use Prim.Native.Nat.{ℕ, suc, ◌+◌}
use mathlib.Core.Path.{◌≡◌, refl, sym, ap, ap₂, ◌∙◌}
use mathlib.Core.Bool.{Bool, true, false}
use native.Mathlib.Omega.{arith}
use Rattle.layout.specs.Bytes.{same_bytes}
use Rattle.layout.specs.Parser.{choose}
use Rattle.layout.specs.Tree.{Label, ColumnType, cstruct, clist, carray, Columns, cnil, ccons, fields_of}
use Rattle.layout.specs.Find.{present, find_from, counterpart}
use Rattle.layout.specs.declared.columns.Position.{Position}
use Rattle.layout.specs.declared.matching.Matching.{Matching}
use Rattle.layout.specs.declared.matching.Matching.TheVariants.{ByName, ByNumber}
use Rattle.layout.proofs.Ways.{clash}
use Rattle.layout.proofs.Finding.{counterpart-first}
use Rattle.plan.specs.Selector.{Selector, position, rename, struct_mapping, list_mapping, array_mapping, Selectors, snil, scons}
use Rattle.plan.specs.Nullness.{Nullness, Nullnesses, nnil, ncons, top_of, nullness_at, nullness_of, nullnesses_of}
use Rattle.plan.specs.Marks.{allowed, given, givens, meets, meets_all}
use Rattle.plan.proofs.Results.{both, and-true}
use Rattle.plan.proofs.Exact.{leaf-meets}
use Rattle.matching.specs.Default.{Defaults}
use Rattle.matching.specs.Build.{renamed, is_position, list_selector, array_selector, fills_required}
use Rattle.matching.proofs.Lookup.{matches, at_eq, never_absent}
use Rattle.matching.proofs.Attach.{Attach, a-same, a-cast, a_struct_lem, a_list_lem, a_array, AttachAll, a_nil, a-found, a-missing}
use Rattle.matching.proofs.InPlace.{is_bare_lem, straight, struct_selector_lem}
use Rattle.matching.proofs.Required.{keeps-allowed}

-- ---- selectors that take each position

-- `From i ns ms`: ms is ns without its first i places
data From : ℕ → Nullnesses → Nullnesses → Type 0 where
  all : {ns : Nullnesses} → From 0 ns ns
  past : {i : ℕ} {n : Nullness} {ns ms : Nullnesses} → From i ns ms → From (suc i) (ncons n ns) ms

from_at : {i : ℕ} {n : Nullness} {ns ms : Nullnesses} → From i ns (ncons n ms) → nullness_at ns i ≡ n
unfolding nullness_at
from_at all = refl
from_at (past s) = from_at s

from_suc : {i : ℕ} {n : Nullness} {ns ms : Nullnesses} → From i ns (ncons n ms) → From (suc i) ns ms
from_suc all = past all
from_suc (past s) = past (from_suc s)

from_next : {i : ℕ} {n : Nullness} {ns ms : Nullnesses} → From i ns (ncons n ms) → From (i + 1) ns ms
from_next {i} s = let e : suc i ≡ i + 1 = omega arith in rw e at (from_suc s)

straight_nullness : {ns : Nullnesses} (fs : Columns) (i : ℕ) (ss : Selectors) → From i ns (givens fs) → straight i (fields_of fs) ss ≡ true
    → nullnesses_of ns ss ≡ givens fs
unfolding straight nullnesses_of nullness_of givens fields_of
straight_nullness cnil i snil s e = refl
straight_nullness cnil i (scons x ss) s e = clash (cc)
straight_nullness (ccons l t fs) i snil s e = clash (cc)
straight_nullness (ccons l t fs) i (scons x ss) s e =
    let (p, q) = both (is_position i x) e in
    ap₂ ncons (rw (is_bare_lem i x p) (from_at s)) (straight_nullness fs (i + 1) ss (from_next s) q)

-- a rename has no effect on nullness
renamed_nullness : (ns : Nullnesses) (v : Matching) (b a : Label) (s : Selector) → nullness_of ns (renamed v b a s) ≡ nullness_of ns s
unfolding renamed choose nullness_of
renamed_nullness ns ByName b a s = refl
renamed_nullness ns ByNumber b a s = go (same_bytes a.name b.name)
  where
    go : (x : Bool) → nullness_of ns (choose x s (rename s b.name)) ≡ nullness_of ns s
    go true = refl
    go false = refl

-- ---- the mappings, left out or not

module _ (ns : Nullnesses) (k : Position) (q r : Bool) where
  -- the column of the type t, at the position k, may be taken as it is
  record Taken (t : ColumnType) : Type 0 where
    is : nullness_at ns k.0 ≡ given q t
    may : allowed (top_of (given q t)) r ≡ true

  struct-meets : (fs gs : Columns) (ss : Selectors) (b : Bool) → straight 0 (fields_of fs) ss ≡ b → Taken (cstruct fs)
      → meets_all (nullnesses_of (givens fs) ss) gs ≡ true → meets (nullness_of ns (choose b (position k) (struct_mapping (position k) ss))) r (cstruct gs) ≡ true
  unfolding choose nullness_of meets given
  struct-meets fs gs ss true s T h = rw T.is (and-true T.may (rw (← straight_nullness fs 0 ss all s) h))
  struct-meets fs gs ss false s T h = rw T.is (and-true T.may h)

  -- an element of the label a and the type t, taken by x to one of the label b and the type u
  abbrev ElementMeets : Label → Label → ColumnType → ColumnType → Selector → Type 0
  ElementMeets a b t u x = meets (nullness_of (ncons (given a.required t) nnil) x) b.required u ≡ true

  list-meets : (a b : Label) (t u : ColumnType) (x : Selector) (c : Bool) → is_position 0 x ≡ c → Taken (clist a t) → ElementMeets a b t u x
      → meets (nullness_of ns (choose c (position k) (list_mapping (position k) x))) r (clist b u) ≡ true
  unfolding choose nullness_of meets given nullness_at
  list-meets a b t u x true s T h = rw T.is (and-true T.may (rw (is_bare_lem 0 x s) at h))
  list-meets a b t u x false s T h = rw T.is (and-true T.may h)

  array-meets : (w : ℕ) (a b : Label) (t u : ColumnType) (x : Selector) (c : Bool) → is_position 0 x ≡ c → Taken (carray w a t) → ElementMeets a b t u x
      → meets (nullness_of ns (choose c (position k) (array_mapping (position k) x))) r (carray w b u) ≡ true
  unfolding choose nullness_of meets given nullness_at
  array-meets w a b t u x true s T h = rw T.is (and-true T.may (rw (is_bare_lem 0 x s) at h))
  array-meets w a b t u x false s T h = rw T.is (and-true T.may h)

-- ---- what was found has its column's marks

record Marked (i : ℕ) (cs : Columns) (k : Position) (a : Label) (t : ColumnType) : Type 0 where
  index : ℕ
  counted : i + index ≡ k.0
  is : nullness_at (givens cs) index ≡ given a.required t

found_marked : (f : ℕ → Label → Bool) (i : ℕ) (cs : Columns) {k : Position} {a : Label} {t : ColumnType} → find_from f i cs ≡ present k a t → Marked i cs k a t
unfolding find_from choose givens nullness_at
found_marked f i cnil e = never_absent e
found_marked f i (ccons b u cs) {k} {a} {t} e = go (f i b) e (λ h. found_marked f (i + 1) cs h)
  where
    go : (x : Bool) → choose x (present (record { 0 = i }) b u) (find_from f (i + 1) cs) ≡ present k a t
        → (find_from f (i + 1) cs ≡ present k a t → Marked (i + 1) cs k a t) → Marked i (ccons b u cs) k a t
    go true e ih =
        let (p, (r, z)) = at_eq e in
        let w : i ≡ k.0 = ap (λ (k : Position). k.0) p in
        record { index = 0; counted = omega arith; is = rw (r, z) }
    go false e ih =
        let S = ih e in
        record { index = suc S.index; counted = let c = S.counted in omega arith; is = S.is }

counterpart_marked : (v : Matching) (b : Label) (cs : Columns) {k : Position} {a : Label} {t : ColumnType} → counterpart v b cs ≡ present k a t
    → nullness_at (givens cs) k.0 ≡ given a.required t
counterpart_marked v b cs {k} e =
    let S = found_marked (λ i a. matches v b a) 0 cs (sym (counterpart-first v b cs) ∙ e) in
    let c = S.counted in
    let z : S.index ≡ k.0 = omega arith in
    ap (nullness_at (givens cs)) (sym z) ∙ S.is

-- ---- the builders

module _ (v : Matching) where
  mutual
    unfolding list_selector array_selector nullness_of nullnesses_of nullness_at meets meets_all fills_required

    attach-meets : {d : Defaults} {u t : ColumnType} {k : Position} {s : Selector} → Attach v d u k t s → (ns : Nullnesses) (q r : Bool)
        → Taken ns k q r t → meets (nullness_of ns s) r u ≡ true
    attach-meets a-same ns q r T = rw T.is T.may
    attach-meets (a-cast {t = t} {u} p z) ns q r T = rw T.is (leaf-meets (top_of (given q t)) r u T.may)
    attach-meets (a_struct_lem {k = k} {fs} {gs} {ss} y h z) ns q r T =
        rw (← z, struct_selector_lem k fs ss) (struct-meets ns k q r fs gs ss _ refl T (attach_all_meets h))
    attach-meets (a_list_lem {k = k} {a = a} {b} {t} {u} {e = x} y m h z) ns q r T =
        let one = ncons (given a.required t) nnil in
        let w = attach-meets h one a.required b.required (record { is = refl; may = rw (← keeps-allowed a t b) m }) in
        rw (← z) (list-meets ns k q r a b t u (renamed v b a x) _ refl T (rw (renamed_nullness one v b a x) w))
    attach-meets (a_array {k = k} {w = n} {a} {b} {t} {u} {e = x} y m h z) ns q r T =
        let one = ncons (given a.required t) nnil in
        let w = attach-meets h one a.required b.required (record { is = refl; may = rw (← keeps-allowed a t b) m }) in
        rw (← z) (array-meets ns k q r n a b t u (renamed v b a x) _ refl T (rw (renamed_nullness one v b a x) w))

    pub attach_all_meets : {d : Defaults} {gs fs : Columns} {ss : Selectors} → AttachAll v d gs fs ss → meets_all (nullnesses_of (givens fs) ss) gs ≡ true
    attach_all_meets a_nil = refl
    attach_all_meets (a-found {d} {a} {b} {k} {t} {u} {gs} {fs} {s} {x} q m h r hs) =
        let T : Taken (givens fs) k a.required b.required t = record { is = counterpart_marked v b fs q; may = rw (← keeps-allowed a t b) m } in
        let w : meets (nullness_of (givens fs) x) b.required u ≡ true =
        rw (← r, renamed_nullness (givens fs) v b a s) (attach-meets h (givens fs) a.required b.required T) in
        and-true w (attach_all_meets hs)
    attach_all_meets (a-missing {b = b} {u} {fs = fs} {x = x} q y m r hs) =
        let w : meets (nullness_of (givens fs) x) b.required u ≡ true = rw (← r) m in
        and-true w (attach_all_meets hs)
