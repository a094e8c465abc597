-- "An accepted plan must never give null to a required field." Assumes nothing.
use mathlib.Core.Path.{◌≡◌, refl}
use mathlib.Core.Bool.{Bool, true, false, ◌&&◌, not}
use Rattle.layout.specs.Bytes.{Bytes}
use Rattle.layout.specs.Tree.{leaf_of, Label, ColumnType, cleaf, cstruct, clist, carray, Columns, cnil, ccons, dtype_of, fields_of}
use Rattle.rules.specs.Classes.{is_null}
use Rattle.values.specs.Value.{Value, vnull, Values, vcons}
use Rattle.values.specs.Fits.{FitsAll}
use Rattle.values.specs.Filled.{required_of, Filled, full-null, full-number, full-text, full-over, full-struct, full-list, full-array, FilledAll, full-nil}
use Rattle.values.specs.Filled.{full-cons, FilledEach, full-none, full-more}
use Rattle.plan.specs.Result.{accepted}
use Rattle.plan.specs.Selector.{Selector, Selectors}
use Rattle.plan.specs.Run.{eval, evals}
use Rattle.plan.specs.code.Fits.{FitsOver, over-struct, over-list, over-array, FitsAllOver, over_nil, over_cons, FitsEachOver, over-more}
use Rattle.plan.specs.code.Formed.{FormedAll}
use Rattle.plan.proofs.Results.{true≠false, both, and-true, demand-gives, placed-accepted, answered-accepted}
use Rattle.plan.proofs.Typed.{Typed, TypedAll, passed→typed}
use Rattle.plan.proofs.Over.{all-over}
use Rattle.plan.proofs.Preserve.{eval-over, evals-over}
use Rattle.plan.specs.Nullness.{optional, Nullness, node, Nullnesses, nnil, ncons, top_of, nullness_at, nullness_of, nullnesses_of}
use Rattle.plan.specs.Marks.{place_of, allowed, given, givens, meets, meets_all, check_marked}
use Rattle.plan.proofs.Holds.{Present, is_required, is-optional, Holds, h_null, h_number, h_text, h_over, h_struct, h_list, h_array, HoldsAll, h_nil}
use Rattle.plan.proofs.Holds.{h_cons, HoldsEach, h_none, h_more, eval-holds, evals_hold}

marked : (r : Bool) → Present (place_of r)
marked true = is_required
marked false = is-optional

-- ---- a record that keeps to its marks

null-given : (t : ColumnType) → Holds (given false t) vnull
unfolding given
null-given (cleaf l) = h_null
null-given (cstruct cs) = h_null
null-given (clist l t) = h_null
null-given (carray w l t) = h_null

mutual
  unfolding given givens

  filled-holds : {r : Bool} {t : ColumnType} {v : Value} → Filled required_of r t v → Holds (given r t) v
  filled-holds (full-null {t}) = null-given t
  filled-holds (full-number {r} {l}) = h_number (marked (r && not (is_null (leaf_of l))))
  filled-holds (full-text {r} {l}) = h_text (marked (r && not (is_null (leaf_of l))))
  filled-holds (full-over {r} {l}) = h_over (marked (r && not (is_null (leaf_of l))))
  filled-holds (full-struct {r} a) = h_struct (marked r) (filled-all a)
  filled-holds (full-list {r} a) = h_list (marked r) (filled-each a)
  filled-holds (full-array {r} a) = h_array (marked r) (filled-each a)

  pub filled-all : {cs : Columns} {vs : Values} → FilledAll required_of cs vs → HoldsAll (givens cs) vs
  filled-all full-nil = h_nil
  filled-all (full-cons a bs) = h_cons (filled-holds a) (filled-all bs)

  filled-each : {r : Bool} {t : ColumnType} {vs : Values} → FilledEach required_of r t vs → HoldsEach (ncons (given r t) nnil) vs
  filled-each full-none = h_none
  filled-each (full-more a bs) = h_more (h_cons (filled-holds a) h_nil) (filled-each bs)

-- ---- what passes 55

null-filled : (r : Bool) {t : ColumnType} → allowed optional r ≡ true → Filled required_of r t vnull
unfolding allowed
null-filled true e = true≠false e refl
null-filled false e = full-null

pub top-allowed : (n : Nullness) (r : Bool) (t : ColumnType) → meets n r t ≡ true → allowed (top_of n) r ≡ true
unfolding meets
top-allowed n r (cleaf l) e = e
top-allowed n r (cstruct cs) e = (both (allowed (top_of n) r) e).0
top-allowed n r (clist l t) e = (both (allowed (top_of n) r) e).0
top-allowed n r (carray w l t) e = (both (allowed (top_of n) r) e).0

-- an element as the one column of a record
element-meets : (ns : Nullnesses) (l : Label) (t : ColumnType) → meets (nullness_at ns 0) l.required t ≡ true → meets_all ns (ccons l t cnil) ≡ true
unfolding meets_all nullness_at
element-meets nnil l t e = refl
element-meets (ncons n ns) l t e = and-true e refl

first-filled : {l : Label} {t : ColumnType} {cs : Columns} {v : Value} {vs : Values} → FilledAll required_of (ccons l t cs) (vcons v vs) → Filled
    required_of l.required t v
first-filled (full-cons a bs) = a

mutual
  unfolding meets meets_all dtype_of fields_of nullness_at

  pub holds-filled : {r : Bool} {n : Nullness} {v : Value} → Holds n v → (t : ColumnType) → FitsOver (dtype_of t) v → meets n r t ≡ true → Filled
      required_of r t v
  holds-filled {r} (h_null {ns}) t f e = null-filled r (top-allowed (node optional ns) r t e)
  holds-filled (h_number h) (cleaf l) f e = full-number
  holds-filled (h_text h) (cleaf l) f e = full-text
  holds-filled (h_over h) (cleaf l) f e = full-over
  holds-filled {r} (h_struct {p} h a) (cstruct cs) (over-struct f) e = full-struct (hold_filled a cs f (both (allowed p r) e).1)
  holds-filled {r} (h_list {p} h a) (clist l t) (over-list c f) e = full-list (each-filled a l t f (both (allowed p r) e).1)
  holds-filled {r} (h_array {p} h a) (carray w l t) (over-array c f) e = full-array (each-filled a l t f (both (allowed p r) e).1)
  holds-filled {r = r} (h_number {p = p} {ns = ns} {k = k} {n = n} h) (cstruct cs) f e = elim f [ ]
  holds-filled {r = r} (h_number {p = p} {ns = ns} {k = k} {n = n} h) (clist l t) f e = elim f [ ]
  holds-filled {r = r} (h_number {p = p} {ns = ns} {k = k} {n = n} h) (carray w l t) f e = elim f [ ]
  holds-filled {r = r} (h_text {p = p} {ns = ns} {b = b} h) (cstruct cs) f e = elim f [ ]
  holds-filled {r = r} (h_text {p = p} {ns = ns} {b = b} h) (clist l t) f e = elim f [ ]
  holds-filled {r = r} (h_text {p = p} {ns = ns} {b = b} h) (carray w l t) f e = elim f [ ]
  holds-filled {r = r} (h_over {p = p} {ns = ns} h) (cstruct cs) f e = elim f [ ]
  holds-filled {r = r} (h_over {p = p} {ns = ns} h) (clist l t) f e = elim f [ ]
  holds-filled {r = r} (h_over {p = p} {ns = ns} h) (carray w l t) f e = elim f [ ]
  holds-filled {r = r} (h_struct {p = p} {ns = ns} {vs = vs} h a) (cleaf l) f e = elim f [ ]
  holds-filled {r = r} (h_struct {p = p} {ns = ns} {vs = vs} h a) (clist l t) f e = elim f [ ]
  holds-filled {r = r} (h_struct {p = p} {ns = ns} {vs = vs} h a) (carray w l t) f e = elim f [ ]
  holds-filled {r = r} (h_list {p = p} {ns = ns} {vs = vs} h a) (cleaf l) f e = elim f [ ]
  holds-filled {r = r} (h_list {p = p} {ns = ns} {vs = vs} h a) (cstruct cs) f e = elim f [ ]
  holds-filled {r = r} (h_list {p = p} {ns = ns} {vs = vs} h a) (carray w l t) f e = elim f [ ]
  holds-filled {r = r} (h_array {p = p} {ns = ns} {vs = vs} h a) (cleaf l) f e = elim f [ ]
  holds-filled {r = r} (h_array {p = p} {ns = ns} {vs = vs} h a) (cstruct cs) f e = elim f [ ]
  holds-filled {r = r} (h_array {p = p} {ns = ns} {vs = vs} h a) (clist l t) f e = elim f [ ]

  hold_filled : {ns : Nullnesses} {vs : Values} → HoldsAll ns vs → (cs : Columns) → FitsAllOver (fields_of cs) vs → meets_all ns cs ≡ true → FilledAll
      required_of cs vs
  hold_filled h_nil cnil f e = full-nil
  hold_filled (h_cons {n} h hs) (ccons l t cs) (over_cons f fs) e =
      let (a, b) = both (meets n l.required t) e in full-cons (holds-filled h t f a) (hold_filled hs cs fs b)
  hold_filled (h_nil {ns = ns}) (ccons l t cs) f e = elim f [ ]
  hold_filled (h_cons {n = n} {ns = ns} {v = v} {vs = vs} h hs) cnil f e = elim f [ ]

  each-filled : {ns : Nullnesses} {vs : Values} → HoldsEach ns vs → (l : Label) (t : ColumnType) → FitsEachOver (dtype_of t) vs → meets (nullness_at ns 0)
      l.required t ≡ true → FilledEach required_of l.required t vs
  each-filled h_none l t f e = full-none
  each-filled (h_more {ns} a bs) l t (over-more f fs) e = full-more (first-filled
      (hold_filled a (ccons l t cnil) (over_cons f over_nil) (element-meets ns l t e))) (each-filled bs l t fs e)

-- ---- the theorems

-- one selector
pub eval-filled : {Γ : Columns} {ρ : Values} {s : Selector} {n : Bytes} (t : ColumnType) {r : Bool} → Typed (fields_of Γ) s n (dtype_of t) → FitsAllOver
    (fields_of Γ) ρ → FilledAll required_of Γ ρ
    → meets (nullness_of (givens Γ) s) r t ≡ true → Filled required_of r t (eval ρ s)
eval-filled t d f h e = holds-filled (eval-holds d f (filled-all h)) t (eval-over d f) e

pub evals-filled : {Γ : Columns} (Δ : Columns) {ρ : Values} {ss : Selectors} → TypedAll (fields_of Γ) ss (fields_of Δ) → FitsAllOver (fields_of Γ) ρ →
    FilledAll required_of Γ ρ
    → meets_all (nullnesses_of (givens Γ) ss) Δ ≡ true → FilledAll required_of Δ (evals ρ ss)
evals-filled Δ d f h e = hold_filled (evals_hold d f (filled-all h)) Δ (evals-over d f) e

-- a plan that was read and passes the check, 55 included, over a record that fits the incoming layout and meets no 56
pub passed-filled : {Γ : Columns} (Δ : Columns) {ρ : Values} {ss : Selectors} → FormedAll ss → check_marked Γ Δ ss ≡ accepted tt → FitsAll (fields_of Γ) ρ
    → FilledAll required_of Γ ρ
    → FilledAll required_of Δ (evals ρ ss)
unfolding check_marked
passed-filled Δ w e f h =
    let (u, p, q) = answered-accepted _ _ e in
    let (x, q, z) = placed-accepted _ _ _ q in
    evals-filled Δ (passed→typed w p) (all-over f) h (demand-gives _ _ _ q).0
