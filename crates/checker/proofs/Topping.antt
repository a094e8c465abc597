-- What the functions of src/tops.rt answer on each way. Assumes nothing.
use Prim.Native.Nat.{ℕ, ◌+◌, ◌-◌, ◌≤◌, ◌<◌}
use mathlib.Core.Path.{◌≡◌, refl, sym, ap, ◌∙◌, subst}
use mathlib.Core.Bool.{Bool, true, false, ◌&&◌, and_assoc}
use mathlib.Core.List.{List, []}
use native.Mathlib.Omega.{arith}
use lib.ListN.{length}
use Rattle.layout.specs.Bytes.{Bytes, AllBytes, same_bytes}
use Rattle.layout.specs.Parser.{Res, refuse, ok}
use Rattle.layout.specs.Tree.{Columns, DataType, Fields, fnil, fcons, dtype_of, fields_of}
use Rattle.layout.specs.Layout.{layout, label, type, ended as endedAt}
use Rattle.layout.specs.code.Answers.{moved_of}
use Rattle.layout.specs.code.Stands.{ColumnsAt, LayoutAt}
use Rattle.layout.specs.declared.columns.Siblings.TheVariants.{Free}
use Rattle.layout.specs.declared.cursor.Cursor.{Cursor}
use Rattle.layout.specs.declared.cursor.Moved.{Moved}
use Rattle.layout.specs.declared.edition.Edition.{Edition}
use Rattle.layout.proofs.OfBytes.{same_bytes-refl}
use Rattle.layout.proofs.Ways.{clash, moved_to, moved_refused}
use Rattle.layout.proofs.View.{next-ok, same-columns, no_column}
use Rattle.layout.proofs.Whole.{u16-at, tested}
use Rattle.forms.specs.code.Compare.{same_dtype, same_fields_of}
use Rattle.forms.proofs.Equal.{same_dtype-refl, same_fields-equal}
use Rattle.forms.proofs.Read.{chosen, ok_eq}
use borrow.Author.Tests.{eqb-true}
use Rattle.forms.proofs.Comparing.{split, Split}
use Rattle.values.proofs.Inside.{renumber-ok}
use Rattle.plan.specs.Result.{Result, gives, refuses, demand, Answer, accepted, refused_at, placed, answered}
use Rattle.plan.specs.Selector.{Selector, Selectors, snil, scons, count_selectors, nesting_all}
use Rattle.plan.specs.Check.{Column, column, type_of, top_types, against, check}
use Rattle.plan.specs.Read.{selectors as selectorsOf, selector, plan_from, plan_sized, plan_version, plan_counted, plan as read_plan}
use Rattle.plan.specs.code.Answers.{plan_read}
use Rattle.plan.specs.declared.read.PlanRead.{PlanRead}
use Rattle.plan.proofs.ReadBack.{plan_back}
use Rattle.plan.specs.Calls.{read_at_of}
use Rattle.plan.specs.Marks.{check_marked}
use Rattle.walk.specs.code.State.{state}
use Rattle.walk.specs.code.Stands.{SelectorAt, SelectorsAt}
use Rattle.walk.specs.code.Types.{ScopeOf, c_top}
use Rattle.walk.specs.code.Walks.{WalkAt}
use Rattle.walk.specs.declared.walk.Walk.{Walk}
use Rattle.walk.proofs.View.{first-at, no_selector, selectors-counted}
use Rattle.walk.proofs.Forward.{selectors-from, selector-behind}
use Rattle.index.specs.code.Indexed.{stride_of, Indexed}
use Rattle.direct.specs.code.Fits.{ColumnFitAt, FitsColumn}
use Rattle.direct.specs.declared.fit.FitEnd.{FitEnd}
use Rattle.direct.specs.declared.scope.Scope.{Scope}
use Rattle.direct.proofs.Fitting.{gives_to}
use Rattle.checker.specs.code.Shallow.{Shallow}
use Rattle.checker.specs.code.TypesAt.{NamedAt}
use Rattle.checker.specs.code.Same.{ends_of}
use Rattle.checker.specs.code.Checking.{checked_of, CheckingAt}
use Rattle.checker.specs.code.Tops.{plan_checked, TopsAt, TopAt, same_first, rest_of, NextColumns, PassesTop, FitParts, FitsTop, TopParts, TopIs}
use Rattle.plan.specs.Calls.{check_plan_of, read_plan as layouts_read}
use Rattle.checker.specs.declared.each.Top.{Top}
use Rattle.checker.specs.declared.same.Ends.{Ends}
use Rattle.checker.specs.declared.selector.Checked.{Checked}
use Rattle.checker.specs.declared.tops.PlanChecked.{PlanChecked}
use Rattle.checker.proofs.Alike.{ends_at, ends_differ, columns_as}

-- ---- trees

passes-gives : {A : Type 0} (x : Result A) → checked_of x ≡ Checked.Passed → (a : A) × (x ≡ gives a)
passes-gives (gives a) e = (a, refl)
passes-gives (refuses n) e = clash (cc)

refused-refuses : {A : Type 0} (x : Result A) {j : ℕ} → checked_of x ≡ Checked.Refused j → x ≡ refuses j
refused-refuses (gives a) e = clash (cc)
refused-refuses (refuses n) {j} e = let q : n ≡ j = cc in ap refuses q

-- 33 once all selectors have passed
abbrev closing : Bool → Answer (Unit {0})
closing b = placed 0 (demand b 33 (gives tt)) accepted

-- the check of the selectors from the k-th on, against the columns Δ that are left; `same` says that those before are the target's
unfoldable pub check_from : Fields → Fields → Selectors → ℕ → Bool → Answer (Unit {0})
check_from Γ Δ ss k same = answered (top_types Γ ss k) (λ fs. closing (same && same_fields_of fs Δ))

from_start : (Γ Δ : Fields) (ss : Selectors) → plan_checked (check Γ Δ ss) ≡ plan_checked (check_from Γ Δ ss 0 true)
unfolding check against check_from answered
from_start Γ Δ ss = go (top_types Γ ss 0)
  where
    go : (x : Answer Fields) → plan_checked (answered x (against Δ)) ≡ plan_checked (answered x (λ fs. closing (true && same_fields_of fs Δ)))
    go (accepted fs) = ap (λ (b : Bool). plan_checked (closing b)) (sym (same_fields-equal fs Δ))
    go (refused_at n k) = refl

from-refuses : (Γ Δ : Fields) (s : Selector) (ss : Selectors) (k : ℕ) (same : Bool) {j : ℕ} → type_of Γ s ≡ refuses j
    → plan_checked (check_from Γ Δ (scons s ss) k same) ≡ PlanChecked.Refused j k
unfolding check_from top_types placed answered
from-refuses Γ Δ s ss k same e = rw e

first_alike : (a : Column) (fs Δ : Fields) (same : Bool) → (same && same_fields_of (fcons a.name a.type fs) Δ) ≡
    ((same && same_first a Δ) && same_fields_of fs (rest_of Δ))
unfolding same_fields_of same_first rest_of
first_alike a fs fnil true = refl
first_alike a fs fnil false = refl
first_alike a fs (fcons n t Δ) true = sym (and_assoc (same_bytes a.name n) (same_dtype a.type t) (same_fields_of fs Δ))
first_alike a fs (fcons n t Δ) false = refl

from_gives : (Γ Δ : Fields) (s : Selector) (ss : Selectors) (k : ℕ) (same : Bool) {a : Column} {b : Bool} → type_of Γ s ≡ gives a →
    (same && same_first a Δ) ≡ b → plan_checked (check_from Γ Δ (scons s ss) k same) ≡ plan_checked (check_from Γ (rest_of Δ) ss (k + 1) b)
unfolding check_from top_types placed answered
from_gives Γ Δ s ss k same {a} {b} e f = rw e (go (top_types Γ ss (k + 1)))
  where
    go : (x : Answer Fields) → plan_checked (answered (answered x (λ fs. accepted (fcons a.name a.type fs)))
        (λ fs. closing (same && same_fields_of fs Δ))) ≡ plan_checked (answered x (λ fs. closing (b && same_fields_of fs (rest_of Δ))))
    go (accepted fs) = ap (λ (c : Bool). plan_checked (closing c)) (first_alike a fs Δ same ∙ ap (λ (c : Bool). c && same_fields_of fs (rest_of Δ)) f)
    go (refused_at n k) = refl

from-differs : (Γ Δ : Fields) (k : ℕ) → plan_checked (check_from Γ Δ snil k false) ≡ PlanChecked.Refused 33 0
unfolding check_from top_types placed answered demand
from-differs Γ Δ k = refl

from-short : (Γ : Fields) (n : Bytes) (t : DataType) (Δ : Fields) (k : ℕ) (same : Bool)
    → plan_checked (check_from Γ (fcons n t Δ) snil k same) ≡ PlanChecked.Refused 33 0
unfolding check_from top_types placed answered demand same_fields_of
from-short Γ n t Δ k true = refl
from-short Γ n t Δ k false = refl

from-passed : (Γ : Fields) (k : ℕ) → plan_checked (check_from Γ fnil snil k true) ≡ PlanChecked.Passed
unfolding check_from top_types placed answered demand same_fields_of
from-passed Γ k = refl

pub passed-accepted : {A : Type 0} (x : Answer A) → plan_checked x ≡ PlanChecked.Passed → (a : A) × (x ≡ accepted a)
passed-accepted (accepted a) e = (a, refl)
passed-accepted (refused_at n k) e = clash (cc)

-- ---- the first selector

pub record FirstTop (incoming : Bytes) (v : Edition) (n : ℕ) (plan : Bytes) (count at : ℕ) (Γ : Fields) (ss : Selectors) : Type 0 where
  pub top : TopAt incoming v n plan at Γ
  pub parts : Selectors
  pub is : ss ≡ scons top.selector.tree parts
  pub tail : TopsAt incoming v n plan (count - 1) top.selector.end Γ parts

pub first-top : {incoming : Bytes} {v : Edition} {n : ℕ} {plan : Bytes} {count at : ℕ} {Γ : Fields} {ss : Selectors} → TopsAt incoming v n plan count at
    Γ ss → 0 < count → FirstTop incoming v n plan count at Γ ss
unfolding nesting_all
first-top {plan = plan} {ss = ss} T h =
    let F = first-at T.selectors h in
    let q : ss ≡ scons F.head.tree F.tail.trees = sym T.is ∙ F.is in
    let d : nesting_all (scons F.head.tree F.tail.trees) ≤ 64 = subst (λ (rs : Selectors). nesting_all rs ≤ 64) q T.nests in
    let l = selectors-from plan (selector 64) (λ at x m e. let b = selector-behind plan 64 at x m e in omega arith) _ _ F.tail.trees F.tail.end
    F.tail.reads in
    let e = F.ends in
    record {
      top = record {
        columns = T.columns;
        are = T.are;
        selector = F.head;
        ends = omega (arith, T.ends);
        small = T.small;
        nests = omega arith;
      };
      parts = F.tail.trees;
      is = q;
      tail = record {
        columns = T.columns;
        are = T.are;
        selectors = F.tail;
        is = refl;
        ends = omega (arith, T.ends);
        small = T.small;
        nests = omega arith;
      };
    }

tops_as : {incoming : Bytes} {v : Edition} {n : ℕ} {plan : Bytes} {m count at to : ℕ} {Γ : Fields} {ss : Selectors} → m ≡ count → at ≡ to → TopsAt
    incoming v n plan m at Γ ss → TopsAt incoming v n plan count to Γ ss
tops_as {incoming} {v} {n} {plan} {m} {count} {at} {to} {Γ} {ss} e f T =
    subst (λ (k : ℕ). TopsAt incoming v n plan k to Γ ss) e (subst (λ (i : ℕ). TopsAt incoming v n plan m i Γ ss) f T)

-- ---- next_column

module _ {vt : Edition} {target : Bytes} {m bt : ℕ} (Q : ColumnsAt vt 16 target m bt) where
  pub none-next : m ≡ 0 → NextColumns Q bt
  unfolding rest_of fields_of
  none-next h =
      let c = (no_column Q h).0 in
      record {
        next = columns_as (let z : m ≡ m - 1 = omega arith in z) refl Q;
        rest = ap fields_of c ∙ sym (ap (λ (cs : Columns). rest_of (fields_of cs)) c);
      }

  module _ (h : m ≡ 0 → ⊥) where
    abbrev parted : Split vt 16 target m bt Q
    parted = split Q h

    split-next : {e : ℕ} → parted.first.inner.end ≡ e → NextColumns Q e
    unfolding rest_of fields_of
    split-next q = record { next = columns_as refl q parted.tail; rest = sym (ap (λ (cs : Columns). rest_of (fields_of cs)) parted.is) }

    module _ {r : Moved} (f : r ≡ moved_of (label vt target bt)) where
      pub next-labelled : {k : ℕ} {e : ℕ} → r ≡ Moved.Refused k → NextColumns Q e
      next-labelled {k} g =
          let q : ok parted.first.label parted.first.start ≡ refuse k = sym parted.first.labelled ∙ moved_refused (label vt target bt) f g in
          clash (cc)

      pub next-found : {d e : Cursor} {p : Moved} → r ≡ Moved.To d → p ≡ moved_of (type vt Free 16 target d.at) → p ≡ Moved.To e → NextColumns Q e.at
      next-found {d} {e} g o i =
          let (l, q) = moved_to (label vt target bt) f g in
          let z : parted.first.start ≡ d.at = (ok_eq (sym parted.first.labelled ∙ q)).1 in
          let (t, w) = moved_to (type vt Free 16 target d.at) o i in
          split-next (ok_eq (sym parted.first.inner.reads ∙ ap (λ (j : ℕ). type vt Free 16 target j) z ∙ w)).1

      pub next-typed : {d : Cursor} {p : Moved} {k e : ℕ} → r ≡ Moved.To d → p ≡ moved_of (type vt Free 16 target d.at) → p ≡ Moved.Refused k
          → NextColumns Q e
      next-typed {d} {k = k} g o i =
          let (l, q) = moved_to (label vt target bt) f g in
          let z : parted.first.start ≡ d.at = (ok_eq (sym parted.first.labelled ∙ q)).1 in
          let w : ok parted.first.inner.tree parted.first.inner.end ≡ refuse k = sym parted.first.inner.reads
          ∙ ap (λ (j : ℕ). type vt Free 16 target j) z ∙ moved_refused (type vt Free 16 target d.at) o i in
          clash (cc)

-- ---- fit_first

module _ {incoming : Bytes} {v : Edition} {n : ℕ} {plan : Bytes} {at : ℕ} {Γ : Fields} (T : TopAt incoming v n plan at Γ) {vt : Edition}
    {target : Bytes} {m bt : ℕ} (Q : ColumnsAt vt 16 target m bt) where
  pub fit_unknown : FitsTop T Q FitEnd.Unknown
  fit_unknown = record { parts = tt }

  module _ {index : List ℕ} {stride : ℕ} (I : Indexed v incoming n 7 (stride_of n) index) (q : stride ≡ stride_of n) (p : 0 < stride) (h : m ≡ 0 → ⊥)
      (l : length target ≤ 16384) where
    abbrev pub fit_asks : ColumnFitAt incoming v (Scope.Columns n (record { at = 7 })) index stride plan at target vt bt
    fit_asks = record {
      scoped = record {
        fields = Γ;
        parts = record {
          columns = T.columns;
          are = T.are;
          indexed = subst (λ (k : ℕ). Indexed v incoming n 7 k index) (sym q) I;
          strides = p;
        };
      };
      selector = T.selector;
      column = (parted Q h).first;
      small = l;
    }

    fit-passes : {x y : Cursor} → FitsColumn fit_asks (FitEnd.At x y) → PassesTop T Q true true x y
    unfolding same_first fields_of
    fit-passes F =
        let G = gives_to F refl in
        let S = parted Q h in
        record {
          column = column S.first.label.name (dtype_of S.first.inner.tree);
          typed = G.typed;
          same = ap (λ (cs : Columns). same_first (column S.first.label.name (dtype_of S.first.inner.tree)) (fields_of cs)) S.is
              ∙ rw (same_bytes-refl S.first.label.name) (same_dtype-refl (dtype_of S.first.inner.tree));
          ends = G.ends.0;
          left = split-next Q h (sym G.ends.1);
        }

    pub fits-top : {r : FitEnd} → ((A : ColumnFitAt incoming v (Scope.Columns n (record { at = 7 })) index stride plan at target vt bt) → FitsColumn A r)
        → FitsTop T Q r
    fits-top {r} F = go r (F fit_asks)
      where
        go : (r : FitEnd) → FitsColumn fit_asks r → FitsTop T Q r
        go (FitEnd.At x y) F = record { parts = fit-passes F }
        go FitEnd.Unknown F = fit_unknown

-- ---- still_same

pub not-before : {b : Bool} → b ≡ false → (x : Bool) → false ≡ (b && x)
not-before e x = rw e

module _ {vt : Edition} {target : Bytes} {m bt : ℕ} (Q : ColumnsAt vt 16 target m bt) (a : Column) where
  pub none-same : m ≡ 0 → (b : Bool) → false ≡ (b && same_first a (fields_of Q.columns))
  unfolding same_first fields_of
  none-same h b = let z = sym (ap (λ (cs : Columns). same_first a (fields_of cs)) (no_column Q h).0) in go b z
    where
      go : (b : Bool) → false ≡ same_first a (fields_of Q.columns) → false ≡ (b && same_first a (fields_of Q.columns))
      go true z = z
      go false z = refl

  module _ (h : m ≡ 0 → ⊥) where
    first-same : same_first a (fields_of Q.columns) ≡ (same_bytes a.name (parted Q h).first.label.name && same_dtype a.type
        (dtype_of (parted Q h).first.inner.tree))
    unfolding same_first fields_of
    first-same = ap (λ (cs : Columns). same_first a (fields_of cs)) (parted Q h).is

    module _ {f : Ends} (F : f ≡ ends_of (same_bytes a.name (parted Q h).first.label.name && same_dtype a.type
        (dtype_of (parted Q h).first.inner.tree)) (parted Q h).first.inner.end) {b : Bool} (o : b ≡ true) where
      pub column-same : {x : Cursor} → f ≡ Ends.At x → true ≡ (b && same_first a (fields_of Q.columns))
      column-same g = rw (o, first-same) (sym (ends_at _ _ (sym F ∙ g)).0)

      pub column-differs : f ≡ Ends.Differ → false ≡ (b && same_first a (fields_of Q.columns))
      column-differs g = rw (o, first-same) (sym (ends_differ _ _ (sym F ∙ g)))

-- ---- check_top

module _ {incoming : Bytes} {v : Edition} {n : ℕ} {plan : Bytes} {at : ℕ} {Γ : Fields} (T : TopAt incoming v n plan at Γ) {e : Cursor}
    (ends : (P : SelectorAt plan at) → e.at ≡ P.end) {w : Walk}
    (g : (p : Bytes) (P : SelectorAt p at) → P.end ≤ e.at → e.at ≤ length p → length p ≤ 65536 → WalkAt p w (state P.tree [] [])) where
  standing : WalkAt plan w (state T.selector.tree [] [])
  standing = let z = ends T.selector in g plan T.selector (omega arith) (omega (arith, T.ends)) T.small

  top-shallow : Shallow (state T.selector.tree [] [])
  top-shallow = record { here = omega (arith, T.nests); frames = tt }

  top-scope : ScopeOf (fields_of T.columns.columns) [] Γ
  top-scope = subst (λ (Δ : Fields). ScopeOf (fields_of T.columns.columns) [] Δ) T.are c_top

  pub top-checking : CheckingAt incoming v n plan w T.selector.tree Γ
  top-checking = record { columns = T.columns; frames = []; standing = standing; shallow = top-shallow; scoped = top-scope }

  module _ {r : Checked} (f : r ≡ checked_of (type_of Γ T.selector.tree)) where
    pub top-gives : r ≡ Checked.Passed → (a : Column) × (type_of Γ T.selector.tree ≡ gives a)
    top-gives q = passes-gives (type_of Γ T.selector.tree) (sym f ∙ q)

    pub top-named : (q : r ≡ Checked.Passed) → NamedAt incoming v n plan w (top-gives q).0
    top-named q = record {
      columns = T.columns;
      selector = T.selector.tree;
      frames = [];
      standing = standing;
      shallow = top-shallow;
      scope = Γ;
      scoped = top-scope;
      passes = (top-gives q).1;
    }

    module _ {vt : Edition} {target : Bytes} {m bt : ℕ} (Q : ColumnsAt vt 16 target m bt) {same : Bool} where
      pub top-refused : {j : ℕ} → r ≡ Checked.Refused j → TopIs T Q same (Top.Refused j)
      top-refused q = record { parts = refused-refuses (type_of Γ T.selector.tree) (sym f ∙ q) }

      pub top-passed : (q : r ≡ Checked.Passed) {b : Bool} {y : Cursor} → NextColumns Q y.at
          → b ≡ (same && same_first (top-gives q).0 (fields_of Q.columns)) → TopIs T Q same (Top.Passed e y b)
      top-passed q N s = record {
        parts = record { column = (top-gives q).0; typed = (top-gives q).1; same = sym s; ends = ends T.selector; left = N };
      }

-- ---- check_each

pub record Going (incoming : Bytes) (v : Edition) (n : ℕ) (plan : Bytes) (count from : ℕ) (target : Bytes) (vt : Edition) (m base at bt : ℕ) (same : Bool)
    (k : ℕ) : Type 0 where
  pub within : k ≤ count
  pub scope : Fields
  pub parts : Selectors
  pub start : TopsAt incoming v n plan (count - k) at scope parts
  pub columns : ColumnsAt vt 16 target (m - k) bt
  pub keeps : (Γ : Fields) (ss : Selectors) (Q : ColumnsAt vt 16 target m base) → TopsAt incoming v n plan count from Γ ss
      → (rs : Selectors) × (TopsAt incoming v n plan (count - k) at Γ rs
      × (plan_checked (check Γ (fields_of Q.columns) ss) ≡ plan_checked (check_from Γ (fields_of columns.columns) rs k same)))

module _ {incoming : Bytes} {v : Edition} {n : ℕ} {plan : Bytes} {count from : ℕ} {target : Bytes} {vt : Edition} {m base : ℕ} where
  pub going_start : {Γ : Fields} {ss : Selectors} → TopsAt incoming v n plan count from Γ ss → ColumnsAt vt 16 target m base
      → Going incoming v n plan count from target vt m base from base true 0
  going_start {Γ} {ss} T C =
      let z : count ≡ count - 0 = omega arith in
      let y : m ≡ m - 0 = omega arith in
      record {
        within = omega arith;
        scope = Γ;
        parts = ss;
        start = tops_as z refl T;
        columns = columns_as y refl C;
        keeps = λ Δ rs Q U. (
          rs,
          (
            tops_as z refl U,
            from_start Δ (fields_of Q.columns) rs ∙ ap (λ (cs : Columns). plan_checked (check_from Δ (fields_of cs) rs 0 true)) (same-columns Q C).0,
          ),
        );
      }

  module _ {at bt : ℕ} {same : Bool} {k : ℕ} (O : Going incoming v n plan count from target vt m base at bt same k) where
    module _ (h : count ≤ k) (Γ : Fields) (ss : Selectors) (Q : ColumnsAt vt 16 target m base) (T : TopsAt incoming v n plan count from Γ ss) where
      ended : plan_checked (check Γ (fields_of Q.columns) ss) ≡ plan_checked (check_from Γ (fields_of O.columns.columns) snil k same)
      ended =
          let (rs, (U, e)) = O.keeps Γ ss Q T in
          let q : rs ≡ snil = sym U.is ∙ (no_selector U.selectors (let z : count - k ≡ 0 = omega arith in z)).0 in
          e ∙ ap (λ (ts : Selectors). plan_checked (check_from Γ (fields_of O.columns.columns) ts k same)) q

      pub going-differs : same ≡ false → PlanChecked.Refused 33 0 ≡ plan_checked (check Γ (fields_of Q.columns) ss)
      going-differs e = sym (ended ∙ ap (λ (b : Bool). plan_checked (check_from Γ (fields_of O.columns.columns) snil k b)) e
          ∙ from-differs Γ (fields_of O.columns.columns) k)

      pub going-short : count < m → PlanChecked.Refused 33 0 ≡ plan_checked (check Γ (fields_of Q.columns) ss)
      unfolding fields_of
      going-short l =
          let S = split O.columns (λ z. omega (arith, O.within)) in
          sym (ended ∙ ap (λ (cs : Columns). plan_checked (check_from Γ (fields_of cs) snil k same)) S.is ∙ from-short Γ _ _ _ k same)

      pub going-passed : same ≡ true → m ≤ count → PlanChecked.Passed ≡ plan_checked (check Γ (fields_of Q.columns) ss)
      unfolding fields_of
      going-passed e l =
          let c = (no_column O.columns (let z : m - k ≡ 0 = omega arith in z)).0 in
          sym (ended ∙ ap (λ (b : Bool). plan_checked (check_from Γ (fields_of O.columns.columns) snil k b)) e
          ∙ ap (λ (cs : Columns). plan_checked (check_from Γ (fields_of cs) snil k true)) c ∙ from-passed Γ k)

    -- what came of two ways
    pub going_at : {d b : Cursor} {s : Bool} → d.at ≡ at → b.at ≡ bt → s ≡ same
        → Going incoming v n plan count from target vt m base d.at b.at s k
    going_at {d} {b} {s} e f g = rw (e, f, g) O

    module _ (h : k < count) where
      more : 0 < count - k
      more = omega arith

      pub going-asks : (Γ : Fields) × TopAt incoming v n plan at Γ
      going-asks = (O.scope, (first-top O.start more).top)

      module _ {l : ℕ} (q : l ≡ m - k) where
        abbrev pub going-columns : ColumnsAt vt 16 target l bt
        going-columns = columns_as (sym q) refl O.columns

        pub going-refused : {r : Top} {j : ℕ} → ((Γ : Fields) (T : TopAt incoming v n plan at Γ) (Q : ColumnsAt vt 16 target l bt) → TopIs T Q same r)
            → r ≡ Top.Refused j → (Γ : Fields) (ss : Selectors) (Q : ColumnsAt vt 16 target m base) → TopsAt incoming v n plan count from Γ ss
            → PlanChecked.Refused j k ≡ plan_checked (check Γ (fields_of Q.columns) ss)
        going-refused f e Γ ss Q T =
            let (rs, (U, d)) = O.keeps Γ ss Q T in
            let F = first-top U more in
            let Δ = fields_of O.columns.columns in
            sym (d ∙ ap (λ (ts : Selectors). plan_checked (check_from Γ Δ ts k same)) F.is
            ∙ from-refuses Γ Δ F.top.selector.tree F.parts k same (subst (λ (x : Top). TopParts F.top going-columns same x) e
            (f Γ F.top going-columns).parts))

        module _ {b : Bool} {x y : Cursor} (f : (Γ : Fields) (T : TopAt incoming v n plan at Γ) (Q : ColumnsAt vt 16 target l bt)
            → PassesTop T Q same b x y) where
          going_on : Going incoming v n plan count from target vt m base x.at y.at b (k + 1)
          going_on =
              let z : count - k - 1 ≡ count - (k + 1) = omega arith in
              let F = first-top O.start more in
              let P = f O.scope F.top going-columns in
              let Δ = fields_of O.columns.columns in
              record {
                within = omega arith;
                scope = O.scope;
                parts = F.parts;
                start = tops_as z (sym P.ends) F.tail;
                columns = columns_as (let w : l - 1 ≡ m - (k + 1) = omega arith in w) refl P.left.next;
                keeps = λ Γ ss Q T.
                    let (rs, (U, d)) = O.keeps Γ ss Q T in
                    let G = first-top U more in
                    let R = f Γ G.top going-columns in (
                      G.parts,
                      (
                        tops_as z (sym R.ends) G.tail,
                        d ∙ ap (λ (ts : Selectors). plan_checked (check_from Γ Δ ts k same)) G.is
                            ∙ from_gives Γ Δ G.top.selector.tree G.parts k same R.typed R.same
                            ∙ ap (λ (gs : Fields). plan_checked (check_from Γ gs G.parts (k + 1) b)) (sym P.left.rest),
                      ),
                    );
              }

        pub going-fits : {r : FitEnd} {x y : Cursor} → ((Γ : Fields) (T : TopAt incoming v n plan at Γ) (Q : ColumnsAt vt 16 target l bt) → FitsTop T Q r)
            → r ≡ FitEnd.At x y → Going incoming v n plan count from target vt m base x.at y.at same (k + 1)
        going-fits f e = going_on (λ Γ T Q. any same (subst (λ (z : FitEnd). FitParts T Q z) e (f Γ T Q).parts))
          where
            both : (b c : Bool) → c ≡ true → (b && c) ≡ b
            both true c p = p
            both false c p = refl

            any : {Γ : Fields} {T : TopAt incoming v n plan at Γ} {Q : ColumnsAt vt 16 target l bt} {x y : Cursor} (b : Bool) → PassesTop T Q true true x y
                → PassesTop T Q b b x y
            any b P = record { column = P.column; typed = P.typed; same = both b _ P.same; ends = P.ends; left = P.left }

        pub going_more : {r : Top} {x y : Cursor} {b : Bool} → ((Γ : Fields) (T : TopAt incoming v n plan at Γ) (Q : ColumnsAt vt 16 target l bt)
            → TopIs T Q same r)
            → r ≡ Top.Passed x y b → Going incoming v n plan count from target vt m base x.at y.at b (k + 1)
        going_more f e = going_on (λ Γ T Q. subst (λ (z : Top). TopParts T Q same z) e (f Γ T Q).parts)

-- ---- check_types

pub read_direct : {incoming : Bytes} {v : Edition} {n : ℕ} {plan : Bytes} {count at : ℕ} {Γ : Fields} {ss : Selectors}
    (T : TopsAt incoming v n plan count at Γ ss) (Δ : Fields)
    → check (fields_of T.columns.columns) Δ T.selectors.trees ≡ accepted tt → PlanChecked.Passed ≡ plan_checked (check Γ Δ ss)
read_direct T Δ e = ap plan_checked (sym ((λ i. check (sym T.are i) Δ (sym T.is i)) ∙ e))

-- ---- a plan that was read

pub record PlanAt (s : Bytes) (n : ℕ) : Type 0 where
  pub parts : Selectors
  pub last : ℕ
  pub reads : read_plan s ≡ ok parts last
  pub selectors : SelectorsAt s n 7
  pub is : selectors.trees ≡ parts
  pub ends : selectors.end ≤ length s
  pub small : length s ≤ 65536
  pub nests : nesting_all parts ≤ 64

record Read (s : Bytes) (ss : Selectors) : Type 0 where
  count : ℕ
  end : ℕ
  reads : selectorsOf (selector 64) count s 7 ≡ ok ss end
  ends : end ≤ length s

read_at : (s : Bytes) {ss : Selectors} {m : ℕ} → read_plan s ≡ ok ss m → Read s ss
unfolding read_plan plan_from plan_counted plan_sized plan_version endedAt
read_at s {ss} {m} e =
    let e = renumber-ok (λ n. 30) (plan_from s 0) e in
    let (x, i, h, e) = next-ok _ _ e in
    let (x, i₁, h₁, e) = next-ok _ _ e in
    let (b, h₁) = chosen _ _ _ h₁ in
    let z : i₁ ≡ 5 = cc in
    let (n, j, h₂, e) = next-ok _ _ e in
    let q = u16-at s i₁ h₂ in
    let y : j ≡ 7 = omega arith in
    let (xs, k, h₃, e) = next-ok _ _ e in
    let (x, k₁, h₄, e) = next-ok _ _ e in
    let (t, p) = tested _ 6 s k h₄ in
    let w : k ≡ length s = eqb-true _ _ t in
    let o : xs ≡ ss = (ok_eq e).0 in
    record { count = n; end = k; reads = ap (λ (a : ℕ). selectorsOf (selector 64) n s a) (sym y) ∙ h₃ ∙ ap (λ (ts : Selectors). ok ts k) o; ends = omega arith }

pub plan-at : (s : Bytes) → AllBytes s → {r : PlanRead} {n : ℕ} {c : Cursor} → r ≡ plan_read (read_plan s) → r ≡ PlanRead.Read n c → PlanAt s n
unfolding plan_read
plan-at s o {r} {n} {c} e f = go (read_plan s) refl e
  where
    go : (x : Res Selectors) → read_plan s ≡ x → r ≡ plan_read x → PlanAt s n
    go (refuse k) q e = clash (cc)
    go (ok ss m) q e =
        let h : PlanRead.Read (count_selectors ss) (record { at = 7 }) ≡ PlanRead.Read n c = sym e ∙ f in
        let k : count_selectors ss ≡ n = cc in
        let R = read_at s q in
        let B = plan_back s o q in
        let C : SelectorsAt s R.count 7 = record { trees = ss; end = R.end; reads = R.reads } in
        let d : R.count ≡ n = sym (selectors-counted R.count C) ∙ k in
        record {
          parts = ss;
          last = m;
          reads = q;
          selectors = record { trees = ss; end = R.end; reads = ap (λ (i : ℕ). selectorsOf (selector 64) i s 7) (sym d) ∙ R.reads };
          is = refl;
          ends = R.ends;
          small = B.short;
          nests = B.nests;
        }

pub plan-refused : (s : Bytes) {r : PlanRead} {k : ℕ} → r ≡ plan_read (read_plan s) → r ≡ PlanRead.Refused k → read_plan s ≡ refuse k
unfolding plan_read
plan-refused s {r} {k} e f = go (read_plan s) e
  where
    go : (x : Res Selectors) → r ≡ plan_read x → x ≡ refuse k
    go (refuse n) e = cc
    go (ok ss m) e = clash (cc)

pub plan-tops : {incoming : Bytes} {v : Edition} {n : ℕ} {plan : Bytes} {m : ℕ} (L : LayoutAt incoming v n) (P : PlanAt plan m) → TopsAt incoming v n
    plan m 7 (fields_of L.columns.columns) P.parts
plan-tops L P = record { columns = L.columns; are = refl; selectors = P.selectors; is = P.is; ends = P.ends; small = P.small; nests = P.nests }

-- ---- check_plan

module _ (incoming target plan : Bytes) where
  pub refused-first : {k : ℕ} → layout incoming ≡ refuse k → PlanChecked.Refused k 1 ≡ plan_checked (check_plan_of incoming target plan)
  unfolding check_plan_of layouts_read read_at_of
  refused-first e = rw e

  module _ {v : Edition} {n : ℕ} (L : LayoutAt incoming v n) where
    pub refused-second : {k : ℕ} → layout target ≡ refuse k → PlanChecked.Refused k 2 ≡ plan_checked (check_plan_of incoming target plan)
    unfolding check_plan_of layouts_read read_at_of
    refused-second e = rw (L.reads, e)

    module _ {w : Edition} {m : ℕ} (M : LayoutAt target w m) where
      pub refused-third : {k : ℕ} → read_plan plan ≡ refuse k → PlanChecked.Refused k 0 ≡ plan_checked (check_plan_of incoming target plan)
      unfolding check_plan_of layouts_read read_at_of
      refused-third e = rw (L.reads, M.reads, e)

      pub all_read : {c : ℕ} (P : PlanAt plan c) {r : PlanChecked} → r ≡ plan_checked
          (check_marked L.columns.columns M.columns.columns P.parts) → r ≡ plan_checked (check_plan_of incoming target plan)
      unfolding check_plan_of layouts_read read_at_of
      all_read P f = rw (L.reads, M.reads, P.reads) f
