-- The loops that fill a table: what holds after each column. Assumes nothing.
use Prim.Native.Nat.{ℕ, ◌+◌, ◌-◌, ◌≤◌, ◌<◌}
use mathlib.Core.Path.{◌≡◌, refl, sym, ap, ◌∙◌, subst}
use mathlib.Core.List.{List, []}
use mathlib.Core.Bool.{Bool}
use native.Mathlib.Omega.{arith}
use native.Mathlib.Decide.{ℕ_discrete}
use lib.Dec.{eqb}
use lib.ListN.{length, get_or, set, length-set}
use lib.Seq.{get_or-set_same, get_or-set_other}
use borrow.Author.Tests.{eq-eqb, ne_eqb}
use Rattle.layout.specs.Bytes.{Bytes}
use Rattle.layout.specs.Parser.{ok, choose}
use Rattle.layout.specs.Tree.{Label, ColumnType, Columns, ccons, count_columns}
use Rattle.layout.specs.Layout.{label, columns as columns_of_of, type}
use Rattle.layout.specs.code.Answers.{label_res, label_at, moved_of}
use Rattle.layout.specs.code.Stands.{ColumnsAt}
use Rattle.layout.specs.Find.{Lookup, absent, present, find_from}
use Rattle.layout.specs.declared.columns.Label.{Label as LabelSpan}
use Rattle.layout.specs.declared.columns.Labelled.{Labelled}
use Rattle.layout.specs.declared.columns.Siblings.TheVariants.{Free}
use Rattle.layout.specs.declared.cursor.Cursor.{Cursor}
use Rattle.layout.specs.declared.cursor.Moved.{Moved}
use Rattle.layout.specs.declared.edition.Edition.{Edition}
use Rattle.layout.specs.declared.matching.Matching.{Matching}
use Rattle.layout.proofs.View.{FirstAt, first-at, type-ends}
use Rattle.layout.proofs.Top.{columns-count}
use Rattle.labels.specs.code.LabelTable.{most, none, node, slot_of, first_of, after, Leads, Begins, Cleared, Places, Noted, Chains, Table}
use Rattle.labels.proofs.After.{after_next, after_counts, after-all}

-- ---- the heads

pub cleared-start : {ending from : ℕ} (t : List ℕ) → Cleared ending from from t
cleared-start t = record { empty = λ k le lt. absurd (omega arith) }

pub cleared_more : {ending from h : ℕ} {t : List ℕ} → Cleared ending from h t → h < length t → Cleared ending from (h + 1) (set t h ending)
cleared_more {ending} {from} {h} {t} a l = record { empty = λ k le lt. go k le lt (ℕ_discrete k h) }
  where
    go : (k : ℕ) → from ≤ k → k < h + 1 → Dec (k ≡ h) → get_or (set t h ending) k 0 ≡ ending
    go k le lt (yes e) = ap (λ (b : ℕ). get_or (set t h ending) b 0) e ∙ get_or-set_same t h ending 0 l
    go k le lt (no e) = get_or-set_other t h k ending 0 e ∙ a.empty k le (omega arith)

pub cleared-end : {ending from h : ℕ} {t : List ℕ} → Cleared ending from h t → length t ≤ h → Cleared ending from (length t) t
cleared-end a le = record { empty = λ k ge lt. a.empty k ge (omega arith) }

pub cleared-from : {ending from to h : ℕ} {t : List ℕ} → from ≡ to → Cleared ending from h t → Cleared ending to h t
cleared-from e a = record { empty = λ k le lt. a.empty k (omega arith) lt }

-- ---- the places

-- as many columns, under another name of their number and place
renamed : {v : Edition} {d : ℕ} {s : Bytes} {n m at to : ℕ} (P : ColumnsAt v d s n at) → n ≡ m → at ≡ to → columns_of_of v Free (type v Free d) m [] s to ≡
    ok P.columns P.end
renamed {v} {d} {s} {n} {m} {at} {to} P e g =
    sym (ap (λ (k : ℕ). columns_of_of v Free (type v Free d) k [] s at) e ∙ ap (λ (o : ℕ). columns_of_of v Free (type v Free d) m [] s o) g) ∙ P.reads

-- what the label there says of the columns that begin at a place
pub begun : {v : Edition} {d : ℕ} {s : Bytes} {n : ℕ} {cs : Columns} {i o : ℕ} (B : Begins v d s n cs i o) → i < n → {p : Labelled} → label_res s p ≡
    label v s o → {l : LabelSpan} {c : Cursor}
    → p ≡ Labelled.Is l c → FirstAt v d s (n - i) o B.rest (label_at s l) c.at
begun B lt g h = first-at B.rest (λ z. omega arith) g h

pub record NotingAt (v : Edition) (d : ℕ) (s : Bytes) (n i at : ℕ) (cs : Columns) (table : List ℕ) : Type 0 where
  pub next : Begins v d s n cs i at
  pub places : Places v d s n i cs table

pub record Noting (v : Edition) (d : ℕ) (s : Bytes) (n from i at : ℕ) (table : List ℕ) : Type 0 where
  pub within : i ≤ n
  pub cleared : Cleared none (node n) (length table) table
  pub here : (P : ColumnsAt v d s n from) → NotingAt v d s n i at P.columns table

module _ {v : Edition} {d : ℕ} {s : Bytes} {n from : ℕ} {table : List ℕ} where
  pub noting_start : Cleared none (node n) (length table) table → Noting v d s n from 0 from table
  unfolding after
  noting_start C = record {
    within = omega arith;
    cleared = C;
    here = λ P. record {
      next = record { rest = record { columns = P.columns; end = P.end; reads = renamed P (let e : n ≡ n - 0 = omega arith in e) refl }; is = refl };
      places = record { begins = λ j lt. absurd (omega arith) };
    };
  }

  module _ {i at : ℕ} (a : Noting v d s n from i at table) where
    pub noting_end : n ≤ i → Noted v d s n from table
    noting_end le = record { cleared = a.cleared; places = λ P. record { begins = λ j lt. (a.here P).places.begins j (omega arith) } }

    pub noting_more : node n ≤ length table → i < n → {p : Labelled} → label_res s p ≡ label v s at → {l : LabelSpan} {c : Cursor} → p ≡ Labelled.Is l c
        → {q : Moved} {b : Cursor} → q ≡ moved_of (type v Free d s c.at) → q ≡ Moved.To b → {k : ℕ} → k ≡ node i + 1 → Noting v d s n from (i + 1)
        b.at (set table k at)
    noting_more long lt {p} g {l} {c} h {q} {b} x y {k} kk = subst (λ (o : ℕ). Noting v d s n from (i + 1) b.at (set table o at)) (sym kk) (record {
      within = omega arith;
      cleared = record {
        empty = λ k le m. get_or-set_other table (node i + 1) k at 0 (λ z. omega arith) ∙ a.cleared.empty k le
            (let z = length-set table (node i + 1) at in omega arith);
      };
      here = here;
    })
      where
        first : (P : ColumnsAt v d s n from) → FirstAt v d s (n - i) at (a.here P).next.rest (label_at s l) c.at
        first P = begun (a.here P).next lt g h

        place : (P : ColumnsAt v d s n from) (j : ℕ) → j < i + 1 → Dec (j ≡ i) → Begins v d s n P.columns j (get_or (set table (node i + 1) at) (node j + 1) 0)
        place P j m (yes e) =
            let w : get_or (set table (node i + 1) at) (node j + 1) 0 ≡ at = ap (λ (k : ℕ). get_or (set table (node i + 1) at) (node k + 1) 0) e ∙
            get_or-set_same table (node i + 1) at 0 (omega arith) in
            subst (λ (o : ℕ). Begins v d s n P.columns j o) (sym w) (subst (λ (k : ℕ). Begins v d s n P.columns k at) (sym e) (a.here P).next)
        place P j m (no e) =
            subst (λ (o : ℕ). Begins v d s n P.columns j o) (sym (get_or-set_other table (node i + 1) (node j + 1) at 0 (λ z. e (omega arith))))
            ((a.here P).places.begins j (omega arith))

        here : (P : ColumnsAt v d s n from) → NotingAt v d s n (i + 1) b.at P.columns (set table (node i + 1) at)
        here P = record {
          next = record {
            rest = record {
              columns = (first P).tail.columns;
              end = (first P).tail.end;
              reads = renamed (first P).tail (let z : n - i - 1 ≡ n - (i + 1) = omega arith in z) (sym (type-ends (first P).head x y));
            };
            is = sym (after_next i P.columns (sym (a.here P).next.is ∙ (first P).is));
          };
          places = record { begins = λ j m. place P j m (ℕ_discrete j i) };
        }

-- ---- the chains

pub record LinkingAt (v : Edition) (how : Matching) (d : ℕ) (s : Bytes) (heads n i : ℕ) (cs : Columns) (table : List ℕ) : Type 0 where
  pub places : Places v d s n n cs table
  pub chains : Chains how heads n i cs table

pub record Linking (v : Edition) (how : Matching) (d : ℕ) (s : Bytes) (heads n i : ℕ) (old table : List ℕ) : Type 0 where
  pub within : i ≤ n
  pub here : (cs : Columns) → count_columns cs ≡ n → Places v d s n n cs old → LinkingAt v how d s heads n i cs table

pub count-is : {v : Edition} {d : ℕ} {s : Bytes} {n from : ℕ} (P : ColumnsAt v d s n from) → count_columns P.columns ≡ n
count-is {v} {d} {s} {n} {from} P = columns-count v Free (type v Free d) n [] s from P.columns P.end P.reads

pub leads-to : {x y : ℕ} {a b : Lookup} → x ≡ y → a ≡ b → Leads x a → Leads y b
leads-to {x} {y} {a} {b} e f h = subst (λ (k : ℕ). Leads k b) e (subst (λ (k : Lookup). Leads x k) f h)

module _ {v : Edition} {how : Matching} {d : ℕ} {s : Bytes} {heads n : ℕ} {table : List ℕ} where
  pub linking_start : {i : ℕ} → i ≡ n → node n + heads ≡ length table → Cleared none (node n) (length table) table → Linking v how d s heads n i table table
  unfolding find_from
  linking_start {i} f long C = subst (λ (k : ℕ). Linking v how d s heads n k table table) (sym f) (record {
    within = omega arith;
    here = λ cs e P. record {
      places = P;
      chains = record {
        first = λ h lt. leads-to {b = first_of how heads h n (after n cs)} (sym (C.empty (node n + h) (omega arith) (omega arith)))
            (sym (ap (first_of how heads h n) (after-all n cs e))) (let z : Leads none absent = refl in z);
        next = λ j le l t r q. absurd (let m = after_counts j cs q in omega arith);
      };
    };
  })

  -- the column j, which comes before those from i on
  module _ {old : List ℕ} {i : ℕ} (j : ℕ) (a : Linking v how d s heads n i old table) (e : i ≡ j + 1) (long : node n + heads ≡ length table)
      {p : Labelled} {o : ℕ} (told : label_res s p ≡ label v s o) (here : o ≡ get_or table (node j + 1) 0) {m : LabelSpan} {c : Cursor}
      (f : p ≡ Labelled.Is m c) {h : ℕ} (q : h ≡ slot_of how heads (label_at s m)) (lt : h < heads) {g : ℕ} (hg : g ≡ node n + h) where
    once : List ℕ
    once = set table (node j) (get_or table g 0)

    twice : List ℕ
    unfolding once
    twice = set once g (node j)

    at_head : get_or twice g 0 ≡ node j
    unfolding twice once
    at_head = let le = a.within in get_or-set_same once g (node j) 0 (let z = length-set table (node j) (get_or table g 0) in omega arith)

    at-node : get_or twice (node j) 0 ≡ get_or table g 0
    unfolding twice once
    at-node = let le = a.within in get_or-set_other once g (node j) (node j) 0 (λ z. omega arith) ∙ get_or-set_same table (node j) (get_or table g 0) 0 (omega arith)

    elsewhere : (k : ℕ) → (k ≡ g → ⊥) → (k ≡ node j → ⊥) → get_or twice k 0 ≡ get_or table k 0
    unfolding twice once
    elsewhere k x y = get_or-set_other once g k (node j) 0 x ∙ get_or-set_other table (node j) k (get_or table g 0) 0 y

    module _ (cs : Columns) (w : count_columns cs ≡ n) (O : Places v d s n n cs old) where
      L : LinkingAt v how d s heads n i cs table
      L = a.here cs w O

      B : Begins v d s n cs j (get_or table (node j + 1) 0)
      unfolding L
      B = L.places.begins j (let le = a.within in omega arith)

      F : FirstAt v d s (n - j) (get_or table (node j + 1) 0) B.rest (label_at s m) c.at
      F = begun B (let le = a.within in omega arith) (told ∙ ap (λ (b : ℕ). label v s b) here) f

      -- it and those after it
      split : after j cs ≡ ccons (label_at s m) F.head.tree F.tail.columns
      split = sym B.is ∙ F.is

      behind : after i cs ≡ F.tail.columns
      behind = ap (λ (k : ℕ). after k cs) e ∙ after_next j cs split

      step : (k : ℕ) {b : Bool} → eqb (slot_of how heads (label_at s m)) k ≡ b
          → first_of how heads k j (after j cs) ≡ choose b (present (record { 0 = j }) (label_at s m) F.head.tree)
          (first_of how heads k (j + 1) F.tail.columns)
      unfolding find_from
      step k y =
          ap (first_of how heads k j) split
          ∙ ap (λ (b : Bool). choose b (present (record { 0 = j }) (label_at s m) F.head.tree) (first_of how heads k (j + 1) F.tail.columns)) y

      -- what led to the chain's first from i on
      led : (k : ℕ) → k < heads → Leads (get_or table (node n + k) 0) (first_of how heads k (j + 1) F.tail.columns)
      unfolding L
      led k y = leads-to refl (ap (λ (b : ℕ). first_of how heads k b (after i cs)) e ∙ ap (first_of how heads k (j + 1)) behind) (L.chains.first k y)

      head_of : (k : ℕ) → k < heads → Dec (k ≡ h) → Leads (get_or twice (node n + k) 0) (first_of how heads k j (after j cs))
      unfolding choose
      head_of k y (yes z) =
          let x = step k (eq-eqb (slot_of how heads (label_at s m)) k (sym (z ∙ q))) in
          leads-to (sym (ap (λ (b : ℕ). get_or twice b 0) (ap (λ (b : ℕ). node n + b) z ∙ sym hg) ∙ at_head)) (sym x)
          (let o : Leads (node j) (present (record { 0 = j }) (label_at s m) F.head.tree) = refl in o)
      head_of k y (no z) =
          let x = step k (ne_eqb (slot_of how heads (label_at s m)) k (λ o. z (sym (q ∙ o)))) in
          leads-to (sym (elsewhere (node n + k) (λ o. z (omega arith)) (λ o. let le = a.within in omega arith))) (sym x) (led k y)

      node_of : (k : ℕ) → j ≤ k → Dec (k ≡ j) → (l : Label) (t : ColumnType) (r : Columns) → after k cs ≡ ccons l t r → Leads (get_or twice (node k) 0)
          (first_of how heads (slot_of how heads l) (k + 1) r)
      unfolding L
      node_of k le (yes z) l t r o =
          let x : ccons (label_at s m) F.head.tree F.tail.columns ≡ ccons l t r = sym split ∙ ap (λ (b : ℕ). after b cs) (sym z) ∙ o in
          let y : label_at s m ≡ l = cc in
          let u : F.tail.columns ≡ r = cc in
          leads-to (sym (ap (λ (b : ℕ). get_or twice (node b) 0) z ∙ at-node))
          (ap (λ (b : ℕ). first_of how heads b (j + 1) F.tail.columns) (q ∙ ap (slot_of how heads) y) ∙ ap
          (λ (b : ℕ). first_of how heads (slot_of how heads l) (b + 1) F.tail.columns) (sym z) ∙ ap
          (first_of how heads (slot_of how heads l) (k + 1)) u)
          (leads-to {b = first_of how heads h (j + 1) F.tail.columns} (ap (λ (b : ℕ). get_or table b 0) (sym hg)) refl (led h lt))
      node_of k le (no z) l t r o =
          leads-to {a = first_of how heads (slot_of how heads l) (k + 1) r} (sym (elsewhere (node k) (λ x. let y = after_counts k cs o in omega arith)
          (λ x. z (omega arith)))) refl (L.chains.next k (omega arith) l t r o)

      place_of : (k : ℕ) → k < n → Begins v d s n cs k (get_or twice (node k + 1) 0)
      unfolding L
      place_of k y = subst (λ (o : ℕ). Begins v d s n cs k o) (sym (elsewhere (node k + 1) (λ x. omega arith) (λ x. omega arith))) (L.places.begins k y)

    pub linking_more : Linking v how d s heads n j old (set (set table (node j) (get_or table g 0)) g (node j))
    unfolding twice once
    linking_more = record {
      within = let le = a.within in omega arith;
      here = λ cs w O. record {
        places = record { begins = place_of cs w O };
        chains = record { first = λ k y. head_of cs w O k y (ℕ_discrete k h); next = λ k le. node_of cs w O k le (ℕ_discrete k j) };
      };
    }

  pub linking_end : {old : List ℕ} {i from : ℕ} → Linking v how d s heads n i old table → i ≤ 0 → n ≤ most → 0 < heads → node n + heads ≡ length table →
      Noted v d s n from old → Table v how d s n from table
  linking_end {i = i} a le few some long N = record {
    few = few;
    long = omega arith;
    places = λ P. (a.here P.columns (count-is P) (N.places P)).places;
    chains = λ P q e. subst (λ (k : ℕ). Chains how k n 0 P.columns table) (let z : heads ≡ q = omega arith in z)
        (subst (λ (k : ℕ). Chains how heads n k P.columns table) (let z : i ≡ 0 = omega arith in z)
        (a.here P.columns (count-is P) (N.places P)).chains);
  }
