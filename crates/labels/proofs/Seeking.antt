-- The loop that follows a chain: what holds at each of its columns, and what is answered on each way out. Assumes
-- nothing.
use Prim.Native.Nat.{ℕ, ◌+◌, ◌-◌, ◌/◌, ◌%◌, ◌≤◌, ◌<◌}
use mathlib.Core.Path.{◌≡◌, refl, sym, ap, ◌∙◌, subst}
use mathlib.Core.List.{List}
use mathlib.Core.Bool.{Bool, true, false}
use native.Mathlib.Omega.{arith}
use lib.Dec.{eqb}
use lib.ListN.{length, get_or}
use borrow.Author.Tests.{eqb-true}
use Rattle.layout.specs.Bytes.{Bytes}
use Rattle.layout.specs.Parser.{ok}
use Rattle.layout.specs.Tree.{Label, ColumnType, Columns, ccons}
use Rattle.layout.specs.Layout.{label, same_label}
use Rattle.layout.specs.code.Answers.{label_res, label_at, LabelIn}
use Rattle.layout.specs.code.Seen.{label_hash}
use Rattle.layout.specs.code.Stands.{ColumnsAt}
use Rattle.layout.specs.Find.{Lookup, absent, present, find_from, counterpart}
use Rattle.layout.specs.code.Finding.{match_rule, Finds}
use Rattle.layout.specs.declared.columns.Position.{Position}
use Rattle.layout.specs.declared.columns.Label.{Label as LabelSpan}
use Rattle.layout.specs.declared.columns.Labelled.{Labelled}
use Rattle.layout.specs.declared.columns.Siblings.{Siblings}
use Rattle.layout.specs.declared.cursor.Cursor.{Cursor}
use Rattle.layout.specs.declared.find.Found.{Found}
use Rattle.layout.specs.declared.edition.Edition.{Edition}
use Rattle.layout.specs.declared.matching.Matching.{Matching}
use Rattle.layout.proofs.View.{FirstAt, first-labelled, same-columns}
use Rattle.layout.proofs.Finding.{counterpart-first}
use Rattle.labels.specs.code.LabelTable.{none, node, slot_of, first_of, after, Leads, Begins, Chains, Table}
use Rattle.labels.proofs.First.{none_of, first_of_lem, same-slot}
use Rattle.labels.proofs.After.{Met, met, after_counts, after_next}
use Rattle.labels.proofs.Filling.{begun, count-is, leads-to}

-- what is wanted
abbrev wants : Matching → Label → Label → Bool
wants how w l = same_label (match_rule how) l w

-- what has its hash
abbrev shares : Matching → ℕ → Label → Label → Bool
shares how heads w l = eqb (slot_of how heads l) (slot_of how heads w)

-- x leads to the first column of the chain from i on, and none before i is wanted
pub record Seeking (how : Matching) (heads : ℕ) (w : Label) (cs : Columns) (x : ℕ) : Type 0 where
  pub i : ℕ
  pub leads : Leads x (first_of how heads (slot_of how heads w) i (after i cs))
  pub is : counterpart how w cs ≡ find_from (λ j l. wants how w l) i (after i cs)

pub seeking_start : {how : Matching} {heads n : ℕ} {cs : Columns} {table : List ℕ} → Chains how heads n 0 cs table → (w : Label) (also : Matching)
    {q h k x : ℕ} → h ≡ slot_of also q w
    → match_rule also ≡ match_rule how → h < q → q ≡ heads
    → x ≡ get_or table k 0 → k ≡ node n + h → Seeking how heads w cs x
unfolding after
seeking_start {how} {heads} {n} {cs} {table} C w also {q} {h} {k} {x} e y lt f g z = record {
  i = 0;
  leads = leads-to {a = first_of how heads h 0 cs} (sym (g ∙ ap (λ (b : ℕ). get_or table b 0) z))
      (ap (λ (b : ℕ). first_of how heads b 0 cs) (e ∙ ap (λ (r : Siblings). label_hash r 0 w % q) y ∙ ap (λ (b : ℕ). slot_of how b w) f))
      (C.first h (omega arith));
  is = counterpart-first how w cs;
}

-- what is left behind the columns' numbers
pub behind : {v : Edition} {how : Matching} {d : ℕ} {s : Bytes} {n from : ℕ} {table : List ℕ} → Table v how d s n from table → node n +
    (length table - node n) ≡ length table
behind T = let z = T.long in omega arith

pub record Hit (how : Matching) (heads : ℕ) (w : Label) (cs : Columns) (n i x : ℕ) : Type 0 where
  pub p : Position
  pub l : Label
  pub t : ColumnType
  pub is : first_of how heads (slot_of how heads w) i (after i cs) ≡ present p l t
  pub leads : x ≡ node p.0
  pub met : Met (shares how heads w) cs (after i cs) i p l t
  pub within : p.0 < n

-- the label there, by the numbers that the code has
relabelled : (v : Edition) (s : Bytes) (table : List ℕ) (q : Labelled) (o k x : ℕ) → label_res s q ≡ label v s o → o ≡ get_or table (k + 1) 0 → k ≡ x →
    label_res s q ≡ label v s (get_or table (x + 1) 0)
relabelled v s table q o k x told here now = told ∙ ap (λ (b : ℕ). label v s b) (here ∙ ap (λ (b : ℕ). get_or table (b + 1) 0) now)

module _ {v : Edition} {how : Matching} {d : ℕ} {s : Bytes} {n from : ℕ} {table : List ℕ} {heads : ℕ} (T : Table v how d s n from table)
    (long : node n + heads ≡ length table) (P : ColumnsAt v d s n from) {w : Label} {x : ℕ} (S : Seeking how heads w P.columns x) where
  met_at : (p : Position) (l : Label) (t : ColumnType) → first_of how heads (slot_of how heads w) S.i (after S.i P.columns) ≡ present p l t → x ≡
      node p.0 → Hit how heads w P.columns n S.i x
  met_at p l t e f =
      let m = met (shares how heads w) P.columns S.i (after S.i P.columns) refl e in
      let z = after_counts p.0 P.columns m.is in
      let y = count-is P in
      record { p = p; l = l; t = t; is = e; leads = f; met = m; within = omega arith }

  -- another reading of the columns
  alike : (Q : ColumnsAt v d s n from) → counterpart how w Q.columns ≡ counterpart how w P.columns
  alike Q = ap (counterpart how w) (same-columns Q P).0

  -- the end of the chain
  pub seeking_none : none ≤ x → (Q : ColumnsAt v d s n from) → Finds v d s (counterpart how w Q.columns) Found.Absent
  seeking_none le Q = go (first_of how heads (slot_of how heads w) S.i (after S.i P.columns)) refl S.leads
    where
      go : (y : Lookup) → first_of how heads (slot_of how heads w) S.i (after S.i P.columns) ≡ y → Leads x y → Finds v d s
          (counterpart how w Q.columns) Found.Absent
      go absent e h =
          let r = none_of (wants how w) (shares how heads w) (same-slot how heads w) S.i (after S.i P.columns) e in
          subst (λ (z : Lookup). Finds v d s z Found.Absent) (sym (alike Q ∙ S.is ∙ r)) refl
      go (present p l t) e h = let H = met_at p l t e h in let a = T.few in let b = H.within in let z : x ≡ node p.0 = h in absurd (omega arith)

  module _ (lt : x < none) where
    pub hit : Hit how heads w P.columns n S.i x
    hit = go (first_of how heads (slot_of how heads w) S.i (after S.i P.columns)) refl S.leads
      where
        go : (y : Lookup) → first_of how heads (slot_of how heads w) S.i (after S.i P.columns) ≡ y → Leads x y → Hit how heads w P.columns n S.i x
        go absent e h = let z : x ≡ none = h in absurd (omega arith)
        go (present p l t) e h = met_at p l t e h

    pub inside : (x + 1 < length table) × (x + 1 < 65536)
    inside =
        let H = hit in
        let a = H.leads in
        let b = H.within in
        let e = T.long in
        let f = T.few in
        (omega arith, omega arith)

    placed : Begins v d s n P.columns hit.p.0 (get_or table (x + 1) 0)
    placed = subst (λ (k : ℕ). Begins v d s n P.columns hit.p.0 (get_or table (k + 1) 0)) (sym hit.leads)
        ((T.places P).begins hit.p.0 hit.within)

    module _ {q : Labelled} {o k : ℕ} (told : label_res s q ≡ label v s o) (here : o ≡ get_or table (k + 1) 0) (now : k ≡ x) where
      pub seeking_unlabelled : {B : Type 0} {a : ℕ} → q ≡ Labelled.Refused a → B
      seeking_unlabelled f = first-labelled placed.rest (λ z. let a = hit.within in omega arith) (relabelled v s table q o k x told here now) f

      module _ {m : LabelSpan} {c : Cursor} (f : q ≡ Labelled.Is m c) where
        F : FirstAt v d s (n - hit.p.0) (get_or table (x + 1) 0) placed.rest (label_at s m) c.at
        F = begun placed hit.within (relabelled v s table q o k x told here now) f

        same : ccons (label_at s m) F.head.tree F.tail.columns ≡ ccons hit.l hit.t hit.met.rest
        same = sym F.is ∙ placed.is ∙ hit.met.is

        named : label_at s m ≡ hit.l
        named = let z = same in cc

        typed : F.head.tree ≡ hit.t
        typed = let z = same in cc

        asked : {rule : Siblings} {b k : Bool} → rule ≡ match_rule how → b ≡ same_label rule (label_at s m) w → b ≡ k → wants how w hit.l ≡ k
        asked top y z = ap (λ (o : Label). wants how w o) (sym named) ∙ sym (y ∙ ap (λ (r : Siblings). same_label r (label_at s m) w) top) ∙ z

        pub seeking-found : {rule : Siblings} {b : Bool} → LabelIn s q → rule ≡ match_rule how → b ≡ same_label rule (label_at s m) w → b ≡ true
            → {y : ℕ} → y ≡ x / 2 → (Q : ColumnsAt v d s n from) → Finds v d s (counterpart how w Q.columns) (Found.At (record { 0 = y }) m c)
        seeking-found inn top a z {y} kk Q =
            let r = first_of_lem (wants how w) (shares how heads w) (same-slot how heads w) S.i (after S.i P.columns) hit.is (asked top a z) in
            let e = hit.leads in
            let j : y ≡ hit.p.0 = omega arith in
            subst (λ (o : Lookup). Finds v d s o (Found.At (record { 0 = y }) m c)) (sym (alike Q ∙ S.is ∙ r))
            (record {
              span = m;
              start = c;
              end = F.head.end;
              is = ap (λ (o : ℕ). Found.At (record { 0 = o }) m c) j;
              label = named;
              inside = rw f at inn;
              reads = F.head.reads ∙ ap (λ (o : ColumnType). ok o F.head.end) typed;
            })

        -- the next of the chain
        pub seeking-more : {rule : Siblings} {b : Bool} → rule ≡ match_rule how → b ≡ same_label rule (label_at s m) w → b ≡ false → Seeking how heads w
            P.columns (get_or table k 0)
        seeking-more top y z = record {
          i = hit.p.0 + 1;
          leads = subst (λ (o : ℕ). Leads (get_or table o 0) (first_of how heads (slot_of how heads w) (hit.p.0 + 1)
              (after (hit.p.0 + 1) P.columns))) (sym (now ∙ hit.leads)) onward;
          is = S.is ∙ hit.met.passes (wants how w) (same-slot how heads w) (asked top y z) ∙ ap (find_from (λ j l. wants how w l) (hit.p.0 + 1))
              (sym onward-is);
        }
          where
            onward-is : after (hit.p.0 + 1) P.columns ≡ hit.met.rest
            onward-is = after_next hit.p.0 P.columns hit.met.is

            onward : Leads (get_or table (node hit.p.0) 0) (first_of how heads (slot_of how heads w) (hit.p.0 + 1) (after (hit.p.0 + 1) P.columns))
            onward =
                subst (λ (o : Lookup). Leads (get_or table (node hit.p.0) 0) o)
                (ap (λ (o : ℕ). first_of how heads o (hit.p.0 + 1) hit.met.rest)
                (eqb-true (slot_of how heads hit.l) (slot_of how heads w) hit.met.taken) ∙ ap
                (first_of how heads (slot_of how heads w) (hit.p.0 + 1)) (sym onward-is))
                ((T.chains P heads long).next hit.p.0 (omega arith) hit.l hit.t hit.met.rest hit.met.is)

        -- it stands further on
        pub seeking-falls : {rule : Siblings} {b : Bool} → rule ≡ match_rule how → b ≡ same_label rule (label_at s m) w → b ≡ false → x < get_or table k 0
        unfolding seeking-more
        seeking-falls top y z = go (first_of how heads (slot_of how heads w) (hit.p.0 + 1) (after (hit.p.0 + 1) P.columns)) refl
            (seeking-more top y z).leads
          where
            go : (o : Lookup) → first_of how heads (slot_of how heads w) (hit.p.0 + 1) (after (hit.p.0 + 1) P.columns) ≡ o → Leads (get_or table k 0)
                o → x < get_or table k 0
            go absent e h = let a : get_or table k 0 ≡ none = h in omega arith
            go (present p l t) e h =
                let a : get_or table k 0 ≡ node p.0 = h in
                let b = (met (shares how heads w) P.columns (hit.p.0 + 1) (after (hit.p.0 + 1) P.columns) refl e).from in
                let y = hit.leads in
                omega arith
