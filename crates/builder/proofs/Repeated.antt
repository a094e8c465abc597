-- Test 12 by the reader's test of siblings: columns that stand there are read under the rule of names exactly where no
-- name is repeated. Assumes nothing.
use Prim.Native.Nat.{ℕ, zero, suc, ◌+◌}
use mathlib.Core.Path.{◌≡◌, refl, sym, ap, ◌∙◌}
use mathlib.Core.List.{List, [], ◌∷◌, ◌++◌}
use mathlib.Core.Bool.{Bool, true, false, not, ◌&&◌, ◌||◌}
use Rattle.layout.specs.Bytes.{Bytes, same_bytes}
use Rattle.layout.specs.Parser.{Res, refuse, ok, next, choose, Parser, test}
use Rattle.layout.specs.Tree.{Label, ColumnType, Columns, cnil, ccons}
use Rattle.layout.specs.Layout.{label, columns, type, repeats_any}
use Rattle.layout.specs.code.Answers.{moved_of}
use Rattle.layout.specs.Find.{Lookup, present, find_from}
use Rattle.layout.specs.code.Stands.{ColumnsAt}
use Rattle.layout.specs.declared.columns.Position.{Position}
use Rattle.layout.specs.declared.columns.Siblings.TheVariants.{Names, Free}
use Rattle.layout.specs.declared.cursor.Cursor.{Cursor}
use Rattle.layout.specs.declared.cursor.Moved.{Moved}
use Rattle.layout.specs.declared.edition.Edition.{Edition}
use Rattle.layout.proofs.Ways.{clash}
use Rattle.layout.proofs.FreeRule.{repeats_free}
use Rattle.layout.proofs.Reading.{repeats_any_snoc}
use Rattle.layout.proofs.View.{next-ok}
use Rattle.matching.specs.Build.{is_absent, distinct_names}

-- no column has the name of an earlier label
unfoldable fresh : List Label → Columns → Bool
fresh ms cnil = true
fresh ms (ccons l t cs) = not (repeats_any Names l ms) && fresh ms cs

fresh_none : (cs : Columns) → fresh [] cs ≡ true
unfolding fresh repeats_any
fresh_none cnil = refl
fresh_none (ccons l t cs) = fresh_none cs

-- a is whether a column has an earlier name, b whether it has that of one label more
one_more : (a b c : Bool) (p : Position) (l : Label) (t : ColumnType) (x : Lookup) → (not (a || b) && (c && is_absent x)) ≡
    ((not a && c) && is_absent (choose b (present p l t) x))
unfolding choose
one_more true b c p l t x = refl
one_more false true true p l t x = refl
one_more false true false p l t x = refl
one_more false false c p l t x = refl

fresh_snoc : (ms : List Label) (k : Label) (i : ℕ) (cs : Columns) → fresh (ms ++ (k ∷ [])) cs ≡
    (fresh ms cs && is_absent (find_from (λ j l. same_bytes l.name k.name) i cs))
unfolding fresh find_from
fresh_snoc ms k i cnil = refl
fresh_snoc ms k i (ccons l t cs) =
    rw (repeats_any_snoc Names l ms k, fresh_snoc ms k (i + 1) cs)
    (one_more (repeats_any Names l ms) (same_bytes l.name k.name) (fresh ms cs) (record { 0 = i }) l t
    (find_from (λ j m. same_bytes m.name k.name) (i + 1) cs))

-- a column and those after it, which X reads
after-column : (a b c d : Bool) (s : Bytes) (j : ℕ) (X : ℕ → Res Columns) (l : Label) (t : ColumnType) (cs : Columns) (e : ℕ) → X j ≡ choose
    ((b && c) && d) (ok cs e) (refuse 5)
    → next (test (not a) 5 s j) (λ u o. next (X o) (λ ds m. ok (ccons l t ds) m)) ≡ choose ((not a && b) && (c && d)) (ok (ccons l t cs) e) (refuse 5)
unfolding next choose
after-column true b c d s j X l t cs e h = refl
after-column false b c d s j X l t cs e h = ap (λ (x : Res Columns). next x (λ ds m. ok (ccons l t ds) m)) h ∙ go b c d
  where
    go : (b c d : Bool) → next (choose ((b && c) && d) (ok cs e) (refuse 5)) (λ ds m. ok (ccons l t ds) m) ≡ choose (b && (c && d))
        (ok (ccons l t cs) e) (refuse 5)
    go false c d = refl
    go true false d = refl
    go true true false = refl
    go true true true = refl

-- a test that passes
no_test : (a : Bool) → a ≡ false → (s : Bytes) (j : ℕ) (X : ℕ → Res Columns) → next (test (not a) 5 s j) (λ u o. X o) ≡ X j
unfolding next choose
no_test true h s j X = clash (cc)
no_test false h s j X = refl

-- the answer under the rule of names, where the columns cs end at e
abbrev named : List Label → Columns → ℕ → Res Columns
named ms cs e = choose (fresh ms cs && distinct_names cs) (ok cs e) (refuse 5)

named_as : (x : Res Columns) (ms : List Label) (cs ds : Columns) (e m : ℕ) → ok ds m ≡ ok cs e → x ≡ named ms ds m → x ≡ named ms cs e
named_as x ms cs ds e m h y =
    let q : cs ≡ ds = cc in
    let o : e ≡ m = cc in
    rw (q, o) y

named_more : (v : Edition) (p : Parser ColumnType) (s : Bytes) (n : ℕ) (ms : List Label) (at : ℕ) (l : Label) (i : ℕ) (t : ColumnType) (j : ℕ)
    (cs : Columns) (e : ℕ) → label v s at ≡ ok l i
    → p s i ≡ ok t j → columns v Names p n (ms ++ (l ∷ [])) s j ≡ named (ms ++ (l ∷ [])) cs e → columns v Names p (suc n) ms s at ≡ named ms (ccons l t cs) e
unfolding columns next choose fresh distinct_names
named_more v p s n ms at l i t j cs e h g y =
    rw (h, g)
    (after-column (repeats_any Names l ms) (fresh ms cs) (is_absent (find_from (λ k x. same_bytes x.name l.name) 0 cs)) (distinct_names cs) s j
    (columns v Names p n (ms ++ (l ∷ [])) s) l t cs e
    (y ∙ ap (λ (b : Bool). choose (b && distinct_names cs) (ok cs e) (refuse 5)) (fresh_snoc ms l 0 cs)))

-- what is read under no rule, under the rule of names
by_names : (v : Edition) (p : Parser ColumnType) (s : Bytes) (n : ℕ) (ms : List Label) (at : ℕ) (cs : Columns) (e : ℕ) → columns v Free p n ms s at ≡ ok cs e
    → columns v Names p n ms s at ≡ named ms cs e
unfolding columns next choose fresh distinct_names
by_names v p s zero ms at cs e h = named_as (ok cnil at) ms cs cnil e at h refl
by_names v p s (suc n) ms at cs e h =
    let (l, i, h₁, g₁) = next-ok (label v s at) _ h in
    let (t, j, h₂, g₂) = next-ok (p s i) _ g₁ in
    let X : ℕ → Res Columns = λ o. next (columns v Free p n (ms ++ (l ∷ [])) s o) (λ ds m. ok (ccons l t ds) m) in
    let (ds, m, h₃, g₃) = next-ok (columns v Free p n (ms ++ (l ∷ [])) s j) _ (sym (no_test (repeats_any Free l ms) (repeats_free l ms) s j X) ∙ g₂) in
    named_as (columns v Names p (suc n) ms s at) ms cs (ccons l t ds) e m g₃ (named_more v p s n ms at l i t j ds m h₁ h₂
    (by_names v p s n (ms ++ (l ∷ [])) j ds m h₃))

module _ {v : Edition} {d : ℕ} {s : Bytes} {n from : ℕ} {r : Moved} (e : r ≡ moved_of (columns v Names (type v Free d) n [] s from))
    (P : ColumnsAt v d s n from) where
  tested : r ≡ moved_of (choose (distinct_names P.columns) (ok P.columns P.end) (refuse 5))
  tested =
      e ∙ ap moved_of (by_names v (type v Free d) s n [] from P.columns P.end P.reads)
      ∙ ap (λ (b : Bool). moved_of (choose (b && distinct_names P.columns) (ok P.columns P.end) (refuse 5))) (fresh_none P.columns)

  pub names_read : {c : Cursor} → r ≡ Moved.To c → true ≡ distinct_names P.columns
  unfolding moved_of choose
  names_read {c} f = go (distinct_names P.columns) (sym f ∙ tested)
    where
      go : (b : Bool) → Moved.To c ≡ moved_of (choose b (ok P.columns P.end) (refuse 5)) → true ≡ b
      go true z = refl
      go false z = clash (cc)

  pub names_refused : {k : ℕ} → r ≡ Moved.Refused k → false ≡ distinct_names P.columns
  unfolding moved_of choose
  names_refused {k} f = go (distinct_names P.columns) (sym f ∙ tested)
    where
      go : (b : Bool) → Moved.Refused k ≡ moved_of (choose b (ok P.columns P.end) (refuse 5)) → false ≡ b
      go true z = clash (cc)
      go false z = refl
