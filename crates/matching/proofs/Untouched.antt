-- A built selector that is a bare position has equal types; by name, equal types have a bare position. Assumes nothing.
use Prim.Native.Nat.{ℕ, suc, ◌+◌, ◌<◌}
use mathlib.Core.Path.{◌≡◌, refl, sym, ap, ◌∙◌}
use mathlib.Core.Bool.{true, false}
use mathlib.Core.Logic.{◌↔◌}
use native.Mathlib.Omega.{arith}
use lib.Dec.{eqb}
use borrow.Author.Tests.{eq-eqb, ne_eqb}
use Rattle.layout.specs.Bytes.{Bytes}
use Rattle.layout.specs.Parser.{choose}
use Rattle.layout.specs.Tree.{Label, ColumnType, Columns, ccons, DataType, leaf, struct, list, array, Fields, fnil, fcons, dtype_of, fields_of}
use Rattle.layout.specs.Find.{absent, present, find_from, column_named}
use Rattle.layout.specs.declared.columns.Position.{Position}
use Rattle.layout.specs.declared.matching.Matching.{Matching}
use Rattle.layout.specs.declared.matching.Matching.TheVariants.{ByName}
use Rattle.layout.proofs.Ways.{clash}
use Rattle.forms.specs.Form.{form}
use Rattle.forms.proofs.Theorems.{forms_equal}
use Rattle.rules.specs.declared.outcome.CastOption.{CastOption}
use Rattle.rules.proofs.PairRule.{cast_unequal}
use Rattle.rules.proofs.Casts.{passes-casts, casts-allowed}
use Rattle.plan.specs.Selector.{Selector, position, struct_mapping, Selectors}
use Rattle.plan.specs.Check.{cast_fits_of}
use Rattle.plan.specs.Reach.{SelectorAt, s_here, s_there}
use Rattle.plan.proofs.Results.{true≠false, both, and-true}
use Rattle.matching.specs.Default.{Defaults}
use Rattle.matching.specs.Build.{renamed, distinct, is_position, list_selector, array_selector, struct_selector, first}
use Rattle.matching.specs.Untouched as Same
use Rattle.matching.proofs.Lookup.{counterpart-at, at_eq, never_absent, at_unique, Suffix, all, suffix_at, suffix_next, suffix_equal, first-named}
use Rattle.matching.proofs.InPlace.{bare, is_bare_lem, bare-is, straight, struct_selector_lem, left_out, renamed-bare, renamed-name}
use Rattle.matching.proofs.Attach.{Attach, a-same, a-cast, a_struct_lem, a_list_lem, a_array, AttachAll, a_nil, a-found, a-missing}

fcons_eq : {n m : Bytes} {t u : DataType} {fs gs : Fields} → n ≡ m → t ≡ u → fs ≡ gs → fcons n t fs ≡ fcons m u gs
fcons_eq p q r = cc

next_suffix : {i : ℕ} {n : Bytes} {t : DataType} {fs gs : Fields} → Suffix i fs (fcons n t gs) → Suffix (i + 1) fs gs
next_suffix {i} {fs = fs} {gs = gs} s = let e : suc i ≡ i + 1 = omega arith in rw e at (suffix_next s)

module _ (v : Matching) where
  mutual
    unfolding list_selector array_selector straight is_position dtype_of fields_of

    pub bare→equal : {d : Defaults} {u t : ColumnType} {k j : Position} {s : Selector} → Attach v d u k t s → s ≡ position j → (j ≡ k) × (dtype_of t ≡ dtype_of u)
    bare→equal a-same e = (cc, refl)
    bare→equal (a-cast r p) e = clash (cc)
    bare→equal (a_struct_lem {k = k} {fs} {ss = ss} c h r) e =
        let (b, q) = left_out (straight 0 (fields_of fs) ss) (struct_mapping (position k) ss) refl (sym (struct_selector_lem k fs ss) ∙ (r ∙ e)) in
        (q, ap struct (straight→equal h (fields_of fs) all b))
    bare→equal (a_list_lem {a = a} {b} {e = x} y m h r) e =
        let (c, q) = left_out (is_position 0 (renamed v b a x)) _ refl (r ∙ e) in
        (q, ap list (bare→equal h (renamed-bare v b a x (is_bare_lem 0 _ c))).1)
    bare→equal (a_array {w = w} {a} {b} {e = x} y m h r) e =
        let (c, q) = left_out (is_position 0 (renamed v b a x)) _ refl (r ∙ e) in
        (q, ap (array w) (bare→equal h (renamed-bare v b a x (is_bare_lem 0 _ c))).1)

    pub straight→equal : {d : Defaults} {gs G : Columns} {ss : Selectors} {i : ℕ} → AttachAll v d gs G ss → (fs : Fields) → Suffix i (fields_of G) fs →
        straight i fs ss ≡ true → fs ≡ fields_of gs
    straight→equal a_nil fnil s e = refl
    straight→equal a_nil (fcons n t fs) s e = clash (cc)
    straight→equal (a-found q m h r hs) fnil s e = clash (cc)
    straight→equal {G = G} {i = i} (a-found {a = a} {b} {k} {s = y} {x = x} q m h r hs) (fcons n t fs) s e =
        let (c, e) = both (is_position i x) e in
        let p = r ∙ is_bare_lem i x c in
        let f = counterpart-at v b G q in
        let (j, z) = bare→equal h (renamed-bare v b a y p) in
        let w : k.0 ≡ i = ap (λ (k : Position). k.0) (sym j) in
        let (p₁, p₂) = at_unique (suffix_at s) (rw w at f.place) in
        fcons_eq (p₁ ∙ renamed-name v b a y f.match p) (p₂ ∙ z) (straight→equal hs fs (next_suffix s) e)
    straight→equal (a-missing q y m r hs) fnil s e = clash (cc)
    straight→equal {i = i} (a-missing {x = x} q y m r hs) (fcons n t fs) s e =
        let z = r ∙ is_bare_lem i x (both (is_position i x) e).0 in clash (cc)

-- ---- by name

-- no cast passes the check between equal types
pub cast-differs : (t : DataType) (o : CastOption) {X : Type 0} → cast_fits_of t t o ≡ true → X
unfolding cast_fits_of
cast-differs (leaf l) o e = absurd (cast_unequal _ l l o (casts-allowed l l o (passes-casts l l o e)) refl)
cast-differs (struct fs) o e = true≠false e refl
cast-differs (list t) o e = true≠false e refl
cast-differs (array w t) o e = true≠false e refl

straight_bare : (k : Position) (fs : Columns) (ss : Selectors) {gs : Fields} → fields_of fs ≡ gs → straight 0 gs ss ≡ true → struct_selector k fs ss ≡ position k
unfolding choose
straight_bare k fs ss p e = struct_selector_lem k fs ss ∙ rw (p, e)

mutual
  unfolding list_selector array_selector straight choose dtype_of fields_of renamed distinct

  pub equal→bare : {d : Defaults} {u t : ColumnType} {k : Position} {s : Selector} → Attach ByName d u k t s → dtype_of t ≡ dtype_of u → s ≡ position k
  equal→bare a-same e = refl
  equal→bare (a-cast {u = u} {o = o} r p) e = cast-differs (dtype_of u) o (rw (← p, e) at r)
  equal→bare (a_struct_lem {k = k} {fs} {gs} {ss} c h r) e =
      let p : fields_of fs ≡ fields_of gs = cc in
      sym r ∙ straight_bare k fs ss p (equal→straight h c (suffix_equal p))
  equal→bare (a_list_lem {e = x} y m h r) e = sym r ∙ rw (bare-is first x (equal→bare h (cc)))
  equal→bare (a_array {e = x} y m h r) e = sym r ∙ rw (bare-is first x (equal→bare h (cc)))

  pub equal→straight : {d : Defaults} {gs G : Columns} {ss : Selectors} {i : ℕ} → AttachAll ByName d gs G ss → distinct ByName G ≡ true → Suffix i
      (fields_of G) (fields_of gs) → straight i (fields_of gs) ss ≡ true
  equal→straight a_nil c s = refl
  equal→straight {G = G} {i = i} (a-found {b = b} {k} {t} {x = x} q m h r hs) c s =
      let f = first-named b.name 0 G c (suffix_at s) in
      let (j, (m, w)) = at_eq (sym q ∙ f.found) in
      let z : k.0 ≡ i = ap (λ (k : Position). k.0) j ∙ omega arith in
      and-true (ap (λ (i : ℕ). is_position i x) (sym z) ∙ bare-is k x (sym r ∙ equal→bare h (ap dtype_of w ∙ f.equal))) (equal→straight hs c (next_suffix s))
  equal→straight {G = G} (a-missing {b = b} q y m r hs) c s =
      let f = first-named b.name 0 G c (suffix_at s) in never_absent (sym q ∙ f.found)

-- ---- by name, a target column of a plan

-- a column that has a counterpart
found-untouched : {d : Defaults} {Γ : Columns} {a b : Label} {k : Position} {t u : ColumnType} {s x : Selector} → column_named b.name Γ ≡ present k a
    t → Attach ByName d u k t s → renamed ByName b a s ≡ x
    → Same.Untouched Γ b x ↔ Same.EqualType Γ b u
unfolding renamed
found-untouched {Γ = Γ} {a} {b} {k} {t} {u} {s} {x} q h r = (to, from)
  where
    to : Same.Untouched Γ b x → Same.EqualType Γ b u
    to U = record { place = k; label = a; type = t; counterpart = q; equal = ap form (bare→equal ByName h (r ∙ U.bare)).1 }

    from : Same.EqualType Γ b u → Same.Untouched Γ b x
    from E =
        let (i, (j, w)) = at_eq (sym q ∙ E.counterpart) in
        let e : dtype_of t ≡ dtype_of u = ap dtype_of w ∙ (forms_equal _ _).0 E.equal in
        record { place = k; label = a; type = t; counterpart = q; bare = sym r ∙ equal→bare h e }

-- a column that has none
missing-untouched : {Γ : Columns} {b : Label} {u : ColumnType} {x : Selector} → column_named b.name Γ ≡ absent → Same.Untouched Γ b x ↔ Same.EqualType Γ b u
missing-untouched q = (λ U. never_absent (sym q ∙ U.counterpart), λ E. never_absent (sym q ∙ E.counterpart))

-- the column at the position n, the first's being i
at_here : {b c : Label} {u w : ColumnType} (gs : Columns) {k : Position} (i n : ℕ) → i ≡ n → find_from (λ i l. eqb i n) i (ccons b u gs) ≡ present k c w
    → (b ≡ c) × (u ≡ w)
unfolding find_from choose
at_here gs i n h e = (at_eq (rw (eq-eqb i n h) at e)).1

at-later : (b : Label) (u : ColumnType) (gs : Columns) (i n : ℕ) → i < n → find_from (λ i l. eqb i n) i (ccons b u gs) ≡ find_from (λ i l. eqb i n) (i + 1) gs
unfolding find_from choose
at-later b u gs i n h = rw (ne_eqb i n (λ e. omega arith))

pub column-untouched : {d : Defaults} {Γ gs : Columns} {ss : Selectors} {b : Label} {u : ColumnType} {x : Selector} {k : Position} {m : ℕ} (i n : ℕ) → i
    + m ≡ n → AttachAll ByName d gs Γ ss → SelectorAt ss m x
    → find_from (λ i l. eqb i n) i gs ≡ present k b u → Same.Untouched Γ b x ↔ Same.EqualType Γ b u
column-untouched i n z (a-found {gs = gs} q m h r hs) s_here e = let (p, w) = at_here gs i n (omega arith) e in rw (← p, ← w) (found-untouched q h r)
column-untouched i n z (a-found {b = b} {u = u} {gs = gs} q m h r hs) (s_there y) e = column-untouched (i + 1) n (omega arith) hs y
    (sym (at-later b u gs i n (omega arith)) ∙ e)
column-untouched i n z (a-missing {gs = gs} q v m r hs) s_here e = let (p, w) = at_here gs i n (omega arith) e in rw (← p, ← w) (missing-untouched q)
column-untouched i n z (a-missing {b = b} {u = u} {gs = gs} q v m r hs) (s_there y) e = column-untouched (i + 1) n (omega arith) hs y
    (sym (at-later b u gs i n (omega arith)) ∙ e)
column-untouched {b = b} {u = u} {k = k} {m = m} i n z (a_nil {d = d} {fs = fs}) x22 e = elim x22 [ ]
