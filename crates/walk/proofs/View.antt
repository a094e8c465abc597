-- What a selector or selectors that stand in a plan are made of: one law for each code. Assumes nothing.
use Prim.Native.Nat.{ℕ, zero, suc, ◌+◌, ◌-◌, ◌≤◌, ◌<◌}
use mathlib.Core.Path.{◌≡◌, refl, sym, ap, ◌∙◌, subst}
use mathlib.Core.Bool.{Bool, true, false}
use native.Mathlib.Omega.{arith}
use lib.ListN.{length, get_or}
use lib.Dec.{ltb}
use borrow.Author.Tests.{ne_eqb, ltb-true}
use Rattle.layout.specs.Bytes.{Bytes}
use Rattle.layout.specs.Parser.{refuse, ok, next, choose, byte, u16}
use Rattle.layout.specs.Tree.{DataType, dtype_of}
use Rattle.layout.specs.Layout.{text, type}
use Rattle.layout.specs.code.Stands.{TypeAt}
use Rattle.layout.specs.code.Answers.{span_at, SpanIn}
use Rattle.layout.specs.declared.bytes.Span.{Span}
use Rattle.layout.specs.declared.columns.Position.{Position}
use Rattle.layout.specs.declared.columns.Siblings.TheVariants.{Free}
use Rattle.layout.specs.declared.edition.Edition.TheVariants.{One}
use Rattle.layout.proofs.Ways.{clash}
use Rattle.layout.proofs.View.{next-ok}
use Rattle.values.specs.Value.{Value}
use Rattle.values.specs.Reading.{value}
use Rattle.plan.specs.Selector.{Selector, position, constant, Selectors, snil, scons, count_selectors}
use Rattle.plan.specs.Read.{data_type, cast_option, selectors as selectorsOf, position_rest, constant_rest, cast_rest, rename_rest, struct_rest, list_rest, array_rest}
use Rattle.plan.specs.Read.{selector_rest, selector, deepest_selector}
use Rattle.plan.specs.Reach.{SelectorAt as Nth, s_here, s_there}
use Rattle.walk.specs.code.Stands.{SelectorAt, SelectorsAt}
use Rattle.walk.specs.code.Parts.{OptionAt, ConstantAt, CastAt, RenameAt, StructAt, ListAt, ArrayAt, NthIs}
use Rattle.plan.proofs.Deeper.{selector-deeper, selectors-deeper}
use Rattle.walk.proofs.Forward.{u16-from, text-from, type-from, option-from, selector-behind, selectors-from}

-- the levels that a selector's parts have
abbrev inner : ℕ
inner = 63

-- ---- what reads inside reads with all levels

abbrev inside-at : {s : Bytes} {m : ℕ} {x : Selector} {e : ℕ} → selector inner s m ≡ ok x e → SelectorAt s m
inside-at {s} {m} {x} {e} h = record { tree = x; end = e; reads = selector-deeper s inner deepest_selector (omega arith) m x e h }

abbrev inside-all : {s : Bytes} {n m : ℕ} {xs : Selectors} {e : ℕ} → selectorsOf (selector inner) n s m ≡ ok xs e → SelectorsAt s n m
inside-all {s} {n} {m} {xs} {e} h = record { trees = xs; end = e; reads = selectors-deeper s inner deepest_selector (omega arith) n m xs e h }

-- ---- where things end

module _ {s : Bytes} {at : ℕ} where
  pub selector-longer : (P : SelectorAt s at) → at < P.end
  selector-longer P = let h = selector-behind s deepest_selector at P.tree P.end P.reads in omega arith

  pub selectors-longer : {n : ℕ} (Q : SelectorsAt s n at) → at ≤ Q.end
  selectors-longer {n} Q =
      selectors-from s (selector deepest_selector) (λ i x m e. let h = selector-behind s deepest_selector i x m e in omega arith) n at Q.trees Q.end
      Q.reads

  -- two readings of one place agree
  pub same-selector : (P Q : SelectorAt s at) → (P.tree ≡ Q.tree) × (P.end ≡ Q.end)
  same-selector P Q = let z : ok P.tree P.end ≡ ok Q.tree Q.end = sym P.reads ∙ Q.reads in (cc, cc)

  -- the same place under another name
  abbrev pub selector_moved : {to : ℕ} → at ≡ to → SelectorAt s at → SelectorAt s to
  selector_moved e P = record { tree = P.tree; end = P.end; reads = ap (λ (o : ℕ). selector deepest_selector s o) (sym e) ∙ P.reads }

  abbrev pub selectors_moved : {n k to : ℕ} → n ≡ k → at ≡ to → SelectorsAt s n at → SelectorsAt s k to
  selectors_moved e f Q =
      record { trees = Q.trees; end = Q.end; reads = (λ i. selectorsOf (selector deepest_selector) (sym e i) s (sym f i)) ∙ Q.reads }

-- ---- a byte that was read

byte-is : (s : Bytes) (at : ℕ) {c m : ℕ} → byte s at ≡ ok c m → (c ≡ get_or s at 0) × (m ≡ at + 1) × (at < length s)
unfolding byte choose
byte-is s at {c} {m} e = go (ltb at (length s)) refl e
  where
    go : (b : Bool) → ltb at (length s) ≡ b → choose b (ok (get_or s at 0) (at + 1)) (refuse 2) ≡ ok c m → (c ≡ get_or s at 0) × (m ≡ at + 1) × (at < length s)
    go true h e = (cc, cc, ltb-true at (length s) h)
    go false h e = clash (cc)

-- ---- a type

record DataTypeAt (s : Bytes) (at : ℕ) (t : DataType) (e : ℕ) : Type 0 where
  type : TypeAt One 16 s at
  is : t ≡ dtype_of type.tree
  ends : e ≡ type.end

data_type-at : {s : Bytes} {at : ℕ} {t : DataType} {e : ℕ} → data_type s at ≡ ok t e → DataTypeAt s at t e
unfolding data_type
data_type-at h = let (c, m, g, f) = next-ok _ _ h in record { type = record { tree = c; end = m; reads = g }; is = cc; ends = cc }

-- ---- a selector, by its code

module _ {s : Bytes} {at : ℕ} (P : SelectorAt s at) where
  level : next (byte s at) (λ c m. selector_rest (selector inner) c s m) ≡ ok P.tree P.end
  unfolding selector
  level = P.reads

  pub byte_at : byte s at ≡ ok (get_or s at 0) (at + 1)
  byte_at =
      let (c, m, g, f) = next-ok _ _ level in
      let (a, b, l) = byte-is s at g in
      g ∙ (λ i. ok (a i) (b i))

  -- a code is read where a selector stands
  pub never_ended : {B : Type 0} {n : ℕ} → byte s at ≡ refuse n → B
  never_ended {n = n} e = let z : refuse n ≡ ok (get_or s at 0) (at + 1) = sym e ∙ byte_at in clash (cc)

  pub starts-inside : at < length s
  starts-inside = (byte-is s at byte_at).2

  module _ {c m : ℕ} (q : byte s at ≡ ok c m) where
    behind : selector_rest (selector inner) c s m ≡ ok P.tree P.end
    unfolding next
    behind = rw q at level

    from-code : {k : ℕ} → c ≡ k → get_or s at 0 ≡ k
    from-code h = sym (byte-is s at q).0 ∙ h

    from_start : m ≡ at + 1
    from_start = (byte-is s at q).1

    -- the rest of a selector of the code k
    of_code : (k : ℕ) → c ≡ k → selector_rest (selector inner) k s m ≡ ok P.tree P.end
    of_code k h = ap (λ (a : ℕ). selector_rest (selector inner) a s m) (sym h) ∙ behind

    position-tree : c ≡ 0 → (k : Position) × (P.tree ≡ position k)
    unfolding selector_rest choose position_rest
    position-tree h = let (j, i, a, b) = next-ok _ _ (of_code 0 h) in (record { 0 = j }, cc)

    constant-tree : c ≡ 1 → (n : Bytes) × (t : DataType) × (v : Value) × (P.tree ≡ constant n t v)
    unfolding selector_rest choose constant_rest
    constant-tree h =
        let (n, i, a, f) = next-ok _ _ (of_code 1 h) in
        let (t, j, a₁, f₁) = next-ok _ _ f in
        let (v, k, a₂, f₂) = next-ok _ _ f₁ in
        (n, t, v, cc)

    pub position_at : c ≡ 0 → {k e : ℕ} → u16 s m ≡ ok k e → (get_or s at 0 ≡ 0) × (P.tree ≡ position (record { 0 = k }))
    unfolding selector_rest choose position_rest
    position_at h {k} {e} g =
        let (j, i, a, b) = next-ok _ _ (of_code 0 h) in
        let z : ok j i ≡ ok k e = sym a ∙ g in
        let y : j ≡ k = cc in
        (from-code h, sym (ap (λ (n : ℕ). position (record { 0 = n })) (sym y) ∙ (let w : position (record { 0 = j }) ≡ P.tree = cc in w)))

    pub position-counted : {B : Type 0} → c ≡ 0 → {n : ℕ} → u16 s m ≡ refuse n → B
    unfolding selector_rest choose position_rest
    position-counted h {n} g = let (j, i, a, b) = next-ok _ _ (of_code 0 h) in let z : ok j i ≡ refuse n = sym a ∙ g in clash (cc)

    pub constant-named : {B : Type 0} → c ≡ 1 → {n : ℕ} → text s m ≡ refuse n → B
    unfolding selector_rest choose constant_rest
    constant-named h {n} g = let (j, i, a, b) = next-ok _ _ (of_code 1 h) in let z : ok j i ≡ refuse n = sym a ∙ g in clash (cc)

    pub constant-at : c ≡ 1 → {n : Span} {e : ℕ} → text s m ≡ ok (span_at s n) e → SpanIn s n → ConstantAt s at P n e
    unfolding selector_rest choose constant_rest data_type
    constant-at h {n} {e} g r =
        let (x, i, a, f) = next-ok _ _ (of_code 1 h) in
        let (t, j, a₁, f₁) = next-ok _ _ f in
        let (v, k, a₂, f₂) = next-ok _ _ f₁ in
        let (y, o, b, d) = next-ok _ _ a₁ in
        let z : ok x i ≡ ok (span_at s n) e = sym a ∙ g in
        let u : i ≡ e = cc in
        let w : t ≡ dtype_of y = cc in
        let l : j ≡ o = cc in
        let long = text-from s m _ _ g in
        record {
          code = from-code h;
          named = r;
          type = record { tree = y; end = o; reads = ap (λ (b : ℕ). type One Free 16 s b) (sym u) ∙ b };
          value = record { tree = v; end = k; reads = (λ p. value (sym w p) s (sym l p)) ∙ a₂ };
          is = cc;
          starts = omega (arith, from_start, long);
          ends = cc;
        }

    pub cast_at : c ≡ 2 → CastAt s at P m
    unfolding selector_rest choose cast_rest
    cast_at h =
        let (x, i, a, f) = next-ok _ _ (of_code 2 h) in
        let (t, j, a₁, f₁) = next-ok _ _ f in
        let (o, k, a₂, f₂) = next-ok _ _ f₁ in
        let T = data_type-at a₁ in
        let l = T.ends in
        let w = T.is in
        let long = type-from s i _ _ T.type.reads in
        let O : OptionAt s T.type.end = record { option = o; end = k; reads = ap (λ (b : ℕ). cast_option s b) (sym l) ∙ a₂ } in
        let last : j ≤ k = option-from s j o k a₂ in
        let e : k ≡ P.end = cc in
        record {
          code = from-code h;
          input = inside-at a;
          type = T.type;
          option = O;
          is = cc;
          starts = from_start;
          inside = long;
          ends = (omega arith, e);
        }

    pub rename-at : c ≡ 3 → RenameAt s at P m
    unfolding selector_rest choose rename_rest
    rename-at h =
        let (x, i, a, f) = next-ok _ _ (of_code 3 h) in
        let (n, j, a₁, f₁) = next-ok _ _ f in
        let long = text-from s i n j a₁ in
        let e : j ≡ P.end = cc in
        record {
          code = from-code h;
          input = inside-at a;
          name = record { bytes = n; end = j; reads = a₁ };
          is = cc;
          starts = from_start;
          inside = omega arith;
          ends = e;
        }

    pub struct_at : c ≡ 4 → StructAt s at P m
    unfolding selector_rest choose struct_rest
    struct_at h =
        let (x, i, a, f) = next-ok _ _ (of_code 4 h) in
        let (n, j, a₁, f₁) = next-ok _ _ f in
        let (xs, k, a₂, f₂) = next-ok _ _ f₁ in
        let Q = inside-all a₂ in
        let long = u16-from s i n j a₁ in
        let e : k ≡ P.end = cc in
        record {
          code = from-code h;
          input = inside-at a;
          fields = record { count = n; first = j; reads = a₁; selectors = Q };
          is = cc;
          starts = from_start;
          inside = long;
          ends = (omega (arith, selectors-longer Q), e);
        }

    pub list_at : c ≡ 5 → ListAt s at P m
    unfolding selector_rest choose list_rest
    list_at h =
        let (x, i, a, f) = next-ok _ _ (of_code 5 h) in
        let (y, j, a₁, f₁) = next-ok _ _ f in
        let e : j ≡ P.end = cc in
        record {
          code = from-code h;
          input = inside-at a;
          element = inside-at a₁;
          is = cc;
          starts = from_start;
          inside = omega (arith, selector-longer (inside-at a₁));
          ends = e;
        }

    pub array_at : c ≡ 6 → ArrayAt s at P m
    unfolding selector_rest choose array_rest
    array_at h =
        let (x, i, a, f) = next-ok _ _ (of_code 6 h) in
        let (y, j, a₁, f₁) = next-ok _ _ f in
        let e : j ≡ P.end = cc in
        record {
          code = from-code h;
          input = inside-at a;
          element = inside-at a₁;
          is = cc;
          starts = from_start;
          inside = omega (arith, selector-longer (inside-at a₁));
          ends = e;
        }

    pub never_unknown : {B : Type 0} → 7 ≤ c → B
    unfolding selector_rest choose
    never_unknown l =
        let z : refuse 3 ≡ ok P.tree P.end =
        rw (
          ne_eqb c 0 (λ e. omega arith),
          ne_eqb c 1 (λ e. omega arith),
          ne_eqb c 2 (λ e. omega arith),
          ne_eqb c 3 (λ e. omega arith),
          ne_eqb c 4
              (λ e. omega arith),
          ne_eqb c 5 (λ e. omega arith),
          ne_eqb c 6 (λ e. omega arith),
        ) at behind in
        clash (cc)

-- a selector's parts, whichever it is
pub data Viewed (s : Bytes) (at : ℕ) (P : SelectorAt s at) : Type 0 where
  v_position : {k : Position} → get_or s at 0 ≡ 0 → P.tree ≡ position k → Viewed s at P
  v_constant : {n : Bytes} {t : DataType} {v : Value} → get_or s at 0 ≡ 1 → P.tree ≡ constant n t v → Viewed s at P
  v_cast : CastAt s at P (at + 1) → Viewed s at P
  v_rename : RenameAt s at P (at + 1) → Viewed s at P
  v_struct : StructAt s at P (at + 1) → Viewed s at P
  v_list : ListAt s at P (at + 1) → Viewed s at P
  v_array : ArrayAt s at P (at + 1) → Viewed s at P

pub view : {s : Bytes} {at : ℕ} (P : SelectorAt s at) → Viewed s at P
view {s} {at} P = go (get_or s at 0) refl
  where
    go : (c : ℕ) → get_or s at 0 ≡ c → Viewed s at P
    go zero h = v_position h (position-tree P (byte_at P) h).1
    go (suc zero) h = v_constant h (constant-tree P (byte_at P) h).3
    go (suc (suc zero)) h = v_cast (cast_at P (byte_at P) h)
    go (suc (suc (suc zero))) h = v_rename (rename-at P (byte_at P) h)
    go (suc (suc (suc (suc zero)))) h = v_struct (struct_at P (byte_at P) h)
    go (suc (suc (suc (suc (suc zero))))) h = v_list (list_at P (byte_at P) h)
    go (suc (suc (suc (suc (suc (suc zero)))))) h = v_array (array_at P (byte_at P) h)
    go (suc (suc (suc (suc (suc (suc (suc c))))))) h = never_unknown P (byte_at P) (omega arith)

-- ---- selectors, from the first

pub record FirstAt (s : Bytes) (n at : ℕ) (Q : SelectorsAt s n at) : Type 0 where
  pub head : SelectorAt s at
  pub tail : SelectorsAt s (n - 1) head.end
  pub is : Q.trees ≡ scons head.tree tail.trees
  pub ends : tail.end ≡ Q.end

module _ {s : Bytes} {n at : ℕ} (Q : SelectorsAt s n at) where
  pub no_selector : n ≡ 0 → (Q.trees ≡ snil) × (Q.end ≡ at)
  unfolding selectorsOf
  no_selector h = let q : selectorsOf (selector deepest_selector) 0 s at ≡ ok Q.trees Q.end = rw h at Q.reads in (cc, cc)

  pub first-at : 0 < n → FirstAt s n at Q
  unfolding selectorsOf
  first-at h =
      let q : selectorsOf (selector deepest_selector) (suc (n - 1)) s at ≡ ok Q.trees Q.end =
      ap (λ (k : ℕ). selectorsOf (selector deepest_selector) k s at) (let e : suc (n - 1) ≡ n = omega arith in e) ∙ Q.reads in
      let (x, i, a, f) = next-ok _ _ q in
      let (xs, j, a₁, f₁) = next-ok _ _ f in
      record { head = record { tree = x; end = i; reads = a }; tail = record { trees = xs; end = j; reads = a₁ }; is = cc; ends = cc }

-- as many as were asked for
pub selectors-counted : {s : Bytes} (n : ℕ) {at : ℕ} (Q : SelectorsAt s n at) → count_selectors Q.trees ≡ n
unfolding count_selectors
selectors-counted zero Q = ap count_selectors (no_selector Q refl).0
selectors-counted (suc n) Q =
    let F = first-at Q (omega arith) in
    ap count_selectors F.is ∙ ap suc (selectors-counted n (selectors_moved (let e : suc n - 1 ≡ n = omega arith in e) refl F.tail))

-- what stands behind the k first
pub record BehindAt (s : Bytes) (n at : ℕ) (Q : SelectorsAt s n at) (k : ℕ) : Type 0 where
  pub start : ℕ
  pub passed : Selectors
  pub reads : selectorsOf (selector deepest_selector) k s at ≡ ok passed start
  pub nth : NthIs s n at Q k start

pub nth-at : {s : Bytes} (n k : ℕ) {at : ℕ} (Q : SelectorsAt s n at) → k < n → BehindAt s n at Q k
unfolding selectorsOf next
nth-at n zero {at} Q h =
    let F = first-at Q h in
    record {
      start = at;
      passed = snil;
      reads = refl;
      nth = record {
        here = F.head;
        nth = subst (λ (ss : Selectors). Nth ss 0 F.head.tree) (sym F.is) s_here;
        starts = omega arith;
        ends = omega
            (arith, F.ends, selectors-longer F.tail);
      };
    }
nth-at {s} n (suc k) Q h =
    let F = first-at Q (omega arith) in
    let B = nth-at (n - 1) k F.tail (omega arith) in
    record {
      start = B.start;
      passed = scons F.head.tree B.passed;
      reads = rw F.head.reads (rw B.reads);
      nth = record {
        here = B.nth.here;
        nth = subst (λ (ss : Selectors). Nth ss (suc k) B.nth.here.tree) (sym F.is) (s_there B.nth.nth);
        starts = omega (arith, B.nth.starts, selector-longer F.head);
        ends = omega (arith, F.ends, B.nth.ends);
      };
    }

-- the k-th of selectors that are more than k
pub nth_exists : (ss : Selectors) (k : ℕ) → k < count_selectors ss → (t : Selector) × Nth ss k t
unfolding count_selectors
nth_exists snil k h = absurd (omega arith)
nth_exists (scons x ss) zero h = (x, s_here)
nth_exists (scons x ss) (suc k) h = let (t, a) = nth_exists ss k (omega arith) in (t, s_there a)

pub nth-below : {ss : Selectors} {k : ℕ} {t : Selector} → Nth ss k t → k < count_selectors ss
unfolding count_selectors
nth-below s_here = omega arith
nth-below (s_there a) = let h = nth-below a in omega arith

pub nth-same : {ss : Selectors} {k : ℕ} {t u : Selector} → Nth ss k t → Nth ss k u → t ≡ u
nth-same s_here s_here = refl
nth-same (s_there a) (s_there b) = nth-same a b
