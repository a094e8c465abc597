-- What is taken as a default from what stands in the table: one law for each answer of the readers. Assumes nothing.
use Prim.Native.Nat.{ℕ, zero, suc, ◌≤◌, ◌<◌}
use mathlib.Core.Path.{◌≡◌, refl, sym, ap, ◌∙◌, subst}
use mathlib.Core.Bool.{Bool, true, false}
use native.Mathlib.Omega.{arith}
use lib.Dec.{eqb}
use borrow.Author.Tests.{ne_eqb}
use Rattle.layout.specs.Bytes.{Bytes}
use Rattle.layout.specs.Parser.{Res, refuse, ok, next, choose, Parser, byte, u16}
use Rattle.layout.specs.Tree.{LeafType, leaf}
use Rattle.layout.specs.code.Answers.{step_res, short_res, leaf_at, SpanIn, moved_of}
use Rattle.layout.specs.declared.cursor.Cursor.{Cursor}
use Rattle.layout.specs.declared.cursor.Step.{Step}
use Rattle.layout.specs.declared.cursor.Short.{Short}
use Rattle.layout.specs.declared.cursor.Moved.{Moved}
use Rattle.layout.specs.declared.leaf.Leaf.{Leaf}
use Rattle.layout.specs.declared.types.LeafType.{LeafType as LeafSpan}
use Rattle.layout.proofs.Ways.{clash, moved_to, moved_refused}
use Rattle.layout.proofs.View.{next-ok}
use Rattle.values.specs.Value.{Value, vnull, vnumber, vtext, Values, vnil, vcons, count_values, is_null_value}
use Rattle.values.specs.Content.{content_of}
use Rattle.values.specs.Reading.{presence, nullable, little, content_by, leaf_content, content, value, times}
use Rattle.values.specs.code.Answers.{presence_res}
use Rattle.values.specs.code.Stands.{ValueAt, EachAt}
use Rattle.values.specs.declared.content.Content.{Content}
use Rattle.values.specs.declared.content.Content.TheVariants.{Nothing, Flag, Number, Decimal, Text}
use Rattle.values.specs.declared.leaf.Presence.{Presence}
use Rattle.defaults.specs.Table.{initial, partition, failed, default_type, initial_entry, loaded_entry, partition_entry, given_of}
use Rattle.defaults.specs.Lookup.{Taken, nothing, taken, unless_null, of_source, given_to}
use Rattle.defaults.specs.code.Answers.{leaf_res, IsLeafIn}
use Rattle.defaults.specs.code.Stands.{GivenAt, LoadedAt, Answers}
use Rattle.defaults.specs.declared.lookup.DefaultValue.{DefaultValue}
use Rattle.defaults.specs.declared.types.LeafRead.{LeafRead}
use Rattle.defaults.specs.declared.read.EntryKind.TheVariants.{Initial, Partition}
use Rattle.defaults.proofs.Ways.{leaf_content_lem}

-- the answer for what is taken, under another name
pub answers_as : (s : Bytes) (r : DefaultValue) {x y : Taken} → x ≡ y → Answers s y r → Answers s x r
answers_as s r e h = subst (λ (z : Taken). Answers s z r) (sym e) h

-- ---- a value, unless it is null

-- what follows a presence byte of 1 is not null
content-present : (c : Content) (k : Leaf) (s : Bytes) (at : ℕ) {v : Value} {m : ℕ} → content_by c k s at ≡ ok v m → is_null_value v ≡ false
unfolding content_by
content-present Nothing k s at e = clash (cc)
content-present Flag k s at {v} e = let (b, i, a, h) = next-ok _ _ e in let z : v ≡ vnumber k b = cc in ap is_null_value z
content-present (Number w) k s at {v} e = let (b, i, a, h) = next-ok _ _ e in let z : v ≡ vnumber k (little b) = cc in ap is_null_value z
content-present (Decimal p) k s at {v} e = let (n, i, a, h) = next-ok _ _ e in let z : v ≡ vnumber k n = cc in ap is_null_value z
content-present Text k s at {v} e = let (b, i, a, h) = next-ok _ _ e in let z : v ≡ vtext b = cc in ap is_null_value z

pub unless_present : (l : LeafType) (v : Value) → is_null_value v ≡ false → unless_null l v ≡ taken l v
unfolding unless_null choose
unless_present l v h = rw h

module _ (s : Bytes) (l : LeafSpan) (c : Cursor) {p : Presence} (e : presence_res p ≡ presence s c.at) where
  pub null-taken : {d : Cursor} → p ≡ Presence.Null d → (P : ValueAt (leaf (leaf_at s l)) s c.at) → Answers s (unless_null (leaf_at s l) P.tree)
      DefaultValue.Nothing
  unfolding value nullable next choose unless_null
  null-taken {d} f P =
      let h : ok vnull d.at ≡ ok P.tree P.end = rw (← e, f) at P.reads in
      let z : P.tree ≡ vnull = cc in
      answers_as s DefaultValue.Nothing (ap (unless_null (leaf_at s l)) z) refl

  pub never_taken : {B : Type 0} {k : ℕ} → p ≡ Presence.Refused k → ValueAt (leaf (leaf_at s l)) s c.at → B
  unfolding value nullable next
  never_taken {k = k} f P = let h : refuse k ≡ ok P.tree P.end = rw (← e, f) at P.reads in clash (cc)

  pub present-taken : {d : Cursor} → p ≡ Presence.Present d → SpanIn s l.zone → (P : ValueAt (leaf (leaf_at s l)) s c.at) → Answers s
      (unless_null (leaf_at s l) P.tree) (DefaultValue.At l c)
  unfolding value nullable next choose leaf_content
  present-taken {d} f inside P =
      let h : content (leaf (leaf_at s l)) s d.at ≡ ok P.tree P.end = rw (← e, f) at P.reads in
      let z = content-present (content_of l.leaf) l.leaf s d.at (sym (leaf_content_lem s l d.at) ∙ h) in
      answers_as s (DefaultValue.At l c) (unless_present (leaf_at s l) P.tree z)
      (record { span = l; start = c; end = P.end; is = refl; type = refl; inside = inside; reads = P.reads })

-- ---- of the values of a partition that of a source

times-count : (n : ℕ) (p : Parser Value) (s : Bytes) (at : ℕ) {vs : Values} {m : ℕ} → times n p s at ≡ ok vs m → count_values vs ≡ n
unfolding times count_values
times-count zero p s at {vs} h = let e : vs ≡ vnil = cc in rw e
times-count (suc n) p s at {vs} h =
    let (v, i, a, b) = next-ok _ _ h in
    let (us, j, a₁, b₁) = next-ok _ _ b in
    let e : vs ≡ vcons v us = cc in
    ap count_values e ∙ ap suc (times-count n p s i a₁)

source_past : (l : LeafType) (vs : Values) (k : ℕ) → count_values vs ≤ k → of_source l vs k ≡ nothing
unfolding of_source count_values
source_past l vnil k h = refl
source_past l (vcons v vs) zero h = absurd (omega arith)
source_past l (vcons v vs) (suc k) h = source_past l vs k (omega arith)

-- the value of the source k, and those before it
pub record SourceAt (p : Parser Value) (s : Bytes) (at : ℕ) (vs : Values) (k : ℕ) : Type 0 where
  pub before : Values
  pub start : ℕ
  pub passed : times k p s at ≡ ok before start
  pub tree : Value
  pub end : ℕ
  pub reads : p s start ≡ ok tree end
  pub is : (l : LeafType) → of_source l vs k ≡ unless_null l tree

times-suc : (n : ℕ) (p : Parser Value) (s : Bytes) (at : ℕ) {v : Value} {vs : Values} {i m : ℕ} → p s at ≡ ok v i → times n p s i ≡ ok vs m → times
    (suc n) p s at ≡ ok (vcons v vs) m
unfolding times next
times-suc n p s at a b = rw (a, b)

source_at : (k n : ℕ) (p : Parser Value) (s : Bytes) (at : ℕ) {vs : Values} {m : ℕ} → k < n → times n p s at ≡ ok vs m → SourceAt p s at vs k
unfolding times of_source
source_at k zero p s at lt h = absurd (omega arith)
source_at zero (suc n) p s at {vs} lt h =
    let (v, i, a, b) = next-ok _ _ h in
    let (us, j, a₁, b₁) = next-ok _ _ b in
    let e : vs ≡ vcons v us = cc in
    record { before = vnil; start = at; passed = refl; tree = v; end = i; reads = a; is = λ l. ap (λ (xs : Values). of_source l xs 0) e }
source_at (suc k) (suc n) p s at {vs} lt h =
    let (v, i, a, b) = next-ok _ _ h in
    let (us, j, a₁, b₁) = next-ok _ _ b in
    let e : vs ≡ vcons v us = cc in
    let S = source_at k n p s i {vs = us} {m = j} (omega arith) a₁ in
    record {
      before = vcons v S.before;
      start = S.start;
      passed = times-suc k p s at a S.passed;
      tree = S.tree;
      end = S.end;
      reads = S.reads;
      is = λ l. ap (λ (xs : Values). of_source l xs (suc k)) e ∙ S.is l;
    }

module _ {s : Bytes} (l : LeafSpan) {n at : ℕ} (k : ℕ) (P : EachAt (leaf (leaf_at s l)) n s at) where
  pub source_none : n ≤ k → Answers s (of_source (leaf_at s l) P.values k) DefaultValue.Nothing
  source_none h =
      let z = times-count n (value (leaf (leaf_at s l))) s at P.reads in
      answers_as s DefaultValue.Nothing (source_past (leaf_at s l) P.values k (omega arith)) refl

  module _ (lt : k < n) {r : Moved} (e : r ≡ moved_of (times k (value (leaf (leaf_at s l))) s at)) where
    S : SourceAt (value (leaf (leaf_at s l))) s at P.values k
    S = source_at k n (value (leaf (leaf_at s l))) s at lt P.reads

    pub source_stuck : {B : Type 0} {o : ℕ} → r ≡ Moved.Refused o → B
    source_stuck {o = o} f = let z : refuse o ≡ ok S.before S.start = sym (moved_refused (times k (value (leaf (leaf_at s l))) s at) e f) ∙
        S.passed in clash (cc)

    module _ {d : Cursor} (f : r ≡ Moved.To d) where
      starts : S.start ≡ d.at
      starts =
          let t = moved_to (times k (value (leaf (leaf_at s l))) s at) e f in
          let z : ok t.0 d.at ≡ ok S.before S.start = sym t.1 ∙ S.passed in
          cc

      pub source-value : ValueAt (leaf (leaf_at s l)) s d.at
      source-value = record { tree = S.tree; end = S.end; reads = ap (λ (o : ℕ). value (leaf (leaf_at s l)) s o) (sym starts) ∙ S.reads }

      pub source_taken : (x : DefaultValue) → ((W : ValueAt (leaf (leaf_at s l)) s d.at) → Answers s (unless_null (leaf_at s l) W.tree) x)
          → Answers s (of_source (leaf_at s l) P.values k) x
      unfolding source-value
      source_taken x g = answers_as s x (S.is (leaf_at s l)) (g source-value)

-- ---- what an entry gives, by its leaf type

pub zone_in : (s : Bytes) {q : LeafRead} {l : LeafSpan} {d : Cursor} → IsLeafIn s q → q ≡ LeafRead.Is l d → SpanIn s l.zone
zone_in s h e = rw e at h

type_got : (s : Bytes) {x : Res LeafType} {q : LeafRead} {l : LeafSpan} {d : Cursor} → leaf_res s q ≡ x → q ≡ LeafRead.Is l d → x ≡ ok (leaf_at s l) d.at
type_got s e f = sym e ∙ ap (leaf_res s) f

type-none : (s : Bytes) {x : Res LeafType} {q : LeafRead} {k : ℕ} → leaf_res s q ≡ x → q ≡ LeafRead.Refused k → x ≡ refuse k
type-none s e f = sym e ∙ ap (leaf_res s) f

module _ {s : Bytes} {at : ℕ} (P : GivenAt Initial s at) where
  initial-reads : initial_entry s at ≡ ok P.given P.end
  unfolding given_of
  initial-reads = P.reads

  module _ {q : LeafRead} (e : leaf_res s q ≡ default_type s at) where
    pub initial_never : {B : Type 0} {k : ℕ} → q ≡ LeafRead.Refused k → B
    unfolding initial_entry next
    initial_never {k = k} f = let h : refuse k ≡ ok P.given P.end = rw (type-none s e f) at initial-reads in clash (cc)

    module _ {l : LeafSpan} {d : Cursor} (f : q ≡ LeafRead.Is l d) where
      pub initial-value : ValueAt (leaf (leaf_at s l)) s d.at
      unfolding initial_entry next
      initial-value =
          let h : next (value (leaf (leaf_at s l)) s d.at) (λ v m. ok (initial (leaf_at s l) v) m) ≡ ok P.given P.end = rw (type_got s e f) at
          initial-reads in
          let (v, m, a, b) = next-ok _ _ h in
          record { tree = v; end = m; reads = a }

      initial-is : P.given ≡ initial (leaf_at s l) initial-value.tree
      unfolding initial_entry next
      initial-is =
          let h : next (value (leaf (leaf_at s l)) s d.at) (λ v m. ok (initial (leaf_at s l) v) m) ≡ ok P.given P.end = rw (type_got s e f) at
          initial-reads in
          let h₁ : ok (initial (leaf_at s l) initial-value.tree) initial-value.end ≡ ok P.given P.end = rw initial-value.reads at h in
          cc

      pub initial-taken : (k : ℕ) (x : DefaultValue) → ((W : ValueAt (leaf (leaf_at s l)) s d.at) → Answers s (unless_null (leaf_at s l) W.tree) x) →
          Answers s (given_to k P.given) x
      unfolding given_to
      initial-taken k x g = answers_as s x (ap (given_to k) initial-is) (g initial-value)

module _ {s : Bytes} {at : ℕ} (P : LoadedAt s at) {q : LeafRead} (e : leaf_res s q ≡ default_type s at) where
  pub loaded_never : {B : Type 0} {k : ℕ} → q ≡ LeafRead.Refused k → B
  unfolding loaded_entry next
  loaded_never {k = k} f = let h : refuse k ≡ ok P.given P.end = rw (type-none s e f) at P.reads in clash (cc)

  module _ {l : LeafSpan} {d : Cursor} (f : q ≡ LeafRead.Is l d) where
    counted : next (u16 s d.at) (λ n m. next (times n (value (leaf (leaf_at s l))) s m) (λ vs m. ok (partition (leaf_at s l) vs) m)) ≡ ok P.given P.end
    unfolding loaded_entry next
    counted = rw (type_got s e f) at P.reads

    module _ {o : Short} (g : short_res o ≡ u16 s d.at) where
      pub loaded-uncounted : {B : Type 0} {k : ℕ} → o ≡ Short.Refused k → B
      unfolding next
      loaded-uncounted {k = k} h = let z : refuse k ≡ ok P.given P.end = rw (← g, h) at counted in clash (cc)

      module _ {n : ℕ} {c : Cursor} (h : o ≡ Short.Is n c) where
        timed : next (times n (value (leaf (leaf_at s l))) s c.at) (λ vs m. ok (partition (leaf_at s l) vs) m) ≡ ok P.given P.end
        unfolding next
        timed = rw (← g, h) at counted

        pub loaded-values : EachAt (leaf (leaf_at s l)) n s c.at
        loaded-values = let (vs, m, a, b) = next-ok _ _ timed in record { values = vs; end = m; reads = a }

        loaded-is : P.given ≡ partition (leaf_at s l) loaded-values.values
        unfolding next
        loaded-is =
            let z : ok (partition (leaf_at s l) loaded-values.values) loaded-values.end ≡ ok P.given P.end = rw loaded-values.reads at timed in
            cc

        pub loaded-taken : (k : ℕ) (x : DefaultValue) → ((E : EachAt (leaf (leaf_at s l)) n s c.at) → Answers s (of_source (leaf_at s l) E.values k)
            x) → Answers s (given_to k P.given) x
        unfolding given_to
        loaded-taken k x i = answers_as s x (ap (given_to k) loaded-is) (i loaded-values)

-- ---- a partition, by its load byte

module _ {s : Bytes} {at : ℕ} (P : GivenAt Partition s at) where
  partition-reads : partition_entry s at ≡ ok P.given P.end
  unfolding given_of
  partition-reads = P.reads

  module _ {p : Step} (e : step_res p ≡ byte s at) where
    pub load_never : {B : Type 0} {k : ℕ} → p ≡ Step.Refused k → B
    unfolding partition_entry next
    load_never {k = k} f = let h : refuse k ≡ ok P.given P.end = rw (← e, f) at partition-reads in clash (cc)

    module _ {b : ℕ} {c : Cursor} (f : p ≡ Step.Byte b c) where
      loads : choose (eqb b 0) (loaded_entry s c.at) (choose (eqb b 1) (ok failed c.at) (refuse 3)) ≡ ok P.given P.end
      unfolding partition_entry next
      loads = rw (← e, f) at partition-reads

      pub load-loaded : b ≡ 0 → LoadedAt s c.at
      unfolding choose
      load-loaded h = record { given = P.given; end = P.end; reads = rw h at loads }

      pub load-taken : (k : ℕ) (x : DefaultValue) → b ≡ 0 → ((L : LoadedAt s c.at) → Answers s (given_to k L.given) x) → Answers s (given_to k P.given) x
      unfolding load-loaded
      load-taken k x h g = g (load-loaded h)

      pub load_failed : (k : ℕ) → (b ≡ 0 → ⊥) → Answers s (given_to k P.given) DefaultValue.Failed
      unfolding choose given_to
      load_failed k h = go (eqb b 1) (rw (ne_eqb b 0 h) at loads)
        where
          go : (t : Bool) → choose t (ok failed c.at) (refuse 3) ≡ ok P.given P.end → Answers s (given_to k P.given) DefaultValue.Failed
          go true q = let z : P.given ≡ failed = cc in answers_as s DefaultValue.Failed (ap (given_to k) z) (refl, refl)
          go false q = clash (cc)
