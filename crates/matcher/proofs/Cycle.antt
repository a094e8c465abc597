-- The ways out of the matchers' functions, over variable answers. Assumes nothing.
use Prim.Native.Nat.{ℕ, ◌+◌, ◌*◌, ◌≤◌, ◌<◌}
use mathlib.Core.Path.{◌≡◌, refl, sym, ap, ◌∙◌, subst}
use mathlib.Core.Bool.{Bool, true, false, not, ◌&&◌, ◌||◌}
use mathlib.Core.List.{[], ◌∷◌}
use native.Mathlib.Omega.{arith}
use lib.ListN.{length, set}
use lib.Dec.{eqb}
use Rattle.store.specs.code.Overlay.{overlay, Agree}
use Rattle.store.proofs.Holds.{holds_exact, holds-before, agree_less}
use Rattle.layout.specs.Bytes.{Bytes}
use Rattle.layout.specs.Parser.{choose}
use Rattle.layout.specs.Tree.{Label, ColumnType, cleaf, cstruct, clist, carray, Columns, count_columns}
use Rattle.layout.specs.code.Stands.{ColumnsAt}
use Rattle.layout.specs.Find.{Lookup, absent, present}
use Rattle.layout.specs.declared.columns.Position.{Position}
use Rattle.layout.specs.declared.columns.Siblings.TheVariants.{Free}
use Rattle.layout.specs.declared.edition.Edition.{Edition}
use Rattle.layout.specs.declared.matching.Matching.{Matching}
use Rattle.layout.proofs.Ways.{clash}
use Rattle.layout.proofs.Top.{columns-count}
use Rattle.layout.specs.Layout.{type}
use Rattle.forms.specs.Form.{u16_bytes, text_bytes}
use Rattle.forms.proofs.Read.{type→, columns→}
use Rattle.forms.proofs.ReadBack.{columns_extent}
use Rattle.rules.specs.declared.policy.Policy.{Policy}
use Rattle.defaults.specs.declared.read.TableVersion.TheVariants.{Shared}
use Rattle.defaults.specs.Table.{entries_of, entries}
use Rattle.defaults.specs.Lookup.{nothing, first_entry_of, get_default_value}
use Rattle.defaults.specs.code.Stands.{TableAt}
use Rattle.plan.specs.Result.{Result, gives, refuses, ◌>>=◌, demand}
use Rattle.plan.specs.Selector.{Selector, position, rename, Selectors}
use Rattle.plan.specs.Encode.{encode_selector, encode_selectors}
use Rattle.matching.specs.Default.{Defaults, no_defaults}
use Rattle.matching.specs.Build.{leaf_part, struct_part, Element, list_part, array_part, is_by_name, is_null_type, unless_null_type, renamed, same_element, distinct}
use Rattle.matching.specs.Build.{no_extra_of, ignores, keeps_required, missing, in_place_of, struct_selector, list_selector, array_selector, first, sought}
use Rattle.matching.specs.Build.{attach_transforms, attach_fields}
use Rattle.builder.specs.code.Answers.{row_of, is_refused, is_bare, len_of, refused_row, Wrote, WroteRow, Makes, MakesRow, Maps, Inner, no_element, list_element}
use Rattle.builder.specs.code.Answers.{array_element, element_of, needs_rename, fault_of, null_cast, attach_renamed, attach_struct, attach_element, attach_inner}
use Rattle.builder.specs.code.Answers.{attach_nested}
use Rattle.builder.specs.declared.answer.Made.{Made}
use Rattle.builder.specs.declared.answer.Made.TheVariants.{Bare, Built}
use Rattle.builder.specs.declared.answer.Row.{Row}
use Rattle.builder.specs.declared.answer.Row.TheVariants.{Failed, Done}
use Rattle.builder.proofs.Matching.{makes_as}
use Rattle.builder.proofs.Names.{not-true, not-false}
use Rattle.builder.proofs.Whole.{renamed-is}
use Rattle.builder.proofs.Rows.{makes-stopped, mapped-bare, mapped, renamed-around, count-is, struct-stopped, struct-bare, struct-mapped}

-- ---- results

bind_gives : {A : Type 0} (X : Result A) → (X >>= λ a. gives a) ≡ X
unfolding ◌>>=◌
bind_gives (gives a) = refl
bind_gives (refuses n) = refl

bind_bind : {A : Type 0} (X : Result A) (f g : A → A) → (X >>= λ a. gives (g (f a))) ≡ ((X >>= λ a. gives (f a)) >>= λ a. gives (g a))
unfolding ◌>>=◌
bind_bind (gives a) f g = refl
bind_bind (refuses n) f g = refl

bind_each : {A B : Type 0} (X : Result A) (f g : A → Result B) → ((a : A) → f a ≡ g a) → (X >>= f) ≡ (X >>= g)
unfolding ◌>>=◌
bind_each (gives a) f g h = h a
bind_each (refuses n) f g h = refl

-- the same for target bytes that begin earlier
pub makes-from : {b b' e : ℕ} (out : Bytes) (k : ℕ) (r : Made) (o : Bytes) (X : Result Selector) → b' ≤ b → Makes b e out k X r o → Makes b' e out k X r o
unfolding Wrote
makes-from out k r o (refuses n) h m = record { answer = m.answer; wrote = tt }
makes-from out k r o (gives s) h m = let w = m.wrote.1 in record { answer = m.answer; wrote = (m.wrote.0, omega arith) }

-- the same up to another name of the end
pub makes-to : {b e e' : ℕ} (out : Bytes) (k : ℕ) (r : Made) (o : Bytes) {X Y : Result Selector} → e ≡ e' → Y ≡ X → Makes b e out k X r o → Makes b e'
    out k Y r o
makes-to {b} out k r o {X} h g m = makes_as b _ r out k o g (subst (λ (i : ℕ). Makes b i out k X r o) h m)

-- ---- a target that is no leaf

demand_bind : {A : Type 0} (c : Bool) (n : ℕ) (X : Result A) (f g : A → A)
    → demand c n (X >>= λ a. gives (g (f a))) ≡ (demand c n (X >>= λ a. gives (f a)) >>= λ a. gives (g a))
unfolding demand ◌>>=◌
demand_bind true n X f g = bind_bind X f g
demand_bind false n X f g = refl

inner-is : (v : Matching) (p : Policy) (f : Selector → Selector) (l : Label) (u : ColumnType) (x : Element)
    → demand (same_element v x.label l) 25
    (demand (keeps_required x.label x.type l) 55 (attach_transforms v p no_defaults u first x.type >>= λ s. gives (f (renamed v l x.label s))))
    ≡ attach_element v p f l u x.label x.type
inner-is v p f l u x =
    ap (demand (same_element v x.label l) 25)
    (demand_bind (keeps_required x.label x.type l) 55 (attach_transforms v p no_defaults u first x.type) (renamed v l x.label) f)

pub nested_is : (v : Matching) (p : Policy) (d : Defaults) (u : ColumnType) (k : Position) (t : ColumnType) → leaf_part u ≡ refuses 24
    → attach_transforms v p d u k t ≡ unless_null_type v p k u t (attach_nested v p d u k t)
unfolding attach_transforms leaf_part attach_nested
nested_is v p d (cleaf l) k t h = clash (cc)
nested_is v p d (cstruct gs) k t h = refl
nested_is v p d (clist l u) k t h = ap (unless_null_type v p k (clist l u) t) (bind_each (list_part t) _ _ (inner-is v p (list_selector k) l u))
nested_is v p d (carray w l u) k t h = ap (unless_null_type v p k (carray w l u) t) (bind_each (array_part w t) _ _ (inner-is v p (array_selector k) l u))

module _ (v : Matching) (p : Policy) (k : Position) (u t : ColumnType) (X : Result Selector) {b : Bool} (e : b ≡ (is_by_name v && is_null_type t)) where
  pub nested_null : b ≡ true → unless_null_type v p k u t X ≡ null_cast p k u
  unfolding unless_null_type choose
  nested_null h = ap (λ (c : Bool). choose c (null_cast p k u) X) (sym e ∙ h)

  pub nested_other : b ≡ false → unless_null_type v p k u t X ≡ X
  unfolding unless_null_type choose
  nested_other h = ap (λ (c : Bool). choose c (null_cast p k u) X) (sym e ∙ h)

module _ (v : Matching) (p : Policy) (d : Defaults) (k : Position) (t : ColumnType) where
  pub nested_struct : (u : ColumnType) {gs : Columns} → struct_part u ≡ gives gs → attach_nested v p d u k t ≡ attach_struct v p d gs k t
  unfolding struct_part attach_nested
  nested_struct (cleaf l) h = clash (cc)
  nested_struct (cstruct cs) {gs} h = let z : cs ≡ gs = cc in ap (λ (x : Columns). attach_struct v p d x k t) z
  nested_struct (clist l u) h = clash (cc)
  nested_struct (carray w l u) h = clash (cc)

  pub nested_inner : (u : ColumnType) → struct_part u ≡ refuses 24 → attach_nested v p d u k t ≡ attach_inner v p (element_of u) k t
  unfolding struct_part attach_nested element_of
  nested_inner (cleaf l) h = refl
  nested_inner (cstruct cs) h = clash (cc)
  nested_inner (clist l u) h = refl
  nested_inner (carray w l u) h = refl

-- ---- a struct

faulted : {A : Type 0} (a b c : Bool) (X : Result A) {n : ℕ} → n ≡ choose a (choose b (choose c 0 13) 12) 12 → (n ≡ 0 → ⊥) → demand a 12
    (demand b 12 (demand c 13 X)) ≡ refuses n
unfolding demand choose
faulted true true true X h z = elim (z h) [ ]
faulted true true false X h z = ap refuses (sym h)
faulted true false c X h z = ap refuses (sym h)
faulted false b c X h z = ap refuses (sym h)

faultless : {A : Type 0} (a b c : Bool) (X : Result A) {n : ℕ} → n ≡ choose a (choose b (choose c 0 13) 12) 12 → n ≡ 0 → demand a 12
    (demand b 12 (demand c 13 X)) ≡ X
unfolding demand choose
faultless true true true X h z = refl
faultless true true false X h z = let y : ◌≡◌ {A = ℕ} 13 0 = sym h ∙ z in clash (cc)
faultless true false c X h z = let y : ◌≡◌ {A = ℕ} 12 0 = sym h ∙ z in clash (cc)
faultless false b c X h z = let y : ◌≡◌ {A = ℕ} 12 0 = sym h ∙ z in clash (cc)

-- its fields, once the tests have passed
abbrev pub struct_fields : Matching → Policy → Defaults → Columns → Columns → Position → Result Selector
struct_fields v p d gs fs k = attach_fields v p d gs fs >>= λ ss. gives (struct_selector k fs ss)

module _ (v : Matching) (p : Policy) (d : Defaults) (gs : Columns) (k : Position) (t : ColumnType) where
  pub struct-other : struct_part t ≡ refuses 24 → attach_struct v p d gs k t ≡ refuses 24
  unfolding ◌>>=◌
  struct-other h = rw h

  module _ (fs : Columns) {n : ℕ} (h : struct_part t ≡ gives fs) (e : n ≡ fault_of p v gs fs) where
    pub struct_faulted : (n ≡ 0 → ⊥) → attach_struct v p d gs k t ≡ refuses n
    unfolding ◌>>=◌
    struct_faulted z = rw h (faulted (distinct v gs) (distinct v fs) (ignores p.extra_struct_fields || no_extra_of v fs gs) (struct_fields v p d gs fs k) e z)

    pub struct_faultless : n ≡ 0 → attach_struct v p d gs k t ≡ struct_fields v p d gs fs k
    unfolding ◌>>=◌
    struct_faultless z = rw h (faultless (distinct v gs) (distinct v fs) (ignores p.extra_struct_fields || no_extra_of v fs gs)
        (struct_fields v p d gs fs k) e z)

-- as many columns as were read
pub count_at : {v : Edition} {d : ℕ} {s : Bytes} {n at : ℕ} (P : ColumnsAt v d s n at) → count_columns P.columns ≡ n
count_at {v} {d} {s} {n} {at} P = columns-count v Free (type v Free d) n [] s at P.columns P.end P.reads

-- where columns end
pub columns_within : {v : Edition} {d : ℕ} {s : Bytes} {n at : ℕ} (P : ColumnsAt v d s n at) → at ≤ length s → (at ≤ P.end) × (P.end ≤ length s)
columns_within {v} {d} {s} {n} {at} P h = let (E, c) = columns_extent (columns→ v Free s d (λ at t e h. type→ v Free s d at h) n [] at P.reads) h in
    (E.from, E.to)

-- what stood before a mapping stands there still
front : (out : Bytes) (k : ℕ) (xs ys : Bytes) (o₁ : Bytes) {o₂ : Bytes} → o₁ ≡ overlay out k xs → o₂ ≡ overlay o₁ (k + 4) ys → Agree k o₂ out
front out k xs ys o₁ {o₂} h g = agree_less k (k + 4) o₂ o₁ out (omega arith) (holds-before o₁ (k + 4) ys o₂ (holds_exact o₁ (k + 4) ys g))
    (holds-before out k xs o₁ (holds_exact out k xs h))

module _ (v : Matching) (p : Policy) (d : Defaults) (gs : Columns) (k : Position) (t : ColumnType) (fs : Columns) {i : ℕ} (h : struct_part t ≡ gives fs)
    (z : i ≡ fault_of p v gs fs) (y : i ≡ 0)
    {b e : ℕ} (out : Bytes) (to b₀ : ℕ) where
  pub struct_stops : (o₁ o₂ : Bytes) {j n : ℕ} {r : Row} {w : Made} → w ≡ refused_row r → MakesRow b e o₁ j (attach_fields v p d gs fs) r o₂ → r ≡ Failed
      n → Makes b₀ e out to (attach_struct v p d gs k t) w o₂
  struct_stops o₁ o₂ {w = w} g A q =
      subst (λ (x : Made). Makes b₀ e out to (attach_struct v p d gs k t) x o₂) (sym g)
      (makes_as b₀ e _ out to o₂ (struct_faultless v p d gs k t fs h z y) (struct-stopped k fs out to (attach_fields v p d gs fs) b₀ o₁ o₂ A q))

  module _ {n m : ℕ} (cf : count_columns fs ≡ n) (cg : count_columns gs ≡ m) {same : Bool} {len : ℕ} {r : Row} (q : r ≡ Done same len) (o₁ o₂ o₃ : Bytes)
      (h₁ : o₁ ≡ overlay out to (4 ∷ encode_selector (position k))) (h₂ : o₂ ≡ overlay o₁ (to + 4) (u16_bytes m))
      (A : MakesRow b e o₂ (to + 6) (attach_fields v p d gs fs) r o₃) {c : Bool} (u : c ≡ (eqb n m && same)) where
    pub struct-left_out : {o₄ : Bytes} → c ≡ true → length o₃ ≡ length out → o₄ ≡ overlay o₃ to (encode_selector (position k)) → b₀ < e → Makes b₀ e out
        to (attach_struct v p d gs k t) (Bare k) o₄
    struct-left_out {o₄} f l g lt =
        makes_as b₀ e _ out to o₄ (struct_faultless v p d gs k t fs h z y)
        (struct-bare k fs out to cf q (attach_fields v p d gs fs) b₀ (to + 6) o₂ o₃ (λ ss a. count-is v p d gs fs ss a ∙ cg) A (sym u ∙ f) l
        (front out to _ _ o₁ h₁ h₂) (omega arith) g lt)

    pub struct-kept : c ≡ false → length o₂ ≡ length out → b₀ < b → Makes b₀ e out to (attach_struct v p d gs k t) (Built (6 + len)) o₃
    struct-kept f l lt =
        makes_as b₀ e _ out to o₃ (struct_faultless v p d gs k t fs h z y)
        (struct-mapped k fs out to cf q (attach_fields v p d gs fs) b₀ o₁ o₂ o₃ (λ ss a. count-is v p d gs fs ss a ∙ cg) A (sym u ∙ f) l h₁ h₂ lt)

-- an index behind the fields stays in its bounds
pub row_room : (X : Result Selectors) {b e : ℕ} {out : Bytes} {k : ℕ} {r : Row} {o : Bytes} {same : Bool} {len : ℕ} → MakesRow b e out k X r o → r ≡
    Done same len → len + 65536 * b ≤ 65536 * e
unfolding row_of WroteRow
row_room (refuses n) {same = same} {len} A q = let z : Failed n ≡ Done same len = sym A.answer ∙ q in clash (cc)
row_room (gives ss) {same = same} {len} A q =
    let z : Done (in_place_of 0 ss) (length (encode_selectors ss)) ≡ Done same len = sym A.answer ∙ q in
    let y : length (encode_selectors ss) ≡ len = cc in
    let w = A.wrote.1 in
    omega arith

-- ---- 55 and a rename

module _ (v : Matching) (p : Policy) (d : Defaults) (l : Label) (u : ColumnType) (k : Position) (m : Label) (t : ColumnType) {c : Bool}
    (q : c ≡ keeps_required m t l) where
  pub required_unkept : not c ≡ true → attach_renamed v p d l u k m t ≡ refuses 55
  unfolding demand
  required_unkept h = ap (λ (x : Bool). demand x 55 (attach_transforms v p d u k t >>= λ s. gives (renamed v l m s))) (sym q ∙ not-true c h)

  required-kept : not c ≡ false → attach_renamed v p d l u k m t ≡ (attach_transforms v p d u k t >>= λ s. gives (renamed v l m s))
  unfolding demand
  required-kept h = ap (λ (x : Bool). demand x 55 (attach_transforms v p d u k t >>= λ s. gives (renamed v l m s))) (sym q ∙ not-false c h)

  module _ (j : not c ≡ false) {b : Bool} (e : b ≡ needs_rename v l m) where
    rename-none : not b ≡ true → attach_renamed v p d l u k m t ≡ attach_transforms v p d u k t
    unfolding choose
    rename-none h =
        required-kept j
        ∙ bind_each (attach_transforms v p d u k t) _ _ (λ s. ap gives (renamed-is v l m s ∙ ap (λ (c : Bool). choose c (rename s l.name) s)
        (sym e ∙ not-true b h)))
        ∙ bind_gives (attach_transforms v p d u k t)

    rename-some : not b ≡ false → attach_renamed v p d l u k m t ≡ (attach_transforms v p d u k t >>= λ s. gives (rename s l.name))
    unfolding choose
    rename-some h =
        required-kept j
        ∙ bind_each (attach_transforms v p d u k t) _ _ (λ s. ap gives (renamed-is v l m s ∙ ap (λ (c : Bool). choose c (rename s l.name) s)
        (sym e ∙ not-false b h)))

pub rename_on : (v : Matching) (l m : Label) {b : Bool} → b ≡ needs_rename v l m → not b ≡ false → needs_rename v l m ≡ true
rename_on v l m {b} e h = sym e ∙ not-false b h

module _ (v : Matching) (p : Policy) (d : Defaults) (l : Label) (u : ColumnType) (k : Position) (m : Label) (t : ColumnType)
    {c : Bool} (q : c ≡ keeps_required m t l) (j : not c ≡ false) {b : Bool} (z : b ≡ needs_rename v l m) {at e : ℕ} (out : Bytes) (to from : ℕ) where
  pub renamed-plain : {r : Made} {o : Bytes} → not b ≡ true → from ≤ at → Makes at e out to (attach_transforms v p d u k t) r o → Makes from e out to
      (attach_renamed v p d l u k m t) r o
  renamed-plain {r} {o} h le A = makes_as from e r out to o (rename-none v p d l u k m t q j z h) (makes-from out to r o (attach_transforms v p d u k t) le A)

  pub renamed-stopped : {r : Made} {o₁ o₂ : Bytes} {i : ℕ} → Makes at e o₁ i (attach_transforms v p d u k t) r o₂ → is_refused r ≡ true → Makes from e out
      to (attach_renamed v p d l u k m t) r o₂
  renamed-stopped {r} {o₁} {o₂} A h =
      makes_as from e r out to o₂ (required-kept v p d l u k m t q j)
      (makes-stopped (attach_transforms v p d u k t) (λ s. gives (renamed v l m s)) from e out to o₂ A h)

  pub renamed-made : {r : Made} (o₁ o₂ : Bytes) {o₃ : Bytes} {len n : ℕ} → not b ≡ false → length o₁ ≡ length out → length o₂ ≡ length out → o₁ ≡ set out to 3
      → Makes at e o₁ (to + 1) (attach_transforms v p d u k t) r o₂ → is_refused r ≡ false → len ≡ len_of r → n ≡ length (text_bytes l.name)
      → o₃ ≡ overlay o₂ (to + 1 + len) (text_bytes l.name) → n ≤ 64 → from < at → Makes from e out to (attach_renamed v p d l u k m t) (Built (1 + len + n)) o₃
  renamed-made {r} o₁ o₂ {o₃} {len} {n} h l₁ l₂ g A a y en w short lt =
      makes_as from e _ out to o₃ (rename-some v p d l u k m t q j z h)
      (subst (λ (x : ℕ). Makes from e out to (attach_transforms v p d u k t >>= λ s. gives (rename s l.name)) (Built (1 + x + n)) o₃) (sym y)
      (renamed-around out to (attach_transforms v p d u k t) l.name from o₁ o₂ l₁ l₂ g A a en
      (w ∙ ap (λ (x : ℕ). overlay o₂ (to + 1 + x) (text_bytes l.name)) y) short lt))

-- ---- an element

-- with no entries there are no defaults
pub none-at : (table : Bytes) → TableAt table (record { version = Shared; count = 0; entries = record { at = 0 }; owner = 0; source_index = 0 })
unfolding entries entries_of
none-at table = record { all = []; end = 0; reads = refl; entries = []; owned = refl }

pub none_is : (table : Bytes) (n : ℕ) → get_default_value (none-at table).entries n ≡ no_defaults
unfolding get_default_value first_entry_of none-at
none_is table n = λ i j. nothing

module _ (v : Matching) (p : Policy) (f : Selector → Selector) (l : Label) (u : ColumnType) (m : Label) (t : ColumnType) {b : Bool}
    (e : b ≡ same_element v m l) where
  pub element_unlike : not b ≡ true → attach_element v p f l u m t ≡ refuses 25
  unfolding demand
  element_unlike h = ap (λ (c : Bool). demand c 25 (attach_renamed v p no_defaults l u first m t >>= λ s. gives (f s))) (sym e ∙ not-true b h)

  pub element_alike : not b ≡ false → attach_element v p f l u m t ≡ (attach_renamed v p no_defaults l u first m t >>= λ s. gives (f s))
  unfolding demand
  element_alike h = ap (λ (c : Bool). demand c 25 (attach_renamed v p no_defaults l u first m t >>= λ s. gives (f s))) (sym e ∙ not-false b h)

module _ (v : Matching) (p : Policy) (f g : Selector → Selector) (l : Label) (u : ColumnType) (m : Label) (t : ColumnType) {k : Position} {c : ℕ}
    (M : Maps k c f g) {b : Bool} (z : b ≡ same_element v m l) (h : not b ≡ false)
    {i e : ℕ} (out : Bytes) (to from : ℕ) (o₁ : Bytes) (h₁ : o₁ ≡ overlay out to (c ∷ encode_selector (position k))) {d : Defaults}
    (none : d ≡ no_defaults) {r : Made} (o₂ : Bytes)
    (A : Makes i e o₁ (to + 4) (attach_renamed v p d l u first m t) r o₂) where
  inside : Makes i e o₁ (to + 4) (attach_renamed v p no_defaults l u first m t) r o₂
  inside = subst (λ (x : Defaults). Makes i e o₁ (to + 4) (attach_renamed v p x l u first m t) r o₂) none A

  pub element-stopped : is_refused r ≡ true → Makes from e out to (attach_element v p f l u m t) r o₂
  element-stopped a = makes_as from e r out to o₂ (element_alike v p f l u m t z h)
      (makes-stopped (attach_renamed v p no_defaults l u first m t) (λ s. gives (f s)) from e out to o₂ inside a)

  pub element-left_out : {o₃ : Bytes} → is_refused r ≡ false → is_bare 0 r ≡ true → length o₂ ≡ length out → o₃ ≡ overlay o₂ to
      (encode_selector (position k)) → from < e
      → Makes from e out to (attach_element v p f l u m t) (Bare k) o₃
  element-left_out {o₃} a q l₂ w lt =
      makes_as from e _ out to o₃ (element_alike v p f l u m t z h) (mapped-bare M out to (attach_renamed v p no_defaults l u first m t) from o₁ o₂ l₂ h₁
      inside a q w lt)

  pub element-kept : {len : ℕ} → is_refused r ≡ false → is_bare 0 r ≡ false → length o₁ ≡ length out → len ≡ len_of r → from < i → Makes from e out to
      (attach_element v p f l u m t) (Built (4 + len)) o₂
  element-kept {len} a q l₁ y lt =
      makes_as from e _ out to o₂ (element_alike v p f l u m t z h)
      (subst (λ (x : ℕ). Makes from e out to (attach_renamed v p no_defaults l u first m t >>= λ s. gives (f s)) (Built (4 + x)) o₂) (sym y)
      (mapped M out to (attach_renamed v p no_defaults l u first m t) from o₁ o₂ l₁ h₁ inside a q lt))

-- a list or an array, by the incoming type's element
module _ (v : Matching) (p : Policy) (l : Label) (u : ColumnType) (k : Position) (t : ColumnType) where
  pub inner-list : {X : Inner} {x : Element} → X ≡ list_element l u → list_part t ≡ gives x → attach_inner v p X k t ≡ attach_element v p (list_selector k) l
      u x.label x.type
  unfolding ◌>>=◌
  inner-list h g = rw (h, g)

  pub inner-list-other : {X : Inner} → X ≡ list_element l u → list_part t ≡ refuses 24 → attach_inner v p X k t ≡ refuses 24
  unfolding ◌>>=◌
  inner-list-other h g = rw (h, g)

  pub inner-array : (w : ℕ) {X : Inner} {x : Element} → X ≡ array_element w l u → array_part w t ≡ gives x → attach_inner v p X k t ≡ attach_element v p
      (array_selector k) l u x.label x.type
  unfolding ◌>>=◌
  inner-array w h g = rw (h, g)

  pub inner-array-other : (w : ℕ) {X : Inner} → X ≡ array_element w l u → array_part w t ≡ refuses 24 → attach_inner v p X k t ≡ refuses 24
  unfolding ◌>>=◌
  inner-array-other w h g = rw (h, g)

-- the same under the names of what was taken
pub element_names : (v : Matching) (p : Policy) (f : Selector → Selector) {l l' : Label} {u u' : ColumnType} {m m' : Label} {t t' : ColumnType} → l ≡ l'
    → u ≡ u' → m ≡ m' → t ≡ t'
    → attach_element v p f l u m t ≡ attach_element v p f l' u' m' t'
element_names v p f {l} {l'} {u} {u'} {m} {m'} {t} {t'} a b c d =
    ap (λ (x : Label). attach_element v p f x u m t) a ∙ ap (λ (x : ColumnType). attach_element v p f l' x m t) b ∙ ap
    (λ (x : Label). attach_element v p f l' u' x t) c ∙ ap (λ (x : ColumnType). attach_element v p f l' u' m' x) d

pub inner-none : (v : Matching) (p : Policy) (k : Position) (t : ColumnType) {X : Inner} → X ≡ no_element → attach_inner v p X k t ≡ refuses 24
inner-none v p k t h = rw h

-- ---- a column

module _ (v : Matching) (p : Policy) (d : Defaults) (i : Bool) (n : ℕ) (l : Label) (u : ColumnType) (X : Lookup) where
  pub sought-at : {k : Position} {m : Label} {t : ColumnType} → X ≡ present k m t
      → sought X (missing d i n l u) (λ k m t. attach_renamed v p d l u k m t) ≡ attach_renamed v p d l u k m t
  unfolding sought
  sought-at h = rw h

  pub sought-absent : X ≡ absent → sought X (missing d i n l u) (λ k m t. attach_renamed v p d l u k m t) ≡ missing d i n l u
  unfolding sought
  sought-absent h = rw h
