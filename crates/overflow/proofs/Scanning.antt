-- What the scan of a value answers on each way, and what holds at the head of its loop over elements. Assumes nothing.
use Prim.Native.Nat.{ℕ, ◌+◌, ◌-◌, ◌≤◌, ◌<◌}
use mathlib.Core.Path.{◌≡◌, refl, sym, ap, ◌∙◌}
use mathlib.Core.Bool.{Bool, true, false}
use mathlib.Core.List.{List, [], ◌∷◌}
use native.Mathlib.Omega.{arith}
use native.Mathlib.Numerals.{add-one}
use lib.ListN.{length, get_or}
use lib.Seq.{slice, slice-cons, slice_empty}
use Rattle.layout.specs.Bytes.{Bytes}
use Rattle.layout.specs.Parser.{refuse, ok, u16}
use Rattle.layout.specs.Tree.{ColumnType, dtype_of}
use Rattle.layout.specs.Layout.{deepest}
use Rattle.layout.specs.code.Answers.{short_res, moved_of}
use Rattle.layout.specs.code.Stands.{TypeAt}
use Rattle.layout.specs.declared.cursor.Cursor.{Cursor}
use Rattle.layout.specs.declared.cursor.Moved.{Moved}
use Rattle.layout.specs.declared.cursor.Short.{Short}
use Rattle.layout.specs.declared.edition.Edition.{Edition}
use Rattle.layout.proofs.Ways.{clash, moved_to, moved_refused}
use Rattle.layout.proofs.View.{same_type_lem}
use Rattle.values.specs.Value.{Value, vnull, vstruct, vlist, varray, Values, vnil, vcons}
use Rattle.values.specs.Reading.{times, value}
use Rattle.values.specs.code.Stands.{EachAt}
use Rattle.values.proofs.Inside.{list_in, first-each, no_each}
use Rattle.plan.specs.Run.{value_at}
use Rattle.nodes.specs.code.Raw.{RawAt, ElementsAt, ListOf}
use Rattle.overflow.specs.code.Some.{any_of, some_part, some, is_sought, some_sought}
use Rattle.overflow.specs.declared.want.Want.{Want}
use Rattle.overflow.specs.declared.scan.Sought.{Sought}
use Rattle.overflow.proofs.Clean.{meets-null, some-null}
use Rattle.overflow.proofs.Raw.{LeafValue}

pub path-end : (from len : ℕ) (path : List ℕ) → from ≡ len → slice from len path ≡ []
path-end from len path e = ap (λ (n : ℕ). slice n len path) e ∙ slice_empty len path

pub path_cons : (d len : ℕ) (path : List ℕ) → d < len → len ≤ length path → slice d len path ≡ get_or path d 0 ∷ slice (d + 1) len path
path_cons d len path h k = rw add-one (slice-cons d len path 0 h k)

-- ---- a value, and the path's end

pub null-none : (w : Want) (p : List ℕ) {x : Value} → x ≡ vnull → false ≡ some w p x
null-none w p e = sym (ap (some w p) e ∙ some-null w p)

pub sought-present : (w : Want) (p : List ℕ) (x : Value) → some_sought (Sought.Present w) p x ≡ some w p x
unfolding some some_sought
sought-present w [] x = refl
sought-present w (k ∷ p) x = λ i. some_part k (λ y. sought-present w p y i) x

pub at-end : (q : Sought) {p : List ℕ} {x y : Value} {b : Bool} → p ≡ [] → x ≡ y → b ≡ is_sought q x → b ≡ some_sought q p y
unfolding some_sought
at-end q {x = x} {y = y} e f h = rw (e, ← f) h

pub same-node : (q : Sought) (p : List ℕ) {x y : Value} {b : Bool} → x ≡ y → b ≡ some_sought q p x → b ≡ some_sought q p y
same-node q p e h = h ∙ ap (some_sought q p) e

-- a null, where the path goes on and at its end
module _ (q : Sought) {from len : ℕ} (path : List ℕ) (a : from ≤ len) (b : len ≤ length path) where
  pub null_further : from < len → false ≡ some_sought q (slice from len path) vnull
  unfolding some_sought some_part
  null_further h = sym (ap (λ (p : List ℕ). some_sought q p vnull) (path_cons from len path h b))

  null-here : len ≤ from → is_sought q vnull ≡ some_sought q (slice from len path) vnull
  unfolding some_sought
  null-here h = sym (ap (λ (p : List ℕ). some_sought q p vnull) (path-end from len path (omega arith)))

  pub null-found : len ≤ from → q ≡ Sought.Null → true ≡ some_sought q (slice from len path) vnull
  null-found h e = sym (ap (λ (x : Sought). is_sought x vnull) e) ∙ null-here h

  pub null_unwanted : len ≤ from → {w : Want} → q ≡ Sought.Present w → false ≡ some_sought q (slice from len path) vnull
  null_unwanted h {w} e = sym (meets-null w) ∙ sym (ap (λ (x : Sought). is_sought x vnull) e) ∙ null-here h

-- ---- a step of the path

module _ (w : Sought) {p : List ℕ} {k : ℕ} {q : List ℕ} (e : p ≡ k ∷ q) where
  stepped : (x : Value) → some_sought w p x ≡ some_part k (λ y. some_sought w q y) x
  unfolding some_sought
  stepped x = ap (λ (r : List ℕ). some_sought w r x) e

  pub leaf_step : {x : Value} → LeafValue x → false ≡ some_sought w p x
  leaf_step {x} L = sym (stepped x ∙ L.part k (λ y. some_sought w q y))

  pub struct_step : {x : Value} {vs : Values} {b : Bool} → x ≡ vstruct vs → b ≡ some_sought w q (value_at vs k) → b ≡ some_sought w p x
  unfolding some_part
  struct_step {x} f h = h ∙ sym (stepped x ∙ ap (some_part k (λ y. some_sought w q y)) f)

  pub list_step : {x y : Value} {vs : Values} {b : Bool} → x ≡ vlist vs → y ≡ x → b ≡ some_part 0 (λ z. some_sought w q z) y → b ≡ some_sought w p x
  unfolding some_part
  list_step {x} f g h = h ∙ ap (some_part 0 (λ z. some_sought w q z)) (g ∙ f) ∙ sym (stepped x ∙ ap (some_part k (λ z. some_sought w q z)) f)

  pub array_step : {x : Value} {vs : Values} {b : Bool} → x ≡ varray vs → b ≡ any_of (λ y. some_sought w q y) vs → b ≡ some_sought w p x
  unfolding some_part
  array_step {x} f h = h ∙ sym (stepped x ∙ ap (some_part k (λ y. some_sought w q y)) f)

-- ---- a list's elements, after its count

pub record ListElements (v : Edition) (lay : Bytes) (n t : ℕ) (rec : Bytes) (c : ℕ) (x : Value) : Type 0 where
  pub elements : ElementsAt v lay n t rec c
  pub is : x ≡ vlist elements.values.values

pub list-elements : {v : Edition} {lay : Bytes} {t : ℕ} {rec : Bytes} {c : ℕ} (X : ListOf v lay t rec c) {q : Short} {n : ℕ} {d : Cursor} → short_res q ≡
    u16 rec c → q ≡ Short.Is n d
    → ListElements v lay n t rec d.at X.content.tree
list-elements X e f = let L = list_in X.content e f in record { elements = record { type = X.type; values = L.inner }; is = L.is }

pub list_any : (f : Value → Bool) {x : Value} {vs : Values} {b : Bool} → x ≡ vlist vs → b ≡ any_of f vs → b ≡ some_part 0 f x
unfolding some_part
list_any f e h = h ∙ sym (ap (some_part 0 f) e)

-- ---- the loop over elements: none of the first i of n is such

same-elements : {v : Edition} {lay : Bytes} {n t : ℕ} {rec : Bytes} {c : ℕ} (X Y : ElementsAt v lay n t rec c) → X.values.values ≡ Y.values.values
same-elements {n = n} {rec = rec} {c = c} X Y =
    let e = (same_type_lem X.type Y.type).0 in
    let z : ok X.values.values X.values.end ≡ ok Y.values.values Y.values.end =
    sym X.values.reads ∙ ap (λ (t : ColumnType). times n (value (dtype_of t)) rec c) e ∙ Y.values.reads in
    cc

pub record Scanning (v : Edition) (lay : Bytes) (n t : ℕ) (rec : Bytes) (c : ℕ) (f : Value → Bool) (i at : ℕ) : Type 0 where
  pub within : i ≤ n
  pub whole : ElementsAt v lay n t rec c
  pub left : EachAt (dtype_of whole.type.tree) (n - i) rec at
  pub same : any_of f whole.values.values ≡ any_of f left.values

pub scanning_none : {v : Edition} {lay : Bytes} {n t : ℕ} {rec : Bytes} {c : ℕ} (f : Value → Bool) → ElementsAt v lay n t rec c → Scanning v lay n t rec c f 0 c
scanning_none {n = n} {rec = rec} {c = c} f X = record {
  within = omega arith;
  whole = X;
  left = record {
    values = X.values.values;
    end = X.values.end;
    reads = ap (λ (k : ℕ). times k (value (dtype_of X.type.tree)) rec c) (let e : n - 0 ≡ n = omega arith in e) ∙ X.values.reads;
  };
  same = refl;
}

any-first : (f : Value → Bool) (vs : Values) {v : Value} {us : Values} → vs ≡ vcons v us → f v ≡ true → any_of f vs ≡ true
unfolding any_of
any-first f vs e h = rw (e, h)

any-later : (f : Value → Bool) (vs : Values) {v : Value} {us : Values} → vs ≡ vcons v us → f v ≡ false → any_of f vs ≡ any_of f us
unfolding any_of
any-later f vs e h = rw (e, h)

any-end : (f : Value → Bool) (vs : Values) → vs ≡ vnil → any_of f vs ≡ false
unfolding any_of
any-end f vs e = rw e

module _ {v : Edition} {lay : Bytes} {n t : ℕ} {rec : Bytes} {c : ℕ} {f : Value → Bool} {i at : ℕ} (S : Scanning v lay n t rec c f i at) where
  answer : (X : ElementsAt v lay n t rec c) → any_of f X.values.values ≡ any_of f S.left.values
  answer X = ap (any_of f) (same-elements X S.whole) ∙ S.same

  pub scanning_all : n ≤ i → (X : ElementsAt v lay n t rec c) → false ≡ any_of f X.values.values
  scanning_all h X = sym (answer X ∙ any-end f S.left.values (no_each S.left (omega arith)).0)

  module _ (h : i < n) where
    pub scanning_raw : RawAt v lay t rec at
    scanning_raw = record { type = S.whole.type; value = (first-each S.left (λ z. omega arith)).head }

    module _ {r : Bool} (g : (X : RawAt v lay t rec at) → r ≡ f X.value.tree) where
      pub scanning-found : r ≡ true → (X : ElementsAt v lay n t rec c) → true ≡ any_of f X.values.values
      unfolding scanning_raw
      scanning-found e X =
          let F = first-each S.left (λ z. omega arith) in
          sym (answer X ∙ any-first f S.left.values F.is (sym (g scanning_raw) ∙ e))

      module _ {q : Moved} (m : (Q : TypeAt v deepest lay t) → q ≡ moved_of (value (dtype_of Q.tree) rec at)) where
        pub scanning-stuck : {B : Type 0} {k : ℕ} → q ≡ Moved.Refused k → B
        scanning-stuck {k = k} e =
            let F = first-each S.left (λ z. omega arith) in
            let z : refuse k ≡ ok F.head.tree F.head.end = sym (moved_refused (value (dtype_of S.whole.type.tree) rec at)
            (m S.whole.type) e) ∙ F.head.reads in
            clash (cc)

        pub scanning-more : r ≡ false → {d : Cursor} → q ≡ Moved.To d → Scanning v lay n t rec c f (i + 1) d.at
        unfolding scanning_raw
        scanning-more e {d} k =
            let F = first-each S.left (λ z. omega arith) in
            let T = dtype_of S.whole.type.tree in
            let y = moved_to (value T rec at) (m S.whole.type) k in
            let z : ok y.0 d.at ≡ ok F.head.tree F.head.end = sym y.1 ∙ F.head.reads in
            let w : d.at ≡ F.head.end = cc in
            let u : n - (i + 1) ≡ n - i - 1 = omega arith in
            record {
              within = omega arith;
              whole = S.whole;
              left = record {
                values = F.tail.values;
                end = F.tail.end;
                reads = ap (λ (j : ℕ). times j (value T) rec d.at) u ∙ ap (λ (o : ℕ). times (n - i - 1) (value T) rec o) w ∙ F.tail.reads;
              };
              same = S.same ∙ any-later f S.left.values F.is (sym (g scanning_raw) ∙ e);
            }
