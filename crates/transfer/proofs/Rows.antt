-- The loops over columns and over elements, and the mappings around them. Assumes nothing.
use Prim.Native.Nat.{ℕ, zero, suc, ◌+◌, ◌-◌, ◌<◌, ◌≤◌}
use mathlib.Core.Path.{◌≡◌, refl, ap, sym, subst, ◌∙◌}
use mathlib.Core.Bool.{Bool, true, false, ◌&&◌}
use mathlib.Core.List.{[], ◌++◌}
use native.Mathlib.Omega.{arith}
use native.Mathlib.Nat.{add-zero}
use lib.ListN.{length, length-append}
use Rattle.layout.specs.Bytes.{Bytes}
use Rattle.layout.specs.Parser.{refuse, ok}
use Rattle.layout.specs.Tree.{dtype_of}
use Rattle.layout.specs.code.Answers.{moved_of, text_res, span_at}
use Rattle.layout.specs.Layout.{text}
use Rattle.layout.specs.code.Stands.{TypeAt}
use Rattle.layout.specs.declared.bytes.Span.{Span}
use Rattle.layout.specs.declared.cursor.Cursor.{Cursor}
use Rattle.layout.specs.declared.cursor.Moved.{Moved}
use Rattle.layout.specs.declared.cursor.Text.{Text}
use Rattle.layout.specs.declared.edition.Edition.{Edition}
use Rattle.layout.proofs.Ways.{clash, moved_to, moved_refused}
use Rattle.store.specs.code.Overlay.{overlay}
use Rattle.store.proofs.Overlay.{overlay-append}
use Rattle.values.specs.Value.{Value, vnull, Values, vnil, vcons, count_values}
use Rattle.values.specs.Encode.{encode_value, encode_values}
use Rattle.values.specs.Reading.{value, times}
use Rattle.values.specs.code.Stands.{EachAt}
use Rattle.values.proofs.Inside.{first-each, no_each}
use Rattle.plan.specs.Selector.{Selector, position, constant, cast, rename, struct_mapping, list_mapping, array_mapping, Selectors, snil}
use Rattle.plan.specs.Read.{deepest_selector, selector, selectors as selectorsOf}
use Rattle.plan.specs.Run.{value_at, map_values, on_struct, on_list, on_array, eval, evals, clean, clean_all_of}
use Rattle.walk.specs.code.Stands.{SelectorAt, SelectorsAt}
use Rattle.walk.specs.code.Parts.{TextAt, ConstantAt, CastAt, RenameAt, StructAt, ListAt, ArrayAt, CountedIs}
use Rattle.walk.specs.declared.head.StructFields.{StructFields}
use Rattle.walk.proofs.View.{FirstAt, first-at, no_selector}
use Rattle.nodes.specs.code.Raw.{RawAt, ElementsAt, NodeOf}
use Rattle.nodes.specs.declared.raw.NodeAt.{NodeAt}
use Rattle.nodes.proofs.Node.{nowhere, standing, node_as}
use Rattle.nodes.proofs.Rows.{count-each}
use Rattle.direct.specs.code.Inputs.{input_of, InputAt}
use Rattle.raw.specs.code.Stored.{Stores, lead}
use Rattle.transfer.specs.code.Reaching.{takes, Kept, ReachedIs}
use Rattle.transfer.specs.code.Opening.{StructOf, ListOf as ListIs, ArrayOf as ArrayIs, OpenedAnswer, OpenedIs}
use Rattle.transfer.specs.declared.leaf.Reached.{Reached}
use Rattle.transfer.specs.declared.opened.Opened.{Opened}
use Rattle.transfer.proofs.Reaching.{unknown, reached_as, reached_to}

-- ---- bytes after bytes

stores-append : {out : Bytes} {k : ℕ} {xs : Bytes} {j : ℕ} {o : Bytes} {ys : Bytes} {r : ℕ} {new : Bytes} → Stores out k xs j o → Stores o j ys r new →
    Stores out k (xs ++ ys) r new
stores-append {out} {k} {xs} {j} {o} {ys} S T =
    let n : length (xs ++ ys) ≡ length xs + length ys = length-append xs ys in
    record {
      ends = omega (arith, S.ends, T.ends, n);
      stored = T.stored ∙ ap (λ (i : ℕ). overlay o i ys) S.ends ∙ ap (λ (l : Bytes). overlay l (k + length xs) ys) S.stored ∙ overlay-append out k xs ys;
    }

stores-none : (out : Bytes) (k : ℕ) → Stores out k [] k out
unfolding overlay
stores-none out k = record { ends = sym (add-zero k); stored = refl }

-- what stores the rest, of which `left` says that it is clean, stores the whole
pub record Rest (whole left : Bool) (b c : Bytes) (out₀ : Bytes) (k : ℕ) (out : Bytes) (at : ℕ) : Type 0 where
  pub clean : left ≡ true → whole ≡ true
  pub stores : (r : ℕ) (new : Bytes) → Stores out at c r new → Stores out₀ k b r new

rest-start : (w : Bool) (b out : Bytes) (k : ℕ) → Rest w w b b out k out k
rest-start w b out k = record { clean = λ h. h; stores = λ r new S. S }

and-true : {a b : Bool} → a ≡ true → b ≡ true → (a && b) ≡ true
and-true {a} {b} e f = ap (λ (x : Bool). x && b) e ∙ f

rest_more : {w x l : Bool} {b y c : Bytes} {out₀ : Bytes} {k : ℕ} {out : Bytes} {at : ℕ} {r : ℕ} {new : Bytes} → Rest w (x && l) b (y ++ c) out₀ k out
    at → Kept x y out at r new → Rest w l b c out₀ k new r
rest_more R K = record { clean = λ h. R.clean (and-true K.clean h); stores = λ r new S. R.stores r new (stores-append K.stores S) }

-- by equations of what is left
rest_as : {w l m : Bool} {b c d : Bytes} {out₀ : Bytes} {k : ℕ} {out : Bytes} {at : ℕ} → l ≡ m → c ≡ d → Rest w l b c out₀ k out at → Rest w m b d out₀ k out at
rest_as {w} {b = b} {out₀ = out₀} {k} {out} {at} e f R = record {
  clean = λ h. R.clean (e ∙ h);
  stores = λ r new S. R.stores r new
      (subst (λ (z : Bytes). Stores out at z r new) (sym f) S);
}

rest_end : {w : Bool} {b out₀ : Bytes} {k : ℕ} {out : Bytes} {at : ℕ} → Rest w true b [] out₀ k out at → (w ≡ true) × Stores out₀ k b at out
rest_end {out = out} {at} R = (R.clean refl, R.stores at out (stores-none out at))

-- ---- columns

sub_zero : (n : ℕ) → n - 0 ≡ n
sub_zero n = omega arith

module _ {plan : Bytes} {count first : ℕ} (ρ : Values) (S : SelectorsAt plan count first) where
  abbrev all : Values
  all = evals ρ S.trees

  -- from `from` on, the selectors that are left after i
  pub record Running (out₀ : Bytes) (k i from at : ℕ) (out : Bytes) : Type 0 where
    pub left : SelectorsAt plan (count - i) from
    pub ends : left.end ≡ S.end
    pub rest : Rest (clean_all_of all) (clean_all_of (evals ρ left.trees)) (encode_values all) (encode_values (evals ρ left.trees)) out₀ k out at

  pub running_none : (out : Bytes) (k : ℕ) → Running out k 0 first k out
  running_none out k = record {
    left = record { trees = S.trees; end = S.end; reads = ap (λ (m : ℕ). selectorsOf (selector deepest_selector) m plan first) (sub_zero count) ∙ S.reads };
    ends = refl;
    rest = rest-start (clean_all_of all) (encode_values all) out k;
  }

  module _ {out₀ : Bytes} {k i from at : ℕ} {out : Bytes} (R : Running out₀ k i from at out) where
    module _ (h : count ≤ i) where
      none : (R.left.trees ≡ snil) × (R.left.end ≡ from)
      none = no_selector R.left (let z : count - i ≡ 0 = omega arith in z)

      pub running-ends : from ≡ S.end
      running-ends = sym none.1 ∙ R.ends

      pub running-all : (clean_all_of all ≡ true) × Stores out₀ k (encode_values all) at out
      unfolding evals clean_all_of encode_values
      running-all = rest_end (rest_as (ap (λ (ss : Selectors). clean_all_of (evals ρ ss)) none.0)
          (ap (λ (ss : Selectors). encode_values (evals ρ ss)) none.0) R.rest)

    module _ (h : i < count) where
      next : FirstAt plan (count - i) from R.left
      next = first-at R.left (omega arith)

      pub running-head : SelectorAt plan from
      running-head = next.head

      pub running_more : {q : Reached} {new : Bytes} {c : Cursor} {r : ℕ} → ReachedIs (clean (eval ρ running-head.tree))
          (encode_value (eval ρ running-head.tree)) running-head.end out at q new → q ≡ Reached.To c r
          → Running out₀ k (i + 1) c.at r new
      unfolding evals clean_all_of encode_values running-head
      running_more {c = c} Q f =
          let (d, K) = reached_to Q f in
          let z : count - i - 1 ≡ count - (i + 1) = omega arith in
          record {
            left = record { trees = next.tail.trees; end = next.tail.end; reads = moved d z };
            ends = next.ends ∙ R.ends;
            rest = rest_more (rest_as (ap (λ (ss : Selectors). clean_all_of (evals ρ ss)) next.is)
                (ap (λ (ss : Selectors). encode_values (evals ρ ss)) next.is) R.rest) K;
          }
        where
          moved : c.at ≡ next.head.end → count - i - 1 ≡ count - (i + 1) → selectorsOf (selector deepest_selector) (count - (i + 1)) plan c.at ≡ ok
              next.tail.trees next.tail.end
          moved d z = ap (λ (m : ℕ). selectorsOf (selector deepest_selector) m plan c.at) (sym z) ∙ ap
              (λ (m : ℕ). selectorsOf (selector deepest_selector) (count - i - 1) plan m) d ∙ next.tail.reads

-- ---- elements

module _ {v : Edition} {lay : Bytes} {m t : ℕ} {rec : Bytes} {first : ℕ} (f : Value → Value) (X : ElementsAt v lay m t rec first) where
  abbrev each : Values
  each = map_values f X.values.values

  -- from `from` on, the elements that are left after i
  pub record Going (out₀ : Bytes) (k i from at : ℕ) (out : Bytes) : Type 0 where
    pub left : EachAt (dtype_of X.type.tree) (m - i) rec from
    pub rest : Rest (clean_all_of each) (clean_all_of (map_values f left.values)) (encode_values each) (encode_values (map_values f left.values)) out₀ k out at

  pub going_none : (out : Bytes) (k : ℕ) → Going out k 0 first k out
  going_none out k = record {
    left = record {
      values = X.values.values;
      end = X.values.end;
      reads = ap (λ (n : ℕ). times n (value (dtype_of X.type.tree)) rec first)
          (sub_zero m) ∙ X.values.reads;
    };
    rest = rest-start (clean_all_of each) (encode_values each) out k;
  }

  module _ {out₀ : Bytes} {k i from at : ℕ} {out : Bytes} (G : Going out₀ k i from at out) where
    pub going_all : m ≤ i → (clean_all_of each ≡ true) × Stores out₀ k (encode_values each) at out
    unfolding map_values clean_all_of encode_values
    going_all h =
        let (t, e) = no_each G.left (let z : m - i ≡ 0 = omega arith in z) in
        rest_end (rest_as (ap (λ (vs : Values). clean_all_of (map_values f vs)) t) (ap (λ (vs : Values). encode_values (map_values f vs)) t) G.rest)

    module _ (h : i < m) where
      pub going-value : RawAt v lay t rec from
      going-value = record { type = X.type; value = (first-each G.left (λ z. omega arith)).head }

      pub going_more : {q : Reached} {new : Bytes} {c : Cursor} {r : ℕ} {e o : ℕ} → o ≡ going-value.value.end → ReachedIs
          (clean (f going-value.value.tree)) (encode_value (f going-value.value.tree)) e out at q new → q ≡ Reached.To c r
          → Going out₀ k (i + 1) o r new
      unfolding map_values clean_all_of encode_values going-value
      going_more {o = o} d Q p =
          let F = first-each G.left (λ z. omega arith) in
          let (a, K) = reached_to Q p in
          let z : m - i - 1 ≡ m - (i + 1) = omega arith in
          record {
            left = record {
              values = F.tail.values;
              end = F.tail.end;
              reads = ap (λ (n : ℕ). times n (value (dtype_of X.type.tree)) rec o)
                  (sym z) ∙ ap (λ (n : ℕ). times (m - i - 1) (value (dtype_of X.type.tree)) rec n) d ∙ F.tail.reads;
            };
            rest = rest_more (rest_as (ap (λ (vs : Values). clean_all_of (map_values f vs)) F.is)
                (ap (λ (vs : Values). encode_values (map_values f vs)) F.is) G.rest) K;
          }

count-mapped : (f : Value → Value) (vs : Values) → count_values (map_values f vs) ≡ count_values vs
unfolding count_values map_values
count-mapped f vnil = refl
count-mapped f (vcons v vs) = ap suc (count-mapped f vs)

-- the only value of an element is the element
module _ {v : Edition} {lay rec : Bytes} {t c : Cursor} (X : RawAt v lay t.at rec c.at) (p : ℕ) where
  pub element-here : p ≡ 0 → NodeOf v lay rec (value_at (vcons X.value.tree vnil) p) (NodeAt.At t c)
  unfolding value_at
  element-here e = node_as (ap (value_at (vcons X.value.tree vnil)) (sym e)) (standing (record { raw = X; is = refl }))

  pub element-none : (p ≡ 0 → ⊥) → NodeOf v lay rec (value_at (vcons X.value.tree vnil) p) NodeAt.Null
  unfolding value_at
  element-none n = nowhere (none p n)
    where
      none : (p : ℕ) → (p ≡ 0 → ⊥) → value_at (vcons X.value.tree vnil) p ≡ vnull
      none zero n = absurd (n refl)
      none (suc p) n = refl

-- ---- what a selector gives, by what it begins with

-- the same places under other names
abbrev pub selector_moved : {s : Bytes} {at to : ℕ} → SelectorAt s at → to ≡ at → SelectorAt s to
selector_moved {s} P e = record { tree = P.tree; end = P.end; reads = ap (λ (o : ℕ). selector deepest_selector s o) e ∙ P.reads }

-- what follows the bytes before the parts
pub led : {out : Bytes} {k : ℕ} {xs : Bytes} {j : ℕ} {o : Bytes} {ok : Bool} {b : Bytes} {e : ℕ} (q : Reached) {new : Bytes} → Stores out k xs j o →
    ReachedIs ok b e o j q new → ReachedIs ok (xs ++ b) e out k q new
led (Reached.To c r) S R = let (p, K) = R.answer in record {
  answer = (
    p,
    record
        { clean = K.clean; stores = stores-append S K.stores; within = K.within },
  );
}
led Reached.Unknown S R = unknown

pub opened_by : {v : Edition} {lay rec : Bytes} {x : Value} {r q : Opened} → OpenedIs v lay rec x r → r ≡ q → OpenedAnswer v lay rec x q
opened_by {v} {lay} {rec} {x} O e = subst (λ (z : Opened). OpenedAnswer v lay rec x z) e O.answer

module _ {s : Bytes} {at : ℕ} {P : SelectorAt s at} (ρ : Values) {m : ℕ} where
  pub constant_reached : {n : Span} (K : ConstantAt s at P n m) {e : ℕ} {out : Bytes} {k : ℕ} {q : Reached} {new : Bytes} → ReachedIs
      (clean K.value.tree) (encode_value K.value.tree) e out k q new → ReachedIs (clean (eval ρ P.tree)) (encode_value (eval ρ P.tree)) e
      out k q new
  unfolding eval
  constant_reached K R = reached_as (sym (ap (eval ρ) K.is)) R

  pub rename_reached : (K : RenameAt s at P m) {e : ℕ} {out : Bytes} {k : ℕ} {q : Reached} {new : Bytes} → ReachedIs (clean (eval ρ K.input.tree))
      (encode_value (eval ρ K.input.tree)) e out k q new → ReachedIs (clean (eval ρ P.tree)) (encode_value (eval ρ P.tree)) e out k q new
  unfolding eval
  rename_reached K R = reached_as (sym (ap (eval ρ) K.is)) R

module _ {s : Bytes} {at : ℕ} {P : SelectorAt s at} (ρ : Values) {m : ℕ} {v : Edition} {lay rec : Bytes} {r : Opened} (K : StructAt s at P m)
    (O : OpenedIs v lay rec (eval ρ K.input.tree) r) where
  struct-by : {x : Value} → eval ρ K.input.tree ≡ x → on_struct (λ vs. evals vs K.fields.selectors.trees) x ≡ eval ρ P.tree
  unfolding eval
  struct-by h = sym (ap (eval ρ) K.is ∙ ap (on_struct (λ vs. evals vs K.fields.selectors.trees)) h)

  pub struct-null : r ≡ Opened.Null → eval ρ P.tree ≡ vnull
  unfolding on_struct
  struct-null e = sym (struct-by (opened_by O e))

  pub struct_row : {n : ℕ} {t d : Cursor} → r ≡ Opened.Row n t d → StructOf v lay n t.at rec d.at (eval ρ K.input.tree)
  struct_row e = opened_by O e

  pub struct_reached : {n : ℕ} {t d : Cursor} (f : r ≡ Opened.Row n t d) {j : ℕ} {o : Bytes} {e : ℕ} {out : Bytes} {k : ℕ} {q : Reached} {new : Bytes} →
      Stores out k (lead false 0) j o
      → ReachedIs (clean_all_of (evals (struct_row f).row.values.values K.fields.selectors.trees))
      (encode_values (evals (struct_row f).row.values.values K.fields.selectors.trees)) e o j q new → ReachedIs (clean (eval ρ P.tree))
      (encode_value (eval ρ P.tree)) e out k q new
  unfolding on_struct clean encode_value
  struct_reached f {q = q} S R = reached_as (struct-by (struct_row f).is) (led q S R)

module _ {s : Bytes} {at : ℕ} {P : SelectorAt s at} (ρ : Values) {m : ℕ} {v : Edition} {lay rec : Bytes} {r : Opened} (K : ListAt s at P m)
    (O : OpenedIs v lay rec (eval ρ K.input.tree) r) where
  list-by : {x : Value} → eval ρ K.input.tree ≡ x → on_list (λ y. eval (vcons y vnil) K.element.tree) x ≡ eval ρ P.tree
  unfolding eval
  list-by h = sym (ap (eval ρ) K.is ∙ ap (on_list (λ y. eval (vcons y vnil) K.element.tree)) h)

  pub list-null : r ≡ Opened.Null → eval ρ P.tree ≡ vnull
  unfolding on_list
  list-null e = sym (list-by (opened_by O e))

  pub list-row : {n : ℕ} {t d : Cursor} → r ≡ Opened.List n t d → ListIs v lay n t.at rec d.at (eval ρ K.input.tree)
  list-row e = opened_by O e

  pub list_reached : {n : ℕ} {t d : Cursor} (f : r ≡ Opened.List n t d) {j : ℕ} {o : Bytes} {e : ℕ} {out : Bytes} {k : ℕ} {q : Reached} {new : Bytes} →
      Stores out k (lead true n) j o
      → ReachedIs (clean_all_of (map_values (λ y. eval (vcons y vnil) K.element.tree) (list-row f).elements.values.values))
      (encode_values (map_values (λ y. eval (vcons y vnil) K.element.tree) (list-row f).elements.values.values)) e o j q new → ReachedIs
      (clean (eval ρ P.tree)) (encode_value (eval ρ P.tree)) e out k q new
  unfolding on_list clean encode_value
  list_reached f {j} {o} {out = out} {k} {q} S R =
      let c = sym (count-mapped (λ y. eval (vcons y vnil) K.element.tree) (list-row f).elements.values.values ∙ count-each
      (list-row f).elements.values) in
      reached_as (list-by (list-row f).is) (led q (subst (λ (n : ℕ). Stores out k (lead true n) j o) c S) R)

module _ {s : Bytes} {at : ℕ} {P : SelectorAt s at} (ρ : Values) {m : ℕ} {v : Edition} {lay rec : Bytes} {r : Opened} (K : ArrayAt s at P m)
    (O : OpenedIs v lay rec (eval ρ K.input.tree) r) where
  array-by : {x : Value} → eval ρ K.input.tree ≡ x → on_array (λ y. eval (vcons y vnil) K.element.tree) x ≡ eval ρ P.tree
  unfolding eval
  array-by h = sym (ap (eval ρ) K.is ∙ ap (on_array (λ y. eval (vcons y vnil) K.element.tree)) h)

  pub array-null : r ≡ Opened.Null → eval ρ P.tree ≡ vnull
  unfolding on_array
  array-null e = sym (array-by (opened_by O e))

  pub array_row : {n : ℕ} {t d : Cursor} → r ≡ Opened.Array n t d → ArrayIs v lay n t.at rec d.at (eval ρ K.input.tree)
  array_row e = opened_by O e

  pub array_reached : {n : ℕ} {t d : Cursor} (f : r ≡ Opened.Array n t d) {j : ℕ} {o : Bytes} {e : ℕ} {out : Bytes} {k : ℕ} {q : Reached} {new : Bytes}
      → Stores out k (lead false 0) j o
      → ReachedIs (clean_all_of (map_values (λ y. eval (vcons y vnil) K.element.tree) (array_row f).elements.values.values))
      (encode_values (map_values (λ y. eval (vcons y vnil) K.element.tree) (array_row f).elements.values.values)) e o j q new → ReachedIs
      (clean (eval ρ P.tree)) (encode_value (eval ρ P.tree)) e out k q new
  unfolding on_array clean encode_value
  array_reached f {q = q} S R = reached_as (array-by (array_row f).is) (led q S R)

-- the selectors of a struct mapping, where `struct_fields` says
abbrev pub fields_at : {s : Bytes} {at : ℕ} {P : SelectorAt s at} {m : ℕ} (K : StructAt s at P m) {r : StructFields} → CountedIs s K.input.end
    K.fields r → SelectorsAt s r.count r.first.at
fields_at {s} K {r} C = record {
  trees = K.fields.selectors.trees;
  end = K.fields.selectors.end;
  reads = ap (λ (n : ℕ). selectorsOf (selector deepest_selector) n s r.first.at) C.count ∙ ap
      (λ (o : ℕ). selectorsOf (selector deepest_selector) K.fields.count s o) C.first ∙ K.fields.selectors.reads;
}

-- what a rename takes, its input takes
pub rename-takes : {v : Edition} {lay rec : Bytes} {s : Bytes} {at : ℕ} {P : SelectorAt s at} {m : ℕ} (ρ : Values) {node : NodeAt} → NodeOf v lay rec
    (value_at ρ (takes P.tree)) node → (K : RenameAt s at P m) → NodeOf v lay rec (value_at ρ (takes K.input.tree)) node
unfolding takes
rename-takes ρ N K = node_as (ap (λ (x : Selector). value_at ρ (takes x)) K.is) N

takes-input : (s : Selector) → takes (input_of s) ≡ takes s
unfolding takes input_of
takes-input (position k) = refl
takes-input (constant n t v) = refl
takes-input (cast s t o) = refl
takes-input (rename s n) = refl
takes-input (struct_mapping s ss) = refl
takes-input (list_mapping s e) = refl
takes-input (array_mapping s e) = refl

-- an input that is a position gives the value that the transform takes
pub input-gives : {v : Edition} {lay rec : Bytes} {s : Bytes} {at : ℕ} {P : SelectorAt s at} {m : ℕ} (ρ : Values) {node : NodeAt} (I : InputAt s at P m)
    → value_at ρ (takes I.input.tree) ≡ eval ρ I.input.tree
    → NodeOf v lay rec (value_at ρ (takes P.tree)) node → NodeOf v lay rec (eval ρ (input_of P.tree)) node
input-gives {P = P} ρ I h N = node_as (ap (value_at ρ) (sym (takes-input P.tree)) ∙ sym (ap (λ (x : Selector). value_at ρ (takes x)) I.is) ∙ h ∙ ap
    (eval ρ) I.is) N

-- what the input of a transform gives
module _ {v : Edition} {lay rec : Bytes} {s : Bytes} {at : ℕ} {P : SelectorAt s at} {m : ℕ} (ρ : Values) {node : NodeAt}
    (N : NodeOf v lay rec (eval ρ (input_of P.tree)) node) where
  pub cast-given : (K : CastAt s at P m) → NodeOf v lay rec (eval ρ K.input.tree) node
  unfolding input_of
  cast-given K = node_as (ap (λ (x : Selector). eval ρ (input_of x)) K.is) N

  pub rename-given : (K : RenameAt s at P m) → NodeOf v lay rec (eval ρ K.input.tree) node
  unfolding input_of
  rename-given K = node_as (ap (λ (x : Selector). eval ρ (input_of x)) K.is) N

  pub struct-given : (K : StructAt s at P m) → NodeOf v lay rec (eval ρ K.input.tree) node
  unfolding input_of
  struct-given K = node_as (ap (λ (x : Selector). eval ρ (input_of x)) K.is) N

  pub list-given : (K : ListAt s at P m) → NodeOf v lay rec (eval ρ K.input.tree) node
  unfolding input_of
  list-given K = node_as (ap (λ (x : Selector). eval ρ (input_of x)) K.is) N

  pub array-given : (K : ArrayAt s at P m) → NodeOf v lay rec (eval ρ K.input.tree) node
  unfolding input_of
  array-given K = node_as (ap (λ (x : Selector). eval ρ (input_of x)) K.is) N

-- past a name
pub past-text : {s : Bytes} {w : Bool} {b : Bytes} {e : ℕ} {out : Bytes} {k : ℕ} {r : Reached} {new : Bytes} (N : TextAt s e) → ReachedIs w b e out k r
    new → {c : Cursor} {at : ℕ} → r ≡ Reached.To c at
    → {q : Text} {n : Span} {d : Cursor} → text_res s q ≡ text s c.at → q ≡ Text.Is n d → ReachedIs w b N.end out k (Reached.To d at) new
past-text {s} N R f {q} {n} {d} g h =
    let (p, K) = reached_to R f in
    let z : ok (span_at s n) d.at ≡ ok N.bytes N.end = sym (ap (text_res s) h) ∙ g ∙ ap (λ (o : ℕ). text s o) p ∙ N.reads in
    let y : d.at ≡ N.end = cc in
    record { answer = (y, K) }

-- where a value ends
pub value-ended : {v : Edition} {lay : Bytes} {t : ℕ} {rec : Bytes} {c : ℕ} (X : RawAt v lay t rec c) {r : Moved} →
    ((T : TypeAt v 16 lay t) → r ≡ moved_of (value (dtype_of T.tree) rec c)) → {d : Cursor} → r ≡ Moved.To d → d.at ≡ X.value.end
value-ended {rec = rec} {c} X h f =
    let t = moved_to (value (dtype_of X.type.tree) rec c) (h X.type) f in
    let z : ok t.0 _ ≡ ok X.value.tree X.value.end = sym t.1 ∙ X.value.reads in
    cc

pub value_unread : {B : Type 0} {v : Edition} {lay : Bytes} {t : ℕ} {rec : Bytes} {c : ℕ} (X : RawAt v lay t rec c) {r : Moved} →
    ((T : TypeAt v 16 lay t) → r ≡ moved_of (value (dtype_of T.tree) rec c)) → {n : ℕ} → r ≡ Moved.Refused n → B
value_unread {rec = rec} {c} X h {n} f = let z : refuse n ≡ ok X.value.tree X.value.end = sym
    (moved_refused (value (dtype_of X.type.tree) rec c) (h X.type) f) ∙ X.value.reads in clash (cc)

-- ---- the value that is taken

pub taken-node : {v : Edition} {lay rec : Bytes} {node : NodeAt} (ρ : Values) {p k : ℕ} → p ≡ k → NodeOf v lay rec (value_at ρ p) node → NodeOf v lay rec
    (value_at ρ k) node
taken-node ρ e N = node_as (ap (value_at ρ) e) N
