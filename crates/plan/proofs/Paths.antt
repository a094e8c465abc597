-- Nullness place by place: a constant's by its values there, 55 by the target's required places, and the moves of a
-- walk. Assumes nothing.
use Prim.Native.Nat.{ℕ, zero, suc}
use mathlib.Core.Path.{◌≡◌, refl, sym, ap, ap₂, ◌∙◌}
use mathlib.Core.Bool.{Bool, true, false}
use mathlib.Core.List.{List, [], ◌∷◌}
use mathlib.Core.Logic.{◌↔◌}
use Rattle.layout.specs.Bytes.{Bytes}
use Rattle.layout.specs.Parser.{choose}
use Rattle.layout.specs.Tree.{Label, ColumnType, cleaf, cstruct, clist, carray, Columns, cnil, ccons, DataType}
use Rattle.layout.specs.declared.columns.Position.{Position}
use Rattle.rules.specs.declared.outcome.CastOption.{CastOption}
use Rattle.values.specs.Value.{Value, vnull, vnumber, vtext, voverflow, vstruct, vlist, varray, Values, vnil, vcons, is_null_value}
use Rattle.plan.specs.Selector.{Selector, position, cast, rename, struct_mapping, list_mapping, array_mapping, Selectors}
use Rattle.plan.specs.Reach.{SelectorAt, s_here, s_there}
use Rattle.plan.proofs.Results.{both, and-true}
use Rattle.plan.specs.Nullness.{Place, required, optional, novalue, Nullness, node, Nullnesses, nnil, ncons, top_of, inside_of, nowhere, nullness_at}
use Rattle.plan.specs.Nullness.{join_place, join, join_all, of_value, of_fields, of_elements, nullness_of, nullnesses_of}
use Rattle.plan.specs.Marks.{allowed, meets, meets_all}
use Rattle.plan.specs.code.Paths.{place_in, append, gather, field_at, elements, parts_at, values_at, any_null, collected, ColumnAt, c_here, c_there, Demanded}
use Rattle.plan.specs.code.Paths.{q_here, q_field, q_list, q_array}
use Rattle.plan.proofs.Sound.{top-allowed}
use Rattle.plan.proofs.Exact.{nowhere-meets}

-- ---- joins

nowhere-place : (p : List ℕ) → place_in nowhere p ≡ novalue
unfolding place_in nullness_at
nowhere-place [] = refl
nowhere-place (k ∷ p) = nowhere-place p

join-none : (p : Place) → join_place p novalue ≡ p
unfolding join_place
join-none required = refl
join-none optional = refl
join-none novalue = refl

join_assoc : (p q r : Place) → join_place p (join_place q r) ≡ join_place (join_place p q) r
unfolding join_place
join_assoc required required required = refl
join_assoc required required optional = refl
join_assoc required required novalue = refl
join_assoc required optional r = refl
join_assoc required novalue r = refl
join_assoc optional q r = refl
join_assoc novalue q r = refl

at_join : (ns ms : Nullnesses) (k : ℕ) (p : List ℕ) → ((n m : Nullness) → place_in (join n m) p ≡ join_place (place_in n p) (place_in m p))
    → place_in (nullness_at (join_all ns ms) k) p ≡ join_place (place_in (nullness_at ns k) p) (place_in (nullness_at ms k) p)
unfolding join_all nullness_at join_place
at_join nnil ms k p h = ap (λ (x : Place). join_place x (place_in (nullness_at ms k) p)) (sym (nowhere-place p))
at_join (ncons n ns) nnil k p h = sym (ap (join_place (place_in (nullness_at (ncons n ns) k) p)) (nowhere-place p) ∙ join-none
    (place_in (nullness_at (ncons n ns) k) p))
at_join (ncons n ns) (ncons m ms) zero p h = h n m
at_join (ncons n ns) (ncons m ms) (suc k) p h = at_join ns ms k p h

join_place_lem : (p : List ℕ) (n m : Nullness) → place_in (join n m) p ≡ join_place (place_in n p) (place_in m p)
unfolding join place_in
join_place_lem [] (node p ns) (node q ms) = refl
join_place_lem (k ∷ p) (node q ns) (node r ms) = at_join ns ms k p (λ n m. join_place_lem p n m)

-- ---- constants

collected_cons : (v : Value) (vs : Values) → collected (vcons v vs) ≡ join_place (top_of (of_value v)) (collected vs)
unfolding collected any_null of_value join_place choose
collected_cons v vs = go v vs
  where
    present : (vs : Values) → choose (any_null vs) optional required ≡ join_place required (collected vs)
    present vnil = refl
    present (vcons w ws) = either (choose (is_null_value w) true (any_null ws))
      where
        either : (b : Bool) → choose b optional required ≡ join_place required (choose b optional required)
        either true = refl
        either false = refl

    go : (v : Value) (vs : Values) → collected (vcons v vs) ≡ join_place (top_of (of_value v)) (collected vs)
    go vnull vs = refl
    go (vnumber k n) vs = present vs
    go (vtext b) vs = present vs
    go voverflow vs = present vs
    go (vstruct ws) vs = present vs
    go (vlist ws) vs = present vs
    go (varray ws) vs = present vs

collected-append : (vs ws : Values) → collected (append vs ws) ≡ join_place (collected vs) (collected ws)
unfolding append collected join_place
collected-append vnil ws = refl
collected-append (vcons v vs) ws =
    collected_cons v (append vs ws) ∙ ap (join_place (top_of (of_value v))) (collected-append vs ws) ∙ join_assoc (top_of (of_value v)) (collected vs) (collected ws)
    ∙ ap (λ (x : Place). join_place x (collected ws)) (sym (collected_cons v vs))

-- a field
field-place : (vs : Values) (k : ℕ) (p : List ℕ) → ((v : Value) → place_in (of_value v) p ≡ collected (values_at v p)) → place_in
    (nullness_at (of_fields vs) k) p ≡ collected (gather (λ w. values_at w p) (field_at vs k))
unfolding of_fields nullness_at field_at gather append collected
field-place vnil k p h = nowhere-place p
field-place (vcons v vs) zero p h = h v ∙ sym (collected-append (values_at v p) vnil ∙ join-none (collected (values_at v p)))
field-place (vcons v vs) (suc k) p h = field-place vs k p h

-- the elements
no_second : (vs : Values) (k : ℕ) → nullness_at (of_elements vs) (suc k) ≡ nowhere
unfolding of_elements nullness_at join_all
no_second vnil k = refl
no_second (vcons v vs) k = after (of_elements vs) (no_second vs k)
  where
    after : (ms : Nullnesses) → nullness_at ms (suc k) ≡ nowhere → nullness_at (join_all (ncons (of_value v) nnil) ms) (suc k) ≡ nowhere
    after nnil e = refl
    after (ncons m ms) e = e

element_place : (vs : Values) (k : ℕ) (p : List ℕ) → ((v : Value) → place_in (of_value v) p ≡ collected (values_at v p)) → place_in
    (nullness_at (of_elements vs) k) p ≡ collected (gather (λ w. values_at w p) (elements vs k))
unfolding of_elements nullness_at gather collected
element_place vnil zero p h = nowhere-place p
element_place (vcons v vs) zero p h =
    at_join (ncons (of_value v) nnil) (of_elements vs) 0 p (λ n m. join_place_lem p n m) ∙ ap₂ join_place (h v) (element_place vs zero p h)
    ∙ sym (collected-append (values_at v p) (gather (λ w. values_at w p) vs))
element_place vs (suc k) p h = ap (λ (n : Nullness). place_in n p) (no_second vs k) ∙ nowhere-place p

-- "At each place of a constant collect the values it has there: none, never refused; some null, optional; else
-- required"
pub constant-place : (p : List ℕ) (v : Value) → place_in (of_value v) p ≡ collected (values_at v p)
unfolding place_in values_at parts_at of_value gather collected any_null choose nullness_at
constant-place [] vnull = refl
constant-place [] (vnumber k n) = refl
constant-place [] (vtext b) = refl
constant-place [] voverflow = refl
constant-place [] (vstruct vs) = refl
constant-place [] (vlist vs) = refl
constant-place [] (varray vs) = refl
constant-place (k ∷ p) vnull = nowhere-place p
constant-place (k ∷ p) (vnumber l n) = nowhere-place p
constant-place (k ∷ p) (vtext b) = nowhere-place p
constant-place (k ∷ p) voverflow = nowhere-place p
constant-place (k ∷ p) (vstruct vs) = field-place vs k p (λ v. constant-place p v)
constant-place (k ∷ p) (vlist vs) = element_place vs k p (λ v. constant-place p v)
constant-place (k ∷ p) (varray vs) = element_place vs k p (λ v. constant-place p v)

-- ---- 55

pub allowed-optional : (p : Place) → allowed p false ≡ true
unfolding allowed
allowed-optional required = refl
allowed-optional optional = refl
allowed-optional novalue = refl

meets_at : {cs : Columns} {k : ℕ} {l : Label} {t : ColumnType} (ns : Nullnesses) → ColumnAt cs k l t → meets_all ns cs ≡ true → meets (nullness_at ns k)
    l.required t ≡ true
unfolding meets_all nullness_at
meets_at {l = l} {t} nnil a e = nowhere-meets t l.required
meets_at {l = l} {t} (ncons n ns) c_here e = (both (meets n l.required t) e).0
meets_at (ncons n ns) (c_there {m = m} {u = u} a) e = meets_at ns a (both (meets n m.required u) e).1

demanded : {r : Bool} {t : ColumnType} {p : List ℕ} (n : Nullness) → Demanded r t p → meets n r t ≡ true → allowed (place_in n p) true ≡ true
unfolding meets place_in
demanded n (q_here {t}) e = top-allowed n true t e
demanded n (q_field {r} {cs} {k} a d) e = demanded (nullness_at (inside_of n) k) d (meets_at (inside_of n) a (both (allowed (top_of n) r) e).1)
demanded n (q_list {r} d) e = demanded (nullness_at (inside_of n) 0) d (both (allowed (top_of n) r) e).1
demanded n (q_array {r} d) e = demanded (nullness_at (inside_of n) 0) d (both (allowed (top_of n) r) e).1

top_demanded : (n : Nullness) (r : Bool) (t : ColumnType) → ((p : List ℕ) → Demanded r t p → allowed (place_in n p) true ≡ true) → allowed (top_of n) r ≡ true
unfolding place_in
top_demanded n true t h = h [] q_here
top_demanded n false t h = allowed-optional (top_of n)

mutual
  unfolding meets meets_all place_in nullness_at

  demanding : (t : ColumnType) (n : Nullness) (r : Bool) → ((p : List ℕ) → Demanded r t p → allowed (place_in n p) true ≡ true) → meets n r t ≡ true
  demanding (cleaf l) n r h = top_demanded n r (cleaf l) h
  demanding (cstruct cs) n r h = and-true (top_demanded n r (cstruct cs) h) (demanding_all cs (inside_of n) (λ k l t p a d. h (k ∷ p) (q_field a d)))
  demanding (clist l t) n r h = and-true (top_demanded n r (clist l t) h) (demanding t (nullness_at (inside_of n) 0) l.required (λ p d. h (0 ∷ p) (q_list d)))
  demanding (carray w l t) n r h = and-true (top_demanded n r (carray w l t) h) (demanding t (nullness_at (inside_of n) 0) l.required
      (λ p d. h (0 ∷ p) (q_array d)))

  demanding_all : (cs : Columns) (ns : Nullnesses) → ((k : ℕ) (l : Label) (t : ColumnType) (p : List ℕ) → ColumnAt cs k l t → Demanded l.required t p
      → allowed (place_in (nullness_at ns k) p) true ≡ true)
      → meets_all ns cs ≡ true
  demanding_all cnil ns h = refl
  demanding_all (ccons l t cs) nnil h = refl
  demanding_all (ccons l t cs) (ncons n ns) h = and-true (demanding t n l.required (λ p d. h 0 l t p c_here d))
      (demanding_all cs ns (λ k m u p a d. h (suc k) m u p (c_there a) d))

-- 55 is that at some required place of the target what is given is optional
pub meets-places : (n : Nullness) (r : Bool) (t : ColumnType) → (meets n r t ≡ true) ↔ ((p : List ℕ) → Demanded r t p → allowed (place_in n p) true ≡ true)
meets-places n r t = (λ e p d. demanded n d e, λ h. demanding t n r h)

-- ---- the moves of a walk (crate walk, specs/Moves.antt), with Γ what is known of the columns where the selector
-- stands

module _ (Γ : Nullnesses) (p : List ℕ) where
  pub place-rename : (s : Selector) (n : Bytes) → place_in (nullness_of Γ (rename s n)) p ≡ place_in (nullness_of Γ s) p
  unfolding nullness_of
  place-rename s n = refl

  -- s_cast: nothing is inside
  pub place-cast : (s : Selector) (t : DataType) (o : CastOption) → place_in (nullness_of Γ (cast s t o)) [] ≡ place_in (nullness_of Γ s) []
  unfolding nullness_of place_in
  place-cast s t o = refl

  pub place-below-cast : (s : Selector) (t : DataType) (o : CastOption) (k : ℕ) → place_in (nullness_of Γ (cast s t o)) (k ∷ p) ≡ novalue
  unfolding nullness_of place_in nullness_at
  place-below-cast s t o k = nowhere-place p

  nth-nullness : (Δ : Nullnesses) {ss : Selectors} {k : ℕ} {t : Selector} → SelectorAt ss k t → nullness_at (nullnesses_of Δ ss) k ≡ nullness_of Δ t
  unfolding nullnesses_of nullness_at
  nth-nullness Δ s_here = refl
  nth-nullness Δ (s_there a) = nth-nullness Δ a

  -- m_field, m_list, m_array: a mapping is entered
  pub place-field : (s : Selector) {ss : Selectors} {k : ℕ} {t : Selector} → SelectorAt ss k t → place_in (nullness_of Γ (struct_mapping s ss)) (k ∷ p) ≡
      place_in (nullness_of (inside_of (nullness_of Γ s)) t) p
  unfolding nullness_of place_in
  place-field s a = ap (λ (n : Nullness). place_in n p) (nth-nullness (inside_of (nullness_of Γ s)) a)

  pub place-list : (s e : Selector) → place_in (nullness_of Γ (list_mapping s e)) (0 ∷ p) ≡ place_in (nullness_of (inside_of (nullness_of Γ s)) e) p
  unfolding nullness_of place_in nullness_at
  place-list s e = refl

  pub place-array : (s e : Selector) → place_in (nullness_of Γ (array_mapping s e)) (0 ∷ p) ≡ place_in (nullness_of (inside_of (nullness_of Γ s)) e) p
  unfolding nullness_of place_in nullness_at
  place-array s e = refl

  -- m_leave, m_leave-element: a position leaves the innermost mapping for its input
  pub place-leave : (s : Selector) (k : Position) → place_in (nullness_of (inside_of (nullness_of Γ s)) (position k)) p ≡ place_in (nullness_of Γ s) (k.0 ∷ p)
  unfolding nullness_of place_in
  place-leave s k = refl
