-- What `raw_head`, `raw_width`, `width`, `mapped_head` and `type_head` answer on each way. Assumes nothing.
use Prim.Native.Nat.{ℕ, ◌<◌}
use mathlib.Core.Path.{◌≡◌, refl, sym, ap, ◌∙◌, subst}
use mathlib.Core.List.{List, []}
use native.Mathlib.Omega.{arith}
use Rattle.layout.specs.Bytes.{Bytes}
use Rattle.layout.specs.Parser.{ok}
use Rattle.layout.specs.Tree.{DataType, array, dtype_of}
use Rattle.layout.specs.Layout.{Head, kind, a_leaf, a_struct, an_array}
use Rattle.layout.specs.code.Answers.{head_res, HeadIn, leaf_at, SpanIn}
use Rattle.layout.specs.declared.bytes.Span.{Span}
use Rattle.layout.specs.declared.columns.Position.{Position}
use Rattle.layout.specs.declared.cursor.Cursor.{Cursor}
use Rattle.layout.specs.declared.types.Head.{Head as HeadSpan}
use Rattle.layout.specs.declared.types.LeafType.{LeafType as LeafSpan}
use Rattle.layout.specs.declared.edition.Edition.{Edition}
use Rattle.layout.proofs.Ways.{clash}
use Rattle.layout.proofs.View.{never_headless}
use Rattle.forms.specs.code.Heads.{head_of}
use Rattle.forms.specs.code.Answers.{end_of}
use Rattle.forms.proofs.Heads.{head_at}
use Rattle.plan.specs.Selector.{Selector}
use Rattle.walk.specs.code.State.{State, state}
use Rattle.walk.specs.code.Moves.{Input}
use Rattle.walk.specs.code.Stands.{SelectorAt}
use Rattle.walk.specs.code.Parts.{HeadIs, CountedAt, CountedIs}
use Rattle.walk.specs.code.Walks.{WalkAt, rank, StepsTo}
use Rattle.walk.specs.declared.walk.Walk.{Walk}
use Rattle.walk.specs.declared.head.SelectorHead.{SelectorHead}
use Rattle.walk.specs.declared.head.StructFields.{StructFields}
use Rattle.walk.proofs.Heads.{is_position_lem, is-constant, is-cast, is-rename, is_struct_mapping, is_list_mapping, is-array}
use Rattle.walk.proofs.View.{selectors-counted}
use Rattle.nodes.specs.code.Typed.{TypeIs}
use Rattle.direct.specs.code.Places.{bytes_of}
use Rattle.checker.specs.code.TypesAt.{TypeHeadIs, TypedAt, MappedAt, SourceAt, ResolvedAt, Resolves}
use Rattle.direct.specs.declared.place.Place.{Place}
use Rattle.checker.specs.declared.place.TypeHead.{TypeHead}
use Rattle.checker.specs.declared.resolve.Source.{Source}
use Rattle.checker.specs.declared.resolve.Resolved.{Resolved}
use Rattle.checker.proofs.Making.{made_ends, made_struct-head, made_list-head, made_array-head, made_never, array-input}
use Rattle.walk.proofs.View.{selector-longer}

-- ---- a type that stands in bytes

module _ {s : Bytes} {v : Edition} {at : ℕ} {t : DataType} (R : TypeIs v s at t) {p : HeadSpan} (e : head_res s p ≡ kind s at) where
  -- by what the head was
  pub raw-kind : {q : HeadSpan} → p ≡ q → {k : Head} {m : ℕ} → head_res s q ≡ ok k m → k ≡ head_of t
  raw-kind {q} i {k} {m} g =
      let f : head_res s p ≡ ok k m = ap (head_res s) i ∙ g in
      let H = head_at R.type {c = record { at = at }} {x = end_of (kind s at) (record { at = at })} refl refl in
      let z : ok k m ≡ ok (head_of (dtype_of R.type.tree)) _ = sym f ∙ e ∙ H.reads in
      let y : k ≡ head_of (dtype_of R.type.tree) = cc in
      y ∙ ap head_of R.is

  module _ {incoming plan : Bytes} {q : Place} (b : bytes_of incoming plan q ≡ s) where
    pub raw-leaf : {l : LeafSpan} {c : Cursor} → HeadIn s p → p ≡ HeadSpan.Leaf l c → TypeHeadIs incoming plan t (TypeHead.Leaf q l)
    raw-leaf {l} i f =
        record {
          kind = ap (λ (x : Bytes). a_leaf (leaf_at x l)) b ∙ raw-kind f refl;
          inside = subst (λ (x : Bytes). SpanIn x l.zone) (sym b) (subst (λ (x : HeadSpan). HeadIn s x) f i);
        }

  module _ {incoming plan : Bytes} where
    pub raw-struct : {n : ℕ} {c : Cursor} → p ≡ HeadSpan.Struct n c → TypeHeadIs incoming plan t (TypeHead.Struct n)
    raw-struct f = record { kind = raw-kind f refl; inside = tt }

    pub raw-list : {c : Cursor} → p ≡ HeadSpan.List c → TypeHeadIs incoming plan t TypeHead.List
    raw-list f = record { kind = raw-kind f refl; inside = tt }

    pub raw_array : {w : ℕ} {c : Cursor} → p ≡ HeadSpan.Array w c → TypeHeadIs incoming plan t (TypeHead.Array w)
    raw_array f = record { kind = raw-kind f refl; inside = tt }

  pub raw_never : {X : Type 0} {n : ℕ} → p ≡ HeadSpan.Refused n → X
  raw_never f = never_headless R.type e f

module _ {s : Bytes} {v : Edition} {at w : ℕ} {t : DataType} (R : TypeIs v s at (array w t)) {p : HeadSpan} (e : head_res s p ≡ kind s at) where
  pub width_is : {x : ℕ} {c : Cursor} → p ≡ HeadSpan.Array x c → x ≡ w
  unfolding head_of
  width_is {x} f = let z : an_array x ≡ an_array w = raw-kind R e f refl in cc

  -- no other head
  width-never : {X : Type 0} {q : HeadSpan} → p ≡ q → {k : Head} {m : ℕ} → head_res s q ≡ ok k m → (an_array w ≡ k → X) → X
  unfolding head_of
  width-never f i g = g (sym (raw-kind R e f i))

  pub width-leaf : {X : Type 0} {l : LeafSpan} {c : Cursor} → p ≡ HeadSpan.Leaf l c → X
  width-leaf f = width-never f refl (λ z. clash (cc))

  pub width-struct : {X : Type 0} {n : ℕ} {c : Cursor} → p ≡ HeadSpan.Struct n c → X
  width-struct f = width-never f refl (λ z. clash (cc))

  pub width-list : {X : Type 0} {c : Cursor} → p ≡ HeadSpan.List c → X
  width-list f = width-never f refl (λ z. clash (cc))

-- ---- by the source

module _ {incoming : Bytes} {v : Edition} {n : ℕ} {plan : Bytes} {r : Resolved} {t : DataType} (R : ResolvedAt incoming v n plan r t) where
  sourced : {s : Source} → r.source ≡ s → SourceAt incoming v n plan s r.at.at r.walk t
  sourced {s} e = subst (λ (x : Source). SourceAt incoming v n plan x r.at.at r.walk t) e R.stands

  pub from_incoming : r.source ≡ Source.Incoming → TypeIs v incoming r.at.at t
  from_incoming e = sourced e

  pub from-plan : r.source ≡ Source.Plan → TypeIs Edition.One plan r.at.at t
  from-plan e = sourced e

  pub from-mapping : r.source ≡ Source.Mapped → MappedAt incoming v n plan r.walk t
  from-mapping e = sourced e

-- ---- the width of an array that a mapping makes

pub record Widening (incoming : Bytes) (v : Edition) (n : ℕ) (plan : Bytes) (w x : Walk) : Type 0 where
  pub width : ℕ
  pub element : DataType
  pub start : MappedAt incoming v n plan x (array width element)
  pub keeps : (y : ℕ) (t : DataType) → MappedAt incoming v n plan w (array y t) → (u : DataType) × MappedAt incoming v n plan x (array y u)

module _ {incoming : Bytes} {v : Edition} {n : ℕ} {plan : Bytes} where
  pub mapped-before : {w : Walk} {t : DataType} → MappedAt incoming v n plan w t → w.at < w.lim
  mapped-before M = let b = selector-longer M.standing.here in omega (arith, M.standing.ends)

  pub widening_start : {w : Walk} {x : ℕ} {t : DataType} → MappedAt incoming v n plan w (array x t) → Widening incoming v n plan w w
  widening_start {w} {x} {t} M = record { width = x; element = t; start = M; keeps = λ y u N. (u, N) }

  module _ {x y : Walk} (g : (p : Bytes) (z : State) (s : Selector) → WalkAt p x z → Input z.selector s → StepsTo p (state s z.frames z.path) x
      y) where
    -- the input of a mapping that makes an array
    input-array : {k : ℕ} {t : DataType} → MappedAt incoming v n plan x (array k t) → (u : DataType) × TypedAt incoming v n plan y (array k u)
    input-array {k} M =
        let A = array-input M.made in
        let W = (g plan M.place A.input M.standing A.takes).standing in
        let e = made_ends M.made in (
          A.element,
          record {
            columns = M.columns;
            place = state A.input M.place.frames [];
            standing = subst (λ (p : List ℕ). WalkAt plan y (state A.input M.place.frames p)) e W;
            shallow = A.shallow M.shallow;
            typed = A.given;
          },
        )

    input-less : {k : ℕ} {t : DataType} → MappedAt incoming v n plan x (array k t) → rank y < rank x
    input-less M = let A = array-input M.made in (g plan M.place A.input M.standing A.takes).falls

    module _ {w : Walk} (O : Widening incoming v n plan w x) where
      pub widening-asks : (t : DataType) × TypedAt incoming v n plan y t
      widening-asks = let (u, T) = input-array O.start in (_, T)

      module _ {r : Resolved} (h : (t : DataType) → TypedAt incoming v n plan y t → Resolves incoming v n plan y t r) where
        at-input : {k : ℕ} {t : DataType} → MappedAt incoming v n plan w (array k t) → (u : DataType) × ResolvedAt incoming v n plan r (array k u)
        at-input {k} {t} M =
            let (u, N) = O.keeps k t M in
            let (z, T) = input-array N in
            (z, (h (array k z) T).resolved)

        pub widening-incoming : r.source ≡ Source.Incoming → {a : ℕ} → ((v : Edition) (w : ℕ) (t : DataType) → TypeIs v incoming r.at.at
            (array w t) → a ≡ w)
            → (k : ℕ) (t : DataType) → MappedAt incoming v n plan w (array k t) → a ≡ k
        widening-incoming e f k t M = let (z, R) = at-input M in f v k z (from_incoming R e)

        pub widening-plan : r.source ≡ Source.Plan → {a : ℕ} → ((v : Edition) (w : ℕ) (t : DataType) → TypeIs v plan r.at.at (array w t) → a ≡ w)
            → (k : ℕ) (t : DataType) → MappedAt incoming v n plan w (array k t) → a ≡ k
        widening-plan e f k t M = let (z, R) = at-input M in f Edition.One k z (from-plan R e)

        pub widening-less : rank r.walk < rank x
        widening-less =
            let (u, T) = input-array O.start in
            let a = (h (array O.width u) T).falls in
            let b = input-less O.start in
            omega arith

        pub widening-again : r.source ≡ Source.Mapped → Widening incoming v n plan w r.walk
        widening-again e =
            let (u, T) = input-array O.start in
            record {
              width = O.width;
              element = u;
              start = from-mapping (h (array O.width u) T).resolved e;
              keeps = λ k t M. let (z, R) = at-input M in (z, from-mapping R e);
            }

-- ---- the head of what a mapping makes

module _ {incoming : Bytes} {v : Edition} {n : ℕ} {plan : Bytes} {w : Walk} {t : DataType} (M : MappedAt incoming v n plan w t)
    {r : SelectorHead} (h : HeadIs plan w.at M.standing.here r) where
  place_is : {s : Selector} → M.standing.here.tree ≡ s → M.place.selector ≡ s
  place_is e = sym M.standing.selector ∙ e

  pub made_struct-is : {c : Cursor} {f : StructFields} → r ≡ SelectorHead.Struct c →
      (g : (P : SelectorAt plan c.at) (Q : CountedAt plan P.end) → CountedIs plan P.end Q f)
      → TypeHeadIs incoming plan t (TypeHead.Struct f.count)
  made_struct-is {f = f} e g =
      let S = is_struct_mapping h e in
      let q = (g S.input S.fields).count in
      record { kind = ap a_struct (q ∙ sym (selectors-counted _ S.fields.selectors)) ∙ made_struct-head M.made (place_is S.is); inside = tt }

  pub made_list-is : {c : Cursor} → r ≡ SelectorHead.List c → TypeHeadIs incoming plan t TypeHead.List
  made_list-is e = record { kind = made_list-head M.made (place_is (is_list_mapping h e).is); inside = tt }

  pub made_array_asks : {c : Cursor} → r ≡ SelectorHead.Array c → (x : ℕ) × (u : DataType) × MappedAt incoming v n plan w (array x u)
  made_array_asks e =
      let A = made_array-head M.made (place_is (is-array h e).is) in
      (A.width, A.element, subst (λ (u : DataType). MappedAt incoming v n plan w u) A.is M)

  pub made_array-is : {c : Cursor} {a : ℕ} → r ≡ SelectorHead.Array c → ((x : ℕ) (u : DataType) → MappedAt incoming v n plan w (array x u) → a ≡ x) →
      TypeHeadIs incoming plan t (TypeHead.Array a)
  unfolding head_of
  made_array-is e f =
      let A = made_array-head M.made (place_is (is-array h e).is) in
      let q = f A.width A.element (subst (λ (u : DataType). MappedAt incoming v n plan w u) A.is M) in
      record { kind = ap an_array q ∙ ap head_of (sym A.is); inside = tt }

  -- no other selector makes a type
  pub made-position_never : {X : Type 0} {k : Position} → r ≡ SelectorHead.Position k → X
  made-position_never e = made_never M.made (place_is (is_position_lem h e).1) (omega arith)

  pub made-constant_never : {X : Type 0} {b : Span} {c : Cursor} → r ≡ SelectorHead.Constant b c → X
  made-constant_never e = made_never M.made (place_is (is-constant h e).is) (omega arith)

  pub made-cast_never : {X : Type 0} {c : Cursor} → r ≡ SelectorHead.Cast c → X
  made-cast_never e = made_never M.made (place_is (is-cast h e).is) (omega arith)

  pub made-rename_never : {X : Type 0} {c : Cursor} → r ≡ SelectorHead.Rename c → X
  made-rename_never e = made_never M.made (place_is (is-rename h e).is) (omega arith)
