-- What the functions of src/name.rt answer on each way. Assumes nothing.
use Prim.Native.Nat.{ℕ, ◌<◌}
use mathlib.Core.Path.{◌≡◌, refl, sym, ap, ◌∙◌, subst}
use mathlib.Core.List.{List, [], ◌∷◌}
use native.Mathlib.Omega.{arith}
use lib.ListN.{length}
use Rattle.layout.specs.Bytes.{Bytes}
use Rattle.layout.specs.Tree.{DataType, leaf, struct, list, array, Fields, fields_of, dtype_of}
use Rattle.layout.specs.Layout.{kind, a_leaf, a_list, an_array}
use Rattle.layout.specs.code.Answers.{head_res, span_at, SpanIn}
use Rattle.layout.specs.code.Stands.{ColumnsAt}
use Rattle.layout.specs.code.Finding.{Finds}
use Rattle.layout.specs.Find.{column_at as lookupAt}
use Rattle.layout.specs.declared.bytes.Span.{Span}
use Rattle.layout.specs.declared.columns.Position.{Position}
use Rattle.layout.specs.declared.columns.Label.{Label as LabelSpan}
use Rattle.layout.specs.declared.cursor.Cursor.{Cursor}
use Rattle.layout.specs.declared.find.Found.{Found}
use Rattle.layout.specs.declared.types.Head.{Head}
use Rattle.layout.specs.declared.types.LeafType.{LeafType as LeafSpan}
use Rattle.layout.specs.declared.edition.Edition.{Edition}
use Rattle.layout.proofs.Ways.{clash}
use Rattle.layout.proofs.View.{struct_at}
use Rattle.forms.specs.code.Heads.{head_of}
use Rattle.plan.specs.Result.{gives}
use Rattle.plan.specs.Selector.{Selector, struct_mapping, Selectors}
use Rattle.plan.specs.Check.{Column, column_at, type_of}
use Rattle.plan.proofs.Results.{never_refused, gives_eq}
use Rattle.walk.specs.code.State.{Frame, State, state}
use Rattle.walk.specs.code.Stands.{SelectorAt}
use Rattle.walk.specs.code.Moves.{Input, i_cast, i_struct, i_list, i_array, Part}
use Rattle.walk.specs.code.Types.{ScopeOf, c_top, c_fields, c_list, c_array}
use Rattle.walk.specs.code.Parts.{HeadIs, TextAt, NameIs}
use Rattle.walk.specs.code.Walks.{WalkAt, rank, StepsTo}
use Rattle.walk.specs.declared.walk.Walk.{Walk}
use Rattle.walk.specs.declared.head.SelectorHead.{SelectorHead}
use Rattle.walk.proofs.Heads.{is_position_lem, is-constant, is-cast, is-rename, is_struct_mapping, is_list_mapping, is-array}
use Rattle.nodes.specs.code.Typed.{TypeIs}
use Rattle.checker.specs.code.Shallow.{Shallow}
use Rattle.direct.specs.code.Places.{bytes_of, NameAt}
use Rattle.checker.specs.code.TypesAt.{parts_of, PartOf, ColumnOf, NamedAt, Made, made_struct, made_list, made_array, MappedAt, ResolvedAt, ScopedAt}
use Rattle.checker.specs.code.TypesAt.{EnclosingIs, InputNamed, OwnNameAnswer, OwnNameIs, MappedNameAnswer, MappedNameIs}
use Rattle.direct.specs.declared.place.Place.{Place}
use Rattle.direct.specs.declared.place.Name.{Name}
use Rattle.checker.specs.declared.name.OwnName.{OwnName}
use Rattle.checker.specs.declared.name.PartName.{PartName}
use Rattle.checker.specs.declared.resolve.Resolved.{Resolved}
use Rattle.checker.proofs.Given.{cast-gives, rename-gives, struct-gives, list-gives, array-gives}
use Rattle.checker.proofs.Steps.{element-is}
use Rattle.checker.proofs.Room.{cast-shallow, struct-shallow, list-shallow, array-shallow, entries-count}
use Rattle.checker.proofs.Resolving.{selected}
use Rattle.checker.proofs.Fields.{field_found, field-here, field_never}
use Rattle.checker.proofs.Headed.{raw-kind}
use Rattle.checker.proofs.Making.{made_list-head, made_array-head}
use Rattle.checker.proofs.Parting.{child_asks, child-named, child-less}
use Rattle.walk.proofs.View.{selector-longer}

-- ---- the names of a type's parts

-- a leaf has none
pub leaf_part_lem : {X : Type 0} (t : DataType) {l : _} {k : ℕ} {a : Column} → a_leaf l ≡ head_of t → PartOf t k a → X
unfolding parts_of column_at head_of
leaf_part_lem (leaf l) e P = never_refused P.found refl
leaf_part_lem (struct fs) e P = clash (cc)
leaf_part_lem (list t) e P = clash (cc)
leaf_part_lem (array w t) e P = clash (cc)

-- an element's is empty
pub list_part_lem : (t : DataType) {k : ℕ} {a : Column} → a_list ≡ head_of t → PartOf t k a → a.name ≡ []
unfolding parts_of head_of
list_part_lem (leaf l) e P = clash (cc)
list_part_lem (struct fs) e P = clash (cc)
list_part_lem (list t) e P = ap (λ (c : Column). c.name) (element-is P.found).1
list_part_lem (array w t) e P = clash (cc)

pub array_part_lem : (t : DataType) {w k : ℕ} {a : Column} → an_array w ≡ head_of t → PartOf t k a → a.name ≡ []
unfolding parts_of head_of
array_part_lem (leaf l) e P = clash (cc)
array_part_lem (struct fs) e P = clash (cc)
array_part_lem (list t) e P = clash (cc)
array_part_lem (array w t) e P = ap (λ (c : Column). c.name) (element-is P.found).1

unnamed : {incoming plan : Bytes} {r : Name} {n : Bytes} → n ≡ [] → ((i p : Bytes) → NameAt i p r []) → NameAt incoming plan r n
unnamed {incoming} {plan} {r} e f = subst (λ (b : Bytes). NameAt incoming plan r b) (sym e) (f incoming plan)

-- ---- raw_name

pub record RawFields (v : Edition) (s : Bytes) (t : DataType) (n m : ℕ) : Type 0 where
  pub columns : ColumnsAt v 15 s n m
  pub is : t ≡ struct (fields_of columns.columns)

module _ {s : Bytes} {v : Edition} {at : ℕ} {t : DataType} (T : TypeIs v s at t) {p : Head} (e : head_res s p ≡ kind s at) where
  pub raw-fields : {n : ℕ} {d : Cursor} → p ≡ Head.Struct n d → RawFields v s t n d.at
  unfolding dtype_of
  raw-fields f = let S = struct_at T.type e f in record { columns = S.inner; is = sym T.is ∙ ap dtype_of S.is }

  module _ {k : ℕ} {a : Column} (P : PartOf t k a) where
    pub raw_name-leaf : {X : Type 0} {l : LeafSpan} {c : Cursor} → p ≡ Head.Leaf l c → X
    raw_name-leaf f = leaf_part_lem t (raw-kind T e f refl) P

    pub raw_name-list : {incoming plan : Bytes} {c : Cursor} {r : Name} → p ≡ Head.List c → ((i j : Bytes) → NameAt i j r []) → NameAt incoming plan r a.name
    raw_name-list f g = unnamed (list_part_lem t (raw-kind T e f refl) P) g

    pub raw_name-array : {incoming plan : Bytes} {w : ℕ} {c : Cursor} {r : Name} → p ≡ Head.Array w c → ((i j : Bytes) → NameAt i j r []) → NameAt
        incoming plan r a.name
    raw_name-array f g = unnamed (array_part_lem t (raw-kind T e f refl) P) g

    module _ {n : ℕ} {d : Cursor} (f : p ≡ Head.Struct n d) where
      found : column_at (fields_of (raw-fields f).columns.columns) k ≡ gives a
      unfolding parts_of
      found = ap (λ (u : DataType). column_at (parts_of u) k) (sym (raw-fields f).is) ∙ P.found

      module _ {o : Found} (g : (C : ColumnsAt v 15 s n d.at) → Finds v 15 s (lookupAt (record { 0 = k }) C.columns) o) where
        pub raw-name-field : {incoming plan : Bytes} {q : Place} {i : Position} {l : LabelSpan} {c : Cursor} {r : Name} → o ≡ Found.At i l c → r ≡
            record { place = q; span = l.name }
            → bytes_of incoming plan q ≡ s → NameAt incoming plan r a.name
        raw-name-field {incoming} {plan} {l = l} h m b =
            let F = field-here (field_found (raw-fields f).columns (record { 0 = k }) found (g (raw-fields f).columns)) h in
            subst (λ (x : Name). NameAt incoming plan x a.name) (sym m)
            (record { inside = subst (λ (x : Bytes). SpanIn x l.name) (sym b) F.inside; is = ap (λ (x : Bytes). span_at x l.name) b ∙ F.name })

        pub raw-name-absent : {X : Type 0} → o ≡ Found.Absent → X
        raw-name-absent h = field_never (field_found (raw-fields f).columns (record { 0 = k }) found (g (raw-fields f).columns)) h

-- ---- column_name

module _ {incoming : Bytes} {v : Edition} {n : ℕ} {k : Position} {a : Column} (C : ColumnOf incoming v n k a) {o : Found}
    (g : (D : ColumnsAt v 16 incoming n 7) → Finds v 16 incoming (lookupAt k D.columns) o) where
  pub column_name-is : {plan : Bytes} {i : Position} {l : LabelSpan} {c : Cursor} {r : Name} → o ≡ Found.At i l c → r ≡ record
      { place = Place.Incoming; span = l.name } → NameAt incoming plan r a.name
  column_name-is {plan} {l = l} h m =
      let F = field-here (field_found C.columns k C.found (g C.columns)) h in
      subst (λ (x : Name). NameAt incoming plan x a.name) (sym m) (record { inside = F.inside; is = F.name })

  pub column_name-absent : {X : Type 0} → o ≡ Found.Absent → X
  column_name-absent h = field_never (field_found C.columns k C.found (g C.columns)) h

-- ---- own_name

module _ {incoming : Bytes} {v : Edition} {n : ℕ} {plan : Bytes} {w : Walk} {a : Column} (N : NamedAt incoming v n plan w a) {r : SelectorHead}
    (h : HeadIs plan w.at N.standing.here r) where
  chosen : {s : Selector} → N.standing.here.tree ≡ s → N.selector ≡ s
  chosen e = sym N.standing.selector ∙ e

  gives_so : {s : Selector} → N.standing.here.tree ≡ s → type_of N.scope s ≡ gives a
  gives_so e = ap (λ (x : Selector). type_of N.scope x) (sym (chosen e)) ∙ N.passes

  pub own_position : {k : Position} → r ≡ SelectorHead.Position k → OwnNameIs incoming v n plan w a (OwnName.Position k)
  unfolding type_of
  own_position e = record {
    answer = record {
      scope = N.scope;
      scoped = record { columns = N.columns; place = state N.selector N.frames []; standing = N.standing; shallow = N.shallow; scoped = N.scoped };
      found = gives_so (is_position_lem h e).1;
    };
  }

  pub own_constant : {b : Span} {c : Cursor} {m : Name} → r ≡ SelectorHead.Constant b c → m ≡ record { place = Place.Plan; span = b } → OwnNameIs
      incoming v n plan w a (OwnName.Is m)
  unfolding type_of
  own_constant {b} e f =
      let C = is-constant h e in
      let g = gives_eq (gives_so C.is) in
      record { answer = subst (λ (x : Name). NameAt incoming plan x a.name) (sym f) (record { inside = C.named; is = ap (λ (c : Column). c.name) g }) }

  pub own_rename : {c : Cursor} {b : Span} {m : Name} (e : r ≡ SelectorHead.Rename c) →
      ((P : SelectorAt plan c.at) (T : TextAt plan P.end) → NameIs plan P.end T b)
      → m ≡ record { place = Place.Plan; span = b } → OwnNameIs incoming v n plan w a (OwnName.Is m)
  own_rename {b = b} e i f =
      let C = is-rename h e in
      let g = (rename-gives (gives_so C.is)).is in
      let I = i C.input C.name in
      record {
        answer = subst (λ (x : Name). NameAt incoming plan x a.name) (sym f)
            (record { inside = I.within; is = I.is ∙ sym (ap (λ (c : Column). c.name) g) });
      }

  shallow-so : {s : Selector} → N.standing.here.tree ≡ s → Shallow (state s N.frames [])
  shallow-so e = selected (chosen e) N.shallow

  takes-so : {s i : Selector} → N.standing.here.tree ≡ s → Input s i → Input N.selector i
  takes-so {i = i} e t = subst (λ (x : Selector). Input x i) (sym (chosen e)) t

  pub own_cast : {c : Cursor} → r ≡ SelectorHead.Cast c → OwnNameIs incoming v n plan w a OwnName.Input
  own_cast e =
      let C = is-cast h e in
      let G = cast-gives (gives_so C.is) in
      record {
        answer = record {
          named = N;
          input = C.input.tree;
          takes = takes-so C.is i_cast;
          shallow = cast-shallow (shallow-so C.is);
          column
              = G.input;
          passes = G.passes;
          same = sym (ap (λ (c : Column). c.name) G.is);
        };
      }

  pub own_struct : {c : Cursor} → r ≡ SelectorHead.Struct c → OwnNameIs incoming v n plan w a OwnName.Input
  own_struct e =
      let C = is_struct_mapping h e in
      let G = struct-gives (gives_so C.is) in
      record {
        answer = record {
          named = N;
          input = C.input.tree;
          takes = takes-so C.is i_struct;
          shallow = struct-shallow (shallow-so C.is);
          column = G.input;
          passes = G.passes;
          same = sym (ap (λ (c : Column). c.name) G.is);
        };
      }

  pub own_list : {c : Cursor} → r ≡ SelectorHead.List c → OwnNameIs incoming v n plan w a OwnName.Input
  own_list e =
      let C = is_list_mapping h e in
      let G = list-gives (gives_so C.is) in
      record {
        answer = record {
          named = N;
          input = C.input.tree;
          takes = takes-so C.is i_list;
          shallow = list-shallow (shallow-so C.is);
          column
              = G.input;
          passes = G.passes;
          same = sym (ap (λ (c : Column). c.name) G.is);
        };
      }

  pub own_array : {c : Cursor} → r ≡ SelectorHead.Array c → OwnNameIs incoming v n plan w a OwnName.Input
  own_array e =
      let C = is-array h e in
      let G = array-gives (gives_so C.is) in
      record {
        answer = record {
          named = N;
          input = C.input.tree;
          takes = takes-so C.is i_array;
          shallow = array-shallow (shallow-so C.is);
          column = G.input;
          passes = G.passes;
          same = sym (ap (λ (c : Column). c.name) G.is);
        };
      }

-- ---- mapped_name

made_fields : {Γ : Fields} {x : State} {t : DataType} {s : Selector} {ss : Selectors} → Made Γ x t → x.selector ≡ struct_mapping s ss → (gs : Fields) ×
    (t ≡ struct gs)
made_fields (made_struct {gs = gs} a b c d) e = (gs, refl)
made_fields (made_list a b c d) e = clash (cc)
made_fields (made_array a b c d) e = clash (cc)

module _ {incoming : Bytes} {v : Edition} {n : ℕ} {plan : Bytes} {w : Walk} {t : DataType} {k : ℕ} {a : Column} (M : MappedAt incoming v n plan w t)
    (P : PartOf t k a)
    {r : SelectorHead} (h : HeadIs plan w.at M.standing.here r) where
  place_is : {s : Selector} → M.standing.here.tree ≡ s → M.place.selector ≡ s
  place_is e = sym M.standing.selector ∙ e

  pub mapped-field : {c : Cursor} → r ≡ SelectorHead.Struct c → MappedNameIs incoming v n plan w k a PartName.Child
  unfolding parts_of
  mapped-field e =
      let (gs, q) = made_fields M.made (place_is (is_struct_mapping h e).is) in
      record {
        answer = record {
          fields = gs;
          mapped = subst (λ (u : DataType). MappedAt incoming v n plan w u) q M;
          found = ap
              (λ (u : DataType). column_at (parts_of u) k) (sym q) ∙ P.found;
        };
      }

  pub mapped-list : {c : Cursor} {m : Name} → r ≡ SelectorHead.List c → ((i j : Bytes) → NameAt i j m []) → MappedNameIs incoming v n plan w k a (PartName.Is m)
  mapped-list e g = record { answer = unnamed (list_part_lem t (made_list-head M.made (place_is (is_list_mapping h e).is)) P) g }

  pub mapped-array : {c : Cursor} {m : Name} → r ≡ SelectorHead.Array c → ((i j : Bytes) → NameAt i j m []) → MappedNameIs incoming v n plan w k a
      (PartName.Is m)
  unfolding head_of
  mapped-array e g =
      let A = made_array-head M.made (place_is (is-array h e).is) in
      record { answer = unnamed (array_part_lem t (ap head_of (sym A.is)) P) g }

-- ---- name_at

pub record Naming (incoming : Bytes) (v : Edition) (n : ℕ) (plan : Bytes) (w x : Walk) : Type 0 where
  pub some : Column
  pub start : NamedAt incoming v n plan x some
  pub keeps : (a : Column) → NamedAt incoming v n plan w a → (b : Column) × (NamedAt incoming v n plan x b × (b.name ≡ a.name))

module _ {incoming : Bytes} {v : Edition} {n : ℕ} {plan : Bytes} where
  pub naming_start : {w : Walk} {a : Column} → NamedAt incoming v n plan w a → Naming incoming v n plan w w
  naming_start {a = a} N = record { some = a; start = N; keeps = λ b B. (b, (B, refl)) }

  pub named-before : {w : Walk} {a : Column} → NamedAt incoming v n plan w a → w.at < w.lim
  named-before N = let b = selector-longer N.standing.here in omega (arith, N.standing.ends)

  module _ {w x : Walk} (O : Naming incoming v n plan w x) {r : OwnName}
      (h : (i : Bytes) (u : Edition) (m : ℕ) (a : Column) → NamedAt i u m plan x a → OwnNameIs i u m plan x a r) where
    own : {a : Column} {q : OwnName} → r ≡ q → NamedAt incoming v n plan x a → OwnNameAnswer incoming v n plan x a q
    own {a} e N = subst (λ (q : OwnName). OwnNameAnswer incoming v n plan x a q) e (h incoming v n a N).answer

    -- a name for x is one for w
    for-start : {m : Name} → ((b : Column) → NamedAt incoming v n plan x b → NameAt incoming plan m b.name) → (a : Column) → NamedAt incoming v n
        plan w a → NameAt incoming plan m a.name
    for-start {m} f a N = let (b, (B, e)) = O.keeps a N in subst (λ (y : Bytes). NameAt incoming plan m y) e (f b B)

    -- where x goes on to y
    goes_on : {y : Walk} → ((b : Column) → NamedAt incoming v n plan x b → (c : Column) × (NamedAt incoming v n plan y c × (c.name ≡ b.name))) →
        Naming incoming v n plan w y
    goes_on f =
        let (c, (C, e)) = f O.some O.start in
        record {
          some = c;
          start = C;
          keeps = λ a N. let (b, (B, e)) = O.keeps a N in let (d, (D, g)) = f b B in (d, (D, g ∙ e));
        }

    pub naming_is : {m : Name} → r ≡ OwnName.Is m → (a : Column) → NamedAt incoming v n plan w a → NameAt incoming plan m a.name
    naming_is e = for-start (λ b B. own e B)

    module _ (e : r ≡ OwnName.Input) {y : Walk} (g : (p : Bytes) (z : State) (s : Selector) → WalkAt p x z → Input z.selector s → StepsTo p
        (state s z.frames z.path) x y) where
      input-steps : {b : Column} (I : InputNamed incoming v n plan x b) → StepsTo plan (state I.input I.named.frames []) x y
      input-steps I = g plan (state I.named.selector I.named.frames []) I.input I.named.standing I.takes

      pub naming-input-less : rank y < rank x
      naming-input-less = (input-steps (own e O.start)).falls

      pub naming-input : Naming incoming v n plan w y
      naming-input = goes_on (λ b B.
          let I = own e B in (
            I.column,
            (
              record {
                columns = I.named.columns;
                selector = I.input;
                frames = I.named.frames;
                standing = (input-steps I).standing;
                shallow = I.shallow;
                scope = I.named.scope;
                scoped = I.named.scoped;
                passes = I.passes;
              },
              I.same,
            ),
          ))

    module _ {k : Position} (e : r ≡ OwnName.Position k) where
      pub naming-scope : (Δ : Fields) × ScopedAt incoming v n plan x Δ
      naming-scope = let P = own e O.start in (P.scope, P.scoped)

      pub naming-column : x.deep ≡ 0 → {b : Column} → NamedAt incoming v n plan x b → ColumnOf incoming v n k b
      naming-column z {b} B =
          let P = own e B in
          let l = entries-count P.scoped.standing.entries in
          go P.scoped.columns P.scoped.scoped (let q : length P.scoped.place.frames ≡ 0 = omega arith in q) P.found
        where
          go : (C : ColumnsAt v 16 incoming n 7) {E : List Frame} {Δ : Fields} → ScopeOf (fields_of C.columns) E Δ → length E ≡ 0 → column_at Δ k.0
              ≡ gives b → ColumnOf incoming v n k b
          go C c_top q f = record { columns = C; found = f }
          go C (c_fields s g i) q f = absurd (omega arith)
          go C (c_list s g i) q f = absurd (omega arith)
          go C (c_array s g i) q f = absurd (omega arith)

      pub naming-top : x.deep ≡ 0 → {m : Name} → ((p : Bytes) (a : Column) → ColumnOf incoming v n k a → NameAt incoming p m a.name)
          → (a : Column) → NamedAt incoming v n plan w a → NameAt incoming plan m a.name
      naming-top z f = for-start (λ b B. f plan b (naming-column z B))

      module _ {q : Resolved} (i : (Δ : Fields) → ScopedAt incoming v n plan x Δ → EnclosingIs incoming v n plan x Δ q) where
        record Enclosed (b : Column) : Type 0 where
          type : DataType
          resolved : ResolvedAt incoming v n plan q type
          part : PartOf type k.0 b
          falls : rank q.walk < rank x

        enclosed : {b : Column} → NamedAt incoming v n plan x b → Enclosed b
        enclosed B =
            let P = own e B in
            let E = i P.scope P.scoped in
            record {
              type = E.type;
              resolved = E.resolved;
              part = record { found = ap (λ (Δ : Fields). column_at Δ k.0) E.parts ∙ P.found };
              falls = E.falls;
            }

        pub direct-asks : (m : ℕ) × (t : DataType) × ResolvedAt incoming v m plan q t
        direct-asks = let E = enclosed O.start in (n, E.type, E.resolved)

        module _ {d : PartName} (j : (m : ℕ) (t : DataType) (a : Column) → ResolvedAt incoming v m plan q t → PartOf t k.0 a → MappedNameIs incoming
            v m plan q.walk k.0 a d) where
          direct : {b : Column} {p : PartName} → d ≡ p → NamedAt incoming v n plan x b → MappedNameAnswer incoming v n plan q.walk k.0 b p
          direct {b} f B = let E = enclosed B in subst (λ (p : PartName). MappedNameAnswer incoming v n plan q.walk k.0 b p) f
              (j n E.type b E.resolved E.part).answer

          pub naming-direct : {m : Name} → d ≡ PartName.Is m → (a : Column) → NamedAt incoming v n plan w a → NameAt incoming plan m a.name
          naming-direct f = for-start (λ b B. direct f B)

          module _ (f : d ≡ PartName.Child) where
            pub naming-child-asks : ((z : State) × WalkAt plan q.walk z) × (q.walk.deep < 64)
            naming-child-asks = child_asks (direct f O.start).mapped

            module _ {y : Walk} (g : (z : State) (l : Frame) (s : Selector) → WalkAt plan q.walk z → z.path ≡ [] → Part z.selector k.0 l s →
                StepsTo plan (state s (l ∷ z.frames) []) q.walk y) where
              pub naming-child-less : rank y < rank x
              naming-child-less =
                  let F = direct f O.start in
                  let a = child-less g F.mapped F.found in
                  let b = (enclosed O.start).falls in
                  omega arith

              pub naming-child : Naming incoming v n plan w y
              naming-child = goes_on (λ b B. let F = direct f B in (b, (child-named g F.mapped F.found, refl)))
