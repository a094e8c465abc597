-- What the functions of src/over.rt answer on each way for one selector. Assumes nothing.
use Prim.Native.Nat.{ℕ, ◌+◌, ◌-◌, ◌≤◌, ◌<◌}
use mathlib.Core.Path.{◌≡◌, refl, sym, ap, subst, ◌∙◌}
use mathlib.Core.Bool.{Bool, true}
use mathlib.Core.List.{List}
use native.Mathlib.Omega.{arith}
use lib.ListN.{length}
use Rattle.layout.specs.Bytes.{Bytes, AllBytes}
use Rattle.layout.specs.Tree.{DataType, struct, list, array, Fields, dtype_of, fields_of}
use Rattle.layout.specs.Layout.{a_struct, a_list, an_array, type as typeRead}
use Rattle.layout.specs.code.Stands.{TypeAt}
use Rattle.layout.specs.declared.bytes.Span.{Span}
use Rattle.layout.specs.declared.columns.Siblings.TheVariants.{Free}
use Rattle.layout.specs.declared.cursor.Cursor.{Cursor}
use Rattle.layout.specs.declared.edition.Edition.{Edition}
use Rattle.layout.specs.declared.edition.Edition.TheVariants.{One}
use Rattle.forms.specs.Form.{kind_form, text_bytes}
use Rattle.forms.specs.code.Readable.{Readable}
use Rattle.forms.proofs.Theorems.{read-readable}
use Rattle.rules.specs.declared.outcome.CastOption.{CastOption}
use Rattle.plan.specs.Result.{Result, gives}
use Rattle.plan.specs.Selector.{Selector}
use Rattle.plan.specs.Check.{Column, column, element_of, cast_fits_of, within_limits, type_of, types_of}
use Rattle.walk.specs.code.Stands.{SelectorAt, SelectorsAt}
use Rattle.walk.specs.code.Parts.{ConstantAt, CastAt, RenameAt, StructAt, ListAt, ArrayAt, CountedIs}
use Rattle.walk.specs.declared.head.StructFields.{StructFields}
use Rattle.walk.proofs.View.{selectors_moved}
use Rattle.index.specs.code.Indexed.{Indexed}
use Rattle.direct.specs.code.Inputs.{input_of, InputAt, InputParts, InputIs, Unrenamed}
use Rattle.direct.specs.code.Insides.{StructIn, ListIn, ArrayIn, InsideParts, InsideIs}
use Rattle.direct.specs.code.Scopes.{ScopeAt, TakenAt}
use Rattle.direct.specs.declared.input.Input.{Input}
use Rattle.direct.specs.declared.inside.Inside.{Inside}
use Rattle.direct.specs.declared.place.Name.{Name}
use Rattle.direct.specs.declared.scope.Scope.{Scope}
use Rattle.direct.proofs.Trees.{cast-gives, rename-gives, struct-gives, list-gives, array-gives}
use Rattle.infer.specs.code.Naming.{NamedTo, NamedParts, NamedIs}
use Rattle.infer.specs.code.Writing.{Fills, behind_of, CopiedIs, InferredTo, InferredParts, InferredIs, ColumnTo, ColumnParts, ColumnIs, FieldsTo}
use Rattle.infer.specs.code.Writing.{FieldsParts, FieldsIs}
use Rattle.infer.specs.declared.form.Inferred.{Inferred}
use Rattle.infer.specs.declared.name.Named.{Named}
use Rattle.infer.proofs.Behind.{behind_split, limits, list-writes, array-writes, struct-writes, column-writes}

-- ---- answers

module _ {r : Result Column} {depth : ℕ} {out : Bytes} {k : ℕ} {o : Bytes} where
  pub inferred_none : InferredIs r depth out k Inferred.Unknown o
  inferred_none = record { parts = tt }

  pub column-none : ColumnIs r depth out k Inferred.Unknown o
  column-none = record { parts = tt }

  pub inferred_to : {q : Inferred} {len : ℕ} → InferredIs r depth out k q o → q ≡ Inferred.Is len → InferredTo r depth out k len o
  inferred_to I e = subst (λ (x : Inferred). InferredParts r depth out k x o) e I.parts

  pub column-to : {q : Inferred} {len : ℕ} → ColumnIs r depth out k q o → q ≡ Inferred.Is len → ColumnTo r depth out k len o
  column-to I e = subst (λ (x : Inferred). ColumnParts r depth out k x o) e I.parts

  -- no longer than a head may be asked to stand before
  pub inferred_short : {q : Inferred} → InferredIs r depth out k q o → (len : ℕ) → q ≡ Inferred.Is len → len ≤ 65536
  inferred_short I len e = let s = (inferred_to I e).writes.short in omega arith

pub fields-none : {r : Result Fields} {count depth : ℕ} {out : Bytes} {k : ℕ} {o : Bytes} → FieldsIs r count depth out k Inferred.Unknown o
fields-none = record { parts = tt }

pub fields-to : {r : Result Fields} {count depth : ℕ} {out : Bytes} {k : ℕ} {o : Bytes} {q : Inferred} {len : ℕ} → FieldsIs r count depth out k q o → q
    ≡ Inferred.Is len → FieldsTo r count depth out k len o
fields-to {r} {count} {depth} {out} {k} {o} I e = subst (λ (x : Inferred). FieldsParts r count depth out k x o) e I.parts

pub fields-short : {r : Result Fields} {count depth : ℕ} {out : Bytes} {k : ℕ} {o : Bytes} {q : Inferred} → FieldsIs r count depth out k q o → length
    out ≤ 65536 → (len : ℕ) → q ≡ Inferred.Is len → len ≤ 65536
fields-short I h len e = let s = (fields-to I e).writes.room in omega arith

-- a type that was copied
pub copied_infers : {t : DataType} {depth : ℕ} {out : Bytes} {k : ℕ} {o : Bytes} {q : Inferred} {r : Result Column} {n : Bytes} → CopiedIs t depth out k
    q o → (within_limits t ≡ true → r ≡ gives (column n t)) → depth ≤ 16
    → InferredIs r depth out k q o
copied_infers {t} {depth} {out} {k} {o} {q} {r} {n} C g h = go q C
  where
    go : (q : Inferred) → CopiedIs t depth out k q o → InferredIs r depth out k q o
    go (Inferred.Is len) C = record { parts = record { name = n; type = t; typed = g (limits C.parts h); writes = C.parts } }
    go Inferred.Unknown C = inferred_none

pub depth_as : {r : Result Column} {d : ℕ} {out : Bytes} {k : ℕ} {q : Inferred} {o : Bytes} → (d ≡ 0 → ⊥) → InferredIs r (d - 1 + 1) out k q o →
    InferredIs r d out k q o
depth_as {r} {d} {out} {k} {q} {o} h I = let e : d - 1 + 1 ≡ d = omega arith in subst (λ (x : ℕ). InferredIs r x out k q o) e I

-- ---- what a caller gets from an answer

pub input-at : {s : Bytes} {at : ℕ} {P : SelectorAt s at} {r : Input} {c : Cursor} → InputIs s at P r → r ≡ Input.At c → InputAt s at P c.at
input-at {s} {at} {P} I e = subst (λ (x : Input). InputParts s at P x) e I.parts

pub named-to : {s plan : Bytes} {r : Result Column} {q : Named} {n : Name} → NamedIs s plan r q → q ≡ Named.Is n → NamedTo s plan r n
named-to {s} {plan} {r} I e = subst (λ (x : Named). NamedParts s plan r x) e I.parts

module _ {v : Edition} {s : Bytes} {at : ℕ} {T : TypeAt v 16 s at} {r : Inside} (I : InsideIs v s at T r) where
  pub in_struct : {n : ℕ} {c : Cursor} → r ≡ Inside.Struct n c → StructIn v s at T n c.at
  in_struct e = subst (λ (x : Inside). InsideParts v s at T x) e I.parts

  pub in_list : {c : Cursor} → r ≡ Inside.List c → ListIn v s at T c.at
  in_list e = subst (λ (x : Inside). InsideParts v s at T x) e I.parts

  pub in_array : {w : ℕ} {c : Cursor} → r ≡ Inside.Array w c → ArrayIn v s at T w c.at
  in_array e = subst (λ (x : Inside). InsideParts v s at T x) e I.parts

-- a width that was read fits its field
pub array-width : {v : Edition} {s : Bytes} {at : ℕ} (T : TypeAt v 16 s at) {w m : ℕ} → ArrayIn v s at T w m → AllBytes s → w < 4294967296
array-width {v} {s} {at} T I b = (subst (λ (t : DataType). Readable t) I.is (read-readable v Free 16 s at b T.reads)).0

-- ---- positions and constants

pub position_infers : {s : Bytes} {v : Edition} {r : Result Column} {n : Span} {d : ℕ} (K : TakenAt s v r n d) {depth : ℕ} {out : Bytes} {k : ℕ}
    {q : Inferred} {o : Bytes} → CopiedIs (dtype_of K.type.tree) depth out k q o → depth ≤ 16
    → InferredIs r depth out k q o
position_infers K C h = copied_infers C (λ w. K.is) h

pub constant_infers : (Γ : Fields) {plan : Bytes} {at : ℕ} {P : SelectorAt plan at} {n : Span} {m : ℕ} (S : ConstantAt plan at P n m) {depth : ℕ}
    {out : Bytes} {k : ℕ} {q : Inferred} {o : Bytes}
    → CopiedIs (dtype_of S.type.tree) depth out k q o → depth ≤ 16 → InferredIs (type_of Γ P.tree) depth out k q o
unfolding type_of
constant_infers Γ S C h = copied_infers C (λ w. ap (λ (x : Selector). type_of Γ x) S.is) h

-- ---- transforms

module _ {plan : Bytes} {at : ℕ} {P : SelectorAt plan at} {m : ℕ} (Γ : Fields) {r : Result Column} where
  pub cast-from : (S : CastAt plan at P m) → type_of Γ (input_of P.tree) ≡ r → type_of Γ S.input.tree ≡ r
  unfolding input_of
  cast-from S e = ap (λ (x : Selector). type_of Γ (input_of x)) (sym S.is) ∙ e

  pub rename-from : (S : RenameAt plan at P m) → type_of Γ (input_of P.tree) ≡ r → type_of Γ S.input.tree ≡ r
  unfolding input_of
  rename-from S e = ap (λ (x : Selector). type_of Γ (input_of x)) (sym S.is) ∙ e

  pub struct_from : (S : StructAt plan at P m) → type_of Γ (input_of P.tree) ≡ r → type_of Γ S.input.tree ≡ r
  unfolding input_of
  struct_from S e = ap (λ (x : Selector). type_of Γ (input_of x)) (sym S.is) ∙ e

  pub list-from : (S : ListAt plan at P m) → type_of Γ (input_of P.tree) ≡ r → type_of Γ S.input.tree ≡ r
  unfolding input_of
  list-from S e = ap (λ (x : Selector). type_of Γ (input_of x)) (sym S.is) ∙ e

  pub array-from : (S : ArrayAt plan at P m) → type_of Γ (input_of P.tree) ≡ r → type_of Γ S.input.tree ≡ r
  unfolding input_of
  array-from S e = ap (λ (x : Selector). type_of Γ (input_of x)) (sym S.is) ∙ e

-- the cast's type, where its input ends
abbrev pub cast-type : {plan : Bytes} {at : ℕ} {P : SelectorAt plan at} {m : ℕ} (S : CastAt plan at P m) {t : ℕ} → t ≡ S.input.end → TypeAt One 16 plan t
cast-type {plan} S h = record { tree = S.type.tree; end = S.type.end; reads = ap (λ (o : ℕ). typeRead One Free 16 plan o) h ∙ S.type.reads }

module _ {v : Edition} {s : Bytes} {d : ℕ} (T : TypeAt v 16 s d) {plan : Bytes} {at : ℕ} {P : SelectorAt plan at} {m : ℕ} (Γ : Fields) {n : Bytes}
    {depth : ℕ} {out : Bytes} {k : ℕ} {o : Bytes} where
  pub cast_infers : (S : CastAt plan at P m) → type_of Γ S.input.tree ≡ gives (column n (dtype_of T.tree)) → {q : Inferred} {c : CastOption}
      {b : Bool} → c ≡ S.option.option
      → b ≡ cast_fits_of (dtype_of T.tree) (dtype_of S.type.tree) c → b ≡ true → CopiedIs (dtype_of S.type.tree) depth out k q o → depth ≤ 16 →
      InferredIs (type_of Γ P.tree) depth out k q o
  cast_infers S e p f g C h =
      let u = dtype_of S.type.tree in
      let fits : cast_fits_of (dtype_of T.tree) u S.option.option ≡ true = ap (λ (c : CastOption). cast_fits_of (dtype_of T.tree) u c) (sym p) ∙ sym f ∙ g in
      copied_infers C (λ w. ap (λ (x : Selector). type_of Γ x) S.is ∙ cast-gives Γ S.input.tree e u S.option.option fits w) h

  pub rename_infers : (S : RenameAt plan at P m) → type_of Γ S.input.tree ≡ gives (column n (dtype_of T.tree)) → {q : Inferred} → CopiedIs
      (dtype_of T.tree) depth out k q o → depth ≤ 16
      → InferredIs (type_of Γ P.tree) depth out k q o
  rename_infers S e C h = copied_infers C (λ w. ap (λ (x : Selector). type_of Γ x) S.is ∙ rename-gives Γ S.input.tree e S.name.bytes w) h

  module _ {r q : Inferred} {o' : Bytes} (h : depth ≤ 15) where
    pub list_infers : (S : ListAt plan at P m) {x : ℕ} (I : ListIn v s d T x) → type_of Γ S.input.tree ≡ gives (column n (dtype_of T.tree)) → Fills
        (kind_form a_list) out k o
        → InferredIs (type_of (element_of (dtype_of I.type.tree)) S.element.tree) depth o (k + 1) r o' → q ≡ behind_of 1 r → InferredIs
        (type_of Γ P.tree) (depth + 1) out k q o'
    list_infers S I e F R g = behind_split (λ (x : Inferred). InferredIs (type_of Γ P.tree) (depth + 1) out k x o') 1 r g inferred_none (λ len f l.
        let E = inferred_to R f in
        let W = list-writes F E.writes l in
        record {
          parts = record {
            name = n;
            type = list E.type;
            typed = ap (λ (x : Selector). type_of Γ x) S.is ∙ list-gives Γ S.input.tree e S.element.tree I.is E.typed (limits W (omega arith));
            writes = W;
          };
        })

    pub array_infers : (S : ArrayAt plan at P m) {w x : ℕ} (I : ArrayIn v s d T w x) → w < 4294967296 → type_of Γ S.input.tree ≡ gives
        (column n (dtype_of T.tree)) → Fills (kind_form (an_array w)) out k o
        → InferredIs (type_of (element_of (dtype_of I.type.tree)) S.element.tree) depth o (k + 5) r o' → q ≡ behind_of 5 r → InferredIs
        (type_of Γ P.tree) (depth + 1) out k q o'
    array_infers S {w} I b e F R g = behind_split (λ (x : Inferred). InferredIs (type_of Γ P.tree) (depth + 1) out k x o') 5 r g inferred_none (λ len f l.
        let E = inferred_to R f in
        let W = array-writes F E.writes b l in
        record {
          parts = record {
            name = n;
            type = array w E.type;
            typed = ap (λ (x : Selector). type_of Γ x) S.is ∙ array-gives Γ S.input.tree e S.element.tree I.is E.typed (limits W (omega arith));
            writes = W;
          };
        })

    pub struct_infers : (S : StructAt plan at P m) {i x : ℕ} (I : StructIn v s d T i x) {w : StructFields} → CountedIs plan S.input.end S.fields
        w → w.count < 65536
        → type_of Γ S.input.tree ≡ gives (column n (dtype_of T.tree)) → Fills (kind_form (a_struct w.count)) out k o
        → FieldsIs (types_of (fields_of I.columns.columns) S.fields.selectors.trees) w.count depth o (k + 3) r o' → q ≡ behind_of 3 r →
        InferredIs (type_of Γ P.tree) (depth + 1) out k q o'
    struct_infers S I C b e F R g = behind_split (λ (x : Inferred). InferredIs (type_of Γ P.tree) (depth + 1) out k x o') 3 r g inferred_none (λ len f l.
        let E = fields-to R f in
        let W = struct-writes F E.writes E.counted b l in
        record {
          parts = record {
            name = n;
            type = struct E.fields;
            typed = ap (λ (x : Selector). type_of Γ x) S.is ∙ struct-gives Γ S.input.tree e S.fields.selectors.trees I.is E.typed
                (limits W (omega arith));
            writes = W;
          };
        })

-- ---- scopes inside

abbrev pub list-scope : {v : Edition} {s : Bytes} {at : ℕ} {T : TypeAt v 16 s at} {x : Cursor} (I : ListIn v s at T x.at) {index : List ℕ}
    {stride : ℕ} → ScopeAt s v (Scope.Element x) index stride
list-scope I = record { fields = element_of (dtype_of I.type.tree); parts = record { type = I.type; are = refl } }

abbrev pub array-scope : {v : Edition} {s : Bytes} {at : ℕ} {T : TypeAt v 16 s at} {w : ℕ} {x : Cursor} (I : ArrayIn v s at T w x.at)
    {index : List ℕ} {stride : ℕ} → ScopeAt s v (Scope.Element x) index stride
array-scope I = record { fields = element_of (dtype_of I.type.tree); parts = record { type = I.type; are = refl } }

abbrev pub struct-scope : {v : Edition} {s : Bytes} {at : ℕ} {T : TypeAt v 16 s at} {n : ℕ} {x : Cursor} (I : StructIn v s at T n x.at)
    {index : List ℕ} {stride : ℕ} → Indexed v s n x.at stride index → 0 < stride
    → ScopeAt s v (Scope.Columns n x) index stride
struct-scope I X z = record { fields = fields_of I.columns.columns; parts = record { columns = I.columns; are = refl; indexed = X; strides = z } }

abbrev pub struct-selectors : {plan : Bytes} {at : ℕ} {P : SelectorAt plan at} {m : ℕ} (S : StructAt plan at P m) {w : StructFields} → CountedIs plan
    S.input.end S.fields w → SelectorsAt plan w.count w.first.at
struct-selectors S C = selectors_moved (sym C.count) (sym C.first) S.fields.selectors

-- ---- a selector inside renames, and its column

pub unrenamed_infers : {plan : Bytes} {at : ℕ} {P : SelectorAt plan at} {m : ℕ} (U : Unrenamed plan at P m) (Γ : Fields) {depth : ℕ} {out : Bytes}
    {k : ℕ} {q : Inferred} {o : Bytes}
    → InferredIs (type_of Γ U.inner.tree) depth out k q o → depth ≤ 16 → InferredIs (type_of Γ P.tree) depth out k q o
unrenamed_infers {P = P} U Γ {depth} {out} {k} {q} {o} I h = go q I
  where
    go : (q : Inferred) → InferredIs (type_of Γ U.inner.tree) depth out k q o → InferredIs (type_of Γ P.tree) depth out k q o
    go (Inferred.Is len) I =
        let (b, e) = U.typed Γ I.parts.typed (limits I.parts.writes h) in
        record { parts = record { name = b; type = I.parts.type; typed = e; writes = I.parts.writes } }
    go Inferred.Unknown I = inferred_none

-- the type that a transform's input takes
pub input-takes : {plan : Bytes} {at : ℕ} {P : SelectorAt plan at} {m : ℕ} (J : InputAt plan at P m) (Γ : Fields) {r : Result Column} → type_of Γ
    J.input.tree ≡ r → type_of Γ (input_of P.tree) ≡ r
input-takes J Γ e = ap (λ (x : Selector). type_of Γ x) (sym J.is) ∙ e

pub column_infers : {s plan : Bytes} {r : Result Column} {n : Name} (N : NamedTo s plan r n) {depth : ℕ} {out : Bytes} {k at : ℕ} {o : Bytes}
    {p q : Inferred} {o' : Bytes} → (at ≡ k + length (text_bytes N.name)) × Fills (text_bytes N.name) out k o
    → InferredIs r depth o at p o' → q ≡ behind_of (at - k) p → ColumnIs r depth out k q o'
column_infers {r = r} N {depth} {out} {k} {at} {o} {p} {q} {o'} (a, F) I g = behind_split (λ (x : Inferred). ColumnIs r depth out k x o') (at - k) p g
    column-none (λ len f l.
    let E = inferred_to I f in
    let e : E.name ≡ N.name = N.is (column E.name E.type) E.typed in
    record {
      parts = record {
        name = N.name;
        type = E.type;
        typed = E.typed ∙ ap (λ (x : Bytes). gives (column x E.type)) e;
        writes =
            column-writes F a E.writes N.short;
      };
    })
