-- The value of a column with no counterpart: what is answered and written, over a variable answer. Assumes nothing.
use Prim.Native.Nat.{ℕ, ◌+◌, ◌-◌, ◌*◌, ◌≤◌, ◌<◌}
use mathlib.Core.Path.{◌≡◌, refl, sym, ap, ◌∙◌, subst}
use mathlib.Core.Bool.{Bool, true, false, not, ◌||◌, ◌&&◌}
use mathlib.Core.List.{[], ◌∷◌}
use native.Mathlib.Omega.{arith}
use lib.ListN.{length, set, length-append}
use lib.Seq.{slice}
use Rattle.store.specs.code.Overlay.{overlay, Agree, Holds}
use Rattle.store.proofs.Overlay.{slice-take}
use Rattle.store.proofs.Holds.{holds_exact, holds-before, holds-append, holds-over, agree_less}
use Rattle.layout.specs.Bytes.{Bytes, AllBytes}
use Rattle.layout.specs.Parser.{ok, choose}
use Rattle.layout.specs.Tree.{LeafType, Label, ColumnType, cleaf, cstruct, clist, carray, Columns, ccons, DataType, leaf, dtype_of}
use Rattle.layout.specs.Layout.{Head, a_struct, a_list, an_array, kind}
use Rattle.layout.specs.code.Answers.{head_res, leaf_at, moved_of}
use Rattle.layout.specs.code.Stands.{TypeAt}
use Rattle.layout.specs.declared.columns.FieldId.{FieldId}
use Rattle.layout.specs.declared.cursor.Cursor.{Cursor}
use Rattle.layout.specs.declared.cursor.Moved.{Moved}
use Rattle.layout.specs.declared.types.Head.{Head as HeadSpan}
use Rattle.layout.specs.declared.types.LeafType.{LeafType as LeafSpan}
use Rattle.layout.specs.declared.edition.Edition.{Edition}
use Rattle.layout.proofs.Ways.{clash, moved_to, moved_refused}
use Rattle.layout.proofs.View.{leaf_at_lem, StructAt}
use Rattle.forms.specs.Form.{u16_bytes, kind_form}
use Rattle.forms.specs.code.Heads.{head_of}
use Rattle.forms.specs.Same.{equal_types}
use Rattle.forms.proofs.Equal.{equal_types-refl, equal_types_eq}
use Rattle.rules.specs.Outcomes.{Verdict, untouched, refused as refusedBy, cast as casts}
use Rattle.rules.specs.code.Answers.{verdict_of}
use Rattle.rules.specs.Pairs.{pair_rule}
use Rattle.rules.specs.declared.policy.Policy.{Policy}
use Rattle.rules.specs.declared.outcome.Outcome.{Outcome}
use Rattle.rules.proofs.PairRule.{equal-untouched, untouched-equal}
use Rattle.values.specs.Value.{Value, vnull}
use Rattle.values.specs.Reading.{value}
use Rattle.values.specs.Encode.{encode_value, encode_values}
use Rattle.values.specs.code.Stands.{ValueAt}
use Rattle.values.proofs.Stand.{stand_bytes}
use Rattle.values.proofs.Back.{value_back}
use Rattle.defaults.specs.Lookup.{Taken, refused, nothing}
use Rattle.defaults.proofs.Whole.{DefaultAt}
use Rattle.plan.specs.Result.{Result, gives, refuses, ◌>>=◌, demand}
use Rattle.plan.specs.Nullness.{required, top_of, of_value, of_fields}
use Rattle.plan.specs.Marks.{allowed, meets, meets_all}
use Rattle.matching.specs.Default.{Defaults, Default, none, some, or_null, is_some, leaf_default, FieldDefaults, with_field, struct_default}
use Rattle.matching.specs.Default.{build_iceberg_default_value, defaults_of}
use Rattle.builder.specs.code.Answers.{filled_in_of, any_filled, default_made, defaults_made, is_default_refused, is_some_made, fills_made, value_len, failed_default}
use Rattle.builder.specs.code.Answers.{join_defaults, WroteDefault, WroteDefaults, MakesDefault, MakesDefaults}
use Rattle.builder.specs.declared.default.DefaultMade.{DefaultMade}
use Rattle.builder.specs.declared.default.DefaultsMade.{DefaultsMade}
use Rattle.builder.proofs.Matching.{has_element, differ, head-is}
use Rattle.builder.proofs.Present.{fills_is, leaf-filled}

-- ---- equal leaf types

abbrev pub is_untouched : Verdict → Bool
is_untouched untouched = true
is_untouched (refusedBy n) = false
is_untouched (casts o) = false

module _ (p : Policy) (a b : LeafType) (x : Outcome) (e : verdict_of x ≡ pair_rule p a b) where
  pub leaves-same : x ≡ Outcome.Untouched → true ≡ equal_types (leaf a) (leaf b)
  leaves-same f =
      let z : a ≡ b = untouched-equal p a b (sym e ∙ ap verdict_of f) in
      sym (ap (λ (c : LeafType). equal_types (leaf a) (leaf c)) (sym z) ∙ equal_types-refl (leaf a))

  pub leaves_unlike : is_untouched (verdict_of x) ≡ false → false ≡ equal_types (leaf a) (leaf b)
  leaves_unlike f = go (equal_types (leaf a) (leaf b)) refl
    where
      go : (c : Bool) → equal_types (leaf a) (leaf b) ≡ c → false ≡ c
      go true h =
          let z : leaf a ≡ leaf b = equal_types_eq (leaf a) (leaf b) h in
          let y : a ≡ b = cc in
          differ {a = is_untouched untouched} {b = is_untouched (verdict_of x)} refl f (ap is_untouched (sym (e ∙ equal-untouched p a b y)))
      go false h = refl

-- ---- a leaf's default

module _ {f : Value → Bool} {b e : ℕ} (out : Bytes) (k : ℕ) where
  pub none_made : {X : Result Default} {r : DefaultMade} {o : Bytes} → X ≡ gives none → r ≡ DefaultMade.None → o ≡ overlay out k (encode_value vnull) → b
      < e → MakesDefault f b e out k X r o
  unfolding default_made WroteDefault encode_value
  none_made h q z lt = rw (h, q) (record { answer = refl; wrote = (holds_exact out k (encode_value vnull) z, omega arith) })

  pub default_refused : {X : Result Default} {n : ℕ} (o : Bytes) → X ≡ refuses n → MakesDefault f b e out k X (DefaultMade.Refused n) o
  unfolding default_made WroteDefault
  default_refused o h = rw h (record { answer = refl; wrote = tt })

  -- the same answer under another name of the default
  pub default_as : {X Y : Result Default} (r : DefaultMade) (o : Bytes) → X ≡ Y → MakesDefault f b e out k Y r o → MakesDefault f b e out k X r o
  default_as r o h m = subst (λ (Z : Result Default). MakesDefault f b e out k Z r o) (sym h) m

-- 26, or nothing
pub leaf-failed : (l : LeafType) {x : Taken} {n : ℕ} → x ≡ refused n → leaf_default l x ≡ refuses n
unfolding leaf_default
leaf-failed l h = rw h

pub leaf-nothing : (l : LeafType) {x : Taken} → x ≡ nothing → leaf_default l x ≡ gives none
unfolding leaf_default
leaf-nothing l h = rw h

pub leaf-taken : (l : LeafType) {s : Bytes} {x : Taken} {m : LeafSpan} {at : ℕ} (A : DefaultAt s x m at)
    → leaf_default l x ≡ demand (equal_types (leaf (leaf_at s m)) (leaf l)) 28 (gives (some A.tree))
unfolding leaf_default
leaf-taken l A = ap (leaf_default l) A.is

-- 28
pub demand_stop : {A : Type 0} (like : Bool) (n : ℕ) (Y : Result A) → not like ≡ true → demand like n Y ≡ refuses n
unfolding demand
demand_stop true n Y h = clash (cc)
demand_stop false n Y h = refl

pub demand-pass : {A : Type 0} (like : Bool) (n : ℕ) (Y : Result A) → not like ≡ false → demand like n Y ≡ Y
unfolding demand
demand-pass true n Y h = refl
demand-pass false n Y h = clash (cc)

module _ {t : DataType} {s : Bytes} {at : ℕ} (P : ValueAt t s at) (like : Bool) {x : Bool} (same : x ≡ like) where
  pub taken_unlike : {b e : ℕ} (out : Bytes) (k : ℕ) (o : Bytes) → not x ≡ true → MakesDefault any_filled b e out k
      (demand like 28 (gives (some P.tree))) (DefaultMade.Refused 28) o
  taken_unlike out k o h = default_refused out k o (demand_stop like 28 (gives (some P.tree)) (ap not (sym same) ∙ h))

module _ {t : DataType} {s : Bytes} {at : ℕ} (P : ValueAt t s at) {r : Moved} (f : r ≡ moved_of (value t s at)) where
  pub taken_stuck : {B : Type 0} {n : ℕ} → r ≡ Moved.Refused n → B
  taken_stuck g = let h = sym (moved_refused (value t s at) f g) ∙ P.reads in clash (cc)

  module _ (bytes : AllBytes s) {c : Cursor} (g : r ≡ Moved.To c) where
    ends : c.at ≡ P.end
    ends = let m = moved_to (value t s at) f g in let z : ok m.0 c.at ≡ ok P.tree P.end = sym m.1 ∙ P.reads in cc

    -- where the value stands
    pub taken-ends : (at ≤ c.at) × (c.at ≤ length s)
    taken-ends =
        let Z = value_back t s bytes at P.tree P.end P.reads in
        let z = ends in
        (omega (arith, Z.longer), omega (arith, Z.stands.within))

    pub taken_made : (like : Bool) {x : Bool} {b e : ℕ} (out : Bytes) (k : ℕ) {o : Bytes} → x ≡ like → not x ≡ false → o ≡ overlay out k
        (slice at c.at s) → length s ≤ 16384 → b < e
        → MakesDefault any_filled b e out k (demand like 28 (gives (some P.tree))) (DefaultMade.Some (c.at - at) true) o
    unfolding default_made WroteDefault
    taken_made like {x} {b} {e} out k {o} q h w short lt =
        let Z = value_back t s bytes at P.tree P.end P.reads in
        let z = ends in
        let l : c.at - at ≡ length (encode_value P.tree) = omega (arith, Z.stands.ends) in
        let i : c.at ≡ at + (P.end - at) = omega (arith, Z.longer) in
        let u : slice at c.at s ≡ encode_value P.tree =
        ap (λ (j : ℕ). slice at j s) i ∙ slice-take s at (P.end - at) (omega (arith, Z.longer, Z.stands.within)) ∙ stand_bytes Z.stands in
        default_as out k (DefaultMade.Some (c.at - at) true) o (demand-pass like 28 (gives (some P.tree)) (ap not (sym q) ∙ h))
        (record {
          answer = ap (λ (n : ℕ). DefaultMade.Some n true) l;
          wrote = (
            holds_exact out k (encode_value P.tree) (w ∙ ap (overlay out k) u),
            omega (arith, Z.stands.ends, Z.stands.within),
          );
        })

-- ---- a type's default, by its head

leaf-made : (l : LeafType) {b e : ℕ} (out : Bytes) (k : ℕ) (r : DefaultMade) (o : Bytes) (X : Result Default) → MakesDefault any_filled b e out k X r o
    → MakesDefault (filled_in_of (cleaf l)) b e out k X r o
unfolding default_made
leaf-made l out k r o (refuses n) A = record { answer = A.answer; wrote = A.wrote }
leaf-made l out k r o (gives none) A = record { answer = A.answer; wrote = A.wrote }
leaf-made l out k r o (gives (some x)) A =
    record { answer = A.answer ∙ ap (DefaultMade.Some (length (encode_value x))) (sym (leaf-filled l x)); wrote = A.wrote }

no_default : (d : Defaults) (i : FieldId) (t : ColumnType) {k : Head} → k ≡ head_of (dtype_of t) → has_element k ≡ true → build_iceberg_default_value d i t ≡
    gives none
unfolding build_iceberg_default_value dtype_of head_of
no_default d i (cleaf l) e f = differ f refl (ap has_element e)
no_default d i (cstruct cs) e f = differ f refl (ap has_element e)
no_default d i (clist l t) e f = refl
no_default d i (carray w l t) e f = refl

module _ (d : Defaults) (i : FieldId) {v : Edition} {n : ℕ} {s : Bytes} {at : ℕ} (P : TypeAt v n s at) where
  pub of_leaf : {p : HeadSpan} {l : LeafSpan} {c : Cursor} → head_res s p ≡ kind s at → p ≡ HeadSpan.Leaf l c
      → {b z : ℕ} (out : Bytes) (k : ℕ) (r : DefaultMade) (o : Bytes) → MakesDefault any_filled b z out k (leaf_default (leaf_at s l) (d i)) r o
      → MakesDefault (filled_in_of P.tree) b z out k (build_iceberg_default_value d i P.tree) r o
  unfolding build_iceberg_default_value
  of_leaf {l = l} e f {b} {z} out k r o A =
      subst (λ (t : ColumnType). MakesDefault (filled_in_of t) b z out k (build_iceberg_default_value d i t) r o) (sym (leaf_at_lem P e f).0)
      (leaf-made (leaf_at s l) out k r o (leaf_default (leaf_at s l) (d i)) A)

  -- a struct, up to the type's end
  pub struct_as : {m c : ℕ} (S : StructAt v n s at P m c) (b : ℕ) (out : Bytes) (k : ℕ) (r : DefaultMade) (o : Bytes)
      → MakesDefault (filled_in_of (cstruct S.inner.columns)) b S.inner.end out k (defaults_of d S.inner.columns >>= λ g. gives (struct_default g)) r o
      → MakesDefault (filled_in_of P.tree) b P.end out k (build_iceberg_default_value d i P.tree) r o
  unfolding build_iceberg_default_value
  struct_as S b out k r o A =
      subst (λ (t : ColumnType). MakesDefault (filled_in_of t) b P.end out k (build_iceberg_default_value d i t) r o) (sym S.is)
      (subst (λ (e : ℕ). MakesDefault (filled_in_of (cstruct S.inner.columns)) b e out k
      (defaults_of d S.inner.columns >>= λ g. gives (struct_default g)) r o) S.ends A)

  -- lists and arrays have none
  module _ {p : HeadSpan} (e : head_res s p ≡ kind s at) where
    pub of_list : {c : Cursor} → p ≡ HeadSpan.List c → build_iceberg_default_value d i P.tree ≡ gives none
    of_list f = no_default d i P.tree (head-is P a_list (sym e ∙ ap (head_res s) f)).0 refl

    pub of_array : {w : ℕ} {c : Cursor} → p ≡ HeadSpan.Array w c → build_iceberg_default_value d i P.tree ≡ gives none
    of_array {w} f = no_default d i P.tree (head-is P (an_array w) (sym e ∙ ap (head_res s) f)).0 refl

-- a struct's columns begin behind its code
pub struct-after : {v : Edition} {d : ℕ} {s : Bytes} {at : ℕ} (P : TypeAt v d s at) {p : HeadSpan} {n : ℕ} {c : Cursor} → head_res s p ≡ kind s at → p ≡
    HeadSpan.Struct n c → at < c.at
unfolding kind_form u16_bytes
struct-after {s = s} P {n = n} e f = let h = (head-is P (a_struct n) (sym e ∙ ap (head_res s) f)).1 in omega arith

-- ---- a struct's default, where the fields' answer is X

module _ (cs : Columns) {b e : ℕ} (out : Bytes) (k : ℕ) (o₁ o₂ : Bytes) {r : DefaultsMade} where
  pub struct-refused : (X : Result FieldDefaults) (b₀ : ℕ) {n : ℕ} → MakesDefaults cs b e o₁ (k + 1) X r o₂ → r ≡ DefaultsMade.Failed n
      → MakesDefault (filled_in_of (cstruct cs)) b₀ e out k (X >>= λ g. gives (struct_default g)) (DefaultMade.Refused n) o₂
  unfolding default_made defaults_made WroteDefault ◌>>=◌
  struct-refused (refuses m) b₀ {n} A q =
      let z : DefaultsMade.Failed m ≡ DefaultsMade.Failed n = sym A.answer ∙ q in
      let y : n ≡ m = cc in
      record { answer = ap DefaultMade.Refused y; wrote = tt }
  struct-refused (gives g) b₀ {n} A q =
      let z : DefaultsMade.Done g.any (meets_all (of_fields g.values) cs) (length (encode_values g.values)) ≡ DefaultsMade.Failed n = sym
      A.answer ∙ q in
      clash (cc)

  module _ {any filled : Bool} {len : ℕ} (q : r ≡ DefaultsMade.Done any filled len) where
    -- no field has one: the fields' nulls are written over
    pub struct-none : (X : Result FieldDefaults) (b₀ : ℕ) {y : DefaultMade} {o₃ : Bytes} → MakesDefaults cs b e o₁ (k + 1) X r o₂ → any ≡ false
        → length o₂ ≡ length out → o₁ ≡ set out k 1 → y ≡ DefaultMade.None → o₃ ≡ overlay o₂ k (encode_value vnull) → b₀ < e
        → MakesDefault (filled_in_of (cstruct cs)) b₀ e out k (X >>= λ g. gives (struct_default g)) y o₃
    unfolding default_made defaults_made WroteDefault WroteDefaults ◌>>=◌ struct_default choose encode_value overlay
    struct-none (refuses m) b₀ A f l h u w lt = let z : DefaultsMade.Failed m ≡ DefaultsMade.Done any filled len = sym A.answer ∙ q in clash (cc)
    struct-none (gives g) b₀ {y} {o₃} A f l h u w lt =
        let z : DefaultsMade.Done g.any (meets_all (of_fields g.values) cs) (length (encode_values g.values)) ≡ DefaultsMade.Done any filled len =
        sym A.answer ∙ q in
        let p : g.any ≡ any = cc in
        let i : Agree k o₂ out =
        agree_less k (k + 1) o₂ o₁ out (omega arith) (holds-before o₁ (k + 1) (encode_values g.values) o₂ A.wrote.0)
        (holds-before out k (1 ∷ []) o₁ (holds_exact out k (1 ∷ []) h)) in
        rw (p, f) (record { answer = u; wrote = (holds-over out k (encode_value vnull) o₂ l i w, omega arith) })

    pub struct-some : (X : Result FieldDefaults) (b₀ : ℕ) → MakesDefaults cs b e o₁ (k + 1) X r o₂ → any ≡ true → length o₁ ≡ length out → o₁ ≡ set out k 1
        → b₀ < b → MakesDefault (filled_in_of (cstruct cs)) b₀ e out k (X >>= λ g. gives (struct_default g)) (DefaultMade.Some (1 + len) filled) o₂
    unfolding default_made defaults_made WroteDefault WroteDefaults ◌>>=◌ struct_default choose encode_value overlay of_value meets allowed
    struct-some (refuses m) b₀ A f l h lt = let z : DefaultsMade.Failed m ≡ DefaultsMade.Done any filled len = sym A.answer ∙ q in clash (cc)
    struct-some (gives g) b₀ A f l h lt =
        let z : DefaultsMade.Done g.any (meets_all (of_fields g.values) cs) (length (encode_values g.values)) ≡ DefaultsMade.Done any filled len =
        sym A.answer ∙ q in
        let p : g.any ≡ any = cc in
        let n : length (encode_values g.values) ≡ len = cc in
        let t : filled ≡ meets_all (of_fields g.values) cs = cc in
        let j = A.wrote.1 in
        let w : Holds out k (1 ∷ encode_values g.values) o₂ =
        holds-append out k (1 ∷ []) (encode_values g.values) o₁ o₂ l (holds_exact out k (1 ∷ []) h) A.wrote.0 in
        let y : 1 + len ≡ length (1 ∷ encode_values g.values) = omega arith in
        let a : DefaultMade.Some (1 + len) filled ≡ DefaultMade.Some (length (1 ∷ encode_values g.values)) (meets_all (of_fields g.values) cs) =
        ap (λ (m : ℕ). DefaultMade.Some m filled) y ∙ ap (DefaultMade.Some (length (1 ∷ encode_values g.values))) t in
        rw (p, f) (record { answer = a; wrote = (w, omega arith) })

pub defaults_room : (cs : Columns) (X : Result FieldDefaults) {b e : ℕ} {out : Bytes} {k : ℕ} {r : DefaultsMade} {o : Bytes} {any filled : Bool} {len : ℕ}
    → MakesDefaults cs b e out k X r o → r ≡ DefaultsMade.Done any filled len → len + 16384 * b ≤ 16384 * e
unfolding defaults_made WroteDefaults
defaults_room cs (refuses m) {any = any} {filled} {len} A q = let z : DefaultsMade.Failed m ≡ DefaultsMade.Done any filled len = sym A.answer ∙ q in
    clash (cc)
defaults_room cs (gives g) {any = any} {filled} {len} A q =
    let z : DefaultsMade.Done g.any (meets_all (of_fields g.values) cs) (length (encode_values g.values)) ≡ DefaultsMade.Done any filled len =
    sym A.answer ∙ q in
    let n : length (encode_values g.values) ≡ len = cc in
    let w = A.wrote.1 in
    omega arith

-- ---- a field, whose answer is X, before others, whose answer is Y

abbrev pub before_defaults : Result Default → Result FieldDefaults → Result FieldDefaults
before_defaults X Y = X >>= λ x. Y >>= λ g. gives (with_field x g)

module _ (f : Value → Bool) where
  default-len : (x : Default) → value_len (default_made f (gives x)) ≡ length (encode_value (or_null x))
  unfolding default_made encode_value
  default-len none = refl
  default-len (some v) = refl

  default-some : (x : Default) → is_some_made (default_made f (gives x)) ≡ is_some x
  unfolding default_made
  default-some none = refl
  default-some (some v) = refl

  default-given : (x : Default) → is_default_refused (default_made f (gives x)) ≡ false
  unfolding default_made
  default-given none = refl
  default-given (some v) = refl

module _ {f : Value → Bool} {b e : ℕ} {out : Bytes} {k : ℕ} {r : DefaultMade} {o : Bytes} where
  -- an index behind what was written stays in its bounds
  pub default_room : (X : Result Default) → MakesDefault f b e out k X r o → is_default_refused r ≡ false → value_len r + 16384 * b ≤ 16384 * e
  unfolding default_made WroteDefault
  default_room (refuses n) A h = differ {a = is_default_refused (DefaultMade.Refused n)} refl h (ap is_default_refused (sym A.answer))
  default_room (gives x) A h = let l = A.wrote.1 in let q : value_len r ≡ length (encode_value (or_null x)) = ap value_len A.answer ∙ default-len f x
      in omega arith

  pub fields_stop : (cs : Columns) (X : Result Default) (Y : Result FieldDefaults) → MakesDefault f b e out k X r o → is_default_refused r ≡ true
      → failed_default r ≡ defaults_made cs (before_defaults X Y)
  unfolding ◌>>=◌ default_made defaults_made
  fields_stop cs (refuses n) Y A h = ap failed_default A.answer
  fields_stop cs (gives x) Y A h = differ h (default-given f x) (ap is_default_refused A.answer)

  pub fields-wrote-stopped : (X : Result Default) (Y : Result FieldDefaults) (b' e' : ℕ) (out' : Bytes) (k' : ℕ) (o' : Bytes) → MakesDefault f b e out k
      X r o → is_default_refused r ≡ true
      → WroteDefaults b' e' out' k' (before_defaults X Y) o'
  unfolding ◌>>=◌ default_made WroteDefaults
  fields-wrote-stopped (refuses n) Y b' e' out' k' o' A h = tt
  fields-wrote-stopped (gives x) Y b' e' out' k' o' A h = differ h (default-given f x) (ap is_default_refused A.answer)

  pub fields-wrote : (X : Result Default) (Y : Result FieldDefaults) (b' e' : ℕ) (o' : Bytes) → MakesDefault f b e out k X r o → is_default_refused r ≡
      false → length o ≡ length out → b' ≤ b
      → WroteDefaults e e' o (k + value_len r) Y o' → WroteDefaults b' e' out k (before_defaults X Y) o'
  unfolding ◌>>=◌ default_made WroteDefault WroteDefaults with_field encode_values
  fields-wrote (refuses n) Y b' e' o' A h l le w = differ {a = is_default_refused (DefaultMade.Refused n)} refl h (ap is_default_refused (sym A.answer))
  fields-wrote (gives x) (refuses n) b' e' o' A h l le w = tt
  fields-wrote (gives x) (gives g) b' e' o' A h l le w =
      let q : value_len r ≡ length (encode_value (or_null x)) = ap value_len A.answer ∙ default-len f x in
      let u : Holds o (k + length (encode_value (or_null x))) (encode_values g.values) o' = subst
      (λ (n : ℕ). Holds o (k + n) (encode_values g.values) o') q w.0 in
      let j = A.wrote.1 in
      let i = w.1 in
      let v = length-append (encode_value (or_null x)) (encode_values g.values) in
      (holds-append out k (encode_value (or_null x)) (encode_values g.values) o o' l A.wrote.0 u, omega arith)

-- a field of the label l and the type t before the fields cs
pub fields-more : (l : Label) (t : ColumnType) (cs : Columns) (X : Result Default) (Y : Result FieldDefaults) {b e : ℕ} {out : Bytes} {k : ℕ}
    {r : DefaultMade} {o : Bytes}
    → MakesDefault (filled_in_of t) b e out k X r o → is_default_refused r ≡ false → ((x : Value) → X ≡ gives (some x) → top_of (of_value x) ≡ required)
    → defaults_made (ccons l t cs) (before_defaults X Y) ≡ join_defaults (is_some_made r) (fills_made l.required r) (value_len r) (defaults_made cs Y)
unfolding ◌>>=◌ default_made defaults_made with_field encode_values of_fields meets_all
fields-more l t cs (refuses n) Y A h D = differ {a = is_default_refused (DefaultMade.Refused n)} refl h (ap is_default_refused (sym A.answer))
fields-more l t cs (gives x) (refuses n) A h D = refl
fields-more l t cs (gives x) (gives g) {r = r} A h D =
    let p : is_some_made r ≡ is_some x = ap is_some_made A.answer ∙ default-some (filled_in_of t) x in
    let q : value_len r ≡ length (encode_value (or_null x)) = ap value_len A.answer ∙ default-len (filled_in_of t) x in
    let u : fills_made l.required r ≡ meets (of_value (or_null x)) l.required t = ap (fills_made l.required) A.answer ∙ fills_is x l.required t D in
    rw (p, q, u)
    (ap (λ (n : ℕ). DefaultsMade.Done (is_some x || g.any) (meets (of_value (or_null x)) l.required t && meets_all (of_fields g.values) cs) n)
    (length-append (encode_value (or_null x)) (encode_values g.values)))
