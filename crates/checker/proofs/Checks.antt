-- What the functions of src/selector.rt answer on each way. Assumes nothing.
use Prim.Native.Nat.{ℕ, ◌≤◌, ◌<◌}
use mathlib.Core.Path.{◌≡◌, refl, sym, ap, ◌∙◌, subst}
use mathlib.Core.Bool.{Bool, true, false, ◌&&◌}
use mathlib.Core.List.{List, []}
use native.Mathlib.Omega.{arith}
use lib.ListN.{length}
use lib.Dec.{leb}
use Rattle.layout.specs.Bytes.{Bytes}
use Rattle.layout.specs.Parser.{choose}
use Rattle.layout.specs.Tree.{DataType, leaf, struct, list, array, Fields, count_fields, fields_of, dtype_of}
use Rattle.layout.specs.Layout.{Head, a_leaf, a_struct, a_list, an_array, type}
use Rattle.layout.specs.code.Stands.{TypeAt, ColumnsAt}
use Rattle.layout.specs.declared.columns.Siblings.TheVariants.{Free}
use Rattle.layout.specs.declared.edition.Edition.{Edition}
use Rattle.layout.specs.declared.edition.Edition.TheVariants.{One}
use Rattle.layout.proofs.Ways.{clash}
use Rattle.layout.proofs.Top.{columns-count}
use Rattle.forms.specs.Form.{form}
use Rattle.forms.specs.code.Heads.{head_of}
use Rattle.forms.specs.Depth.{depth_of}
use Rattle.forms.proofs.Heads.{count_fields_lem}
use Rattle.rules.specs.declared.outcome.CastOption.{CastOption}
use Rattle.plan.specs.Result.{Result, gives, refuses, ◌>>=◌, demand}
use Rattle.plan.specs.Check.{Column, column, column_at, cast_fits_of, within_limits, resulting, check_cast}
use Rattle.walk.specs.code.State.{Frame}
use Rattle.walk.specs.code.Types.{ScopeOf, c_top, c_fields, c_list, c_array}
use Rattle.walk.specs.code.Parts.{OptionAt}
use Rattle.walk.specs.declared.walk.Walk.{Walk}
use Rattle.nodes.specs.code.Typed.{TypeIs}
use Rattle.checker.specs.code.TypesAt.{parts_of, head_kind, TypeHeadIs, ResolvedAt, ScopedAt, EnclosingIs}
use Rattle.checker.specs.code.Limits.{fit_of, type_fit, size_of}
use Rattle.checker.specs.code.Checking.{checked_of, dropped_of, measured_of, fitting_of}
use Rattle.checker.specs.declared.limits.Fit.{Fit}
use Rattle.checker.specs.declared.limits.Size.{Size}
use Rattle.checker.specs.declared.selector.Measured.{Measured}
use Rattle.checker.specs.declared.place.TypeHead.{TypeHead}
use Rattle.checker.specs.declared.resolve.Resolved.{Resolved}
use Rattle.checker.proofs.Room.{entries-count}
use Rattle.checker.proofs.Fields.{column-there, column-past}

-- ---- results

pub result_is : (n : Bytes) (t : DataType) → fitting_of (type_fit t 16 16384) ≡ measured_of true (resulting n t)
unfolding resulting demand within_limits fit_of choose
result_is n t = go (leb (depth_of t) 16 && leb (length (form t)) 16384)
  where
    go : (b : Bool) → fitting_of (choose b (Fit.Within (length (form t)) (depth_of t)) Fit.Over) ≡ measured_of true (demand b 32 (gives (column n t)))
    go true = refl
    go false = refl

-- within the limits
pub result_kept : (b : Bool) (n : Bytes) (t : DataType) → within_limits t ≡ true → Measured.Passed (size_of b t) ≡ measured_of b (resulting n t)
unfolding resulting demand
result_kept b n t e = rw e

pub cast_no : (t : DataType) (o : CastOption) (a : Column) → cast_fits_of a.type t o ≡ false → Measured.Refused 32 ≡ measured_of true (check_cast t o a)
unfolding check_cast demand
cast_no t o a e = rw e

pub cast_yes : (t : DataType) (o : CastOption) (a : Column) → cast_fits_of a.type t o ≡ true → {r : Measured} → r ≡ fitting_of (type_fit t 16 16384)
    → r ≡ measured_of true (check_cast t o a)
unfolding check_cast demand
cast_yes t o a e f = rw e (f ∙ result_is a.name t)

module _ {A : Type 0} (x : Result A) (f : A → Result Column) where
  pub bind_refused : {n : ℕ} → x ≡ refuses n → Measured.Refused n ≡ measured_of true (x >>= f)
  unfolding ◌>>=◌
  bind_refused e = rw e

  pub bind_gives : {a : A} {r : Measured} → x ≡ gives a → r ≡ measured_of true (f a) → r ≡ measured_of true (x >>= f)
  unfolding ◌>>=◌
  bind_gives e g = rw e g

pub bind_known : (b : Bool) {A : Type 0} (x : Result A) (f : A → Result Column) {a : A} {r : Measured} → x ≡ gives a → r ≡ measured_of b (f a)
    → r ≡ measured_of b (x >>= f)
unfolding ◌>>=◌
bind_known b x f e g = rw e g

pub record PassedAs (b : Bool) (x : Result Column) (z : Size) : Type 0 where
  pub column : Column
  pub is : x ≡ gives column
  pub sized : z ≡ size_of b column.type

pub passed-gives : (b : Bool) (x : Result Column) {z : Size} → measured_of b x ≡ Measured.Passed z → PassedAs b x z
passed-gives b (gives a) {z} e = record { column = a; is = refl; sized = let q : size_of b a.type ≡ z = cc in sym q }
passed-gives b (refuses n) e = clash (cc)

pub refused-refuses : (b : Bool) (x : Result Column) {n : ℕ} → measured_of b x ≡ Measured.Refused n → x ≡ refuses n
refused-refuses b (gives a) e = clash (cc)
refused-refuses b (refuses m) {n} e = ap refuses (let q : m ≡ n = cc in q)

pub dropped-is : (b : Bool) (x : Result Column) → dropped_of (measured_of b x) ≡ checked_of x
dropped-is b (gives a) = refl
dropped-is b (refuses n) = refl

-- ---- positions

module _ {incoming : Bytes} {v : Edition} {n : ℕ} {plan : Bytes} {w : Walk} {Δ : Fields} (S : ScopedAt incoming v n plan w Δ) where
  pub scope-top : w.deep ≡ 0 → n ≡ count_fields Δ
  scope-top z =
      let l = entries-count S.standing.entries in
      go S.columns S.scoped (let q : length S.place.frames ≡ 0 = omega arith in q)
    where
      go : (C : ColumnsAt v 16 incoming n 7) {E : List Frame} {Δ : Fields} → ScopeOf (fields_of C.columns) E Δ → length E ≡ 0 → n ≡ count_fields Δ
      go C c_top q = sym (count_fields_lem C.columns ∙ columns-count v Free (type v Free 16) n [] incoming 7 C.columns C.end C.reads)
      go C (c_fields s g i) q = absurd (omega arith)
      go C (c_list s g i) q = absurd (omega arith)
      go C (c_array s g i) q = absurd (omega arith)

-- how many parts a head says
abbrev pub count_of : Head → ℕ
count_of (a_leaf l) = 0
count_of (a_struct n) = n
count_of a_list = 1
count_of (an_array w) = 1

parts_count : (t : DataType) {k : ℕ} → (count_of (head_of t) ≡ k) → k ≡ count_fields (parts_of t)
unfolding head_of parts_of count_fields
parts_count (leaf l) e = sym e
parts_count (struct fs) e = sym e
parts_count (list t) e = sym e
parts_count (array w t) e = sym e

module _ {incoming : Bytes} {v : Edition} {n : ℕ} {plan : Bytes} {w : Walk} {Δ : Fields} {r : Resolved} (E : EnclosingIs incoming v n plan w Δ r) {h : TypeHead}
    (H : (t : DataType) → ResolvedAt incoming v n plan r t → TypeHeadIs incoming plan t h) where
  pub scope_parts : {k : TypeHead} → h ≡ k → count_of (head_kind incoming plan k) ≡ count_fields Δ
  scope_parts {k} e = parts_count E.type (ap count_of (sym (H E.type E.resolved).kind) ∙ ap
      (λ (x : TypeHead). count_of (head_kind incoming plan x)) e) ∙ ap count_fields E.parts

pub position-there : (Δ : Fields) (k : ℕ) {c : ℕ} → c ≡ count_fields Δ → k < c → Measured.Passed Size.Unknown ≡ measured_of false (column_at Δ k)
position-there Δ k e h = let (a, q) = column-there Δ k (omega arith) in ap (measured_of false) (sym q)

pub position_past : (Δ : Fields) (k : ℕ) {c : ℕ} → c ≡ count_fields Δ → c ≤ k → Measured.Refused 31 ≡ measured_of false (column_at Δ k)
position_past Δ k e h = ap (measured_of false) (sym (column-past Δ k (omega arith)))

-- ---- a cast's type and option, where the code finds them

pub record CastType (plan : Bytes) (m : ℕ) (t : DataType) (o : CastOption) : Type 0 where
  pub type : TypeAt One 16 plan m
  pub option : OptionAt plan type.end
  pub tree : dtype_of type.tree ≡ t
  pub chosen : option.option ≡ o

pub cast-type : {plan : Bytes} {m at : ℕ} (T : TypeAt One 16 plan m) (O : OptionAt plan T.end) → at ≡ m → CastType plan at (dtype_of T.tree) O.option
cast-type {plan} T O e = subst (λ (i : ℕ). CastType plan i (dtype_of T.tree) O.option) (sym e)
    (record { type = T; option = O; tree = refl; chosen = refl })

module _ {plan : Bytes} {m : ℕ} {t : DataType} {o : CastOption} (K : CastType plan m t o) (a : Column) where
  module _ {p : CastOption} {b : Bool} (f : p ≡ K.option.option) (g : b ≡ cast_fits_of a.type (dtype_of K.type.tree) p) where
    cast-so : cast_fits_of a.type t o ≡ b
    cast-so = ap (λ (u : DataType). cast_fits_of a.type u o) (sym K.tree) ∙ ap (λ (q : CastOption). cast_fits_of a.type (dtype_of K.type.tree) q)
        (sym (f ∙ K.chosen)) ∙ sym g

    pub cast-refused : b ≡ false → Measured.Refused 32 ≡ measured_of true (check_cast t o a)
    cast-refused e = cast_no t o a (cast-so ∙ e)

    pub cast-passed : b ≡ true → {r : Measured} → r ≡ fitting_of (type_fit t 16 16384) → r ≡ measured_of true (check_cast t o a)
    cast-passed e h = cast_yes t o a (cast-so ∙ e) h

pub cast-stands : {plan : Bytes} {m : ℕ} {t : DataType} {o : CastOption} → CastType plan m t o → TypeIs One plan m t
cast-stands K = record { type = K.type; is = K.tree }
