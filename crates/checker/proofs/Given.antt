-- What a selector that passed the check gives, by its kind. Assumes nothing.
use Prim.Native.Nat.{ℕ, zero, suc, ◌<◌}
use mathlib.Core.Path.{◌≡◌, refl, sym, ap, ◌∙◌}
use mathlib.Core.Bool.{true}
use native.Mathlib.Omega.{arith}
use Rattle.layout.specs.Bytes.{Bytes}
use Rattle.layout.specs.Tree.{DataType, struct, list, array, Fields, fnil, fcons, count_fields}
use Rattle.rules.specs.declared.outcome.CastOption.{CastOption}
use Rattle.plan.specs.Result.{gives}
use Rattle.plan.specs.Selector.{Selector, cast, rename, struct_mapping, list_mapping, array_mapping, Selectors, snil, scons, count_selectors}
use Rattle.plan.specs.Check.{Column, column, column_at, element_of, cast_fits_of, within_limits, resulting, check_cast, check_rename, check_struct, check_list, check_array}
use Rattle.plan.specs.Check.{type_of, types_of}
use Rattle.plan.specs.Reach.{SelectorAt as Nth, s_here, s_there}
use Rattle.plan.proofs.Results.{never_refused, gives_eq, bind_gives, demand-gives}
use Rattle.plan.proofs.Typed.{struct_is, list-is, array-is}

-- a result within the limits
resulting-is : (n : Bytes) (t : DataType) {c : Column} → resulting n t ≡ gives c → (within_limits t ≡ true) × (column n t ≡ c)
unfolding resulting
resulting-is n t e = let (b, q) = demand-gives _ _ _ e in (b, gives_eq q)

pub record CastGives (Δ : Fields) (s : Selector) (t : DataType) (o : CastOption) (c : Column) : Type 0 where
  pub input : Column
  pub passes : type_of Δ s ≡ gives input
  pub fits : cast_fits_of input.type t o ≡ true
  pub limits : within_limits t ≡ true
  pub is : c ≡ column input.name t

pub record RenameGives (Δ : Fields) (s : Selector) (n : Bytes) (c : Column) : Type 0 where
  pub input : Column
  pub passes : type_of Δ s ≡ gives input
  pub limits : within_limits input.type ≡ true
  pub is : c ≡ column n input.type

pub record StructGives (Δ : Fields) (s : Selector) (ss : Selectors) (c : Column) : Type 0 where
  pub input : Column
  pub passes : type_of Δ s ≡ gives input
  pub scope : Fields
  pub kind : input.type ≡ struct scope
  pub fields : Fields
  pub parts : types_of scope ss ≡ gives fields
  pub limits : within_limits (struct fields) ≡ true
  pub is : c ≡ column input.name (struct fields)

pub record ListGives (Δ : Fields) (s e : Selector) (c : Column) : Type 0 where
  pub input : Column
  pub passes : type_of Δ s ≡ gives input
  pub from : DataType
  pub kind : input.type ≡ list from
  pub element : Column
  pub part : type_of (element_of from) e ≡ gives element
  pub limits : within_limits (list element.type) ≡ true
  pub is : c ≡ column input.name (list element.type)

pub record ArrayGives (Δ : Fields) (s e : Selector) (c : Column) : Type 0 where
  pub input : Column
  pub passes : type_of Δ s ≡ gives input
  pub width : ℕ
  pub from : DataType
  pub kind : input.type ≡ array width from
  pub element : Column
  pub part : type_of (element_of from) e ≡ gives element
  pub limits : within_limits (array width element.type) ≡ true
  pub is : c ≡ column input.name (array width element.type)

module _ {Δ : Fields} {s : Selector} {c : Column} where
  pub cast-gives : {t : DataType} {o : CastOption} → type_of Δ (cast s t o) ≡ gives c → CastGives Δ s t o c
  unfolding type_of check_cast
  cast-gives e =
      let (a, p, q) = bind_gives _ _ e in
      let (f, q) = demand-gives _ _ _ q in
      let (b, r) = resulting-is _ _ q in
      record { input = a; passes = p; fits = f; limits = b; is = sym r }

  pub rename-gives : {n : Bytes} → type_of Δ (rename s n) ≡ gives c → RenameGives Δ s n c
  unfolding type_of check_rename
  rename-gives e =
      let (a, p, q) = bind_gives _ _ e in
      let (b, r) = resulting-is _ _ q in
      record { input = a; passes = p; limits = b; is = sym r }

  pub struct-gives : {ss : Selectors} → type_of Δ (struct_mapping s ss) ≡ gives c → StructGives Δ s ss c
  unfolding type_of check_struct
  struct-gives e =
      let (a, p, q) = bind_gives _ _ e in
      let (fs, p₁, q) = bind_gives _ _ q in
      let (gs, p₂, q) = bind_gives _ _ q in
      let (b, r) = resulting-is _ _ q in
      record { input = a; passes = p; scope = fs; kind = struct_is _ p₁; fields = gs; parts = p₂; limits = b; is = sym r }

  pub list-gives : {e : Selector} → type_of Δ (list_mapping s e) ≡ gives c → ListGives Δ s e c
  unfolding type_of check_list
  list-gives h =
      let (a, p, q) = bind_gives _ _ h in
      let (u, p₁, q) = bind_gives _ _ q in
      let (d, p₂, q) = bind_gives _ _ q in
      let (b, r) = resulting-is _ _ q in
      record { input = a; passes = p; from = u; kind = list-is _ p₁; element = d; part = p₂; limits = b; is = sym r }

  pub array-gives : {e : Selector} → type_of Δ (array_mapping s e) ≡ gives c → ArrayGives Δ s e c
  unfolding type_of check_array
  array-gives h =
      let (a, p, q) = bind_gives _ _ h in
      let (u, p₁, q) = bind_gives _ _ q in
      let (d, p₂, q) = bind_gives _ _ q in
      let (b, r) = resulting-is _ _ q in
      record { input = a; passes = p; width = u.width; from = u.element; kind = array-is _ p₁; element = d; part = p₂; limits = b; is = sym r }

-- ---- the parts of a struct mapping

pub record PartGives (fs gs : Fields) (k : ℕ) (s : Selector) : Type 0 where
  pub column : Column
  pub passes : type_of fs s ≡ gives column
  pub found : column_at gs k ≡ gives column

pub part_gives : {fs : Fields} {ss : Selectors} {k : ℕ} {s : Selector} {gs : Fields} → Nth ss k s → types_of fs ss ≡ gives gs → PartGives fs gs k s
unfolding types_of column_at
part_gives s_here e =
    let (c, p, q) = bind_gives _ _ e in
    let (hs, p₁, q) = bind_gives _ _ q in
    record { column = c; passes = p; found = ap (λ (x : Fields). column_at x 0) (sym (gives_eq q)) }
part_gives {k = suc k} (s_there h) e =
    let (c, p, q) = bind_gives _ _ e in
    let (hs, p₁, q) = bind_gives _ _ q in
    let r = part_gives h p₁ in
    record { column = r.column; passes = r.passes; found = ap (λ (x : Fields). column_at x (suc k)) (sym (gives_eq q)) ∙ r.found }

-- as many fields as selectors
pub types_count : (fs : Fields) (ss : Selectors) {gs : Fields} → types_of fs ss ≡ gives gs → count_fields gs ≡ count_selectors ss
unfolding types_of count_fields count_selectors
types_count fs snil e = rw (← gives_eq e)
types_count fs (scons s ss) e =
    let (c, p, q) = bind_gives _ _ e in
    let (hs, p₁, q) = bind_gives _ _ q in
    let r = types_count fs ss p₁ in
    rw (← gives_eq q, r)

pub column-below : (fs : Fields) (k : ℕ) {c : Column} → column_at fs k ≡ gives c → k < count_fields fs
unfolding column_at count_fields
column-below fnil k e = never_refused e refl
column-below (fcons n t fs) zero e = omega arith
column-below (fcons n t fs) (suc k) e = let h = column-below fs k e in omega arith
