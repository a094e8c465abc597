-- L5 place by place, as code goes that builds no tree: a place is a path of field numbers, with 0 for the element of a
-- list or array.
use Rattle.std.specs.Prelude.{ℕ, zero, suc, Bool, true, false, List, [], ◌∷◌}
use Rattle.layout.specs.Parser.{choose}
use Rattle.layout.specs.Tree.{Label, ColumnType, cstruct, clist, carray, Columns, ccons}
use Rattle.values.specs.Value.{Value, vnull, vnumber, vtext, voverflow, vstruct, vlist, varray, Values, vnil, vcons, is_null_value}
use Rattle.plan.specs.Nullness.{Place, required, optional, novalue, Nullness, top_of, inside_of, nullness_at}

unfoldable pub place_in : Nullness → List ℕ → Place
place_in n [] = top_of n
place_in n (k ∷ p) = place_in (nullness_at (inside_of n) k) p

-- ---- a constant: "collect the values it has there (all elements of a list are one place)"

unfoldable pub append : Values → Values → Values
append vnil ws = ws
append (vcons v vs) ws = vcons v (append vs ws)

unfoldable pub gather : (Value → Values) → Values → Values
gather f vnil = vnil
gather f (vcons v vs) = append (f v) (gather f vs)

unfoldable pub field_at : Values → ℕ → Values
field_at vnil k = vnil
field_at (vcons v vs) zero = vcons v vnil
field_at (vcons v vs) (suc k) = field_at vs k

abbrev pub elements : Values → ℕ → Values
elements vs zero = vs
elements vs (suc k) = vnil

unfoldable pub parts_at : Value → ℕ → Values
parts_at vnull k = vnil
parts_at (vnumber l n) k = vnil
parts_at (vtext b) k = vnil
parts_at voverflow k = vnil
parts_at (vstruct vs) k = field_at vs k
parts_at (vlist vs) k = elements vs k
parts_at (varray vs) k = elements vs k

unfoldable pub values_at : Value → List ℕ → Values
values_at v [] = vcons v vnil
values_at v (k ∷ p) = gather (λ w. values_at w p) (parts_at v k)

unfoldable pub any_null : Values → Bool
any_null vnil = false
any_null (vcons v vs) = choose (is_null_value v) true (any_null vs)

-- "none, never refused; some null, optional; else required"
unfoldable pub collected : Values → Place
collected vnil = novalue
collected (vcons v vs) = choose (any_null (vcons v vs)) optional required

-- ---- the target's required places

pub data ColumnAt : Columns → ℕ → Label → ColumnType → Type 0 where
  c_here : {l : Label} {t : ColumnType} {cs : Columns} → ColumnAt (ccons l t cs) 0 l t
  c_there : {l m : Label} {t u : ColumnType} {cs : Columns} {k : ℕ} → ColumnAt cs k l t → ColumnAt (ccons m u cs) (suc k) l t

-- `Demanded r t p`: in a column of the mark r and the type t, the place p is required
pub data Demanded : Bool → ColumnType → List ℕ → Type 0 where
  q_here : {t : ColumnType} → Demanded true t []
  q_field : {r : Bool} {cs : Columns} {k : ℕ} {l : Label} {t : ColumnType} {p : List ℕ} → ColumnAt cs k l t → Demanded l.required t p → Demanded r
      (cstruct cs) (k ∷ p)
  q_list : {r : Bool} {l : Label} {t : ColumnType} {p : List ℕ} → Demanded l.required t p → Demanded r (clist l t) (0 ∷ p)
  q_array : {r : Bool} {w : ℕ} {l : Label} {t : ColumnType} {p : List ℕ} → Demanded l.required t p → Demanded r (carray w l t) (0 ∷ p)
