-- What the functions of src/inside.rt answer on each way. Assumes nothing.
use Prim.Native.Nat.{ℕ}
use mathlib.Core.Path.{◌≡◌, sym, ap, subst}
use native.Mathlib.Omega.{arith}
use Rattle.layout.specs.Bytes.{Bytes}
use Rattle.layout.specs.Tree.{dtype_of}
use Rattle.layout.specs.code.Parts.{PartsIs}
use Rattle.layout.specs.code.Stands.{TypeAt}
use Rattle.layout.specs.declared.columns.Label.{Label as LabelSpan}
use Rattle.layout.specs.declared.cursor.Cursor.{Cursor}
use Rattle.layout.specs.declared.parts.TypeParts.{TypeParts}
use Rattle.layout.specs.declared.edition.Edition.{Edition}
use Rattle.layout.proofs.View.{struct-opened, list-opened, array-opened}
use Rattle.nodes.proofs.Deeper.{deeper-type, deeper-columns}
use Rattle.direct.specs.declared.inside.Inside.{Inside}
use Rattle.direct.specs.declared.inside.Both.{Both}
use Rattle.direct.specs.code.Insides.{StructIn, ListIn, ArrayIn, ArraysIn, InsideParts, InsideIs, BothParts, BothIs}

-- ---- inside_of

module _ {v : Edition} {s : Bytes} {at : ℕ} (T : TypeAt v 16 s at) {r : TypeParts} (R : PartsIs v s at r) where
  pub struct_in : {n : ℕ} {c : Cursor} → r ≡ TypeParts.Struct n c → InsideIs v s at T (Inside.Struct n c)
  unfolding dtype_of deeper-columns
  struct_in e =
      let S = struct-opened R T e in
      record { parts = record { columns = deeper-columns (omega arith) S.inner; is = ap dtype_of S.is; ends = S.ends } }

  pub list_in : {l : LabelSpan} {c : Cursor} → r ≡ TypeParts.List l c → InsideIs v s at T (Inside.List c)
  unfolding dtype_of deeper-type
  list_in e =
      let L = list-opened R T e in
      record { parts = record { type = deeper-type (omega arith) L.inner; is = ap dtype_of L.is; ends = L.ends } }

  pub array_in : {w : ℕ} {l : LabelSpan} {c : Cursor} → r ≡ TypeParts.Array w l c → InsideIs v s at T (Inside.Array w c)
  unfolding dtype_of deeper-type
  array_in e =
      let L = array-opened R T e in
      record { parts = record { type = deeper-type (omega arith) L.inner; is = ap dtype_of L.is; ends = L.ends } }

-- ---- both_inside

module _ {v : Edition} {s : Bytes} {at : ℕ} {T : TypeAt v 16 s at} {r : Inside} (I : InsideIs v s at T r) where
  opened : {q : Inside} → r ≡ q → InsideParts v s at T q
  opened e = subst (λ (q : Inside). InsideParts v s at T q) e I.parts

  struct-there : {n : ℕ} {c : Cursor} → r ≡ Inside.Struct n c → StructIn v s at T n c.at
  struct-there e = opened e

  list-there : {c : Cursor} → r ≡ Inside.List c → ListIn v s at T c.at
  list-there e = opened e

  array-there : {w : ℕ} {c : Cursor} → r ≡ Inside.Array w c → ArrayIn v s at T w c.at
  array-there e = opened e

module _ {va : Edition} {a : Bytes} {at : ℕ} {T : TypeAt va 16 a at} {p : Inside} (I : InsideIs va a at T p) {vb : Edition} {b : Bytes} {bt : ℕ}
    {Q : TypeAt vb 16 b bt} {q : Inside} (J : InsideIs vb b bt Q q) where
  pub structs_in : {n m : ℕ} {c d : Cursor} → p ≡ Inside.Struct n c → q ≡ Inside.Struct m d → BothIs va a at T vb b bt Q (Both.Structs n c m d)
  structs_in e f = record { parts = (struct-there I e, struct-there J f) }

  pub lists_in : {c d : Cursor} → p ≡ Inside.List c → q ≡ Inside.List d → BothIs va a at T vb b bt Q (Both.Lists c d)
  lists_in e f = record { parts = (list-there I e, list-there J f) }

  pub arrays_in : {w x : ℕ} {c d : Cursor} → p ≡ Inside.Array w c → q ≡ Inside.Array x d → w ≡ x → BothIs va a at T vb b bt Q (Both.Arrays c d)
  arrays_in {w} {d = d} e f g = record {
    parts = record {
      width = w;
      first = array-there I e;
      second = subst (λ (x : ℕ). ArrayIn vb b bt Q x d.at)
          (sym g) (array-there J f);
    };
  }

-- what a caller gets from an answer
module _ {va : Edition} {a : Bytes} {at : ℕ} {T : TypeAt va 16 a at} {vb : Edition} {b : Bytes} {bt : ℕ} {Q : TypeAt vb 16 b bt} {r : Both}
    (B : BothIs va a at T vb b bt Q r) where
  both-opened : {q : Both} → r ≡ q → BothParts va a at T vb b bt Q q
  both-opened e = subst (λ (q : Both). BothParts va a at T vb b bt Q q) e B.parts

  pub both_structs : {n m : ℕ} {c d : Cursor} → r ≡ Both.Structs n c m d → StructIn va a at T n c.at × StructIn vb b bt Q m d.at
  both_structs e = both-opened e

  pub both_lists : {c d : Cursor} → r ≡ Both.Lists c d → ListIn va a at T c.at × ListIn vb b bt Q d.at
  both_lists e = both-opened e

  pub both_arrays : {c d : Cursor} → r ≡ Both.Arrays c d → ArraysIn va a at T vb b bt Q c.at d.at
  both_arrays e = both-opened e
