-- What a value is made of, by what its type begins with. Assumes nothing.
use Prim.Native.Nat.{ℕ}
use mathlib.Core.Path.{◌≡◌, ap, sym, subst, ◌∙◌}
use native.Mathlib.Omega.{arith}
use Rattle.layout.specs.Bytes.{Bytes}
use Rattle.layout.specs.Parser.{u16}
use Rattle.layout.specs.Tree.{DataType, dtype_of}
use Rattle.layout.specs.code.Answers.{short_res}
use Rattle.layout.specs.code.Parts.{PartsIs}
use Rattle.layout.specs.declared.cursor.Cursor.{Cursor}
use Rattle.layout.specs.declared.cursor.Short.{Short}
use Rattle.layout.specs.declared.columns.Label.{Label as LabelSpan}
use Rattle.layout.specs.declared.parts.TypeParts.{TypeParts}
use Rattle.layout.specs.declared.edition.Edition.{Edition}
use Rattle.layout.proofs.View.{struct-opened, array-opened}
use Rattle.values.specs.Value.{Value}
use Rattle.values.specs.Reading.{content as content_of}
use Rattle.values.specs.code.Stands.{ContentAt}
use Rattle.values.proofs.Inside.{struct_in, list_in, array_in}
use Rattle.nodes.specs.code.Raw.{PresentAt, ListOf}
use Rattle.nodes.proofs.Deeper.{deeper-type, deeper-columns}
use Rattle.transfer.specs.code.Opening.{OpenedIs}
use Rattle.transfer.specs.declared.opened.Opened.{Opened}

pub opened_as : {v : Edition} {lay rec : Bytes} {x y : Value} {r : Opened} → x ≡ y → OpenedIs v lay rec x r → OpenedIs v lay rec y r
opened_as {v} {lay} {rec} {r = r} e R = subst (λ (z : Value). OpenedIs v lay rec z r) e R

content_as : {t u : DataType} {s : Bytes} {at : ℕ} → t ≡ u → ContentAt t s at → ContentAt u s at
content_as {s = s} {at = at} e P = record { tree = P.tree; end = P.end; reads = ap (λ (t : DataType). content_of t s at) (sym e) ∙ P.reads }

pub opened-counted : {v : Edition} {lay : Bytes} {rec : Bytes} {c : ℕ} {t : Cursor} (X : ListOf v lay t.at rec c) {q : Short} {n : ℕ} {d : Cursor} →
    short_res q ≡ u16 rec c → q ≡ Short.Is n d
    → OpenedIs v lay rec X.content.tree (Opened.List n t d)
opened-counted X e f = let L = list_in X.content e f in record { answer = record { elements = record { type = X.type; values = L.inner }; is = L.is } }

module _ {v : Edition} {lay : Bytes} {t : ℕ} {rec : Bytes} {c : Cursor} (X : PresentAt v lay t rec c.at) {p : TypeParts} (R : PartsIs v lay t p) where
  pub opened-struct : {n : ℕ} {b : Cursor} → p ≡ TypeParts.Struct n b → OpenedIs v lay rec X.content.tree (Opened.Row n b c)
  unfolding dtype_of content_as deeper-columns
  opened-struct e =
      let S = struct-opened R X.type e in
      let I = struct_in (content_as (ap dtype_of S.is) X.content) in
      record { answer = record { row = record { columns = deeper-columns (omega arith) S.inner; values = I.inner }; is = I.is } }

  pub opened-array : {w : ℕ} {l : LabelSpan} {a : Cursor} → p ≡ TypeParts.Array w l a → OpenedIs v lay rec X.content.tree (Opened.Array w a c)
  unfolding dtype_of content_as deeper-type
  opened-array e =
      let L = array-opened R X.type e in
      let I = array_in (content_as (ap dtype_of L.is) X.content) in
      record { answer = record { elements = record { type = deeper-type (omega arith) L.inner; values = I.inner }; is = I.is } }
