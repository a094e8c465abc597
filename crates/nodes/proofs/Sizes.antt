-- The length of a form and the depth of a type, part by part. Assumes nothing.
use Prim.Native.Nat.{ℕ, suc, ◌+◌, ◌-◌, ◌^◌, ◌≤◌, ◌<◌, max}
use mathlib.Core.Path.{◌≡◌, refl, sym, ap, ◌∙◌}
use mathlib.Core.List.{[], ◌++◌}
use native.Mathlib.Omega.{arith}
use lib.ListN.{length, length-append}
use Rattle.layout.specs.Bytes.{Bytes}
use Rattle.layout.specs.Tree.{ColumnType, Columns, dtype_of, fields_of}
use Rattle.layout.specs.Layout.{kind, label, element_label, type, columns}
use Rattle.layout.specs.code.Answers.{span_at, head_res, label_res, label_at, LabelIn}
use Rattle.layout.specs.code.Stands.{TypeAt, ColumnsAt}
use Rattle.layout.specs.declared.cursor.Cursor.{Cursor}
use Rattle.layout.specs.declared.types.Head.{Head}
use Rattle.layout.specs.declared.types.LeafType.{LeafType as LeafSpan}
use Rattle.layout.specs.declared.columns.Label.{Label as LabelSpan}
use Rattle.layout.specs.declared.columns.Labelled.{Labelled}
use Rattle.layout.specs.declared.columns.Siblings.TheVariants.{Free}
use Rattle.layout.specs.declared.edition.Edition.{Edition}
use Rattle.layout.proofs.Ways.{label_in}
use Rattle.layout.proofs.View.{label_got, leaf_at_lem, struct_at, list_at, array_at, same-columns, no_column, FirstAt, first-at, first-labelled}
use Rattle.forms.specs.Form.{text_bytes, form_fields}
use Rattle.forms.specs.code.Heads.{rest_form}
use Rattle.forms.specs.Depth.{depth_of, depth_of_fields}
use Rattle.forms.proofs.Read.{label-ends, type→}
use Rattle.forms.proofs.ReadBack.{type_extent}
use Rattle.forms.proofs.Heads.{HeadAt, head_at, form-long, end-leaf, end-struct, end_list, end-array}
use Rattle.forms.proofs.Writing.{bytes_of, field_bytes, extent, rest-leaf, rest-struct, rest-list, rest-array, text-long}
use Rattle.nodes.specs.code.Typed.{SizeOf, SizesOf}
use Rattle.nodes.specs.declared.types.FormSize.{FormSize}

-- ---- a type

pub depth-within : {v : Edition} {d : ℕ} {s : Bytes} {at : ℕ} (P : TypeAt v d s at) → depth_of (dtype_of P.tree) ≤ d
depth-within {v} {d} {s} {at} P = (type_extent (type→ v Free s d at P.reads)).deep

-- what is one level inside a type, after its head, which ends at m: n bytes and k levels, up to the type's end
pub record InsideOf (v : Edition) (d : ℕ) (s : Bytes) (at : ℕ) (P : TypeAt v d s at) (m n k e : ℕ) : Type 0 where
  pub head : HeadAt v d s at P m
  pub rest : length (rest_form (dtype_of P.tree)) ≡ n
  pub deep : depth_of (dtype_of P.tree) ≡ suc k
  pub ends : e ≡ P.end

-- what is added to it fits
pub inside-fits : {v : Edition} {d : ℕ} {s : Bytes} {at : ℕ} {P : TypeAt v d s at} {m n k e : ℕ} → InsideOf v d s at P m n k e → length s < 2 ^ 64 → d < 256
    → (at ≤ m) × (m - at + n < 2 ^ 64) × (k < 255)
inside-fits {P = P} I h g =
    let H = I.head in
    let w = depth-within P in
    (H.from, omega (arith, H.from, H.rest, H.ends, I.rest), omega (arith, w, I.deep))

pub inside-size : {v : Edition} {d : ℕ} {s : Bytes} {at : ℕ} {P : TypeAt v d s at} {m n k e : ℕ} {r : FormSize} → InsideOf v d s at P m n k e
    → (r.size ≡ m - at + n) × (r.deep ≡ k + 1) × (r.end.at ≡ e) → SizeOf (dtype_of P.tree) P.end r
inside-size {P = P} I (a, b, c) =
    let H = I.head in
    record {
      size = omega (arith, H.from, H.long, I.rest, form-long P, a);
      deep = omega (arith, I.deep, b);
      ends = c ∙ I.ends;
    }

module _ {v : Edition} {d : ℕ} {s : Bytes} {c : Cursor} (P : TypeAt v d s c.at) {p : Head} (e : head_res s p ≡ kind s c.at) where
  pub size-leaf : {l : LeafSpan} {b : Cursor} → p ≡ Head.Leaf l b → (c.at ≤ b.at) × SizeOf (dtype_of P.tree) P.end
      (record { size = b.at - c.at; deep = 1; end = b })
  unfolding dtype_of depth_of
  size-leaf f =
      let H = head_at P refl (end-leaf s (kind s c.at) c e f) in
      let (x, y) = rest-leaf P e f in
      let z : length (rest_form (dtype_of P.tree)) ≡ 0 = ap length x in (
        H.from,
        record {
          size = omega (arith, H.from, H.long, form-long P);
          deep = sym
              (ap (λ (t : ColumnType). depth_of (dtype_of t)) (leaf_at_lem P e f).0);
          ends = y;
        },
      )

  module _ {b : Cursor} {r : FormSize} where
    pub in_struct : {n : ℕ} → p ≡ Head.Struct n b → ((Q : ColumnsAt v (d - 1) s n b.at) → SizesOf (fields_of Q.columns) Q.end r) → InsideOf v d
        s c.at P b.at r.size r.deep r.end.at
    unfolding dtype_of depth_of
    in_struct f g =
        let S = struct_at P e f in
        let G = g S.inner in
        record {
          head = head_at P refl (end-struct s (kind s c.at) c e f);
          rest = ap length (rest-struct P S) ∙ sym G.size;
          deep = ap (λ (t : ColumnType). depth_of (dtype_of t)) S.is ∙ ap suc (sym G.deep);
          ends = G.ends ∙ S.ends;
        }

    module _ {q : Labelled} (h : label_res s q ≡ element_label v s b.at) {l : LabelSpan} {m : Cursor} (k : q ≡ Labelled.Is l m)
        (g : (Q : TypeAt v (d - 1) s m.at) → SizeOf (dtype_of Q.tree) Q.end r) where
      pub in_list : p ≡ Head.List b → InsideOf v d s c.at P b.at r.size r.deep r.end.at
      unfolding dtype_of depth_of
      in_list f =
          let L = list_at P e h f k in
          let G = g L.inner in
          record {
            head = head_at P refl (end_list s (kind s c.at) c e f);
            rest = ap length (rest-list P L) ∙ sym G.size;
            deep = ap (λ (t : ColumnType). depth_of (dtype_of t)) L.is ∙ ap suc (sym G.deep);
            ends = G.ends ∙ L.ends;
          }

      pub in_array : {w : ℕ} → p ≡ Head.Array w b → InsideOf v d s c.at P b.at r.size r.deep r.end.at
      unfolding dtype_of depth_of
      in_array f =
          let L = array_at P e h f k in
          let G = g L.inner in
          record {
            head = head_at P refl (end-array s (kind s c.at) c e f);
            rest = ap length (rest-array P L) ∙ sym G.size;
            deep = ap (λ (t : ColumnType). depth_of (dtype_of t)) L.is ∙ ap suc (sym G.deep);
            ends = G.ends ∙ L.ends;
          }

-- ---- the loop over columns: after i of n of them

abbrev fields_depth : Columns → ℕ
fields_depth cs = depth_of_fields (fields_of cs)

pub record Sizing (v : Edition) (d : ℕ) (s : Bytes) (n from at size deep i : ℕ) : Type 0 where
  pub within : i ≤ n
  pub room : from + size ≤ at
  pub rest : ColumnsAt v d s (n - i) at
  pub ends : (P : ColumnsAt v d s n from) → rest.end ≡ P.end
  pub long : (P : ColumnsAt v d s n from) → length (field_bytes P.columns) ≡ size + length (field_bytes rest.columns)
  pub levels : (P : ColumnsAt v d s n from) → fields_depth P.columns ≡ max deep (fields_depth rest.columns)

module _ {v : Edition} {d : ℕ} {s : Bytes} {n from : ℕ} where
  pub sizing_none : ColumnsAt v d s n from → Sizing v d s n from from 0 0 0
  sizing_none Q = record {
    within = omega arith;
    room = omega arith;
    rest = record {
      columns = Q.columns;
      end = Q.end;
      reads = ap (λ (m : ℕ). columns v Free (type v Free d) m [] s from)
          (let e : n - 0 ≡ n = omega arith in e) ∙ Q.reads;
    };
    ends = λ P. (same-columns Q P).1;
    long = λ P. let z : length (field_bytes P.columns) ≡ length (field_bytes Q.columns) = ap (λ (cs : Columns). length (field_bytes cs))
        (same-columns P Q).0 in omega arith;
    levels = λ P. let z : fields_depth P.columns ≡ fields_depth Q.columns = ap (λ (cs : Columns). fields_depth cs) (same-columns P Q).0 in omega arith;
  }

  module _ {at size deep i : ℕ} (S : Sizing v d s n from at size deep i) where
    pub sizing_all : n ≤ i → (P : ColumnsAt v d s n from) → SizesOf (fields_of P.columns) P.end
        (record { size = size; deep = deep; end = record { at = at } })
    unfolding fields_of form_fields depth_of_fields
    sizing_all h P =
        let z : n - i ≡ 0 = let w = S.within in omega arith in
        let (p, q) = no_column S.rest z in
        let l : length (field_bytes S.rest.columns) ≡ 0 = ap (λ (cs : Columns). length (field_bytes cs)) p in
        let m : fields_depth S.rest.columns ≡ 0 = ap (λ (cs : Columns). fields_depth cs) p in
        record { size = let f = S.long P in omega arith; deep = let f = S.levels P in omega arith; ends = sym q ∙ S.ends P }

    module _ (lt : i < n) {q : Labelled} (e : label_res s q ≡ label v s at) where
      pub sizing-unlabelled : {B : Type 0} {k : ℕ} → q ≡ Labelled.Refused k → B
      sizing-unlabelled f = first-labelled S.rest (λ z. omega arith) e f

      module _ {l : LabelSpan} {c : Cursor} (f : q ≡ Labelled.Is l c) (g : LabelIn s q) where
        -- the next column's type
        pub sizing-first : FirstAt v d s (n - i) at S.rest (label_at s l) c.at
        sizing-first = first-at S.rest (λ z. omega arith) e f

        name-long : at + (l.name.len + 1) ≤ c.at
        name-long =
            let w = text-long s l.name (label_in s g f) in
            let b = (label-ends s v at (label_got s e f)).1.0 in
            omega arith

        first-long : length (field_bytes S.rest.columns) ≡ l.name.len + 1 + (length (bytes_of sizing-first.head.tree) + length
            (field_bytes sizing-first.tail.columns))
        unfolding fields_of form_fields
        first-long =
            let F = sizing-first in
            let T = text_bytes (span_at s l.name) in
            let B = bytes_of F.head.tree in
            let R = field_bytes F.tail.columns in
            let w : l.name.len + 1 ≡ length T = text-long s l.name (label_in s g f) in
            let x : length (field_bytes S.rest.columns) ≡ length (T ++ (B ++ R)) = ap (λ (cs : Columns). length (field_bytes cs)) F.is in
            let y : length (T ++ (B ++ R)) ≡ length T + length (B ++ R) = length-append T (B ++ R) in
            let z : length (B ++ R) ≡ length B + length R = length-append B R in
            omega arith

        first-deep : fields_depth S.rest.columns ≡ max (depth_of (dtype_of sizing-first.head.tree)) (fields_depth sizing-first.tail.columns)
        unfolding fields_of depth_of_fields
        first-deep = ap (λ (cs : Columns). fields_depth cs) sizing-first.is

        module _ {r : FormSize} (h : (Q : TypeAt v d s c.at) → SizeOf (dtype_of Q.tree) Q.end r) where
          -- what is added fits, for the next type ends no earlier
          pub sizing-fits : from + size + (l.name.len + 1) + r.size ≤ r.end.at
          sizing-fits =
              let F = sizing-first in
              let (x, y) = extent F.head in
              let G = h F.head in
              omega (arith, S.room, name-long, G.size, G.ends)

          pub sizing-more : {m : ℕ} → m ≡ max deep r.deep → Sizing v d s n from r.end.at (size + (l.name.len + 1) + r.size) m (i + 1)
          sizing-more {m} u =
              let F = sizing-first in
              let G = h F.head in
              let a = sizing-fits in
              let b = first-long in
              let x = first-deep in
              let z : n - (i + 1) ≡ n - i - 1 = omega arith in
              record {
                within = omega arith;
                room = omega arith;
                rest = record {
                  columns = F.tail.columns;
                  end = F.tail.end;
                  reads = ap (λ (k : ℕ). columns v Free (type v Free d) k [] s r.end.at) z ∙ ap
                      (λ (o : ℕ). columns v Free (type v Free d) (n - i - 1) [] s o) G.ends ∙ F.tail.reads;
                };
                ends = λ P. F.ends ∙ S.ends P;
                long = λ P. let w = S.long P in omega (arith, G.size);
                levels = λ P. let w = S.levels P in omega (arith, G.deep);
              }
