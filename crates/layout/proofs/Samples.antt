-- Some layouts, and what the definitions make of them: computed.
use mathlib.Core.Path.{◌≡◌, refl}
use mathlib.Core.Bool.{true, false}
use mathlib.Core.List.{[], ◌∷◌, ◌++◌, map}
use Prim.Native.Nat.{ℕ}
use lib.ListN.{replicate, take}
use Rattle.layout.specs.Bytes.{Bytes, same_bytes}
use Rattle.layout.specs.Parser.{Res, refuse, ok, next, choose, byte, chunk, u16, u32}
use Rattle.layout.specs.Tree.{string, datetime, Label, cleaf, clist, cnil, ccons, Layout, integer}
use Rattle.layout.specs.Layout.{text, unit, leaf_head, datetime_head, struct_head, array_head, kind_of, kind, field_id, required_mark, field_mark, label_rest}
use Rattle.layout.specs.Layout.{label, element_label, repeats_any, columns, struct_type, list_type, array_type, body, type, edition, sized, ended, counted}
use Rattle.layout.specs.Layout.{layout_from, layout}
use Rattle.layout.specs.declared.leaf.TimeUnit.{TimeUnit}
use Rattle.layout.specs.declared.edition.Edition.{Edition}
use Rattle.numeric.specs.declared.integers.Integer.TheVariants.{Int16, Int32}

-- `LAY`, version v, n columns
abbrev laid : ℕ → ℕ → Bytes → Bytes
laid v n rest = 0x4C ∷ 0x41 ∷ 0x59 ∷ v ∷ 0 ∷ n ∷ 0 ∷ rest

abbrev named : Bytes → ℕ → Label
named n i = record { name = n; id = record { 0 = i }; required = false }

-- opens every definition that a sample computes through
computed : Bytes → Res Layout
unfolding layout layout_from sized edition same_bytes counted ended columns label label_rest text byte chunk u16 u32 field_id field_mark required_mark type
    kind kind_of leaf_head datetime_head struct_head array_head unit body struct_type list_type array_type element_label repeats_any next choose
computed s = layout s

-- 0 for a layout that is read, or the refusal's number
abbrev number_of : Res Layout → ℕ
number_of (refuse n) = n
number_of (ok l at) = 0

-- ---- S1

s1_incoming : Bytes
s1_incoming = laid 1 1 (1 ∷ 0x74 ∷ 3 ∷ [])

s1_target : Bytes
s1_target = laid 1 2 (1 ∷ 0x74 ∷ 4 ∷ 1 ∷ 0x73 ∷ 15 ∷ [])

s1_incoming_read : layout s1_incoming ≡ ok (record { edition = Edition.One; columns = ccons (named (0x74 ∷ []) 0) (cleaf (integer Int16)) cnil }) 10
unfolding computed s1_incoming
s1_incoming_read = refl

s1_target_read : layout s1_target ≡ ok (record {
  edition = Edition.One;
  columns = ccons (named (0x74 ∷ []) 0) (cleaf (integer Int32))
      (ccons (named (0x73 ∷ []) 0) (cleaf string) cnil);
}) 13
unfolding computed s1_target
s1_target_read = refl

-- it ends at every byte: 1 before the mark and version are whole, then 2
s1_target_ends : map (λ n. number_of (layout (take n s1_target))) (0 ∷ 1 ∷ 2 ∷ 3 ∷ 4 ∷ 5 ∷ 6 ∷ 7 ∷ 8 ∷ 9 ∷ 10 ∷ 11 ∷ 12 ∷ 13 ∷ [])
    ≡ 1 ∷ 1 ∷ 1 ∷ 1 ∷ 1 ∷ 2 ∷ 2 ∷ 2 ∷ 2 ∷ 2 ∷ 2 ∷ 2 ∷ 2 ∷ 0 ∷ []
unfolding computed s1_target
s1_target_ends = refl

-- ---- a list of date-times in version 2

list_of-datetime : layout (laid 2 1 (1 ∷ 0x61 ∷ 7 ∷ 0 ∷ 0 ∷ 0 ∷ 19 ∷ 0 ∷ 8 ∷ 0 ∷ 0 ∷ 0 ∷ 14 ∷ 1 ∷ 1 ∷ 0x5A ∷ []))
    ≡ ok (record {
      edition = Edition.Two;
      columns = ccons (named (0x61 ∷ []) 7) (clist (named [] 8)
          (cleaf (datetime TimeUnit.Microseconds (0x5A ∷ [])))) cnil;
    }) 23
unfolding computed
list_of-datetime = refl

-- ---- depth

-- sixteen levels are read, so that the byte left over is refused; seventeen are not, even where the bytes end
deep_16 : layout (laid 1 1 (0 ∷ replicate 15 19 ++ (0 ∷ 0 ∷ []))) ≡ refuse 6
unfolding computed
deep_16 = refl

deep_17 : layout (laid 1 1 (0 ∷ replicate 16 19)) ≡ refuse 4
unfolding computed
deep_17 = refl

-- ---- repeats

-- a repeated name is found before the bytes that end too soon
twice_named : layout (laid 1 3 (1 ∷ 0x61 ∷ 3 ∷ 1 ∷ 0x61 ∷ 3 ∷ [])) ≡ refuse 5
unfolding computed
twice_named = refl

-- but after what its own type refuses
twice_named_unknown : layout (laid 1 3 (1 ∷ 0x61 ∷ 3 ∷ 1 ∷ 0x61 ∷ 99 ∷ [])) ≡ refuse 3
unfolding computed
twice_named_unknown = refl

-- inside a struct of version 1 a name may be repeated
inner_names : number_of (layout (laid 1 1 (0 ∷ 18 ∷ 2 ∷ 0 ∷ 0 ∷ 3 ∷ 0 ∷ 3 ∷ []))) ≡ 0
unfolding computed
inner_names = refl

-- in version 2 an id may not, at any level; a name may
inner_ids : layout (laid 2 1 (0 ∷ 1 ∷ 0 ∷ 0 ∷ 0 ∷ 18 ∷ 2 ∷ 0 ∷ 0 ∷ 5 ∷ 0 ∷ 0 ∷ 0 ∷ 3 ∷ 0 ∷ 5 ∷ 0 ∷ 0 ∷ 0 ∷ 3 ∷ [])) ≡ refuse 5
unfolding computed
inner_ids = refl

top_names : number_of (layout (laid 2 2 (1 ∷ 0x61 ∷ 1 ∷ 0 ∷ 0 ∷ 0 ∷ 3 ∷ 1 ∷ 0x61 ∷ 2 ∷ 0 ∷ 0 ∷ 0 ∷ 3 ∷ []))) ≡ 0
unfolding computed
top_names = refl

-- ---- required marks (document 02, L5)

abbrev demanded : Bytes → ℕ → Label
demanded n i = record { name = n; id = record { 0 = i }; required = true }

-- a required column and an optional one
marked : Bytes
marked = laid 3 2 (1 ∷ 0x61 ∷ 7 ∷ 0 ∷ 0 ∷ 0 ∷ 1 ∷ 3 ∷ 1 ∷ 0x62 ∷ 8 ∷ 0 ∷ 0 ∷ 0 ∷ 0 ∷ 15 ∷ [])

marked_read : layout marked
    ≡ ok (record {
      edition = Edition.Three;
      columns = ccons (demanded (0x61 ∷ []) 7) (cleaf (integer Int16))
          (ccons (named (0x62 ∷ []) 8) (cleaf string) cnil);
    }) 23
unfolding computed marked
marked_read = refl

-- from its count on, it ends at every byte
marked_ends : map (λ n. number_of (layout (take n marked))) (5 ∷ 6 ∷ 7 ∷ 8 ∷ 9 ∷ 10 ∷ 11 ∷ 12 ∷ 13 ∷ 14 ∷ 15 ∷ 16 ∷ 17 ∷ 18 ∷ 19 ∷ 20 ∷ 21 ∷ 22 ∷ 23 ∷ [])
    ≡ 2 ∷ 2 ∷ 2 ∷ 2 ∷ 2 ∷ 2 ∷ 2 ∷ 2 ∷ 2 ∷ 2 ∷ 2 ∷ 2 ∷ 2 ∷ 2 ∷ 2 ∷ 2 ∷ 2 ∷ 2 ∷ 0 ∷ []
unfolding computed marked
marked_ends = refl

-- another mark is refused at its byte, before the type
unknown_mark : layout (laid 3 1 (0 ∷ 7 ∷ 0 ∷ 0 ∷ 0 ∷ 2 ∷ [])) ≡ refuse 3
unfolding computed
unknown_mark = refl

-- an element has a mark too
marked_element_lem : layout (laid 3 1 (1 ∷ 0x61 ∷ 7 ∷ 0 ∷ 0 ∷ 0 ∷ 0 ∷ 19 ∷ 0 ∷ 8 ∷ 0 ∷ 0 ∷ 0 ∷ 1 ∷ 3 ∷ []))
    ≡ ok (record { edition = Edition.Three; columns = ccons (named (0x61 ∷ []) 7) (clist (demanded [] 8) (cleaf (integer Int16))) cnil }) 22
unfolding computed
marked_element_lem = refl

unknown_element_mark : layout (laid 3 1 (0 ∷ 7 ∷ 0 ∷ 0 ∷ 0 ∷ 0 ∷ 19 ∷ 0 ∷ 8 ∷ 0 ∷ 0 ∷ 0 ∷ 2 ∷ [])) ≡ refuse 3
unfolding computed
unknown_element_mark = refl

element_mark-ends : layout (laid 3 1 (0 ∷ 7 ∷ 0 ∷ 0 ∷ 0 ∷ 0 ∷ 19 ∷ 0 ∷ 8 ∷ 0 ∷ 0 ∷ 0 ∷ [])) ≡ refuse 2
unfolding computed
element_mark-ends = refl

-- ids may not repeat, at any level
marked_inner_ids : layout (laid 3 1 (0 ∷ 1 ∷ 0 ∷ 0 ∷ 0 ∷ 0 ∷ 18 ∷ 2 ∷ 0 ∷ 0 ∷ 5 ∷ 0 ∷ 0 ∷ 0 ∷ 0 ∷ 3 ∷ 0 ∷ 5 ∷ 0 ∷ 0 ∷ 0 ∷ 1 ∷ 3 ∷ [])) ≡ refuse 5
unfolding computed
marked_inner_ids = refl

-- ---- marks, codes and lengths

unmarked : layout (0x4C ∷ 0x41 ∷ 0x59 ∷ 4 ∷ 0 ∷ []) ≡ refuse 1
unfolding computed
unmarked = refl

uncounted : layout (0x4C ∷ 0x41 ∷ 0x59 ∷ 1 ∷ 0 ∷ 1 ∷ []) ≡ refuse 2
unfolding computed
uncounted = refl

unknown_unit : layout (laid 1 1 (0 ∷ 14 ∷ 3 ∷ 64 ∷ [])) ≡ refuse 3
unfolding computed
unknown_unit = refl

long_zone : layout (laid 1 1 (0 ∷ 14 ∷ 2 ∷ 64 ∷ [])) ≡ refuse 4
unfolding computed
long_zone = refl

-- a name's length is tested before its bytes are looked for
long-name : layout (laid 1 1 (64 ∷ [])) ≡ refuse 4
unfolding computed
long-name = refl
