-- With which numbers each parser can refuse: those of layouts, tables of defaults, values and records. Assumes nothing.
use Prim.Native.Nat.{ℕ, zero, suc}
use mathlib.Core.Path.{◌≡◌, refl}
use mathlib.Core.Bool.{Bool, true}
use mathlib.Core.List.{List, [], ◌∷◌, ◌++◌}
use Rattle.layout.specs.Bytes.{Bytes}
use Rattle.layout.specs.Parser.{Res, refuse, ok, Parser, choose, byte, chunk, u16, u32}
use Rattle.layout.specs.Tree.{LeafType, leaf_of, Label, ColumnType, cleaf, cstruct, clist, carray, Columns, cnil, ccons, leaf}
use Rattle.layout.specs.Layout.{Head, a_leaf, a_struct, a_list, an_array, plain_leaf, text, unit, leaf_head, datetime_head, decimal_params, decimal_head}
use Rattle.layout.specs.Layout.{struct_head, array_head, kind_of, kind, field_id, required_mark, field_mark, label_rest, label, element_label, columns, list_type}
use Rattle.layout.specs.Layout.{array_type, struct_type, body}
use Rattle.layout.specs.Layout.{type, top_rule, inner_rule, deepest, edition, sized, ended, counted, layout_from, layout}
use Rattle.layout.specs.declared.leaf.Leaf.{Leaf}
use Rattle.layout.specs.declared.types.PlainLeaf.{PlainLeaf}
use Rattle.layout.specs.declared.types.PlainLeaf.TheVariants.{Known, Unknown}
use Rattle.layout.specs.declared.columns.Siblings.{Siblings}
use Rattle.layout.specs.declared.edition.Edition.{Edition}
use Rattle.layout.specs.declared.edition.Edition.TheVariants.{One, Two, Three}
use Rattle.values.specs.Value.{Value}
use Rattle.values.specs.Content.{content_of}
use Rattle.values.specs.declared.content.Content.{Content}
use Rattle.values.specs.declared.content.Content.TheVariants.{Nothing, Flag, Number, Decimal, Text}
use Rattle.values.specs.Reading.{presence, nullable, flag, decimal, long_text, content_by, leaf_content}
use Rattle.values.specs.Reading.{times, list_content, array_content, struct_content, content, value}
use Rattle.values.specs.Filled.{required_of}
use Rattle.values.specs.Marked.{presence_marked, nullable_marked, content_marked, values_marked}
use Rattle.values.specs.Record.{record_number, renumber, short_enough, ended as recordEnded, record_marked_from, record_marked}
use Rattle.defaults.specs.Table.{OwnedEntry, only_leaf, default_type, initial_entry, loaded_entry, partition_entry, entry_kind, given_of}
use Rattle.defaults.specs.Table.{table_number, entry, owner_of, owned_entry, entries, table_version, counted_table, table_from, table}
use Rattle.defaults.specs.declared.read.EntryKind.{EntryKind}
use Rattle.defaults.specs.declared.read.EntryKind.TheVariants.{Initial, Partition}
use Rattle.defaults.specs.declared.read.TableVersion.{TableVersion}
use Rattle.defaults.specs.declared.read.TableVersion.TheVariants.{Shared, ByOwner}
use Rattle.plan.specs.Selector.{Selectors}
use Rattle.plan.specs.Read.{plan_from, plan}
use Rattle.demands.specs.Refusals.{is_in, layout_refusals, table_refusals, record_refusals}
use Rattle.demands.proofs.Refusing.{all, RefusesIn, in_ok, in_refuse, next_in, choose_in, wider, renumber_in}

-- a value's numbers, which a record has in its own (`record_number`)
abbrev pub value_refusals : List ℕ
value_refusals = 2 ∷ 3 ∷ 52 ∷ []

-- and where required marks count (document 02, L5)
abbrev marked_refusals : List ℕ
marked_refusals = 56 ∷ value_refusals

-- an entry's numbers, before 50 and 52 are 3 (`table_number`)
abbrev entry_refusals : List ℕ
entry_refusals = 50 ∷ 52 ∷ table_refusals

-- the bytes end: 2, which every list of a parser's numbers has
module _ {ns : List ℕ} (two : is_in 2 ns ≡ true) (s : Bytes) where
  byte_in : (at : ℕ) → RefusesIn ns (byte s at)
  unfolding byte
  byte_in at = choose_in _ in_ok (in_refuse two)

  chunk_in : (n at : ℕ) → RefusesIn ns (chunk n s at)
  unfolding chunk
  chunk_in n at = choose_in _ in_ok (in_refuse two)

  u16-in : (at : ℕ) → RefusesIn ns (u16 s at)
  unfolding u16
  u16-in at = next_in (byte_in at) (λ a i. next_in (byte_in i) (λ b j. in_ok))

  u32-in : (at : ℕ) → RefusesIn ns (u32 s at)
  unfolding u32
  u32-in at = next_in (u16-in at) (λ a i. next_in (u16-in i) (λ b j. in_ok))

module _ (s : Bytes) where
  -- ---- what layouts and tables share

  text_in : (at : ℕ) → RefusesIn table_refusals (text s at)
  unfolding text is_in
  text_in at = next_in (byte_in refl s at) (λ n i. choose_in _ (chunk_in refl s n i) (in_refuse refl))

  unit-in : (at : ℕ) → RefusesIn table_refusals (unit s at)
  unfolding unit is_in
  unit-in at = next_in (byte_in refl s at) (λ u i. choose_in _ in_ok (choose_in _ in_ok (choose_in _ in_ok (in_refuse refl))))

  leaf-kind-in : (l : PlainLeaf) (at : ℕ) → RefusesIn table_refusals (leaf_head l s at)
  unfolding leaf_head is_in
  leaf-kind-in (Known l) at = in_ok
  leaf-kind-in Unknown at = in_refuse refl

  datetime-kind-in : (at : ℕ) → RefusesIn table_refusals (datetime_head s at)
  unfolding datetime_head
  datetime-kind-in at = next_in (unit-in at) (λ u i. next_in (text_in i) (λ z j. in_ok))

  decimal-kind-in : (at : ℕ) → RefusesIn (2 ∷ 50 ∷ []) (decimal_head s at)
  unfolding decimal_head decimal_params is_in
  decimal-kind-in at =
      next_in (next_in (byte_in refl s at) (λ p i. next_in (byte_in refl s i) (λ c j. choose_in _ in_ok (in_refuse refl)))) (λ d i. in_ok)

  sized-in : (at : ℕ) → RefusesIn table_refusals (sized s at)
  unfolding sized is_in
  sized-in at = choose_in _ in_ok (in_refuse refl)

  ended-in : (at : ℕ) → RefusesIn table_refusals (ended s at)
  unfolding ended is_in
  ended-in at = choose_in _ in_ok (in_refuse refl)

  -- ---- a layout

  struct-kind-in : (at : ℕ) → RefusesIn layout_refusals (struct_head s at)
  unfolding struct_head is_in
  struct-kind-in at = next_in (u16-in refl s at) (λ n i. in_ok)

  array-kind-in : (at : ℕ) → RefusesIn layout_refusals (array_head s at)
  unfolding array_head is_in
  array-kind-in at = next_in (u32-in refl s at) (λ w i. in_ok)

  kind-of-in : (c at : ℕ) → RefusesIn layout_refusals (kind_of c s at)
  unfolding kind_of is_in all
  kind-of-in c at =
      choose_in _ (wider refl (datetime-kind-in at))
      (choose_in _ (struct-kind-in at)
      (choose_in _ in_ok
      (choose_in _ (array-kind-in at)
      (choose_in _ (wider refl (decimal-kind-in at))
      (wider refl (leaf-kind-in (plain_leaf c) at))))))

  kind-in : (at : ℕ) → RefusesIn layout_refusals (kind s at)
  unfolding kind is_in
  kind-in at = next_in (byte_in refl s at) (λ c i. kind-of-in c i)

  field-id-in : (v : Edition) (at : ℕ) → RefusesIn layout_refusals (field_id v s at)
  unfolding field_id is_in
  field-id-in One at = in_ok
  field-id-in Two at = u32-in refl s at
  field-id-in Three at = u32-in refl s at

  mark-in : (v : Edition) (at : ℕ) → RefusesIn layout_refusals (field_mark v s at)
  unfolding field_mark required_mark is_in
  mark-in One at = in_ok
  mark-in Two at = in_ok
  mark-in Three at = next_in (byte_in refl s at) (λ b i. choose_in _ in_ok (choose_in _ in_ok (in_refuse refl)))

  label_in : (v : Edition) (at : ℕ) → RefusesIn layout_refusals (label v s at)
  unfolding label label_rest is_in all
  label_in v at = next_in (wider refl (text_in at)) (λ n i. next_in (field-id-in v i) (λ k j. next_in (mark-in v j) (λ r m. in_ok)))

  element-label-in : (v : Edition) (at : ℕ) → RefusesIn layout_refusals (element_label v s at)
  unfolding element_label
  element-label-in One at = in_ok
  element-label-in Two at = label_in Two at
  element-label-in Three at = label_in Three at

  module _ (v : Edition) (r : Siblings) (p : Parser ColumnType) (o : (at : ℕ) → RefusesIn layout_refusals (p s at)) where
    columns-in : (n : ℕ) (earlier : List Label) (at : ℕ) → RefusesIn layout_refusals (columns v r p n earlier s at)
    unfolding columns is_in
    columns-in zero earlier at = in_ok
    columns-in (suc n) earlier at =
        next_in (label_in v at) (λ l i.
        next_in (o i) (λ t j.
        next_in (choose_in _ in_ok (in_refuse refl)) (λ u k.
        next_in (columns-in n (earlier ++ (l ∷ [])) k) (λ cs m. in_ok))))

    body-in : (k : Head) (at : ℕ) → RefusesIn layout_refusals (body v r p k s at)
    unfolding body struct_type list_type array_type
    body-in (a_leaf l) at = in_ok
    body-in (a_struct n) at = next_in (columns-in n [] at) (λ cs i. in_ok)
    body-in a_list at = next_in (element-label-in v at) (λ l i. next_in (o i) (λ t j. in_ok))
    body-in (an_array w) at = next_in (element-label-in v at) (λ l i. next_in (o i) (λ t j. in_ok))

  type-in : (v : Edition) (r : Siblings) (d at : ℕ) → RefusesIn layout_refusals (type v r d s at)
  unfolding type is_in
  type-in v r zero at = in_refuse refl
  type-in v r (suc d) at = next_in (kind-in at) (λ k i. body-in v r (type v r d) (type-in v r d) k i)

  edition-in : (at : ℕ) → RefusesIn layout_refusals (edition s at)
  unfolding edition is_in
  edition-in at = choose_in _ in_ok (choose_in _ in_ok (choose_in _ in_ok (in_refuse refl)))

  counted-in : (v : Edition) (at : ℕ) → RefusesIn layout_refusals (counted v s at)
  unfolding counted is_in all
  counted-in v at =
      next_in (u16-in refl s at) (λ n i.
      next_in (columns-in v (top_rule v) (type v (inner_rule v) deepest) (type-in v (inner_rule v) deepest) n [] i) (λ cs j.
      next_in (wider refl (ended-in j)) (λ u k. in_ok)))

  pub layout_in_lem : RefusesIn layout_refusals (layout s)
  unfolding layout layout_from is_in all
  layout_in_lem = next_in (wider refl (sized-in 0)) (λ u i. next_in (edition-in i) (λ v j. counted-in v j))

  -- ---- a value

  presence-in : (at : ℕ) → RefusesIn value_refusals (presence s at)
  unfolding presence is_in
  presence-in at = next_in (byte_in refl s at) (λ b i. choose_in _ in_ok (choose_in _ in_ok (in_refuse refl)))

  flag_in : (at : ℕ) → RefusesIn value_refusals (flag s at)
  unfolding flag is_in
  flag_in at = next_in (byte_in refl s at) (λ b i. choose_in _ in_ok (in_refuse refl))

  content-by-in : (c : Content) (k : Leaf) (at : ℕ) → RefusesIn value_refusals (content_by c k s at)
  unfolding content_by decimal long_text is_in
  content-by-in Nothing k at = in_refuse refl
  content-by-in Flag k at = next_in (flag_in at) (λ b i. in_ok)
  content-by-in (Number w) k at = next_in (chunk_in refl s w at) (λ b i. in_ok)
  content-by-in (Decimal p) k at = next_in (next_in (chunk_in refl s 8 at) (λ b i. choose_in _ in_ok (in_refuse refl))) (λ n i. in_ok)
  content-by-in Text k at = next_in (next_in (u16-in refl s at) (λ n i. chunk_in refl s n i)) (λ b i. in_ok)

  module _ {ns : List ℕ} (p : Parser Value) (o : (at : ℕ) → RefusesIn ns (p s at)) where
    times-in : (n at : ℕ) → RefusesIn ns (times n p s at)
    unfolding times
    times-in zero at = in_ok
    times-in (suc n) at = next_in (o at) (λ v i. next_in (times-in n i) (λ vs j. in_ok))

  -- a leaf of a table of defaults
  value_in : (l : LeafType) (at : ℕ) → RefusesIn value_refusals (value (leaf l) s at)
  unfolding value nullable content leaf_content
  value_in l at = next_in (presence-in at) (λ b i. choose_in b (content-by-in (content_of (leaf_of l)) (leaf_of l) i) in_ok)

  -- 56 at the presence byte of a required column
  module _ (r : Bool) (p : Parser Value) (o : (at : ℕ) → RefusesIn marked_refusals (p s at)) where
    nullable-in : (at : ℕ) → RefusesIn marked_refusals (nullable_marked r p s at)
    unfolding nullable_marked presence_marked is_in all
    nullable-in at =
        next_in (next_in (wider refl (presence-in at)) (λ b i. choose_in b in_ok (choose_in r (in_refuse refl) in_ok))) (λ b i. choose_in b (o i) in_ok)

  module _ (mark : Label → Bool) where
    mutual
      unfolding content_marked values_marked leaf_content struct_content list_content array_content is_in all

      content-in : (t : ColumnType) (at : ℕ) → RefusesIn marked_refusals (content_marked mark t s at)
      content-in (cleaf l) at = wider refl (content-by-in (content_of (leaf_of l)) (leaf_of l) at)
      content-in (cstruct cs) at = next_in (values-in cs at) (λ vs i. in_ok)
      content-in (clist l t) at =
          next_in (u16-in refl s at) (λ n i. next_in (times-in _ (nullable-in (mark l) _ (λ j. content-in t j)) n i) (λ vs j. in_ok))
      content-in (carray w l t) at = next_in (times-in _ (nullable-in (mark l) _ (λ j. content-in t j)) w at) (λ vs i. in_ok)

      values-in : (cs : Columns) (at : ℕ) → RefusesIn marked_refusals (values_marked mark cs s at)
      values-in cnil at = in_ok
      values-in (ccons l t cs) at = next_in (nullable-in (mark l) _ (λ j. content-in t j) at) (λ v i. next_in (values-in cs i) (λ vs j. in_ok))

  -- ---- a table of defaults

  only-leaf-in : (k : Head) (at : ℕ) → RefusesIn table_refusals (only_leaf k s at)
  unfolding only_leaf is_in
  only-leaf-in (a_leaf l) at = in_ok
  only-leaf-in (a_struct n) at = in_refuse refl
  only-leaf-in a_list at = in_refuse refl
  only-leaf-in (an_array w) at = in_refuse refl

  default-type-in : (at : ℕ) → RefusesIn entry_refusals (default_type s at)
  unfolding default_type is_in all
  default-type-in at =
      next_in (byte_in refl s at) (λ c i.
      next_in
      (choose_in _ (wider refl (datetime-kind-in i)) (choose_in _ (wider refl (decimal-kind-in i)) (wider refl (leaf-kind-in (plain_leaf c) i)))) (λ k j.
      wider refl (only-leaf-in k j)))

  given-of-in : (k : EntryKind) (at : ℕ) → RefusesIn entry_refusals (given_of k s at)
  unfolding given_of initial_entry partition_entry loaded_entry is_in all
  given-of-in Initial at = next_in (default-type-in at) (λ l i. next_in (wider refl (value_in l i)) (λ v j. in_ok))
  given-of-in Partition at =
      next_in (byte_in refl s at) (λ b i.
      choose_in _
      (next_in (default-type-in i) (λ l j. next_in (u16-in refl s j) (λ n m. next_in (wider refl (times-in _ (value_in l) n m)) (λ vs o. in_ok))))
      (choose_in _ in_ok (in_refuse refl)))

  entry-kind-in : (at : ℕ) → RefusesIn table_refusals (entry_kind s at)
  unfolding entry_kind is_in
  entry-kind-in at = next_in (byte_in refl s at) (λ b i. choose_in _ in_ok (choose_in _ in_ok (in_refuse refl)))

  entry_in : (at : ℕ) → RefusesIn table_refusals (entry s at)
  unfolding entry table_number choose is_in all
  entry_in at =
      next_in (u32-in refl s at) (λ i j.
      next_in (entry-kind-in j) (λ k m.
      next_in (renumber_in table_number refl (given-of-in k m)) (λ g o. in_ok)))

  owner-in : (v : TableVersion) (at : ℕ) → RefusesIn table_refusals (owner_of v s at)
  unfolding owner_of is_in
  owner-in Shared at = in_ok
  owner-in ByOwner at = next_in (u16-in refl s at) (λ n i. in_ok)

  entries-in : (v : TableVersion) (n : ℕ) (earlier : List OwnedEntry) (at : ℕ) → RefusesIn table_refusals (entries v n earlier s at)
  unfolding entries owned_entry is_in
  entries-in v zero earlier at = in_ok
  entries-in v (suc n) earlier at =
      next_in (next_in (owner-in v at) (λ o i. next_in (entry_in i) (λ e j. in_ok))) (λ e i.
      next_in (choose_in _ in_ok (in_refuse refl)) (λ u j. entries-in v n (earlier ++ (e ∷ [])) j))

  pub table_in : RefusesIn table_refusals (table s)
  unfolding table table_from counted_table table_version is_in
  table_in =
      next_in (sized-in 0) (λ u i.
      next_in (choose_in _ in_ok (choose_in _ in_ok (in_refuse refl))) (λ v j.
      next_in (u16-in refl s j) (λ n k.
      next_in (entries-in v n [] k) (λ es m.
      next_in (ended-in m) (λ x o. in_ok)))))

  -- ---- a record, and a plan

  record-values-in : (cs : Columns) (at : ℕ) → RefusesIn record_refusals (renumber record_number (values_marked required_of cs s at))
  unfolding record_number choose is_in all
  record-values-in cs at = renumber_in record_number refl (values-in required_of cs at)

  pub record_in : (cs : Columns) → RefusesIn record_refusals (record_marked required_of cs s)
  unfolding record_marked record_marked_from short_enough recordEnded is_in
  record_in cs =
      next_in (choose_in _ in_ok (in_refuse refl)) (λ u i.
      next_in (record-values-in cs i) (λ vs j.
      next_in (choose_in _ in_ok (in_refuse refl)) (λ x k. in_ok)))

  -- "30 plan malformed", whatever the fault
  pub plan_in : RefusesIn (30 ∷ []) (plan s)
  unfolding plan is_in renumber
  plan_in = malformed (plan_from s 0)
    where
      malformed : (x : Res Selectors) → RefusesIn (30 ∷ []) (renumber (λ n. 30) x)
      malformed (refuse n) = in_refuse refl
      malformed (ok ss m) = in_ok
