-- `array_over`, `infer_column`, `infer_fields`, `infer_over`, `infer_selector`, `list_over` and `struct_over` of
-- `infer::over` meet their contracts. The measure is 8 for each level left, and more for the functions that call at the
-- same level. `Gathering` holds at the head of the loop. Assumes nothing.
use mathlib.Core.Path.{sym}
use lib.Seq.{length-take-le}
use borrow.Author.Tests.{not-false}
use Rattle.walk.proofs.View.{selector_moved}
use Rattle.walk.proofs.Heads.{is-cast, is-rename, is_struct_mapping, is_list_mapping, is-array}
use Rattle.direct.proofs.Scoping.{taken_at}
use Rattle.infer.proofs.Transforms.{inferred_short, fields-short, depth_as, input-at, named-to, in_struct, in_list, in_array, array-width, cast-from}
use Rattle.infer.proofs.Transforms.{rename-from, struct_from, list-from, array-from, rename_infers, list_infers, array_infers, struct_infers, list-scope}
use Rattle.infer.proofs.Transforms.{array-scope, struct-scope, struct-selectors, unrenamed_infers, input-takes, column_infers}
use Rattle.infer.proofs.Behind.{same_size, list_left, array-left, struct_left, name-left}
use native.Mathlib.Omega.{arith}
use Rattle.infer.proofs.Gathering.{gathering_none, gathering_all, gathering-head, gathering-inside, gathering-more}
use mathlib.Core.Path.{ap}
use mathlib.Core.Bool.{not}
use Rattle.infer.proofs.over.+array_over_infer_column_infer_fields_infer_over_infer_selector_list_over_struct_over.Goals as goal

pub array_over-infer_selector-r-requires : goal.array_over-infer_selector-r-requires
array_over-infer_selector-r-requires t c =
    let T = c.requires.type_at in let (a, P, S) = c.requires.by_index in let L = c.requires.s_len_bound in let I = in_array (c.inside_of.ensures T) c.in-Array.is in
    let F = c.put_array.ensures (not-false _ (ap not c.if-not-put_array.false)) in (
      omega (arith, c.decreases),
      (
        array-scope I,
        (
          selector_moved (sym (c.skip_selector-e.ensures S.input)) S.element,
          (
            L.0,
            L.1,
            omega (
              arith,
              same_size F,
              L.2,
            ),
            array-left _ F,
            omega (arith, L.4),
          ),
        ),
      ),
    )

pub array_over-behind-requires : goal.array_over-behind-requires
array_over-behind-requires t c =
    let T = c.requires.type_at in let (a, P, S) = c.requires.by_index in let L = c.requires.s_len_bound in let I = in_array (c.inside_of.ensures T) c.in-Array.is in
    (omega arith, inferred_short (c.infer_selector-r.ensures (array-scope I) (selector_moved (sym (c.skip_selector-e.ensures S.input)) S.element)))

pub array_over-returns-else-not-put_array : goal.array_over-returns-else-not-put_array
array_over-returns-else-not-put_array t c =
    λ T a P S Γ n e.
    let I = in_array (c.inside_of.ensures T) c.in-Array.is in
    let F = c.put_array.ensures (not-false _ (ap not c.if-not-put_array.false)) in
    array_infers T Γ c.requires.s_len_bound.4 S I (array-width T I (λ i. (c.type_inv.s i).fits)) e F (c.infer_selector-r.ensures (array-scope
    I) (selector_moved (sym (c.skip_selector-e.ensures S.input)) S.element)) c.behind.ensures

pub infer_column-write_name-at-requires : goal.infer_column-write_name-at-requires
infer_column-write_name-at-requires t c =
    let X = c.requires.source_at in let P = c.requires.selector_at in let L = c.requires.s_len_bound in let N = named-to (c.infer_name.ensures X P) c.in-Is.is in record { name_at = (N.name, N.named, N.short); s_len_bound = (L.0, L.1, L.2, L.3) }

pub infer_column-infer_selector-r-requires : goal.infer_column-infer_selector-r-requires
infer_column-infer_selector-r-requires t c =
    let X = c.requires.source_at in let P = c.requires.selector_at in let L = c.requires.s_len_bound in let N = named-to (c.infer_name.ensures X P) c.in-Is.is in
    let (a, b, e) = name-left N.name (c.write_name-at.ensures N.name N.named (omega (arith, c.if-at-eq0.false))) in
    (omega (arith, c.decreases), (X, (P, (L.0, L.1, omega (arith, e, L.2), b, L.4))))

pub infer_column-overflow_sub-at : goal.infer_column-overflow_sub-at
infer_column-overflow_sub-at t c =
    let X = c.requires.source_at in let P = c.requires.selector_at in let L = c.requires.s_len_bound in let N = named-to (c.infer_name.ensures X P) c.in-Is.is in
    let (a, b, e) = name-left N.name (c.write_name-at.ensures N.name N.named (omega (arith, c.if-at-eq0.false))) in
    omega (arith, a)

pub infer_column-behind-requires : goal.infer_column-behind-requires
infer_column-behind-requires t c =
    let X = c.requires.source_at in let P = c.requires.selector_at in let L = c.requires.s_len_bound in let N = named-to (c.infer_name.ensures X P) c.in-Is.is in
    let (a, b, e) = name-left N.name (c.write_name-at.ensures N.name N.named (omega (arith, c.if-at-eq0.false))) in
    (omega (arith, b, e, L.2), inferred_short (c.infer_selector-r.ensures X P))

pub infer_column-returns-else-at-eq0 : goal.infer_column-returns-else-at-eq0
infer_column-returns-else-at-eq0 t c =
    λ X P.
    let N = named-to (c.infer_name.ensures X P) c.in-Is.is in
    column_infers N (c.write_name-at.ensures N.name N.named (omega (arith, c.if-at-eq0.false))) (c.infer_selector-r.ensures X P) c.behind.ensures

pub infer_fields-loop-i-init : goal.infer_fields-loop-i-init
infer_fields-loop-i-init t c =
    let X = c.requires.source_at in let S = c.requires.selectors_at in let L = c.requires.s_len_bound in gathering_none S L.3

pub infer_fields-infer_column-requires : goal.infer_fields-infer_column-requires
infer_fields-infer_column-requires t c =
    let X = c.requires.source_at in let S = c.requires.selectors_at in let L = c.requires.s_len_bound in (omega (arith, c.decreases), (X, (gathering-head c.loop-i.invariant c.loop-i-test.true, (L.0, L.1, omega (arith, c.loop-i.invariant.kept, L.2), c.loop-i.invariant.room, L.4))))

pub infer_fields-overflow_add-at : goal.infer_fields-overflow_add-at
infer_fields-overflow_add-at t c =
    let X = c.requires.source_at in let S = c.requires.selectors_at in let L = c.requires.s_len_bound in omega (arith, gathering-inside c.loop-i.invariant c.loop-i-test.true c.infer_column.ensures c.in-Is.is X, c.loop-i.invariant.kept, L.2)

pub infer_fields-overflow_add-i : goal.infer_fields-overflow_add-i
infer_fields-overflow_add-i t c =
    omega (arith, c.well_formed.1.1.1.1.0, c.loop-i-test.true)

pub infer_fields-loop-i-preserved : goal.infer_fields-loop-i-preserved
infer_fields-loop-i-preserved t c =
    let X = c.requires.source_at in let S = c.requires.selectors_at in let L = c.requires.s_len_bound in gathering-more c.loop-i.invariant c.loop-i-test.true c.infer_column.ensures c.in-Is.is X
    c.skip_selector-d.ensures

pub infer_fields-returns : goal.infer_fields-returns
infer_fields-returns t c =
    λ X S. gathering_all c.loop-i.invariant c.loop-i-test.false X S

pub infer_over-cast_over-requires : goal.infer_over-cast_over-requires
infer_over-cast_over-requires t c =
    let T = c.requires.type_at in let P = c.requires.selector_at in let L = c.requires.s_len_bound in record { type_at = T; by_index = (_, P, is-cast (c.head.ensures P) c.in-Cast.is); s_len_bound = L }

pub infer_over-struct_over-requires : goal.infer_over-struct_over-requires
infer_over-struct_over-requires t c =
    let T = c.requires.type_at in let P = c.requires.selector_at in let L = c.requires.s_len_bound in (
      omega (arith, c.decreases, c.if-depth-eq0.false),
      (
        T,
        (
          (_, P, is_struct_mapping (c.head.ensures P) c.in-Struct.is),
          (
            L.0,
            L.1,
            L.2,
            L.3,
            omega (arith, L.4),
          ),
        ),
      ),
    )

pub infer_over-list_over-requires : goal.infer_over-list_over-requires
infer_over-list_over-requires t c =
    let T = c.requires.type_at in let P = c.requires.selector_at in let L = c.requires.s_len_bound in (
      omega (arith, c.decreases, c.if-depth-eq0.false),
      (
        T,
        (
          (_, P, is_list_mapping (c.head.ensures P) c.in-List.is),
          (
            L.0,
            L.1,
            L.2,
            L.3,
            omega (arith, L.4),
          ),
        ),
      ),
    )

pub infer_over-array_over-requires : goal.infer_over-array_over-requires
infer_over-array_over-requires t c =
    let T = c.requires.type_at in let P = c.requires.selector_at in let L = c.requires.s_len_bound in (
      omega (arith, c.decreases, c.if-depth-eq0.false),
      (
        T,
        (
          (_, P, is-array (c.head.ensures P) c.in-Array.is),
          (
            L.0,
            L.1,
            L.2,
            L.3,
            omega (arith, L.4),
          ),
        ),
      ),
    )

pub infer_over-returns-in-Cast : goal.infer_over-returns-in-Cast
infer_over-returns-in-Cast t c =
    λ T P Γ n e. let S = is-cast (c.head.ensures P) c.in-Cast.is in c.cast_over.ensures T _ P S Γ n (cast-from Γ S e)

pub infer_over-returns-in-Rename : goal.infer_over-returns-in-Rename
infer_over-returns-in-Rename t c =
    λ T P Γ n e. let S = is-rename (c.head.ensures P) c.in-Rename.is in rename_infers T Γ S (rename-from Γ S e) (c.copy_type.ensures T)
    c.requires.s_len_bound.4

pub infer_over-returns-in-Struct : goal.infer_over-returns-in-Struct
infer_over-returns-in-Struct t c =
    λ T P Γ n e. let S = is_struct_mapping (c.head.ensures P) c.in-Struct.is in depth_as c.if-depth-eq0.false (c.struct_over.ensures T _ P S Γ n (struct_from
    Γ S e))

pub infer_over-returns-in-List : goal.infer_over-returns-in-List
infer_over-returns-in-List t c =
    λ T P Γ n e. let S = is_list_mapping (c.head.ensures P) c.in-List.is in depth_as c.if-depth-eq0.false (c.list_over.ensures T _ P S Γ n (list-from Γ S e))

pub infer_over-returns-in-Array : goal.infer_over-returns-in-Array
infer_over-returns-in-Array t c =
    λ T P Γ n e. let S = is-array (c.head.ensures P) c.in-Array.is in depth_as c.if-depth-eq0.false (c.array_over.ensures T _ P S Γ n (array-from Γ S
    e))

pub infer_selector-infer_leaf-requires : goal.infer_selector-infer_leaf-requires
infer_selector-infer_leaf-requires t c =
    let X = c.requires.source_at in let P = c.requires.selector_at in let L = c.requires.s_len_bound in record { source_at = X; selector_at = (c.skip_renames-x.ensures P).inner; s_len_bound = L }

pub infer_selector-infer_over-requires : goal.infer_selector-infer_over-requires
infer_selector-infer_over-requires t c =
    let X = c.requires.source_at in let P = c.requires.selector_at in let L = c.requires.s_len_bound in let U = c.skip_renames-x.ensures P in
    let J = input-at (c.input_of.ensures U.inner) c.in-At.is in
    let K = taken_at (c.take_position.ensures X J.input) c.in-At-take_position.is in
    (omega (arith, c.decreases), (K.type, (U.inner, L)))

pub infer_selector-returns-in-None : goal.infer_selector-returns-in-None
infer_selector-returns-in-None t c =
    λ X P. let U = c.skip_renames-x.ensures P in unrenamed_infers U X.fields (c.infer_leaf.ensures X U.inner) c.requires.s_len_bound.4

pub infer_selector-returns-in-At-take_position : goal.infer_selector-returns-in-At-take_position
infer_selector-returns-in-At-take_position t c =
    λ X P.
    let U = c.skip_renames-x.ensures P in
    let J = input-at (c.input_of.ensures U.inner) c.in-At.is in
    let K = taken_at (c.take_position.ensures X J.input) c.in-At-take_position.is in
    unrenamed_infers U X.fields (c.infer_over.ensures K.type U.inner X.fields _ (input-takes J X.fields K.is)) c.requires.s_len_bound.4

pub list_over-infer_selector-r-requires : goal.list_over-infer_selector-r-requires
list_over-infer_selector-r-requires t c =
    let T = c.requires.type_at in let (a, P, S) = c.requires.by_index in let L = c.requires.s_len_bound in let I = in_list (c.inside_of.ensures T) c.in-List.is in
    let F = c.put_list.ensures (not-false _ (ap not c.if-not-put_list.false)) in (
      omega (arith, c.decreases),
      (
        list-scope I,
        (
          selector_moved (sym (c.skip_selector-e.ensures S.input)) S.element,
          (
            L.0,
            L.1,
            omega (
              arith,
              same_size F,
              L.2,
            ),
            list_left F,
            omega (arith, L.4),
          ),
        ),
      ),
    )

pub list_over-behind-requires : goal.list_over-behind-requires
list_over-behind-requires t c =
    let T = c.requires.type_at in let (a, P, S) = c.requires.by_index in let L = c.requires.s_len_bound in let I = in_list (c.inside_of.ensures T) c.in-List.is in
    (omega arith, inferred_short (c.infer_selector-r.ensures (list-scope I) (selector_moved (sym (c.skip_selector-e.ensures S.input)) S.element)))

pub list_over-returns-else-not-put_list : goal.list_over-returns-else-not-put_list
list_over-returns-else-not-put_list t c =
    λ T a P S Γ n e.
    let I = in_list (c.inside_of.ensures T) c.in-List.is in
    let F = c.put_list.ensures (not-false _ (ap not c.if-not-put_list.false)) in
    list_infers T Γ c.requires.s_len_bound.4 S I e F (c.infer_selector-r.ensures (list-scope I) (selector_moved (sym (c.skip_selector-e.ensures S.input))
    S.element)) c.behind.ensures

pub struct_over-slice_bounds-index-end : goal.struct_over-slice_bounds-index-end
struct_over-slice_bounds-index-end t c =
    sym (length-take-le _ _ c.index_fields-len.ensures.upper_bound)

pub struct_over-overflow_add-k : goal.struct_over-overflow_add-k
struct_over-overflow_add-k t c =
    let T = c.requires.type_at in let (a, P, S) = c.requires.by_index in let L = c.requires.s_len_bound in let F = c.put_struct.ensures (not-false _ (ap not c.if-not-put_struct.false)) in
    omega (arith, L.2, struct_left _ F, same_size F)

pub struct_over-infer_fields-r-requires : goal.struct_over-infer_fields-r-requires
struct_over-infer_fields-r-requires t c =
    let T = c.requires.type_at in let (a, P, S) = c.requires.by_index in let L = c.requires.s_len_bound in let I = in_struct (c.inside_of.ensures T) c.in-Struct.is in
    let F = c.put_struct.ensures (not-false _ (ap not c.if-not-put_struct.false)) in (
      omega (arith, c.decreases),
      (
        struct-scope I c.index_fields-len.ensures.indexed c.field_stride-stride.ensures,
        (
          struct-selectors S (c.struct_fields-fields.ensures
              S.input S.fields),
          (L.0, L.1, omega (arith, same_size F, L.2), struct_left _ F, omega (arith, L.4)),
        ),
      ),
    )

pub struct_over-behind-requires : goal.struct_over-behind-requires
struct_over-behind-requires t c =
    let T = c.requires.type_at in let (a, P, S) = c.requires.by_index in let L = c.requires.s_len_bound in let I = in_struct (c.inside_of.ensures T) c.in-Struct.is in
    let F = c.put_struct.ensures (not-false _ (ap not c.if-not-put_struct.false)) in (
      omega arith,
      fields-short (c.infer_fields-r.ensures (struct-scope I c.index_fields-len.ensures.indexed c.field_stride-stride.ensures) (struct-selectors S
          (c.struct_fields-fields.ensures S.input S.fields))) (omega (arith, same_size F, L.2)),
    )

pub struct_over-returns-else-not-put_struct : goal.struct_over-returns-else-not-put_struct
struct_over-returns-else-not-put_struct t c =
    λ T a P S Γ n e.
    let I = in_struct (c.inside_of.ensures T) c.in-Struct.is in
    let F = c.put_struct.ensures (not-false _ (ap not c.if-not-put_struct.false)) in
    let C = c.struct_fields-fields.ensures S.input S.fields in
    struct_infers T Γ c.requires.s_len_bound.4 S I C (omega (arith, c.struct_fields-fields.type_inv)) e F (c.infer_fields-r.ensures (struct-scope I
    c.index_fields-len.ensures.indexed c.field_stride-stride.ensures) (struct-selectors S C)) c.behind.ensures
