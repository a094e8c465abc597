use Rattle.output.proofs.Emitting.{emitted, emitted_null, emitted_node, mapped_asks, mapped-emits, struct-mapped, list-mapped, array-mapped}
use Rattle.output.proofs.Emitting.{constant-run, constant_skipped, mapping-null, mapping-counted, mapping-parts}
use Rattle.output.proofs.Emitting.{rowing_none, rowing_past, rowing_all, rowing_small, rowing_more, all-clean}
use Rattle.output.proofs.Emitting.{parts_asks, part_reached, part_room, part-emit, part_falls, part-emits}
use Rattle.raw.proofs.Storing.{stores_as}
use Rattle.output.proofs.Sources.{from_null, from_record, from-constant, from-struct, from_list, from-array, never_sourced}
use Rattle.walk.proofs.Children.{reached_child}
use mathlib.Core.Path.{refl, ◌∙◌}
use Prim.Native.Nat.{◌<◌}
use native.Mathlib.Omega.{arith}
use Rattle.output.proofs.emit.+emit_emit_mapping.Goals as goal
use Rattle.output.proofs.emit.+emit_emit_mapping.Invariants.{count}

pub emit-find_origin-o-requires : goal.emit-find_origin-o-requires
emit-find_origin-o-requires t c =
    record { skips = c.requires.skips; walk_at = (c.requires.emit_at.state, c.requires.emit_at.standing) }

pub emit-source_at-requires : goal.emit-source_at-requires
emit-source_at-requires t c =
    let O = c.find_origin-o.ensures _ c.requires.emit_at.standing in record { skips = c.requires.skips; ends = c.requires.ends; row_at = c.requires.emit_at.row; walk_at = (O.state, O.standing) }

pub emit-cast_leaf-cast-requires : goal.emit-cast_leaf-cast-requires
emit-cast_leaf-cast-requires t c =
    let O = c.find_origin-o.ensures _ c.requires.emit_at.standing in let N = from_record (c.source_at.ensures c.requires.emit_at.row _ O.standing O.ended) c.in-Record.is in record { skips = c.requires.skips; raw_at = N.raw; walk_at = (c.requires.emit_at.state, c.requires.emit_at.standing) }

pub emit-put_raw-requires : goal.emit-put_raw-requires
emit-put_raw-requires t c =
    let O = c.find_origin-o.ensures _ c.requires.emit_at.standing in let N = from_record (c.source_at.ensures c.requires.emit_at.row _ O.standing O.ended) c.in-Record.is in record { ends = c.requires.ends; raw_at = N.raw; rec_bound = omega (arith, c.requires.k_le_longest, c.requires.emit_at.short) }

pub emit-is_constant_run-requires : goal.emit-is_constant_run-requires
emit-is_constant_run-requires t c =
    let O = c.find_origin-o.ensures _ c.requires.emit_at.standing in record { skips = c.requires.skips; ends = c.requires.ends; row_at = c.requires.emit_at.row; walk_at = (O.state, O.standing) }

pub emit-put_part-requires : goal.emit-put_part-requires
emit-put_part-requires t c =
    let O = c.find_origin-o.ensures _ c.requires.emit_at.standing in let C = from-constant (c.source_at.ensures c.requires.emit_at.row _ O.standing O.ended) c.in-Constant.is in record { skips = c.requires.skips; raw_at = C.node.raw; walk_at = (c.requires.emit_at.state, c.requires.emit_at.standing); plan_bound = omega (arith, c.requires.k_le_longest, c.requires.emit_at.standing.small) }

pub emit-returns-then-is_constant_run : goal.emit-returns-then-is_constant_run
emit-returns-then-is_constant_run t c =
    λ A.
    let O = c.find_origin-o.ensures _ A.standing in
    let C = from-constant (c.source_at.ensures A.row _ O.standing O.ended) c.in-Constant.is in
    emitted A O (constant-run _ C O.kinds (c.is_constant_run.ensures A.row _ _ O.standing C) c.if-is_constant_run.true
    (c.put_part.ensures C.node.raw _ _ _ A.standing O.passed O.counted))

pub emit-put_null-requires-in-Constant : goal.emit-put_null-requires-in-Constant
emit-put_null-requires-in-Constant t c =
    omega (arith, c.requires.k_le_longest)

pub emit-emit_mapping-requires : goal.emit-emit_mapping-requires
emit-emit_mapping-requires t c =
    let O = c.find_origin-o.ensures _ c.requires.emit_at.standing in
    let M = struct-mapped (from-struct (c.source_at.ensures c.requires.emit_at.row _ O.standing O.ended) c.in-Struct.is) in
    (omega (arith, O.falls, c.decreases), (c.requires.skips, (c.requires.ends, (mapped_asks c.requires.emit_at O M, c.requires.k_le_longest))))

pub emit-emit_mapping-requires-in-List : goal.emit-emit_mapping-requires-in-List
emit-emit_mapping-requires-in-List t c =
    let O = c.find_origin-o.ensures _ c.requires.emit_at.standing in
    let M = list-mapped (from_list (c.source_at.ensures c.requires.emit_at.row _ O.standing O.ended) c.in-List.is) in
    (omega (arith, O.falls, c.decreases), (c.requires.skips, (c.requires.ends, (mapped_asks c.requires.emit_at O M, c.requires.k_le_longest))))

pub emit-emit_mapping-requires-in-Array : goal.emit-emit_mapping-requires-in-Array
emit-emit_mapping-requires-in-Array t c =
    let O = c.find_origin-o.ensures _ c.requires.emit_at.standing in
    let M = array-mapped (from-array (c.source_at.ensures c.requires.emit_at.row _ O.standing O.ended) c.in-Array.is) in
    (omega (arith, O.falls, c.decreases), (c.requires.skips, (c.requires.ends, (mapped_asks c.requires.emit_at O M, c.requires.k_le_longest))))

pub emit-returns-in-Null : goal.emit-returns-in-Null
emit-returns-in-Null t c =
    λ A.
    let O = c.find_origin-o.ensures _ A.standing in
    emitted_null A O (from_null (c.source_at.ensures A.row _ O.standing O.ended) c.in-Null.is) c.put_null.ensures

pub emit-returns-in-Record : goal.emit-returns-in-Record
emit-returns-in-Record t c =
    λ A.
    let O = c.find_origin-o.ensures _ A.standing in
    let N = from_record (c.source_at.ensures A.row _ O.standing O.ended) c.in-Record.is in
    let E = c.cast_leaf-cast.ensures N.raw _ _ _ A.standing O.passed O.counted in
    emitted_node A O N (stores_as E (c.put_raw.ensures N.raw))

pub emit-returns-else-is_constant_run : goal.emit-returns-else-is_constant_run
emit-returns-else-is_constant_run t c =
    λ A.
    let O = c.find_origin-o.ensures _ A.standing in
    let C = from-constant (c.source_at.ensures A.row _ O.standing O.ended) c.in-Constant.is in
    emitted A O (constant_skipped _ C O.kinds (c.is_constant_run.ensures A.row _ _ O.standing C) c.if-is_constant_run.false c.put_null-in-Constant.ensures)

pub emit-returns-in-Struct : goal.emit-returns-in-Struct
emit-returns-in-Struct t c =
    λ A.
    let O = c.find_origin-o.ensures _ A.standing in
    let M = struct-mapped (from-struct (c.source_at.ensures A.row _ O.standing O.ended) c.in-Struct.is) in
    mapped-emits A O M c.emit_mapping.ensures

pub emit-returns-in-List : goal.emit-returns-in-List
emit-returns-in-List t c =
    λ A.
    let O = c.find_origin-o.ensures _ A.standing in
    let M = list-mapped (from_list (c.source_at.ensures A.row _ O.standing O.ended) c.in-List.is) in
    mapped-emits A O M c.emit_mapping-in-List.ensures

pub emit-returns-in-Array : goal.emit-returns-in-Array
emit-returns-in-Array t c =
    λ A.
    let O = c.find_origin-o.ensures _ A.standing in
    let M = array-mapped (from-array (c.source_at.ensures A.row _ O.standing O.ended) c.in-Array.is) in
    mapped-emits A O M c.emit_mapping-in-Array.ensures

pub emit-returns-in-Refused : goal.emit-returns-in-Refused
emit-returns-in-Refused t c =
    λ A.
    let O = c.find_origin-o.ensures _ A.standing in
    never_sourced (c.source_at.ensures A.row _ O.standing O.ended) c.in-Refused.is

pub emit_mapping-parts_count-requires : goal.emit_mapping-parts_count-requires
emit_mapping-parts_count-requires t c =
    record { skips = c.requires.skips; ends = c.requires.ends; row_at = c.requires.mapped.0.row; walk_at = (c.requires.mapped.0.state, c.requires.mapped.0.standing) }

pub emit_mapping-returns-in_default : goal.emit_mapping-returns-in_default
emit_mapping-returns-in_default t c =
    λ A M. mapping-null _ M refl (c.parts_count.ensures A.row _ A.standing) c.in_default.is c.put_null.ensures

pub emit_mapping-is_list-requires : goal.emit_mapping-is_list-requires
emit_mapping-is_list-requires t c =
    (parts_asks c.requires.mapped.0).1

pub emit_mapping-first_part-c-requires : goal.emit_mapping-first_part-c-requires
emit_mapping-first_part-c-requires t c =
    record { skips = c.requires.skips; at_bound = parts_asks c.requires.mapped.0 }

pub emit_mapping-loop-i-init : goal.emit_mapping-loop-i-init
emit_mapping-loop-i-init t c =
    let (A, M) = c.requires.mapped in
    let n = mapping-counted _ M (c.is_list.ensures _ A.standing) (c.parts_count.ensures A.row _ A.standing) c.in-Some.is in
    ((A, M, n), c.first_part-c.ensures, refl, λ A M h. rowing_none _ _ _)

pub emit_mapping-shape_of-out-then-at-gt-LONGEST : goal.emit_mapping-shape_of-out-then-at-gt-LONGEST
emit_mapping-shape_of-out-then-at-gt-LONGEST t c =
    c.loop-i.invariant.2 ∙ c.put_lead-at.auto.out

pub emit_mapping-returns-then-at-gt-LONGEST : goal.emit_mapping-returns-then-at-gt-LONGEST
emit_mapping-returns-then-at-gt-LONGEST t c =
    λ A M.
    let h = c.parts_count.ensures A.row _ A.standing in
    let s = c.is_list.ensures _ A.standing in
    let n = mapping-counted _ M s h c.in-Some.is in
    mapping-parts _ M s h c.in-Some.is c.put_lead-at.ensures (rowing_past (c.loop-i.invariant.3 A M n) c.if-at-gt-LONGEST.true)

pub emit_mapping-overflow_cast-i : goal.emit_mapping-overflow_cast-i
emit_mapping-overflow_cast-i t c =
    let ((A, M, h), R, l, f) = c.loop-i.invariant in
    omega (arith, rowing_small (f A M h) c.if-at-gt-LONGEST.false (all-clean A M))

pub emit_mapping-child_at-part-requires : goal.emit_mapping-child_at-part-requires
emit_mapping-child_at-part-requires t c =
    let ((A, M, h), R, l, f) = c.loop-i.invariant in
    let i : c.loop-i.i < count A = omega (arith, h, c.loop-i-test.true) in
    ((parts_asks A).0, part_room A M i)

pub emit_mapping-emit-at-requires : goal.emit_mapping-emit-at-requires
emit_mapping-emit-at-requires t c =
    let ((A, M, h), R, l, f) = c.loop-i.invariant in
    let i : c.loop-i.i < count A = omega (arith, h, c.loop-i-test.true) in
    let F = reached_child R c.child_at-part.ensures in
    (omega (arith, part_falls A M i F, c.decreases), (c.requires.skips, (c.requires.ends, (part-emit A M i F, c.if-at-gt-LONGEST.false))))

pub emit_mapping-next_part-c-requires : goal.emit_mapping-next_part-c-requires
emit_mapping-next_part-c-requires t c =
    let ((A, M, h), R, l, f) = c.loop-i.invariant in record { skips = c.requires.skips; at_in_bounds = (parts_asks A).1 }

pub emit_mapping-overflow_add-i : goal.emit_mapping-overflow_add-i
emit_mapping-overflow_add-i t c =
    let ((A, M, h), R, l, f) = c.loop-i.invariant in
    omega (arith, rowing_small (f A M h) c.if-at-gt-LONGEST.false (all-clean A M))

pub emit_mapping-loop-i-smaller : goal.emit_mapping-loop-i-smaller
emit_mapping-loop-i-smaller t c =
    omega (arith, c.loop-i-test.true)

pub emit_mapping-loop-i-preserved : goal.emit_mapping-loop-i-preserved
emit_mapping-loop-i-preserved t c =
    let (S, R, l, f) = c.loop-i.invariant in (
      S,
      (let (A, M, h) = S in c.next_part-c.ensures _ R (part_reached A M (omega (arith, h, c.loop-i-test.true)) R)),
      c.emit-at.auto.out ∙ l,
      λ A M h.
          let i : c.loop-i.i < count A = omega (arith, h, c.loop-i-test.true) in
          let F = reached_child R c.child_at-part.ensures in
          rowing_more (f A M h) c.if-at-gt-LONGEST.false i c.emit-at.auto.out (part-emits A M i F c.emit-at.ensures),
    )

pub emit_mapping-shape_of-out : goal.emit_mapping-shape_of-out
emit_mapping-shape_of-out t c =
    c.loop-i.invariant.2 ∙ c.put_lead-at.auto.out

pub emit_mapping-returns : goal.emit_mapping-returns
emit_mapping-returns t c =
    λ A M.
    let h = c.parts_count.ensures A.row _ A.standing in
    let s = c.is_list.ensures _ A.standing in
    let n = mapping-counted _ M s h c.in-Some.is in
    mapping-parts _ M s h c.in-Some.is c.put_lead-at.ensures (rowing_all (c.loop-i.invariant.3 A M n) (omega (arith, n, c.loop-i-test.false)))
