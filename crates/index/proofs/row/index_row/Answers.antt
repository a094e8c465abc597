-- `index::row::index_row` meets its contract: the loop keeps `Filling`. Assumes nothing.
use mathlib.Core.Path.{refl, ◌∙◌}
use native.Mathlib.Omega.{arith}
use lib.ListN.{length-set}
use Rattle.index.proofs.Rows.{filling_start, filling_end, filling-room, filling-same, filling-last, filling-front, filling-more}
use Rattle.index.proofs.row.index_row.Goals as goal

pub loop-v-init : goal.loop-v-init
loop-v-init c =
    (filling_start _ _, refl, refl)

pub overflow_cast-types : goal.overflow_cast-types
overflow_cast-types c =
    let h = c.storable.ensures c.loop-v-test.true in omega (arith, h.2)

pub offset_bounds-types-j : goal.offset_bounds-types-j
offset_bounds-types-j c =
    let h = c.storable.ensures c.loop-v-test.true in omega (arith, h.0)

pub bounds-types-j : goal.bounds-types-j
bounds-types-j c =
    (c.storable.ensures c.loop-v-test.true).0

pub overflow_cast-values : goal.overflow_cast-values
overflow_cast-values c =
    let h = c.storable.ensures c.loop-v-test.true in omega (arith, h.3)

pub offset_bounds-values-j : goal.offset_bounds-values-j
offset_bounds-values-j c =
    let h = c.storable.ensures c.loop-v-test.true in omega (arith, h.1)

pub bounds-values-j : goal.bounds-values-j
bounds-values-j c =
    (c.storable.ensures c.loop-v-test.true).1

pub overflow_add-j : goal.overflow_add-j
overflow_add-j c =
    let h = c.storable.ensures c.loop-v-test.true in omega (arith, h.0)

pub shape_of-types-then-n-i : goal.shape_of-types-then-n-i
shape_of-types-then-n-i c =
    length-set c.loop-v.types c.loop-v.j c.loop-v.t.at ∙ c.loop-v.invariant.1

pub shape_of-values-then-n-i : goal.shape_of-values-then-n-i
shape_of-values-then-n-i c =
    length-set c.loop-v.values c.loop-v.j c.loop-v.c.at ∙ c.loop-v.invariant.2

pub returns-then-n-i : goal.returns-then-n-i
returns-then-n-i c =
    let h = c.storable.ensures c.loop-v-test.true in record {
      upper_bound = filling-room c.loop-v.invariant.0 h.0 h.1;
      upper_bound_2 = filling-same c.loop-v.invariant.0 h.0 h.1;
      indexed_in = filling-last c.loop-v.invariant.0
          h.0 h.1;
    }

pub read_fields-requires : goal.read_fields-requires
read_fields-requires c =
    record { columns_at = let h = c.storable.ensures c.loop-v-test.true in filling-front c.loop-v.invariant.0 h.0 h.1 c.if-n-i.false c.requires.row_in; ends = c.requires.ends }

pub shape_of-types-in-Refused : goal.shape_of-types-in-Refused
shape_of-types-in-Refused c =
    length-set c.loop-v.types c.loop-v.j c.loop-v.t.at ∙ c.loop-v.invariant.1

pub shape_of-values-in-Refused : goal.shape_of-values-in-Refused
shape_of-values-in-Refused c =
    length-set c.loop-v.values c.loop-v.j c.loop-v.c.at ∙ c.loop-v.invariant.2

pub returns-in-Refused : goal.returns-in-Refused
returns-in-Refused c =
    let h = c.storable.ensures c.loop-v-test.true in record {
      upper_bound = filling-room c.loop-v.invariant.0 h.0 h.1;
      upper_bound_2 = filling-same c.loop-v.invariant.0 h.0 h.1;
      indexed_in = filling-last c.loop-v.invariant.0
          h.0 h.1;
    }

pub overflow_add-i : goal.overflow_add-i
overflow_add-i c =
    omega (
      arith,
      c.if-n-i.false,
      c.well_formed.1.1.0,
    )

pub loop-v-smaller : goal.loop-v-smaller
loop-v-smaller c =
    let h = c.storable.ensures c.loop-v-test.true in omega (arith, h.0)

pub loop-v-preserved : goal.loop-v-preserved
loop-v-preserved c =
    let h = c.storable.ensures c.loop-v-test.true in (
      filling-more c.loop-v.invariant.0 h.0 h.1 c.if-n-i.false c.read_fields.ensures
          c.in-To.is,
      length-set c.loop-v.types c.loop-v.j c.loop-v.t.at ∙ c.loop-v.invariant.1,
      length-set c.loop-v.values c.loop-v.j
          c.loop-v.c.at ∙ c.loop-v.invariant.2,
    )

pub returns : goal.returns
returns c =
    record { upper_bound = c.loop-v.invariant.0.room; upper_bound_2 = c.loop-v.invariant.0.same; indexed_in = filling_end c.loop-v.invariant.0 }
