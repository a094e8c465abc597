-- `checker::name::name_at` meets its contract. Assumes nothing.
use Rattle.checker.proofs.Naming.{naming_start, named-before, naming_is, naming-input-less, naming-input, naming-scope, naming-column}
use Rattle.checker.proofs.Naming.{naming-top, direct-asks, naming-direct, naming-child-asks, naming-child-less, naming-child}
use Rattle.walk.proofs.Walks.{walk_inside}
use native.Mathlib.Omega.{arith}
use Rattle.checker.proofs.Tabled.{table-columns}
use Rattle.checker.proofs.name.name_at.Goals as goal

pub loop-name-init : goal.loop-name-init
loop-name-init c =
    (naming_start c.requires.named_at.1, c.no_ends-ends.ensures.0 c.args.plan.now)

pub own_name-requires : goal.own_name-requires
own_name-requires c =
    c.requires.tables.skips

pub returns-in-Is : goal.returns-in-Is
returns-in-Is c =
    naming_is c.loop-name.invariant.0 c.own_name.ensures c.in-Is.is

pub to_input-x-requires : goal.to_input-x-requires
to_input-x-requires c =
    named-before c.loop-name.invariant.0.start

pub loop-name-smaller-in-Input : goal.loop-name-smaller-in-Input
loop-name-smaller-in-Input c =
    naming-input-less c.loop-name.invariant.0 c.own_name.ensures c.in-Input.is c.to_input-x.ensures

pub loop-name-preserved-in-Input : goal.loop-name-preserved-in-Input
loop-name-preserved-in-Input c =
    (naming-input c.loop-name.invariant.0 c.own_name.ensures c.in-Input.is c.to_input-x.ensures, c.loop-name.invariant.1)

pub slice_bounds-column_name-count : goal.slice_bounds-column_name-count
slice_bounds-column_name-count c =
    c.requires.tables.room

pub slice_bounds-column_name-start : goal.slice_bounds-column_name-start
slice_bounds-column_name-start c =
    c.requires.tables.room

pub column_name-requires : goal.column_name-requires
column_name-requires c =
    record { indexed = table-columns c.requires.tables; column_of = (_, naming-column c.loop-name.invariant.0 c.own_name.ensures c.in-Position.is c.if-x-eq0.true c.loop-name.invariant.0.start) }

pub returns-then-x-eq0 : goal.returns-then-x-eq0
returns-then-x-eq0 c =
    naming-top c.loop-name.invariant.0 c.own_name.ensures c.in-Position.is c.if-x-eq0.true c.column_name.ensures

pub enclosing-r-requires : goal.enclosing-r-requires
enclosing-r-requires c =
    record {
      tables = c.requires.tables;
      scoped_at = naming-scope c.loop-name.invariant.0
          c.own_name.ensures c.in-Position.is;
      deep_nonzero = omega (arith, c.if-x-eq0.false);
    }

pub direct_name-requires : goal.direct_name-requires
direct_name-requires c =
    direct-asks c.loop-name.invariant.0 c.own_name.ensures c.in-Position.is c.enclosing-r.ensures

pub returns-in-Is-direct_name : goal.returns-in-Is-direct_name
returns-in-Is-direct_name c =
    naming-direct c.loop-name.invariant.0 c.own_name.ensures c.in-Position.is c.enclosing-r.ensures c.direct_name.ensures
    c.in-Is-direct_name.is

pub ends_for-ends-requires : goal.ends_for-ends-requires
ends_for-ends-requires c =
    record {
      skips = c.requires.tables.skips;
      at_in_bounds = walk_inside (naming-child-asks c.loop-name.invariant.0 c.own_name.ensures c.in-Position.is c.enclosing-r.ensures
          c.direct_name.ensures c.in-Child.is).0.1;
      ends_at = c.loop-name.invariant.1;
    }

pub child_in-x-requires : goal.child_in-x-requires
child_in-x-requires c =
    record {
      skips = c.requires.tables.skips;
      deep_bound = naming-child-asks c.loop-name.invariant.0 c.own_name.ensures c.in-Position.is c.enclosing-r.ensures c.direct_name.ensures
          c.in-Child.is;
      ends_at = c.ends_for-ends.ensures;
    }

pub loop-name-smaller : goal.loop-name-smaller
loop-name-smaller c =
    naming-child-less c.loop-name.invariant.0 c.own_name.ensures c.in-Position.is c.enclosing-r.ensures c.direct_name.ensures
    c.in-Child.is c.child_in-x.ensures

pub loop-name-preserved : goal.loop-name-preserved
loop-name-preserved c = (
  naming-child c.loop-name.invariant.0 c.own_name.ensures c.in-Position.is c.enclosing-r.ensures c.direct_name.ensures
      c.in-Child.is c.child_in-x.ensures,
  c.ends_for-ends.ensures,
)
