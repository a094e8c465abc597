-- `defaults::lookup::get_default_value` meets its contract: the two lookups make the definition, by the laws of
-- `Seeking`. Assumes nothing.
use native.Mathlib.Omega.{arith}
use Rattle.defaults.specs.declared.read.EntryKind.TheVariants.{Initial, Partition}
use Rattle.defaults.proofs.Indexing.{own_found}
use Rattle.defaults.proofs.Seeking.{partition-found, partition_wins, initial-found, initial-wins, no-entry, no_entries}
use Rattle.defaults.proofs.lookup.get_default_value.Goals as goal

pub returns-then-defaults-eq0 : goal.returns-then-defaults-eq0
returns-then-defaults-eq0 c =
    λ P. no_entries P _ c.if-defaults-eq0.true c.args.defaults.source_index

pub find_entry-requires : goal.find_entry-requires
find_entry-requires c =
    (c.requires.1 (omega arith)).inside

pub partition_value-requires : goal.partition_value-requires
partition_value-requires c =
    let I = c.requires.1 (omega arith) in partition-found c.requires.0 _ (own_found I c.args.defaults.owner c.args.id Partition c.owner_in-owner.ensures
    c.find_entry.ensures)
    c.in-At.is

pub find_entry-requires-in-Absent : goal.find_entry-requires-in-Absent
find_entry-requires-in-Absent c =
    (c.requires.1 (omega arith)).inside

pub initial_value-requires : goal.initial_value-requires
initial_value-requires c =
    let I = c.requires.1 (omega arith) in initial-found c.requires.0 _ (own_found I c.args.defaults.owner c.args.id Partition c.owner_in-owner.ensures
    c.find_entry.ensures) c.in-Absent.is
    (own_found I c.args.defaults.owner c.args.id Initial c.owner_in-owner.ensures c.find_entry-in-Absent.ensures) c.in-At-find_entry.is

pub returns-in-At : goal.returns-in-At
returns-in-At c =
    let I = c.requires.1 (omega arith) in λ P.
    partition_wins P _ (own_found I c.args.defaults.owner c.args.id Partition c.owner_in-owner.ensures
    c.find_entry.ensures)
    c.args.defaults.source_index c.partition_value.result c.in-At.is c.partition_value.ensures

pub returns-in-At-find_entry : goal.returns-in-At-find_entry
returns-in-At-find_entry c =
    let I = c.requires.1 (omega arith) in λ P.
    initial-wins P _ (own_found I c.args.defaults.owner c.args.id Partition c.owner_in-owner.ensures
    c.find_entry.ensures)
    c.in-Absent.is
    (own_found I c.args.defaults.owner c.args.id Initial c.owner_in-owner.ensures c.find_entry-in-Absent.ensures) c.args.defaults.source_index
    c.initial_value.result
    c.in-At-find_entry.is c.initial_value.ensures

pub returns-in-Absent-find_entry : goal.returns-in-Absent-find_entry
returns-in-Absent-find_entry c =
    let I = c.requires.1 (omega arith) in λ P.
    no-entry P _ (own_found I c.args.defaults.owner c.args.id Partition c.owner_in-owner.ensures c.find_entry.ensures)
    c.in-Absent.is
    (own_found I c.args.defaults.owner c.args.id Initial c.owner_in-owner.ensures c.find_entry-in-Absent.ensures) c.args.defaults.source_index c.in-Absent-find_entry.is
