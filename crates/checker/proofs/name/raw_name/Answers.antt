-- `checker::name::raw_name` meets its contract. Assumes nothing.
use Rattle.checker.proofs.Headed.{raw_never}
use Rattle.checker.proofs.Naming.{raw-fields, raw_name-leaf, raw_name-list, raw_name-array, raw-name-field, raw-name-absent}
use Rattle.checker.proofs.name.raw_name.Goals as goal

pub column_at-requires : goal.column_at-requires
column_at-requires c =
    let (t, T) = c.requires in (raw-fields T c.head.ensures.result_value c.in-Struct.is).columns

pub returns-in-Leaf : goal.returns-in-Leaf
returns-in-Leaf c =
    λ i p t a b T P. raw_name-leaf T c.head.ensures.result_value P c.in-Leaf.is

pub returns-in-At : goal.returns-in-At
returns-in-At c =
    λ i p t a b T P. raw-name-field T c.head.ensures.result_value P c.in-Struct.is c.column_at.ensures c.in-At.is c.named.ensures b

pub returns-in-Absent : goal.returns-in-Absent
returns-in-Absent c =
    λ i p t a b T P. raw-name-absent T c.head.ensures.result_value P c.in-Struct.is c.column_at.ensures c.in-Absent.is

pub returns-in-List : goal.returns-in-List
returns-in-List c =
    λ i p t a b T P. raw_name-list T c.head.ensures.result_value P c.in-List.is c.no_name-in-List.ensures

pub returns-in-Array : goal.returns-in-Array
returns-in-Array c =
    λ i p t a b T P. raw_name-array T c.head.ensures.result_value P c.in-Array.is c.no_name-in-Array.ensures

pub returns-in-Refused : goal.returns-in-Refused
returns-in-Refused c =
    λ i p t a b T P. raw_never T c.head.ensures.result_value c.in-Refused.is
