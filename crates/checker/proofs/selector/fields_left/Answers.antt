-- `checker::selector::fields_left` meets its contract. Assumes nothing.
use mathlib.Core.Path.{sym, ap}
use Rattle.checker.specs.code.Checking.{fields_left}
use Rattle.checker.specs.declared.place.TypeHead.{TypeHead}
use Rattle.checker.proofs.selector.fields_left.Goals as goal

pub returns-in-Leaf : goal.returns-in-Leaf
returns-in-Leaf c =
    sym (ap (λ (h : TypeHead). fields_left h c.args.count) c.in-Leaf.is)

pub returns-in-Struct : goal.returns-in-Struct
returns-in-Struct c =
    sym (ap (λ (h : TypeHead). fields_left h c.args.count) c.in-Struct.is)

pub returns-in-List : goal.returns-in-List
returns-in-List c =
    sym (ap (λ (h : TypeHead). fields_left h c.args.count) c.in-List.is)

pub returns-in-Array : goal.returns-in-Array
returns-in-Array c =
    sym (ap (λ (h : TypeHead). fields_left h c.args.count) c.in-Array.is)
