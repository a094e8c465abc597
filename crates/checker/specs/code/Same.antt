-- Document 01, "33: names, types or count differ from the target's, ids dropped": what the comparing functions answer.
use Rattle.std.specs.Prelude.{ℕ, Bool, true, false}
use Rattle.layout.specs.Layout.{Head, a_leaf, a_struct, a_list, an_array}
use Rattle.forms.specs.declared.compare.Same.{Same}
use Rattle.checker.specs.declared.same.Ends.{Ends}
use Rattle.checker.specs.declared.same.HeadCode.{HeadCode}

-- where the second type ends, if both are the same
abbrev pub ends_from : Same → Ends
ends_from (Same.To x y) = Ends.At y
ends_from Same.No = Ends.Differ

unfoldable pub ends_of : Bool → ℕ → Ends
ends_of true e = Ends.At (record { at = e })
ends_of false e = Ends.Differ

-- the type codes of a layout; a leaf is none of the nested types
abbrev pub code_of : Head → HeadCode
code_of (a_leaf l) = record { code = 0; number = 0 }
code_of (a_struct n) = record { code = 18; number = n }
code_of a_list = record { code = 19; number = 0 }
code_of (an_array w) = record { code = 20; number = w }
