-- Whether the marks of a layout count.
use Rattle.std.specs.Prelude.{Bool, ◌&&◌}
use Rattle.layout.specs.Tree.{Label}

-- a layout's own marks where they count, else none
abbrev pub marks_of : Bool → Label → Bool
marks_of count l = count && l.required
