-- The limits of document 01. Assumes nothing.
use Rattle.std.specs.Prelude.{ℕ}

-- the bytes of a layout, of a type in version 1 form, of a record, of a table of defaults and of an output
abbrev pub longest : ℕ
longest = 16384

-- the bytes of a plan
abbrev pub longest_plan : ℕ
longest_plan = 65536

-- the bytes of a name or a zone
abbrev pub longest_name : ℕ
longest_name = 63

-- the levels of a type
abbrev pub deepest : ℕ
deepest = 16

-- the levels of a selector
abbrev pub deepest_selector : ℕ
deepest_selector = 64
