-- Document 01, "Leaf pairs", 21, and document 02, L2: how two zones compare. What counts as UTC is read as the text UTC
-- (`eq_none_as_utc`); an empty zone is no zone.
use Rattle.std.specs.Prelude.{Bool, false, ◌||◌, List, [], ◌∷◌}
use Rattle.layout.specs.Bytes.{Bytes, same_bytes}
use Rattle.rules.specs.declared.params.Params.{Params}
use Rattle.rules.specs.declared.params.Params.TheVariants.{Identical, SameAsUtc, Different}
use Rattle.rules.specs.code.Choice.{when◌then◌else◌}

-- the texts
abbrev pub utc : Bytes
utc = 85 ∷ 84 ∷ 67 ∷ []

abbrev pub etc_utc : Bytes
etc_utc = 69 ∷ 116 ∷ 99 ∷ 47 ∷ 85 ∷ 84 ∷ 67 ∷ []

abbrev pub text_z : Bytes
text_z = 90 ∷ []

-- "Both texts, and an absent zone, now count as UTC"
abbrev pub utc_zones : List Bytes
utc_zones = [] ∷ utc ∷ etc_utc ∷ text_z ∷ []

-- a zone is one of a list, byte for byte
abbrev pub is_among : List Bytes → Bytes → Bool
is_among [] zone = false
is_among (z ∷ zs) zone = same_bytes zone z || is_among zs zone

unfoldable pub is_utc : Bytes → Bool
is_utc zone = is_among utc_zones zone

-- a zone as it is read where zones are compared
unfoldable pub read_zone : Bytes → Bytes
read_zone zone = when is_utc zone then utc else zone

unfoldable pub zones_of : Bytes → Bytes → Params
zones_of a b = when same_bytes a b then Identical else when same_bytes (read_zone a) (read_zone b) then SameAsUtc else Different
