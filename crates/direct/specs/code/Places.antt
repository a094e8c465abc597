-- Names that stand in the incoming layout or in the plan.
use Rattle.std.specs.Prelude.{◌≡◌}
use Rattle.layout.specs.Bytes.{Bytes}
use Rattle.layout.specs.code.Answers.{span_at, SpanIn}
use Rattle.direct.specs.declared.place.Place.{Place}
use Rattle.direct.specs.declared.place.Name.{Name}

abbrev pub bytes_of : Bytes → Bytes → Place → Bytes
bytes_of incoming plan Place.Incoming = incoming
bytes_of incoming plan Place.Plan = plan

-- the name b stands where n says
pub record NameAt (incoming plan : Bytes) (n : Name) (b : Bytes) : Type 0 where
  pub inside : SpanIn (bytes_of incoming plan n.place) n.span
  pub is : span_at (bytes_of incoming plan n.place) n.span ≡ b
