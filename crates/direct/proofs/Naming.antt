-- A name where it stands. Assumes nothing.
use mathlib.Core.Path.{◌≡◌, refl, sym, ap, ◌∙◌, subst}
use mathlib.Core.Bool.{Bool}
use Rattle.layout.specs.Bytes.{Bytes, same_bytes}
use Rattle.layout.specs.code.Answers.{span_at, SpanIn}
use Rattle.layout.specs.declared.bytes.Span.{Span}
use Rattle.direct.specs.declared.place.Place.{Place}
use Rattle.direct.specs.declared.place.Name.{Name}
use Rattle.direct.specs.code.Places.{bytes_of, NameAt}

module _ {incoming plan : Bytes} {m : Name} {b : Bytes} (N : NameAt incoming plan m b) where
  name-placed : {p : Place} → m.place ≡ p → SpanIn (bytes_of incoming plan p) m.span × (span_at (bytes_of incoming plan p) m.span ≡ b)
  name-placed e = (
    subst (λ (p : Place). SpanIn (bytes_of incoming plan p) m.span) e N.inside,
    ap
        (λ (p : Place). span_at (bytes_of incoming plan p) m.span) (sym e) ∙ N.is,
  )

  pub name_incoming : m.place ≡ Place.Incoming → SpanIn incoming m.span × (span_at incoming m.span ≡ b)
  name_incoming e = name-placed e

  pub name-plan : m.place ≡ Place.Plan → SpanIn plan m.span × (span_at plan m.span ≡ b)
  name-plan e = name-placed e

pub named-same : {a b : Bytes} (c : Bytes) {r : Bool} → r ≡ same_bytes a c → a ≡ b → r ≡ same_bytes b c
named-same c h e = h ∙ ap (λ (x : Bytes). same_bytes x c) e

pub named-at : (incoming plan : Bytes) (p : Place) (s : Span) {m : Name} → m ≡ record { place = p; span = s } → SpanIn (bytes_of incoming plan p) s →
    NameAt incoming plan m (span_at (bytes_of incoming plan p) s)
named-at incoming plan p s e h = subst (λ (n : Name). NameAt incoming plan n (span_at (bytes_of incoming plan p) s)) (sym e) (record { inside = h; is = refl })
