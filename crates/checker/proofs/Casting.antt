-- What `cast_fits` answers on each way. Assumes nothing.
use mathlib.Core.Path.{◌≡◌, sym, ap, ◌∙◌, subst}
use mathlib.Core.Bool.{Bool, true, false}
use Rattle.layout.specs.Bytes.{Bytes}
use Rattle.layout.specs.Tree.{DataType, leaf}
use Rattle.layout.specs.code.Answers.{leaf_at, SpanIn}
use Rattle.layout.specs.declared.types.LeafType.{LeafType as LeafSpan}
use Rattle.forms.specs.code.Heads.{head_of}
use Rattle.rules.specs.declared.outcome.CastOption.{CastOption}
use Rattle.plan.specs.Check.{cast_fits_of}
use Rattle.direct.specs.code.Places.{bytes_of}
use Rattle.direct.specs.declared.place.Place.{Place}
use Rattle.direct.proofs.Casting.{is_nested, leaf-is, nested_none}
use Rattle.checker.specs.code.TypesAt.{head_kind, HeadInside, TypeHeadIs}
use Rattle.checker.specs.declared.place.TypeHead.{TypeHead}

module _ {incoming plan : Bytes} {t : DataType} {h : TypeHead} (H : TypeHeadIs incoming plan t h) where
  kind-is : {k : TypeHead} → h ≡ k → head_kind incoming plan k ≡ head_of t
  kind-is e = sym (ap (head_kind incoming plan) e) ∙ H.kind

  -- a leaf, whose zone stands in the bytes of the place q
  module _ {p q : Place} {l : LeafSpan} (e : h ≡ TypeHead.Leaf p l) (f : p ≡ q) where
    pub leaf-inside : SpanIn (bytes_of incoming plan q) l.zone
    leaf-inside = subst (λ (x : Place). SpanIn (bytes_of incoming plan x) l.zone) f (subst (λ (k : TypeHead). HeadInside incoming plan k) e H.inside)

    pub leaf_fits : (u : DataType) (o : CastOption) {r : Bool} → r ≡ cast_fits_of (leaf (leaf_at (bytes_of incoming plan q) l)) u o → r ≡ cast_fits_of t u o
    leaf_fits u o g = g ∙ ap (λ (x : Place). cast_fits_of (leaf (leaf_at (bytes_of incoming plan x) l)) u o) (sym f) ∙ ap (λ (x : DataType). cast_fits_of x u o)
        (leaf-is t (kind-is e))

  pub nested_fits : {k : TypeHead} (u : DataType) (o : CastOption) → h ≡ k → is_nested (head_kind incoming plan k) ≡ true → false ≡ cast_fits_of t u o
  nested_fits u o e n = nested_none t (kind-is e) n u o
