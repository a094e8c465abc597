-- The name that a selector gives, and a name of the target. Assumes nothing.
use mathlib.Core.Path.{◌≡◌, sym, ◌∙◌, subst}
use mathlib.Core.Bool.{Bool, true}
use Rattle.layout.specs.Bytes.{Bytes, same_bytes}
use Rattle.layout.proofs.OfBytes.{same_bytes_eq}
use Rattle.plan.specs.Result.{Result, gives}
use Rattle.plan.specs.Check.{Column}
use Rattle.direct.specs.declared.place.Name.{Name}
use Rattle.infer.specs.declared.name.Named.{Named}
use Rattle.infer.specs.code.Naming.{NamedTo, NamedParts, NamedIs}

-- what a caller gets from an answer
pub named-to : {s plan : Bytes} {r : Result Column} {q : Named} → NamedIs s plan r q → {n : Name} → q ≡ Named.Is n → NamedTo s plan r n
named-to {s} {plan} {r} N e = subst (λ (x : Named). NamedParts s plan r x) e N.parts

pub label_is : {s plan : Bytes} {r : Result Column} {n : Name} (N : NamedTo s plan r n) {b : Bytes} {x : Bool} → x ≡ same_bytes N.name b → x ≡ true →
    (a : Column) → r ≡ gives a → a.name ≡ b
label_is N g h a e = N.is a e ∙ same_bytes_eq _ _ (sym g ∙ h)
