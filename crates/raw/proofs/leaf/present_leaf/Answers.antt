use mathlib.Core.Path.{sym, ◌∙◌}
use native.Mathlib.Omega.{arith}
use Rattle.raw.proofs.Leaves.{leaf-nothing, leaf-text, leaf-flag, flag-inside, number-inside, leaf-number, decimal-inside, leaf-decimal}
use Rattle.values.proofs.Leaves.{number_small}
use Rattle.raw.proofs.leaf.present_leaf.Goals as goal

pub bounds-rec-at : goal.bounds-rec-at
bounds-rec-at c =
    flag-inside c.requires (sym c.content_of.ensures ∙ c.in-Flag.is)

pub overflow_cast-result : goal.overflow_cast-result
overflow_cast-result c =
    omega (arith, c.type_inv.rec c.args.c.at)

pub number_at-requires : goal.number_at-requires
number_at-requires c =
    let e = sym c.content_of.ensures ∙ c.in-Number.is in record { w_in_bounds = number-inside c.requires e; w_bound = number_small c.args.leaf e }

pub number_at-requires-in-Decimal : goal.number_at-requires-in-Decimal
number_at-requires-in-Decimal c =
    record { w_in_bounds = decimal-inside c.requires (sym c.content_of.ensures ∙ c.in-Decimal.is); w_bound = omega arith }

pub returns-in-Nothing : goal.returns-in-Nothing
returns-in-Nothing c =
    λ X. leaf-nothing X (sym c.content_of.ensures ∙ c.in-Nothing.is)

pub returns-in-Flag : goal.returns-in-Flag
returns-in-Flag c =
    λ X. leaf-flag X (sym c.content_of.ensures ∙ c.in-Flag.is)

pub returns-in-Number : goal.returns-in-Number
returns-in-Number c =
    λ X. leaf-number X (sym c.content_of.ensures ∙ c.in-Number.is) c.number_at.ensures

pub returns-in-Decimal : goal.returns-in-Decimal
returns-in-Decimal c =
    λ X. leaf-decimal X (sym c.content_of.ensures ∙ c.in-Decimal.is) c.number_at-in-Decimal.ensures

pub returns-in-Text : goal.returns-in-Text
returns-in-Text c =
    λ X. leaf-text X (sym c.content_of.ensures ∙ c.in-Text.is)
