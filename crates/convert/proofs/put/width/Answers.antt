-- `convert::put::width` meets its contract: a case for each content. Assumes nothing.
use Rattle.convert.proofs.Pairs.{width_is}
use Rattle.values.specs.declared.content.Content.{Content}
use Rattle.values.specs.Content.{width_in}
use mathlib.Core.Path.{sym, ap}
use Rattle.convert.proofs.put.width.Goals as goal

pub returns-in-Nothing : goal.returns-in-Nothing
returns-in-Nothing c =
    width_is c.args.kind c.content_of.ensures
    (sym (ap (λ (x : Content). width_in x) c.in-Nothing.is))

pub returns-in-Flag : goal.returns-in-Flag
returns-in-Flag c =
    width_is c.args.kind c.content_of.ensures
    (sym (ap (λ (x : Content). width_in x) c.in-Flag.is))

pub returns-in-Number : goal.returns-in-Number
returns-in-Number c =
    width_is c.args.kind c.content_of.ensures (sym (ap (λ (x : Content). width_in x) c.in-Number.is))

pub returns-in-Decimal : goal.returns-in-Decimal
returns-in-Decimal c =
    width_is c.args.kind c.content_of.ensures
    (sym (ap (λ (x : Content). width_in x) c.in-Decimal.is))

pub returns-in-Text : goal.returns-in-Text
returns-in-Text c =
    width_is c.args.kind c.content_of.ensures
    (sym (ap (λ (x : Content). width_in x) c.in-Text.is))
