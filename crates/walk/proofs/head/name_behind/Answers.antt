-- `walk::head::name_behind` meets its contract: the name that stands there. Assumes nothing.
use Rattle.walk.proofs.Heads.{name-is, name-missing}
use Rattle.walk.proofs.head.name_behind.Goals as goal

pub returns-in-Is : goal.returns-in-Is
returns-in-Is c =
    λ at N q. name-is q N c.text.ensures.result_value c.text.ensures.text_in c.in-Is.is

pub returns-in-Refused : goal.returns-in-Refused
returns-in-Refused c =
    λ at N q. name-missing q N c.text.ensures.result_value c.in-Refused.is
