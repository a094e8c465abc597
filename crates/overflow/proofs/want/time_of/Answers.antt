use Rattle.overflow.proofs.want.time_of.Goals as goal

pub returns-in-Datetime : goal.returns-in-Datetime
returns-in-Datetime c =
    rw (← c.class_of.ensures, c.in-Datetime.is)
