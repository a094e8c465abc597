-- `rules::params::decimal_of` meets its contract: each arm is a case of `decimal_of`. Assumes nothing.
use Rattle.rules.proofs.params.decimal_of.Goals as goal

pub returns-in-Decimal : goal.returns-in-Decimal
returns-in-Decimal c =
    rw c.in-Decimal.is

pub returns-in-Null : goal.returns-in-Null
returns-in-Null c =
    rw c.in-Null.is

pub returns-in-Boolean : goal.returns-in-Boolean
returns-in-Boolean c =
    rw c.in-Boolean.is

pub returns-in-Integer : goal.returns-in-Integer
returns-in-Integer c =
    rw c.in-Integer.is

pub returns-in-Float : goal.returns-in-Float
returns-in-Float c =
    rw c.in-Float.is

pub returns-in-Date : goal.returns-in-Date
returns-in-Date c =
    rw c.in-Date.is

pub returns-in-Datetime : goal.returns-in-Datetime
returns-in-Datetime c =
    rw c.in-Datetime.is

pub returns-in-String : goal.returns-in-String
returns-in-String c =
    rw c.in-String.is

pub returns-in-Binary : goal.returns-in-Binary
returns-in-Binary c =
    rw c.in-Binary.is

pub returns-in-Categorical : goal.returns-in-Categorical
returns-in-Categorical c =
    rw c.in-Categorical.is
