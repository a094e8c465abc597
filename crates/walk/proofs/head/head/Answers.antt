-- `walk::head::head` meets its contract: each code has its law. Assumes nothing.
use Rattle.walk.proofs.Heads.{head-ended, head-position, head_uncounted, head-constant, head_unnamed, head-cast, head-rename, head-struct, head-list}
use Rattle.walk.proofs.Heads.{head-array, head_unknown}
use Rattle.walk.proofs.head.head.Goals as goal

pub returns-in-Is : goal.returns-in-Is
returns-in-Is c =
    λ P. head-position P c.byte.ensures c.in-Byte.is c.in-0.is c.short.ensures c.in-Is.is

pub returns-in-Refused-short : goal.returns-in-Refused-short
returns-in-Refused-short c =
    λ P. head_uncounted P c.byte.ensures c.in-Byte.is c.in-0.is c.short.ensures c.in-Refused-short.is

pub returns-in-Is-text : goal.returns-in-Is-text
returns-in-Is-text c =
    λ P. head-constant P c.byte.ensures c.in-Byte.is c.in-1.is c.text.ensures.result_value c.text.ensures.text_in
    c.in-Is-text.is

pub returns-in-Refused-text : goal.returns-in-Refused-text
returns-in-Refused-text c =
    λ P. head_unnamed P c.byte.ensures c.in-Byte.is c.in-1.is c.text.ensures.result_value c.in-Refused-text.is

pub returns-in-2 : goal.returns-in-2
returns-in-2 c =
    λ P. head-cast P c.byte.ensures c.in-Byte.is c.in-2.is

pub returns-in-3 : goal.returns-in-3
returns-in-3 c =
    λ P. head-rename P c.byte.ensures c.in-Byte.is c.in-3.is

pub returns-in-4 : goal.returns-in-4
returns-in-4 c =
    λ P. head-struct P c.byte.ensures c.in-Byte.is c.in-4.is

pub returns-in-5 : goal.returns-in-5
returns-in-5 c =
    λ P. head-list P c.byte.ensures c.in-Byte.is c.in-5.is

pub returns-in-6 : goal.returns-in-6
returns-in-6 c =
    λ P. head-array P c.byte.ensures c.in-Byte.is c.in-6.is

pub returns-in_default : goal.returns-in_default
returns-in_default c =
    λ P. head_unknown P c.byte.ensures c.in-Byte.is c.in_default.in_default-own.rest

pub returns-in-Refused : goal.returns-in-Refused
returns-in-Refused c =
    λ P. head-ended P c.byte.ensures c.in-Refused.is
