-- `layout::find::find_column` meets its contract: the loop keeps `Seeking`. Assumes nothing.
use borrow.Author.Rules.{rules}
use Rattle.layout.proofs.Ways.{label_in}
use Rattle.layout.proofs.Finding.{seeking_start, seeking_none, seeking_unlabelled, seeking-found, seeking-stuck, seeking-more}
use Rattle.layout.proofs.find.find_column.Goals as goal

pub loop-i-init : goal.loop-i-init
loop-i-init c =
    seeking_start _ c.requires

pub is_wanted-requires : goal.is_wanted-requires
is_wanted-requires c =
    search (label_in, rules)

pub returns-then-is_wanted : goal.returns-then-is_wanted
returns-then-is_wanted c =
    seeking-found _ c.loop-i.invariant c.loop-i-test.true c.label.ensures.result_value c.in-Is.is c.label.ensures.label_in c.is_wanted.ensures
    c.if-is_wanted.true

pub returns-in-Refused-pass_type : goal.returns-in-Refused-pass_type
returns-in-Refused-pass_type c =
    seeking-stuck _ c.loop-i.invariant c.loop-i-test.true c.label.ensures.result_value c.in-Is.is c.pass_type.ensures c.in-Refused-pass_type.is

pub returns-in-Refused : goal.returns-in-Refused
returns-in-Refused c =
    seeking_unlabelled _ c.loop-i.invariant c.loop-i-test.true c.label.ensures.result_value c.in-Refused.is

pub loop-i-preserved : goal.loop-i-preserved
loop-i-preserved c =
    seeking-more _ c.loop-i.invariant c.loop-i-test.true c.label.ensures.result_value c.in-Is.is c.is_wanted.ensures c.if-is_wanted.false
    c.pass_type.ensures c.in-To.is

pub returns : goal.returns
returns c =
    seeking_none _ c.loop-i.invariant c.loop-i-test.false
