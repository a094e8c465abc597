use Rattle.run.proofs.Running.{ran-refused, passed-at, run_passed, check-refused}
use lib.ListN.{length}
use borrow.Author.Rules.{rules}
use Rattle.run.proofs.run.run_read.Goals as goal

pub check_read-requires : goal.check_read-requires
check_read-requires c =
    record { tops_at = (c.requires.columns, c.requires.selectors, c.requires.tops); columns_at = c.requires.targets }

pub run_passed-requires : goal.run_passed-requires
run_passed-requires c =
    passed-at c.requires (c.check_read.ensures c.requires.columns c.requires.selectors c.requires.targets c.requires.tops) c.in-Passed.is

pub returns-in-Passed : goal.returns-in-Passed
returns-in-Passed c =
    λ A.
    let e = c.check_read.ensures A.columns A.selectors A.targets A.tops in
    run_passed A c.args.rec.now (length c.args.output.now) e c.in-Passed.is (c.run_passed.ensures (passed-at A e c.in-Passed.is))

pub returns-in-Refused : goal.returns-in-Refused
returns-in-Refused c =
    λ A. ran-refused (check-refused A c.args.rec.now (length c.args.output.now) (c.check_read.ensures A.columns A.selectors
    A.targets A.tops) c.in-Refused.is)
