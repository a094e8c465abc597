-- `layout::find::find_counterpart` meets its contract: a case for each way of matching. Assumes nothing.
use Rattle.layout.proofs.Finding.{counterpart-name, counterpart-id}
use Rattle.layout.proofs.find.find_counterpart.Goals as goal

pub returns-in-ByName : goal.returns-in-ByName
returns-in-ByName c =
    λ P. counterpart-name c.args.v c.args.depth c.args.s.now c.args.how c.column_named.result c.args.t.now
    c.args.l P.columns c.in-ByName.is (c.column_named.ensures P)

pub returns-in-ByNumber : goal.returns-in-ByNumber
returns-in-ByNumber c =
    λ P. counterpart-id c.args.v c.args.depth c.args.s.now c.args.how c.column_of_id.result c.args.t.now
    c.args.l P.columns c.in-ByNumber.is (c.column_of_id.ensures P)
