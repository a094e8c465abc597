-- `convert::put::put_number` meets its contract: presence, then the number's bytes. Assumes nothing.
use Rattle.convert.proofs.Pairs.{number-long, number-stored}
use Rattle.convert.proofs.put.put_number.Goals as goal

pub returns : goal.returns
returns c =
    record {
      value = number-long c.args.kind _ c.width-w.ensures.0;
      out_after = number-stored c.args.kind _ _ _ c.width-w.ensures.0 c.put.ensures
          c.put_number.ensures;
    }
