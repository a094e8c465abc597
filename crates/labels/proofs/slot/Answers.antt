-- `labels::slot` meets its contract. Assumes nothing.
use native.Mathlib.Nat.{mod-lt}
use Rattle.labels.proofs.First.{slot_is}
use Rattle.labels.proofs.slot.Goals as goal

pub returns : goal.returns
returns c =
    record {
      value = slot_is c.args.how _ _ c.match_rule-rule.ensures c.label_hash.ensures;
      upper_bound = mod-lt
          c.label_hash.result c.requires.heads_nonzero;
    }
