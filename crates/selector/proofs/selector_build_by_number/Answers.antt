use lib.ListN.{length}
use Rattle.layout.specs.Bytes.{Bytes}
use Rattle.rules.specs.declared.policy.Policy.{Policy}
use Rattle.plan.specs.Result.{Answer}
use Rattle.matching.specs.Calls.{build_by_number}
use Rattle.selector.proofs.Answers.{build-answered, build-buffer}
use Rattle.selector.proofs.selector_build_by_number.Goals as goal

pub returns : goal.returns
returns c =
    let f : Policy → Answer Bytes = (λ p. build_by_number p
    c.args.source_index
    c.args.owner
    c.args.incoming.now
    c.args.target.now
    c.args.defaults.now
    (length c.args.plan.now)) in record {
      value = build-answered c.from_word.ensures f c.build_by_number.ensures.value
          c.written.ensures;
      plan_after = build-buffer c.from_word.ensures f _
          c.build_by_number.ensures.plan_after;
    }
