use Rattle.composed.proofs.whole.transfer_record.Goals as goal

pub returns-then-few : goal.returns-then-few
returns-then-few c =
    λ X S. c.output_of.ensures _ _ _ _ _ (c.transfer_few.ensures X S)

pub returns : goal.returns
returns c =
    λ X S. c.output_of-2.ensures _ _ _ _ _ (c.transfer_many.ensures X S)
