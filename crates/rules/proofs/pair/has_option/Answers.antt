-- `rules::pair::has_option` meets its contract: each arm is told the outcome.
use Rattle.rules.proofs.pair.has_option.Goals as goal

pub returns-in-Cast : goal.returns-in-Cast
returns-in-Cast c =
    rw (c.option_code.ensures, c.option_code-in-Cast.ensures, c.in-Cast.is)
