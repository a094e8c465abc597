-- The proof of the cycle of calls {put_element, put_input, put_rename, put_selector, put_selectors, put_struct}. The
-- measure is 4 for each level left, and 2, 1, 1, 0, 1 and 2 more. Assumes nothing.
use Rattle.plan.proofs.Skipping.{skips-none}
use Rattle.show.proofs.selectors.+put_element_put_input_put_rename_put_selector_put_selectors_put_struct.Goals as goal

pub put_selectors-read_selector-requires : goal.put_selectors-read_selector-requires
put_selectors-read_selector-requires g t c =
    skips-none 1
