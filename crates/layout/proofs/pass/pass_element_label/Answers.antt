-- `layout::pass::pass_element_label` meets its contract: each edition has its rule in `Passing`. Assumes nothing.
use Rattle.layout.proofs.Passing.{element-labelled}
use Rattle.layout.proofs.pass.pass_element_label.Goals as goal

pub returns-in-One : goal.returns-in-One
returns-in-One c =
    search element-labelled

pub returns-in-Two : goal.returns-in-Two
returns-in-Two c =
    search element-labelled

pub returns-in-Three : goal.returns-in-Three
returns-in-Three c =
    search element-labelled
