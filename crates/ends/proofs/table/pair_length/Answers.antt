-- `ends::table::pair_length` meets its contract: a pair that is true. Assumes nothing.
use mathlib.Core.Path.{◌∙◌, refl, sym}
use native.Mathlib.Omega.{arith}
use Rattle.ends.proofs.Entries.{length_none, found-pair}
use Rattle.ends.proofs.table.pair_length.Goals as goal

pub loop-j-init : goal.loop-j-init
loop-j-init c =
    (refl, omega arith, omega arith)

pub returns-then-n-eq0 : goal.returns-then-n-eq0
returns-then-n-eq0 c =
    (λ v s T. length_none refl, omega arith)

pub returns-then-wide-d : goal.returns-then-wide-d
returns-then-wide-d c = (
  λ v s T. found-pair T c.requires (omega arith) (omega arith)
      (omega arith) (sym c.wide.ensures ∙ c.if-wide-d.true) c.wide-n.ensures,
  omega (
    arith,
    c.type_inv.ends
        c.loop-j.j,
  ),
)

pub returns : goal.returns
returns c =
    (λ v s T. length_none refl, omega arith)
