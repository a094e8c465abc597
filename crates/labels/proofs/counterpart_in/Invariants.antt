use Prim.Native.Nat.{ℕ, ◌+◌, ◌-◌}
use mathlib.Core.Path.{◌≡◌}
use lib.ListN.{length}
use Rattle.layout.specs.code.Answers.{label_at}
use Rattle.layout.specs.code.Stands.{ColumnsAt}
use Rattle.layout.specs.code.Finding.{match_rule}
use Rattle.layout.specs.declared.matching.Matching.{Matching}
use Rattle.labels.specs.code.LabelTable.{node, Table}
use Rattle.labels.proofs.Seeking.{Seeking}
use Rattle.labels.proofs.counterpart_in.Given as goal

abbrev pub invariant-loop-x : goal.invariant-loop-x
invariant-loop-x l = (at : ℕ) (how : Matching) → l.rule ≡ match_rule how → Table l.columns.edition how l.columns.depth l.s l.columns.count at l.table
    → (heads : ℕ) → node l.columns.count + heads ≡ length l.table → (P : ColumnsAt l.columns.edition l.columns.depth l.s l.columns.count at)
    → Seeking how heads (label_at l.t l.l) P.columns l.x

abbrev pub decreases-loop-x : goal.decreases-loop-x
decreases-loop-x l = 65535 - l.x
