-- Document 01, "Checking a plan" and "Running", and document 02, L5, over any bytes: the refusals in their order, with
-- their places.
use Rattle.std.specs.Prelude.{ℕ, ◌++◌, length, drop}
use Rattle.layout.specs.Bytes.{Bytes}
use Rattle.layout.specs.Parser.{Res, refuse, ok}
use Rattle.layout.specs.Tree.{Columns}
use Rattle.layout.specs.Layout.{layout}
use Rattle.values.specs.Filled.{required_of}
use Rattle.values.specs.Record.{record_marked}
use Rattle.plan.specs.Result.{Answer, accepted, refused_at, answered}
use Rattle.plan.specs.Selector.{Selectors}
use Rattle.plan.specs.Read.{plan}
use Rattle.plan.specs.Marks.{check_marked}
use Rattle.plan.specs.Run.{run}

-- what is read, the place of its refusals, and what follows it
unfoldable pub read_at_of : {A B : Type 0} → ℕ → Res A → (A → Answer B) → Answer B
read_at_of k (refuse n) f = refused_at n k
read_at_of k (ok a m) f = f a

-- "Incoming, target (any versions), 30": g of the columns of both and of the selectors
unfoldable pub read_plan : {A : Type 0} → Bytes → Bytes → Bytes → (Columns → Columns → Selectors → Answer A) → Answer A
read_plan incoming target bytes g = read_at_of 1 (layout incoming) (λ a. read_at_of 2 (layout target)
    (λ b. read_at_of 0 (plan bytes) (λ ss. g a.columns b.columns ss)))

unfoldable pub check_plan_of : Bytes → Bytes → Bytes → Answer (Unit {0})
check_plan_of incoming target bytes = read_plan incoming target bytes (λ Γ Δ ss. check_marked Γ Δ ss)

-- "All of the check", then the record (43, 40, 41, 52, 56, 42), then 44 and 45; the buffer has that many bytes
unfoldable pub run_plan : Bytes → Bytes → Bytes → Bytes → ℕ → Answer Bytes
run_plan incoming target bytes rec room =
    read_plan incoming target bytes (λ Γ Δ ss. answered (check_marked Γ Δ ss) (λ x. read_at_of 0 (record_marked required_of Γ rec) (λ ρ. run ρ ss room)))

-- a lent buffer after a call: the result from its start, the rest as it was; after a refusal all as it was
abbrev pub buffer_after : Answer Bytes → Bytes → Bytes
buffer_after (accepted b) out = b ++ drop (length b) out
buffer_after (refused_at n k) out = out
