-- What an exported call answers: a refusal's number and place, or 0 and what is accepted, in one number of 64 bits.
use Rattle.std.specs.Prelude.{ℕ, ◌+◌, ◌*◌, ◌^◌, length}
use Rattle.layout.specs.Parser.{Res, refuse, ok}
use Rattle.layout.specs.Tree.{Layout}
use Rattle.layout.specs.Bytes.{Bytes}
use Rattle.plan.specs.Result.{Answer, accepted, refused_at}
use Rattle.plan.specs.declared.answer.WriteResult.{WriteResult}
use Rattle.checker.specs.declared.tops.PlanChecked.{PlanChecked}
use Rattle.demands.specs.Refusals.{place_of}

-- the number (0: accepted) in the upper half; in the lower the place of a refusal, the length of a result, or 0
abbrev pub answer : ℕ → ℕ → ℕ
answer number rest = number * 2 ^ 32 + rest

-- a refusal with the number n, met at k: 0 is shown for the place of a number that has none
abbrev pub refusal : ℕ → ℕ → ℕ
refusal n k = answer n (place_of n k)

-- reading one layout: its place is 1
abbrev pub read_answer : Res Layout → ℕ
read_answer (refuse n) = refusal n 1
read_answer (ok l at) = answer 0 0

-- a call that writes: the result's length, or the refusal
abbrev pub written_answer : Answer Bytes → ℕ
written_answer (accepted b) = answer 0 (length b)
written_answer (refused_at n k) = refusal n k

abbrev pub write_answer : WriteResult → ℕ
write_answer (WriteResult.Written len) = answer 0 len
write_answer (WriteResult.Refused n k) = refusal n k

-- a check: 0 where it passed
abbrev pub checked_answer : Answer (Unit {0}) → ℕ
checked_answer (accepted x) = answer 0 0
checked_answer (refused_at n k) = refusal n k

abbrev pub check_answer : PlanChecked → ℕ
check_answer PlanChecked.Passed = answer 0 0
check_answer (PlanChecked.Refused n k) = refusal n k
