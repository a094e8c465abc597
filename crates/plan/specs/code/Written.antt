-- What the answer of a call that writes stands for.
use Rattle.std.specs.Prelude.{length}
use Rattle.layout.specs.Bytes.{Bytes}
use Rattle.plan.specs.Result.{Answer, accepted, refused_at}
use Rattle.plan.specs.declared.answer.WriteResult.{WriteResult}

-- what a call answers that writes: the result's length; or, since "a refusal is a number and a place", these two
abbrev pub write_result : Answer Bytes → WriteResult
write_result (accepted b) = WriteResult.Written (length b)
write_result (refused_at n k) = WriteResult.Refused n k
