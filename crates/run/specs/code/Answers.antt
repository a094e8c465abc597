-- Document 01, "Running": the parts of a run.
use Rattle.std.specs.Prelude.{ℕ, ◌≤◌, ◌≡◌, true, length}
use Rattle.layout.specs.Bytes.{Bytes}
use Rattle.layout.specs.Tree.{Columns, fields_of}
use Rattle.layout.specs.Limits.{longest_plan, deepest}
use Rattle.layout.specs.code.Stands.{ColumnsAt}
use Rattle.values.specs.Value.{Values}
use Rattle.values.specs.Filled.{required_of}
use Rattle.values.specs.Record.{record_marked, RecordFilled}
use Rattle.plan.specs.Result.{Answer, accepted, refused_at, answered}
use Rattle.plan.specs.Selector.{Selectors}
use Rattle.plan.specs.Check.{check}
use Rattle.plan.specs.Marks.{check_marked}
use Rattle.plan.specs.Run.{evals, clean_all_of, run}
use Rattle.plan.specs.Calls.{read_at_of, buffer_after}
use Rattle.plan.specs.code.Written.{write_result}
use Rattle.plan.specs.declared.answer.WriteResult.{WriteResult}
use Rattle.walk.specs.code.Stands.{SelectorsAt}
use Rattle.output.specs.code.Answers.{written_of}
use Rattle.output.specs.declared.write.Written.{Written}
use Rattle.checker.specs.code.Tops.{TopsAt}
use Rattle.run.specs.declared.read.Read.{Read}
use Rattle.run.specs.declared.single_pass.SinglePass.{SinglePass}

-- an output that is too long is 45
abbrev pub finished : Written → WriteResult
finished (Written.Written len) = WriteResult.Written len
finished Written.TooLong = WriteResult.Refused 45 0

-- the record, then the run
abbrev pub record_run : Columns → Selectors → Bytes → ℕ → Answer Bytes
record_run Γ ss rec room = read_at_of 0 (record_marked required_of Γ rec) (λ ρ. run ρ ss room)

-- the check before them
abbrev pub checked_run : Columns → Columns → Selectors → Bytes → ℕ → Answer Bytes
checked_run Γ Δ ss rec room = answered (check_marked Γ Δ ss) (λ x. record_run Γ ss rec room)

-- ---- src/run.rt

-- the answer of a run, and the buffer after it
pub record Ran (x : Answer Bytes) (out : Bytes) (r : WriteResult) (out' : Bytes) : Type 0 where
  pub answer : r ≡ write_result x
  pub buffer : out' ≡ buffer_after x out

-- a plan that was read, and two layouts, where all three stand
pub record ReadAt (incoming plan target : Bytes) (q : Read) : Type 0 where
  pub columns : ColumnsAt q.incoming.edition deepest incoming q.incoming.count 7
  pub targets : ColumnsAt q.target.edition deepest target q.target.count 7
  pub selectors : Selectors
  pub tops : TopsAt incoming q.incoming.edition q.incoming.count plan q.selectors 7 (fields_of columns.columns) selectors
  pub first : q.incoming.first.at ≡ 7
  pub begins : q.target.first.at ≡ 7

abbrev pub CheckedRuns : Bytes → Bytes → Bytes → Read → Bytes → Bytes → WriteResult → Bytes → Type 0
CheckedRuns incoming plan target q rec out r out' =
    (A : ReadAt incoming plan target q) → Ran (checked_run A.columns.columns A.targets.columns A.selectors rec (length out)) out r out'

-- a plan that passed the check between two layouts, where all three stand
pub record PassedAt (incoming plan target : Bytes) (q : Read) : Type 0 where
  pub columns : ColumnsAt q.incoming.edition deepest incoming q.incoming.count q.incoming.first.at
  pub targets : ColumnsAt q.target.edition deepest target q.target.count q.target.first.at
  pub selectors : SelectorsAt plan q.selectors 7
  pub passes : check (fields_of columns.columns) (fields_of targets.columns) selectors.trees ≡ accepted tt
  pub starts : 7 ≤ length plan
  pub small : length plan ≤ longest_plan
  pub first : q.incoming.first.at ≡ 7

abbrev pub RecordRuns : Bytes → Bytes → Bytes → Read → Bytes → Bytes → WriteResult → Bytes → Type 0
RecordRuns incoming plan target q rec out r out' =
    (P : PassedAt incoming plan target q) → Ran (record_run P.columns.columns P.selectors.trees rec (length out)) out r out'

-- over a record that fits
abbrev pub FilledAt : Bytes → Bytes → Bytes → Read → Bytes → Type 0
FilledAt incoming plan target q rec = (P : PassedAt incoming plan target q) × RecordFilled P.columns.columns rec

abbrev pub FilledRuns : Bytes → Bytes → Bytes → Read → Bytes → Bytes → WriteResult → Bytes → Type 0
FilledRuns incoming plan target q rec out r out' =
    (P : PassedAt incoming plan target q) → RecordFilled P.columns.columns rec
    → Ran (record_run P.columns.columns P.selectors.trees rec (length out)) out r out'

-- ---- src/single_pass.rt

-- the run's answer, of an output in which no strict date-time is too large, and the buffer after it
pub record Settled (ρ : Values) (ss : Selectors) (out : Bytes) (w : Written) (out' : Bytes) : Type 0 where
  pub clean : clean_all_of (evals ρ ss) ≡ true
  pub answer : w ≡ written_of (run ρ ss (length out))
  pub buffer : out' ≡ buffer_after (run ρ ss (length out)) out

abbrev pub SinglePassAnswer : Values → Selectors → Bytes → SinglePass → Bytes → Type 0
SinglePassAnswer ρ ss out (SinglePass.Is w) out' = Settled ρ ss out w out'
SinglePassAnswer ρ ss out SinglePass.Unknown out' = out' ≡ out

pub record SinglePassIs (ρ : Values) (ss : Selectors) (out : Bytes) (r : SinglePass) (out' : Bytes) : Type 0 where
  pub answer : SinglePassAnswer ρ ss out r out'
