-- What the parts of the two calls ask, answer and write.
use Rattle.std.specs.Prelude.{◌≡◌, true, ◌++◌, ℕ, ◌+◌, ◌*◌, ◌≤◌, ◌<◌, length}
use Rattle.store.specs.code.Overlay.{Holds}
use Rattle.layout.specs.Bytes.{Bytes}
use Rattle.layout.specs.Tree.{Columns}
use Rattle.layout.specs.Limits.{longest, deepest}
use Rattle.layout.specs.declared.edition.Edition.{Edition}
use Rattle.layout.specs.declared.matching.Matching.{Matching}
use Rattle.forms.specs.Form.{u16_bytes}
use Rattle.rules.specs.declared.policy.ExtraColumnsPolicy.{ExtraColumnsPolicy}
use Rattle.plan.specs.Result.{Answer, accepted, refused_at, placed, answered, demand, gives}
use Rattle.plan.specs.Selector.{Selectors}
use Rattle.plan.specs.Encode.{plan_mark, encode_selectors, encode_plan}
use Rattle.plan.specs.Calls.{buffer_after}
use Rattle.plan.specs.code.Written.{write_result}
use Rattle.matching.specs.Build.{extra_column_err, extra_columns, build_from, build as buildAll}
use Rattle.matching.specs.Calls.{takes, both_layouts, room_for, written_plan}
use Rattle.builder.specs.code.Answers.{DefaultsAt, defaults_at}
use Rattle.builder.specs.code.Bundles.{FieldsAt, Taken}
use Rattle.builder.specs.declared.answer.Made.{Made}
use Rattle.builder.specs.declared.build.Build.{Build}
use Rattle.plan.specs.declared.answer.WriteResult.{WriteResult}
use Rattle.calls.specs.declared.write.Attempt.{Attempt}
use Rattle.calls.specs.declared.columns.ColumnsMade.{ColumnsMade}
use Rattle.calls.specs.declared.extra.ExtraColumn.{ExtraColumn}
use Rattle.calls.specs.declared.layouts.Both.{Both}
use Rattle.calls.specs.declared.layouts.BothRead.{BothRead}

-- ---- the two layouts

-- where the columns of both stand, and that the build's matching takes the target's edition
abbrev pub BothIn : Build → Both → Bytes → Bytes → Type 0
BothIn build both incoming target =
    FieldsAt build.incoming deepest incoming both.incoming × (FieldsAt build.target deepest target both.target × Taken build)

-- the editions and the columns of both, and that a build goes on with them
pub record BothAt (how : Matching) (incoming target : Bytes) (v w : Edition) (both : Both) : Type 0 where
  pub from : FieldsAt v deepest incoming both.incoming
  pub to : FieldsAt w deepest target both.target
  pub taken : takes how w ≡ true
  pub starts : both.target.first.at ≡ 7
  pub small : length target ≤ longest
  pub is : (f : Columns → Columns → Answer Bytes) → both_layouts how incoming target f ≡ f from.columns to.columns

abbrev pub BothIs : Matching → Bytes → Bytes → BothRead → Type 0
BothIs how incoming target (BothRead.Read v w both) = BothAt how incoming target v w both
BothIs how incoming target (BothRead.Refused n k) = (f : Columns → Columns → Answer Bytes) → both_layouts how incoming target f ≡ refused_at n k

-- ---- extra columns

-- "53 for such a column .., its place being the incoming position"
abbrev pub extra_answer : ExtraColumn → Answer (Unit {0})
extra_answer (ExtraColumn.At k) = refused_at 53 k
extra_answer ExtraColumn.Nothing = accepted tt

abbrev pub FoundExtra : Build → Both → Bytes → Bytes → ExtraColumn → Type 0
FoundExtra build both incoming target r =
    (P : FieldsAt build.incoming deepest incoming both.incoming) (Q : FieldsAt build.target deepest target both.target)
    → extra_answer r ≡ extra_column_err build.matching P.columns Q.columns 0

abbrev pub ExtraFound : ExtraColumnsPolicy → Build → Both → Bytes → Bytes → ExtraColumn → Type 0
ExtraFound policy build both incoming target r =
    (P : FieldsAt build.incoming deepest incoming both.incoming) (Q : FieldsAt build.target deepest target both.target)
    → extra_answer r ≡ extra_columns policy build.matching P.columns Q.columns

-- ---- the selectors of the target columns

unfoldable pub columns_made : Answer Selectors → ColumnsMade
columns_made (accepted ss) = ColumnsMade.Done (length (encode_selectors ss))
columns_made (refused_at n k) = ColumnsMade.Failed n k

abbrev pub failed_column : ℕ → Made → ColumnsMade
failed_column i (Made.Refused n) = ColumnsMade.Failed n i
failed_column i (Made.Bare k) = ColumnsMade.Failed 0 i
failed_column i (Made.Built n) = ColumnsMade.Failed 0 i

-- a column before others
abbrev pub join_columns : ℕ → ColumnsMade → ColumnsMade
join_columns len (ColumnsMade.Failed n k) = ColumnsMade.Failed n k
join_columns len (ColumnsMade.Done n) = ColumnsMade.Done (len + n)

-- in the buffer from k on, for target bytes from b to e; after a refusal nothing is said of it
unfoldable pub WroteColumns : ℕ → ℕ → Bytes → ℕ → Answer Selectors → Bytes → Type 0
WroteColumns b e out k (accepted ss) out' = Holds out k (encode_selectors ss) out' × (length (encode_selectors ss) + 65536 * b ≤ 65536 * e)
WroteColumns b e out k (refused_at n i) out' = Unit {0}

pub record MakesColumns (b e : ℕ) (out : Bytes) (k : ℕ) (X : Answer Selectors) (r : ColumnsMade) (out' : Bytes) : Type 0 where
  pub answer : r ≡ columns_made X
  pub wrote : WroteColumns b e out k X out'

abbrev pub BuiltColumns : Build → Bytes → Bytes → Bytes → Both → Bytes → ℕ → ColumnsMade → Bytes → Type 0
BuiltColumns build table incoming target both out k r out' =
    (T : DefaultsAt table build.defaults)
    (P : FieldsAt build.incoming deepest incoming both.incoming)
    (Q : FieldsAt build.target deepest target both.target)
    → MakesColumns both.target.first.at Q.end out k
    (build_from build.matching build.policy (defaults_at build.defaults T) Q.columns P.columns 0) r out'

-- ---- the plan

-- its bytes before the selectors: the mark, the version and the count
abbrev pub plan_head : ℕ → Bytes
plan_head n = plan_mark ++ u16_bytes n

-- "Last, 27: the plan is longer than the buffer or 65,536 bytes"
abbrev pub written : ℕ → Bytes → Answer Bytes
written room b = placed 0 (demand (room_for room b) 27 (gives b)) (λ b. accepted b)

-- X accepts selectors whose plan is longer than that many bytes
pub record LongerThan (room : ℕ) (X : Answer Selectors) : Type 0 where
  pub selectors : Selectors
  pub accepts : X ≡ accepted selectors
  pub longer : room < length (encode_plan selectors)

-- an attempt at X with the lent buffer out: X's answer and buffer, or Long, and the buffer as it was
abbrev pub Attempted : Type 0 → Answer Bytes → Bytes → Attempt → Bytes → Type 0
Attempted Long X out (Attempt.Answer r) out' = (r ≡ write_result X) × (out' ≡ buffer_after X out)
Attempted Long X out Attempt.Short out' = Long × (out' ≡ out)

-- what is built of target columns gs over incoming columns fs, once 53 was tested, and the plan of it in the lent
-- buffer
abbrev pub matched_plan : {table : Bytes} (build : Build) → DefaultsAt table build.defaults → Columns → Columns → Answer Selectors
matched_plan build T gs fs = build_from build.matching build.policy (defaults_at build.defaults T) gs fs 0

abbrev pub AttemptedIn : Build → Both → ℕ → Bytes → Bytes → Bytes → Bytes → Attempt → Bytes → Type 0
AttemptedIn build both room table incoming target plan r plan' =
    (T : DefaultsAt table build.defaults)
    (P : FieldsAt build.incoming deepest incoming both.incoming)
    (Q : FieldsAt build.target deepest target both.target)
    → Attempted (LongerThan room (matched_plan build T Q.columns P.columns))
    (answered (matched_plan build T Q.columns P.columns) (written_plan (length plan))) plan r plan'

-- the answer and the buffer of an accepted or refused build
abbrev pub Answered : Answer Selectors → Bytes → WriteResult → Bytes → Type 0
Answered X plan r plan' =
    (r ≡ write_result (answered X (written_plan (length plan)))) × (plan' ≡ buffer_after (answered X (written_plan (length plan))) plan)

abbrev pub PlanMatched : Build → Both → Bytes → Bytes → Bytes → Bytes → WriteResult → Bytes → Type 0
PlanMatched build both table incoming target plan r plan' =
    (T : DefaultsAt table build.defaults)
    (P : FieldsAt build.incoming deepest incoming both.incoming)
    (Q : FieldsAt build.target deepest target both.target)
    → Answered (matched_plan build T Q.columns P.columns) plan r plan'

abbrev pub PlanBuilt : Build → Both → Bytes → Bytes → Bytes → Bytes → WriteResult → Bytes → Type 0
PlanBuilt build both table incoming target plan r plan' =
    (T : DefaultsAt table build.defaults)
    (P : FieldsAt build.incoming deepest incoming both.incoming)
    (Q : FieldsAt build.target deepest target both.target)
    → Answered (buildAll build.matching build.policy (defaults_at build.defaults T) P.columns Q.columns) plan r plan'
