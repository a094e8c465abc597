-- Document 02, L1: a table of cases beside S1 to S12, over bytes, computed from the definitions that the exported
-- calls' contracts cite. Assumes nothing.
use Prim.Native.Nat.{ℕ}
use mathlib.Core.Path.{◌≡◌, refl}
use mathlib.Core.List.{[], ◌∷◌, ◌++◌}
use Rattle.layout.specs.Bytes.{Bytes}
use Rattle.layout.specs.Parser.{refuse}
use Rattle.layout.specs.Layout.{decimal_params, decimal_head, layout}
use Rattle.rules.specs.declared.policy.Policy.{Policy}
use Rattle.rules.specs.Policies.{policy_of}
use Rattle.rules.specs.Params.{decimals_of}
use Rattle.numeric.specs.Decimals.{within_precision}
use Rattle.values.specs.Reading.{decimal}
use Rattle.values.specs.Record.{record_number}
use Rattle.plan.specs.Result.{Answer, accepted, refused_at}
use Rattle.plan.specs.Calls.{read_plan, check_plan_of, run_plan}
use Rattle.plan.proofs.Samples.{read, checked, ran, recorded}
use Rattle.matching.specs.Calls.{build_by_name, build_by_number}
use Rattle.matching.proofs.Samples.{built}
use Rattle.demands.specs.Refusals.{is_in, place_of}
use Rattle.demands.proofs.TableOfCases.{marking, on, lay, pln, casting, build, run, int64}

-- every flag on but decimal_widening
abbrev off : Policy
off = policy_of 49151

-- a decimal's type
abbrev digits : ℕ → ℕ → Bytes
digits p s = 21 ∷ p ∷ s ∷ []

-- an answer with the place of its refusal
abbrev pub shown : {A : Type 0} → Answer A → Answer A
shown (accepted a) = accepted a
shown (refused_at n k) = refused_at n (place_of n k)

-- a run that leaves a decimal(18,0) as it is
abbrev kept : Bytes → Answer Bytes
kept r = run_plan (lay (digits 18 0)) (lay (digits 18 0)) (pln (0 ∷ 0 ∷ 0 ∷ [])) r 1000

-- a layout of two columns, of a boolean and of the type t
abbrev second : Bytes → Bytes
second t = 0x4C ∷ 0x41 ∷ 0x59 ∷ 1 ∷ 0 ∷ 2 ∷ 0 ∷ 1 ∷ 0x73 ∷ 1 ∷ 1 ∷ 0x74 ∷ t

-- a build by number of one column, of the type decimal(9,2), which the incoming layout lacks; its initial default is of
-- the type t, and r stands behind it
abbrev defaulted : Bytes → Bytes → Answer Bytes
defaulted t r =
    build_by_number on 0 0 (0x4C ∷ 0x41 ∷ 0x59 ∷ 2 ∷ 0 ∷ 0 ∷ 0 ∷ []) (0x4C ∷ 0x41 ∷ 0x59 ∷ 2 ∷ 0 ∷ 1 ∷ 0 ∷ 1 ∷ 0x74 ∷ 1 ∷ 0 ∷ 0 ∷ 0 ∷ digits 9 2)
    (0x44 ∷ 0x45 ∷ 0x46 ∷ 1 ∷ 0 ∷ 1 ∷ 0 ∷ 1 ∷ 0 ∷ 0 ∷ 0 ∷ 0 ∷ (t ++ r)) 1000

-- 10^18 - 1 and 10^18, and these below zero; 10^9 - 1 and 10^9
abbrev below : Bytes
below = 1 ∷ 0xFF ∷ 0xFF ∷ 0x63 ∷ 0xA7 ∷ 0xB3 ∷ 0xB6 ∷ 0xE0 ∷ 0x0D ∷ []

abbrev large : Bytes
large = 1 ∷ 0x00 ∷ 0x00 ∷ 0x64 ∷ 0xA7 ∷ 0xB3 ∷ 0xB6 ∷ 0xE0 ∷ 0x0D ∷ []

abbrev below_negative : Bytes
below_negative = 1 ∷ 0x01 ∷ 0x00 ∷ 0x9C ∷ 0x58 ∷ 0x4C ∷ 0x49 ∷ 0x1F ∷ 0xF2 ∷ []

abbrev large_negative : Bytes
large_negative = 1 ∷ 0x00 ∷ 0x00 ∷ 0x9C ∷ 0x58 ∷ 0x4C ∷ 0x49 ∷ 0x1F ∷ 0xF2 ∷ []

abbrev below_9 : Bytes
below_9 = 1 ∷ 0xFF ∷ 0xC9 ∷ 0x9A ∷ 0x3B ∷ 0 ∷ 0 ∷ 0 ∷ 0 ∷ []

abbrev large_9 : Bytes
large_9 = 1 ∷ 0x00 ∷ 0xCA ∷ 0x9A ∷ 0x3B ∷ 0 ∷ 0 ∷ 0 ∷ 0 ∷ []

pub record Decimals : Type 0 where
  -- "precision u8 from 1 to 18, scale u8 from 0 to the precision"
  pub smallest : build (digits 1 1) (digits 1 1) ≡ accepted (pln (0 ∷ 0 ∷ 0 ∷ []))
  pub largest : build (digits 18 18) (digits 18 18) ≡ accepted (pln (0 ∷ 0 ∷ 0 ∷ []))
  pub precision_0 : layout (lay (digits 0 0)) ≡ refuse 50
  pub precision_19 : layout (lay (digits 19 0)) ≡ refuse 50
  pub scale-over : layout (lay (digits 9 10)) ≡ refuse 50
  -- "tested after both bytes are read"
  pub no_scale : layout (lay (21 ∷ 0 ∷ [])) ≡ refuse 2
  -- the place of 50 is 0, be it of the incoming layout or of the target
  pub place_incoming : shown (build (digits 0 0) (digits 9 2)) ≡ refused_at 50 0
  pub place_target : shown (build (digits 9 2) (digits 9 10)) ≡ refused_at 50 0
  -- "value an i64 of magnitude below ten to the precision"
  pub fits : kept below ≡ accepted below
  pub fits_negative : kept below_negative ≡ accepted below_negative
  pub too_large : kept large ≡ refused_at 52 0
  pub too_large_negative : kept large_negative ≡ refused_at 52 0
  -- all eight bytes are read first
  pub early_end : kept (1 ∷ 0 ∷ 0 ∷ 0x64 ∷ 0xA7 ∷ 0xB3 ∷ 0xB6 ∷ 0xE0 ∷ []) ≡ refused_at 40 0
  -- "a larger precision at the same scale ..; the cast is NonStrict and keeps the value"
  pub widened : build (digits 9 2) (digits 18 2) ≡ accepted (casting (digits 18 2) 0)
  pub widened-run : run (digits 9 2) (digits 18 2) 0 below_9 ≡ accepted below_9
  pub widened_large : run (digits 9 2) (digits 18 2) 0 large_9 ≡ refused_at 52 0
  -- "51 when the widening flag is off"; its place is 0, be it of the second column
  pub not_widened : shown (build_by_name off (second (digits 9 2)) (second (digits 18 2)) 1000) ≡ refused_at 51 0
  -- the check judges with that flag on
  pub widening_checked : check_plan_of (lay (digits 9 2)) (lay (digits 18 2)) (casting (digits 18 2) 0) ≡ accepted tt
  -- "Other unequal decimals are 24", and so is any other pair with a decimal
  pub narrowed : build (digits 18 2) (digits 9 2) ≡ refused_at 24 0
  pub other-scale : build (digits 9 2) (digits 18 3) ≡ refused_at 24 0
  pub from_integer_lem : build int64 (digits 18 0) ≡ refused_at 24 0
  pub to-integer : build (digits 9 0) int64 ≡ refused_at 24 0
  -- null goes NonStrict to a decimal
  pub from_null : build (0 ∷ []) (digits 9 2) ≡ accepted (casting (digits 9 2) 0)
  -- a default
  pub default : defaulted (digits 9 2) below_9 ≡ accepted (pln (1 ∷ 1 ∷ 0x74 ∷ (digits 9 2 ++ below_9)))
  -- "In a defaults table the faults of 50 and 52 are 3,
  pub default_precision : defaulted (digits 0 2) below_9 ≡ refused_at 3 3
  pub default_large : defaulted (digits 9 2) large_9 ≡ refused_at 3 3
  -- in a plan 30"
  pub plan-precision : check_plan_of (lay (digits 9 2)) (lay (digits 18 2)) (casting (digits 19 2) 0) ≡ refused_at 30 0
  pub plan_large : check_plan_of (lay (digits 9 2)) (lay (digits 9 2)) (pln (1 ∷ 1 ∷ 0x74 ∷ (digits 9 2 ++ large_9))) ≡ refused_at 30 0

pub decimals : Decimals
unfolding built read checked ran recorded marking check_plan_of run_plan read_plan decimal_params decimal_head decimals_of decimal within_precision record_number
    place_of is_in
decimals =
    record {
      smallest = refl;
      largest = refl;
      precision_0 = refl;
      precision_19 = refl;
      scale-over = refl;
      no_scale = refl;
      place_incoming = refl;
      place_target = refl;
      fits = refl;
      fits_negative = refl;
      too_large = refl;
      too_large_negative = refl;
      early_end = refl;
      widened = refl;
      widened-run = refl;
      widened_large = refl;
      not_widened = refl;
      widening_checked = refl;
      narrowed = refl;
      other-scale = refl;
      from_integer_lem = refl;
      to-integer = refl;
      from_null = refl;
      default = refl;
      default_precision = refl;
      default_large = refl;
      plan-precision = refl;
      plan_large = refl;
    }
