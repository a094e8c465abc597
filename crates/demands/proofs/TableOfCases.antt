-- Document 01, "Samples for the table of cases": S1 to S12, over bytes, each computed from the definitions that the
-- exported calls' contracts cite. Assumes nothing.
use Prim.Native.Nat.{ℕ}
use mathlib.Core.Path.{◌≡◌, refl}
use mathlib.Core.List.{[], ◌∷◌, ◌++◌}
use Rattle.layout.specs.Bytes.{Bytes}
use Rattle.rules.specs.declared.policy.Policy.{Policy}
use Rattle.rules.specs.Policies.{policy_of}
use Rattle.numeric.specs.Rounding.{rounded}
use Rattle.numeric.specs.Floats.{from_integer, integer_to_float}
use Rattle.layout.specs.Tree.{Columns}
use Rattle.values.specs.Value.{Values}
use Rattle.values.specs.Filled.{required_of}
use Rattle.values.specs.Marked.{presence_marked, nullable_marked, content_marked, values_marked}
use Rattle.values.specs.Record.{record_marked_from, record_marked}
use Rattle.plan.specs.Result.{Answer, accepted, refused_at, answered}
use Rattle.plan.specs.Selector.{Selectors}
use Rattle.plan.specs.Nullness.{nullness_at, join_place, join, join_all, of_value, of_fields, of_elements, nullness_of, nullnesses_of}
use Rattle.plan.specs.Marks.{allowed, given, givens, meets, meets_all, check_marked}
use Rattle.plan.specs.Calls.{read_at_of, read_plan, check_plan_of, run_plan}
use Rattle.plan.proofs.Samples.{read, checked, ran, recorded}
use Rattle.matching.specs.Calls.{build_by_name}
use Rattle.matching.proofs.Samples.{built}

-- opens the definitions of required marks (document 02, L5)
unfoldable pub marking : Columns → Columns → Selectors → Bytes → Answer Values
unfolding check_marked allowed given givens meets meets_all nullness_of nullnesses_of nullness_at of_value of_fields of_elements join_place join join_all record_marked
    record_marked_from values_marked content_marked nullable_marked presence_marked
marking Γ Δ ss rec = answered (check_marked Γ Δ ss) (λ u. read_at_of 0 (record_marked required_of Γ rec) (λ ρ. accepted ρ))

-- every flag on, Insert and Ignore
abbrev pub on : Policy
on = policy_of 65535

-- a layout of one column t, and a plan of one selector
abbrev pub lay : Bytes → Bytes
lay t = 0x4C ∷ 0x41 ∷ 0x59 ∷ 1 ∷ 0 ∷ 1 ∷ 0 ∷ 1 ∷ 0x74 ∷ t

abbrev pub pln : Bytes → Bytes
pln s = 0x50 ∷ 0x4C ∷ 0x4E ∷ 1 ∷ 0 ∷ 1 ∷ 0 ∷ s

-- position 0 cast to a type with an option
abbrev pub casting : Bytes → ℕ → Bytes
casting t o = pln (2 ∷ 0 ∷ 0 ∷ 0 ∷ (t ++ (o ∷ [])))

abbrev pub build : Bytes → Bytes → Answer Bytes
build t u = build_by_name on (lay t) (lay u) 1000

-- a run of the cast from one type to another over one record
abbrev pub run : Bytes → Bytes → ℕ → Bytes → Answer Bytes
run t u o r = run_plan (lay t) (lay u) (casting u o) r 1000

-- the types of the samples
abbrev int32 : Bytes
int32 = 4 ∷ []

abbrev pub int64 : Bytes
int64 = 5 ∷ []

abbrev uint16 : Bytes
uint16 = 7 ∷ []

abbrev uint32 : Bytes
uint32 = 8 ∷ []

abbrev float16 : Bytes
float16 = 10 ∷ []

abbrev float32 : Bytes
float32 = 11 ∷ []

abbrev ms : Bytes
ms = 14 ∷ 2 ∷ 0 ∷ []

abbrev ns : Bytes
ns = 14 ∷ 0 ∷ 0 ∷ []

abbrev µs : Bytes
µs = 14 ∷ 1 ∷ 0 ∷ []

abbrev µs_utc : Bytes
µs_utc = 14 ∷ 1 ∷ 3 ∷ 0x55 ∷ 0x54 ∷ 0x43 ∷ []

pub record Samples : Type 0 where
  -- S1 (policy all on, Insert): the plan
  pub s1_built : build_by_name on (0x4C ∷ 0x41 ∷ 0x59 ∷ 0x01 ∷ 0x00 ∷ 0x01 ∷ 0x00 ∷ 0x01 ∷ 0x74 ∷ 0x03 ∷ [])
      (0x4C ∷ 0x41 ∷ 0x59 ∷ 0x01 ∷ 0x00 ∷ 0x02 ∷ 0x00 ∷ 0x01 ∷ 0x74 ∷ 0x04 ∷ 0x01 ∷ 0x73 ∷ 0x0F ∷ []) 18
      ≡ accepted (0x50 ∷ 0x4C ∷ 0x4E ∷ 0x01 ∷ 0x00 ∷ 0x02 ∷ 0x00 ∷ 0x02 ∷ 0x00 ∷ 0x00 ∷ 0x00 ∷ 0x04 ∷ 0x02 ∷ 0x01 ∷ 0x01 ∷ 0x73 ∷ 0x0F ∷ 0x00 ∷ [])
  -- and its run
  pub s1_run : run_plan (0x4C ∷ 0x41 ∷ 0x59 ∷ 0x01 ∷ 0x00 ∷ 0x01 ∷ 0x00 ∷ 0x01 ∷ 0x74 ∷ 0x03 ∷ [])
      (0x4C ∷ 0x41 ∷ 0x59 ∷ 0x01 ∷ 0x00 ∷ 0x02 ∷ 0x00 ∷ 0x01 ∷ 0x74 ∷ 0x04 ∷ 0x01 ∷ 0x73 ∷ 0x0F ∷ [])
      (0x50 ∷ 0x4C ∷ 0x4E ∷ 0x01 ∷ 0x00 ∷ 0x02 ∷ 0x00 ∷ 0x02 ∷ 0x00 ∷ 0x00 ∷ 0x00 ∷ 0x04 ∷ 0x02 ∷ 0x01 ∷ 0x01 ∷ 0x73 ∷ 0x0F ∷ 0x00 ∷ [])
      (0x01 ∷ 0xFE ∷ 0xFF ∷ []) 6
      ≡ accepted (0x01 ∷ 0xFE ∷ 0xFF ∷ 0xFF ∷ 0xFF ∷ 0x00 ∷ [])
  -- S2 uint32 to int32: 17
  pub s2 : build uint32 int32 ≡ refused_at 17 0
  -- S3 to int64: cast
  pub s3 : build uint32 int64 ≡ accepted (casting int64 2)
  -- S4 µs without zone to µs UTC: a NonStrict cast, not untouched
  pub s4 : build µs µs_utc ≡ accepted (casting µs_utc 0)
  -- S5 ms 9,223,372,036,854 to ns passes
  pub s5 : run ms ns 1 (0x01 ∷ 0xF6 ∷ 0x5A ∷ 0xD0 ∷ 0x7B ∷ 0x63 ∷ 0x08 ∷ 0x00 ∷ 0x00 ∷ []) ≡ accepted
      (0x01 ∷ 0x80 ∷ 0x29 ∷ 0xF4 ∷ 0xFF ∷ 0xFF ∷ 0xFF ∷ 0xFF ∷ 0x7F ∷ [])
  -- S6 9,223,372,036,855: 44
  pub s6 : run ms ns 1 (0x01 ∷ 0xF7 ∷ 0x5A ∷ 0xD0 ∷ 0x7B ∷ 0x63 ∷ 0x08 ∷ 0x00 ∷ 0x00 ∷ []) ≡ refused_at 44 0
  -- S7 -1 ns to µs: -1
  pub s7 : run ns µs 0 (0x01 ∷ 0xFF ∷ 0xFF ∷ 0xFF ∷ 0xFF ∷ 0xFF ∷ 0xFF ∷ 0xFF ∷ 0xFF ∷ []) ≡ accepted
      (0x01 ∷ 0xFF ∷ 0xFF ∷ 0xFF ∷ 0xFF ∷ 0xFF ∷ 0xFF ∷ 0xFF ∷ 0xFF ∷ [])
  -- S8 int32 16,777,217 to float32: 16,777,216
  pub s8 : run int32 float32 2 (0x01 ∷ 0x01 ∷ 0x00 ∷ 0x00 ∷ 0x01 ∷ []) ≡ accepted (0x01 ∷ 0x00 ∷ 0x00 ∷ 0x80 ∷ 0x4B ∷ [])
  -- S9 uint16 65,519 to float16: 65,504
  pub s9 : run uint16 float16 2 (0x01 ∷ 0xEF ∷ 0xFF ∷ []) ≡ accepted (0x01 ∷ 0xFF ∷ 0x7B ∷ [])
  -- S10 65,520: infinity
  pub s10 : run uint16 float16 2 (0x01 ∷ 0xF0 ∷ 0xFF ∷ []) ≡ accepted (0x01 ∷ 0x00 ∷ 0x7C ∷ [])
  -- S11 an overflow in a dropped field: no 44
  pub s11 : run_plan (lay (0x12 ∷ 0x01 ∷ 0x00 ∷ 0x01 ∷ 0x61 ∷ 0x0E ∷ 0x02 ∷ 0x00 ∷ []))
      (lay (0x12 ∷ 0x01 ∷ 0x00 ∷ 0x01 ∷ 0x61 ∷ 0x0E ∷ 0x02 ∷ 0x00 ∷ [])) (pln (0x04 ∷ 0x04 ∷ 0x00 ∷ 0x00 ∷ 0x00 ∷ 0x02 ∷ 0x00 ∷ 0x02 ∷ 0x00 ∷ 0x00 ∷
      0x00 ∷ 0x0E ∷ 0x00 ∷ 0x00 ∷ 0x01 ∷ 0x00 ∷ 0x00 ∷ 0x00 ∷ 0x01 ∷ 0x00 ∷ 0x00 ∷ 0x01 ∷ 0x00 ∷ []))
      (0x01 ∷ 0x01 ∷ 0xF7 ∷ 0x5A ∷ 0xD0 ∷ 0x7B ∷ 0x63 ∷ 0x08 ∷ 0x00 ∷ 0x00 ∷ []) 100
      ≡ accepted (0x01 ∷ 0x01 ∷ 0xF7 ∷ 0x5A ∷ 0xD0 ∷ 0x7B ∷ 0x63 ∷ 0x08 ∷ 0x00 ∷ 0x00 ∷ [])
  -- S12 array widths 2 and 3: 24
  pub s12 : build (20 ∷ 2 ∷ 0 ∷ 0 ∷ 0 ∷ 3 ∷ []) (20 ∷ 3 ∷ 0 ∷ 0 ∷ 0 ∷ 3 ∷ []) ≡ refused_at 24 0

s1_built-is : build_by_name on (0x4C ∷ 0x41 ∷ 0x59 ∷ 0x01 ∷ 0x00 ∷ 0x01 ∷ 0x00 ∷ 0x01 ∷ 0x74 ∷ 0x03 ∷ [])
    (0x4C ∷ 0x41 ∷ 0x59 ∷ 0x01 ∷ 0x00 ∷ 0x02 ∷ 0x00 ∷ 0x01 ∷ 0x74 ∷ 0x04 ∷ 0x01 ∷ 0x73 ∷ 0x0F ∷ []) 18
    ≡ accepted (0x50 ∷ 0x4C ∷ 0x4E ∷ 0x01 ∷ 0x00 ∷ 0x02 ∷ 0x00 ∷ 0x02 ∷ 0x00 ∷ 0x00 ∷ 0x00 ∷ 0x04 ∷ 0x02 ∷ 0x01 ∷ 0x01 ∷ 0x73 ∷ 0x0F ∷ 0x00 ∷ [])
unfolding built
s1_built-is = refl

s1_run-is : run_plan (0x4C ∷ 0x41 ∷ 0x59 ∷ 0x01 ∷ 0x00 ∷ 0x01 ∷ 0x00 ∷ 0x01 ∷ 0x74 ∷ 0x03 ∷ [])
    (0x4C ∷ 0x41 ∷ 0x59 ∷ 0x01 ∷ 0x00 ∷ 0x02 ∷ 0x00 ∷ 0x01 ∷ 0x74 ∷ 0x04 ∷ 0x01 ∷ 0x73 ∷ 0x0F ∷ [])
    (0x50 ∷ 0x4C ∷ 0x4E ∷ 0x01 ∷ 0x00 ∷ 0x02 ∷ 0x00 ∷ 0x02 ∷ 0x00 ∷ 0x00 ∷ 0x00 ∷ 0x04 ∷ 0x02 ∷ 0x01 ∷ 0x01 ∷ 0x73 ∷ 0x0F ∷ 0x00 ∷ [])
    (0x01 ∷ 0xFE ∷ 0xFF ∷ []) 6
    ≡ accepted (0x01 ∷ 0xFE ∷ 0xFF ∷ 0xFF ∷ 0xFF ∷ 0x00 ∷ [])
unfolding built read checked ran recorded marking check_plan_of run_plan read_plan
s1_run-is = refl

s2_is : build uint32 int32 ≡ refused_at 17 0
unfolding built
s2_is = refl

s3_is : build uint32 int64 ≡ accepted (casting int64 2)
unfolding built
s3_is = refl

s4_is : build µs µs_utc ≡ accepted (casting µs_utc 0)
unfolding built
s4_is = refl

s5_is : run ms ns 1 (0x01 ∷ 0xF6 ∷ 0x5A ∷ 0xD0 ∷ 0x7B ∷ 0x63 ∷ 0x08 ∷ 0x00 ∷ 0x00 ∷ []) ≡ accepted
    (0x01 ∷ 0x80 ∷ 0x29 ∷ 0xF4 ∷ 0xFF ∷ 0xFF ∷ 0xFF ∷ 0xFF ∷ 0x7F ∷ [])
unfolding built read checked ran recorded marking check_plan_of run_plan read_plan
s5_is = refl

s6_is : run ms ns 1 (0x01 ∷ 0xF7 ∷ 0x5A ∷ 0xD0 ∷ 0x7B ∷ 0x63 ∷ 0x08 ∷ 0x00 ∷ 0x00 ∷ []) ≡ refused_at 44 0
unfolding built read checked ran recorded marking check_plan_of run_plan read_plan
s6_is = refl

s7_is : run ns µs 0 (0x01 ∷ 0xFF ∷ 0xFF ∷ 0xFF ∷ 0xFF ∷ 0xFF ∷ 0xFF ∷ 0xFF ∷ 0xFF ∷ []) ≡ accepted
    (0x01 ∷ 0xFF ∷ 0xFF ∷ 0xFF ∷ 0xFF ∷ 0xFF ∷ 0xFF ∷ 0xFF ∷ 0xFF ∷ [])
unfolding built read checked ran recorded marking check_plan_of run_plan read_plan
s7_is = refl

s8_is : run int32 float32 2 (0x01 ∷ 0x01 ∷ 0x00 ∷ 0x00 ∷ 0x01 ∷ []) ≡ accepted (0x01 ∷ 0x00 ∷ 0x00 ∷ 0x80 ∷ 0x4B ∷ [])
unfolding built read checked ran recorded marking check_plan_of run_plan read_plan integer_to_float from_integer rounded
s8_is = refl

s9_is : run uint16 float16 2 (0x01 ∷ 0xEF ∷ 0xFF ∷ []) ≡ accepted (0x01 ∷ 0xFF ∷ 0x7B ∷ [])
unfolding built read checked ran recorded marking check_plan_of run_plan read_plan integer_to_float from_integer rounded
s9_is = refl

s10_is : run uint16 float16 2 (0x01 ∷ 0xF0 ∷ 0xFF ∷ []) ≡ accepted (0x01 ∷ 0x00 ∷ 0x7C ∷ [])
unfolding built read checked ran recorded marking check_plan_of run_plan read_plan integer_to_float from_integer rounded
s10_is = refl

s11_is : run_plan (lay (0x12 ∷ 0x01 ∷ 0x00 ∷ 0x01 ∷ 0x61 ∷ 0x0E ∷ 0x02 ∷ 0x00 ∷ [])) (lay (0x12 ∷ 0x01 ∷ 0x00 ∷ 0x01 ∷ 0x61 ∷ 0x0E ∷ 0x02 ∷ 0x00 ∷ []))
    (pln (0x04 ∷ 0x04 ∷ 0x00 ∷ 0x00 ∷ 0x00 ∷ 0x02 ∷ 0x00 ∷ 0x02 ∷ 0x00 ∷ 0x00 ∷ 0x00 ∷ 0x0E ∷ 0x00 ∷ 0x00 ∷ 0x01 ∷ 0x00 ∷ 0x00 ∷ 0x00 ∷ 0x01 ∷ 0x00 ∷
    0x00 ∷ 0x01 ∷ 0x00 ∷ [])) (0x01 ∷ 0x01 ∷ 0xF7 ∷ 0x5A ∷ 0xD0 ∷ 0x7B ∷ 0x63 ∷ 0x08 ∷ 0x00 ∷ 0x00 ∷ []) 100
    ≡ accepted (0x01 ∷ 0x01 ∷ 0xF7 ∷ 0x5A ∷ 0xD0 ∷ 0x7B ∷ 0x63 ∷ 0x08 ∷ 0x00 ∷ 0x00 ∷ [])
unfolding built read checked ran recorded marking check_plan_of run_plan read_plan
s11_is = refl

s12_is : build (20 ∷ 2 ∷ 0 ∷ 0 ∷ 0 ∷ 3 ∷ []) (20 ∷ 3 ∷ 0 ∷ 0 ∷ 0 ∷ 3 ∷ []) ≡ refused_at 24 0
unfolding built
s12_is = refl

pub samples : Samples
samples = record {
  s1_built = s1_built-is;
  s1_run = s1_run-is;
  s2 = s2_is;
  s3 = s3_is;
  s4 = s4_is;
  s5 = s5_is;
  s6 = s6_is;
  s7 = s7_is;
  s8 = s8_is;
  s9 = s9_is;
  s10 = s10_is;
  s11 = s11_is;
  s12 = s12_is;
}
