-- Document 02, L5: a table of cases beside S1 to S12, over bytes, computed from the definitions that the exported
-- calls' contracts cite. Assumes nothing.
use Prim.Native.Nat.{ℕ}
use mathlib.Core.Path.{◌≡◌, refl}
use mathlib.Core.List.{[], ◌∷◌, ◌++◌}
use Rattle.layout.specs.Bytes.{Bytes}
use Rattle.values.specs.Record.{record_number}
use Rattle.plan.specs.Result.{Answer, accepted, refused_at}
use Rattle.plan.specs.Calls.{read_plan, check_plan_of, run_plan}
use Rattle.plan.proofs.Samples.{read, checked, ran, recorded}
use Rattle.matching.specs.Calls.{build_by_number}
use Rattle.matching.proofs.Samples.{built}
use Rattle.demands.specs.Refusals.{is_in, place_of}
use Rattle.demands.proofs.TableOfCases.{marking, on, pln}
use Rattle.demands.proofs.Decimals.{shown}

-- a layout of version 3 with n columns; a column of the id i and the mark r, all named t
abbrev lay3 : ℕ → Bytes → Bytes
lay3 n cs = 0x4C ∷ 0x41 ∷ 0x59 ∷ 3 ∷ 0 ∷ n ∷ 0 ∷ cs

abbrev col : ℕ → ℕ → Bytes → Bytes
col i r t = 1 ∷ 0x74 ∷ i ∷ 0 ∷ 0 ∷ 0 ∷ r ∷ t

-- one int8 column, optional or required
abbrev int8 : ℕ → Bytes
int8 r = lay3 1 (col 1 r (2 ∷ []))

abbrev building : Bytes → Bytes → Answer Bytes
building a b = build_by_number on 0 0 a b (0x44 ∷ 0x45 ∷ 0x46 ∷ 1 ∷ 0 ∷ 0 ∷ 0 ∷ []) 1000

-- the bare position 0; a constant 7 of int8, and a null one, named t
abbrev bare : Bytes
bare = pln (0 ∷ 0 ∷ 0 ∷ [])

abbrev seven : Bytes
seven = pln (1 ∷ 1 ∷ 0x74 ∷ 2 ∷ 1 ∷ 7 ∷ [])

abbrev nothing : Bytes
nothing = pln (1 ∷ 1 ∷ 0x74 ∷ 2 ∷ 0 ∷ [])

-- two int8 columns of the ids 1 and 2; the second is required
abbrev twice : Bytes
twice = lay3 2 (col 1 0 (2 ∷ col 2 1 (2 ∷ [])))

pub record Marks : Type 0 where
  -- 54 and 55 of the second column: the place is 0
  pub missing-place : shown (building (lay3 1 (col 1 0 (2 ∷ []))) twice) ≡ refused_at 54 0
  pub optional-place : shown (building (lay3 2 (col 1 0 (2 ∷ col 2 0 (2 ∷ [])))) twice) ≡ refused_at 55 0
  -- "a position has its column's mark"
  pub required-position : check_plan_of (int8 1) (int8 1) bare ≡ accepted tt
  pub optional-position : check_plan_of (int8 0) (int8 1) bare ≡ refused_at 55 0
  -- version 2 has no marks: "Older columns count as optional"
  pub older_position : check_plan_of (0x4C ∷ 0x41 ∷ 0x59 ∷ 2 ∷ 0 ∷ 1 ∷ 0 ∷ 1 ∷ 0x74 ∷ 1 ∷ 0 ∷ 0 ∷ 0 ∷ 2 ∷ []) (int8 1) bare ≡ refused_at 55 0
  -- "a constant .. counts as required at each place where none of the values it has there is null"
  pub constant : check_plan_of (int8 0) (int8 1) seven ≡ accepted tt
  pub null-constant : check_plan_of (int8 0) (int8 1) nothing ≡ refused_at 55 0
  -- "after 33"
  pub differs-first : check_plan_of (int8 0) (lay3 1 (col 1 1 (3 ∷ []))) bare ≡ refused_at 33 0
  -- "56 when a record has null in a required field"; a run makes all of the check first
  pub null-required : run_plan (int8 1) (int8 0) bare (0 ∷ []) 100 ≡ refused_at 56 0
  pub null-optional : run_plan (int8 0) (int8 0) bare (0 ∷ []) 100 ≡ accepted (0 ∷ [])
  pub checked-first : run_plan (int8 0) (int8 1) bare [] 100 ≡ refused_at 55 0
  -- "in byte order": a presence byte over 1 is 41, bytes that end are 40
  pub bad_presence : run_plan (int8 1) (int8 1) bare (2 ∷ []) 100 ≡ refused_at 41 0
  pub no_presence : run_plan (int8 1) (int8 1) bare [] 100 ≡ refused_at 40 0
  -- .. and of a required null-type column 0 is 56, 1 is 41
  pub null-type : run_plan (lay3 1 (col 1 1 (0 ∷ []))) (lay3 1 (col 1 0 (0 ∷ []))) bare (0 ∷ []) 100 ≡ refused_at 56 0
  pub null-type-present : run_plan (lay3 1 (col 1 1 (0 ∷ []))) (lay3 1 (col 1 0 (0 ∷ []))) bare (1 ∷ []) 100 ≡ refused_at 41 0

pub marks : Marks
unfolding built read checked ran recorded marking check_plan_of run_plan read_plan record_number place_of is_in
marks =
    record {
      missing-place = refl;
      optional-place = refl;
      required-position = refl;
      optional-position = refl;
      older_position = refl;
      constant = refl;
      null-constant = refl;
      differs-first = refl;
      null-required = refl;
      null-optional = refl;
      checked-first = refl;
      bad_presence = refl;
      no_presence = refl;
      null-type = refl;
      null-type-present = refl;
    }
