-- Document 02, L6: what a loosened policy keeps and what not, computed from the definitions over bytes. Only what is
-- accepted stays: a refusal may change its number and its place, or become a plan. Assumes nothing.
use Prim.Native.Nat.{ℕ}
use mathlib.Core.Path.{◌≡◌, refl}
use mathlib.Core.List.{[], ◌∷◌}
use Rattle.layout.specs.Bytes.{Bytes}
use Rattle.rules.specs.Policies.{policy_of}
use Rattle.plan.specs.Result.{Answer, accepted, refused_at}
use Rattle.matching.specs.Calls.{build_by_name, build_by_number}
use Rattle.matching.proofs.Samples.{built}
use Rattle.demands.proofs.TableOfCases.{lay, casting}

-- every flag on; all but integer_upcast; all but missing_columns; all but this and
-- extra_columns; integer_upcast and extra_columns alone
abbrev all : ℕ
all = 65535

abbrev no_upcast : ℕ
no_upcast = 65533

abbrev raising : ℕ
raising = 57343

abbrev strict : ℕ
strict = 24575

abbrev upcast : ℕ
upcast = 32770

abbrev build : ℕ → Bytes → Bytes → Answer Bytes
build word incoming target = build_by_name (policy_of word) incoming target 1000

-- a layout of two columns, s and t, both strings
abbrev strings : Bytes
strings = 0x4C ∷ 0x41 ∷ 0x59 ∷ 1 ∷ 0 ∷ 2 ∷ 0 ∷ 1 ∷ 0x73 ∷ 15 ∷ 1 ∷ 0x74 ∷ 15 ∷ []

-- a layout of one column s, an int32
abbrev other : Bytes
other = 0x4C ∷ 0x41 ∷ 0x59 ∷ 1 ∷ 0 ∷ 1 ∷ 0 ∷ 1 ∷ 0x73 ∷ 4 ∷ []

-- a build by number of a column that is missing, whose partition entry failed to load
abbrev failed : ℕ → Answer Bytes
failed word =
    build_by_number (policy_of word) 0 0 (0x4C ∷ 0x41 ∷ 0x59 ∷ 2 ∷ 0 ∷ 0 ∷ 0 ∷ []) (0x4C ∷ 0x41 ∷ 0x59 ∷ 2 ∷ 0 ∷ 1 ∷ 0 ∷ 1 ∷ 0x74 ∷ 1 ∷ 0 ∷ 0 ∷ 0 ∷ 4 ∷ [])
    (0x44 ∷ 0x45 ∷ 0x46 ∷ 1 ∷ 0 ∷ 1 ∷ 0 ∷ 1 ∷ 0 ∷ 0 ∷ 0 ∷ 1 ∷ 1 ∷ []) 1000

pub record Loosenings : Type 0 where
  -- a refusal may change its number: uint32 to int32 without integer_upcast and with it
  pub number-before : build no_upcast (lay (8 ∷ [])) (lay (4 ∷ [])) ≡ refused_at 16 0
  pub number-after : build all (lay (8 ∷ [])) (lay (4 ∷ [])) ≡ refused_at 17 0
  -- and its place: a missing column, then a date that would be a string, under Raise and under Insert
  pub place-before : build raising (lay (13 ∷ [])) strings ≡ refused_at 11 0
  pub place_after : build all (lay (13 ∷ [])) strings ≡ refused_at 24 1
  -- a column of another name is an extra one, under Raise, and then a missing one
  pub extra_before : build strict (lay (4 ∷ [])) other ≡ refused_at 53 0
  pub extra_after : build raising (lay (4 ∷ [])) other ≡ refused_at 11 0
  -- by number too
  pub default_before : failed raising ≡ refused_at 11 0
  pub default_after : failed all ≡ refused_at 26 0
  -- a refusal may become a plan: int32 to int64
  pub plan-before : build no_upcast (lay (4 ∷ [])) (lay (5 ∷ [])) ≡ refused_at 16 0
  pub plan_after : build all (lay (4 ∷ [])) (lay (5 ∷ [])) ≡ accepted (casting (5 ∷ []) 2)
  -- a plan stays
  pub kept-before : build upcast (lay (4 ∷ [])) (lay (5 ∷ [])) ≡ accepted (casting (5 ∷ []) 2)
  pub kept-after : build all (lay (4 ∷ [])) (lay (5 ∷ [])) ≡ accepted (casting (5 ∷ []) 2)

pub loosenings : Loosenings
unfolding built
loosenings =
    record {
      number-before = refl;
      number-after = refl;
      place-before = refl;
      place_after = refl;
      extra_before = refl;
      extra_after = refl;
      default_before = refl;
      default_after = refl;
      plan-before = refl;
      plan_after = refl;
      kept-before = refl;
      kept-after = refl;
    }
