-- Document 02, L6: "two policies where the second allows all that the first allows (flags on, Insert above Raise,
-- Ignore above Raise)".
use Rattle.std.specs.Prelude.{ℕ, ◌<◌, ◌≡◌, Bool, true}
use Rattle.rules.specs.declared.policy.Policy.{Policy}
use Rattle.rules.specs.declared.policy.MissingColumnsPolicy.TheVariants.{Insert}
use Rattle.rules.specs.declared.policy.ExtraColumnsPolicy.TheVariants.{Ignore}
use Rattle.rules.specs.Policies.{bit}

-- where a is on, b is on
infixr 5 ◌⇒◌
abbrev pub ◌⇒◌ : Bool → Bool → Type 0
a ⇒ b = a ≡ true → b ≡ true

-- `Allows p q`: q allows all that p allows; a line for each field of a policy, in their order
pub record Allows (p q : Policy) : Type 0 where
  pub null_upcast_of : p.null_upcast ⇒ q.null_upcast
  pub integer_upcast_of : p.integer_upcast ⇒ q.integer_upcast
  pub float_upcast_of : p.float_upcast ⇒ q.float_upcast
  pub float_downcast_of : p.float_downcast ⇒ q.float_downcast
  pub integer_to_float-cast : p.integer_to_float_cast ⇒ q.integer_to_float_cast
  pub datetime-convert_timezone : p.datetime_convert_timezone ⇒ q.datetime_convert_timezone
  pub datetime_nanoseconds_downcast_of : p.datetime_nanoseconds_downcast ⇒ q.datetime_nanoseconds_downcast
  pub datetime_microseconds_downcast_of : p.datetime_microseconds_downcast ⇒ q.datetime_microseconds_downcast
  pub datetime_microseconds_upcast_of : p.datetime_microseconds_upcast ⇒ q.datetime_microseconds_upcast
  pub datetime_milliseconds_upcast_of : p.datetime_milliseconds_upcast ⇒ q.datetime_milliseconds_upcast
  pub categorical-to-string : p.categorical_to_string ⇒ q.categorical_to_string
  pub missing-struct_fields : p.missing_struct_fields ≡ Insert → q.missing_struct_fields ≡ Insert
  pub extra_struct_fields_of : p.extra_struct_fields ≡ Ignore → q.extra_struct_fields ≡ Ignore
  pub missing-columns : p.missing_columns ≡ Insert → q.missing_columns ≡ Insert
  pub decimal_widening_of : p.decimal_widening ⇒ q.decimal_widening
  pub extra_columns_of : p.extra_columns ≡ Ignore → q.extra_columns ≡ Ignore

-- the same of two words: each bit with a meaning that is on in a is on in b
abbrev pub BitsAmong : ℕ → ℕ → Type 0
BitsAmong a b = (k : ℕ) → k < 16 → bit k a ⇒ bit k b
