-- The policy word of the interface: bit k stands for the k-th field, 1 allows (Insert, Ignore). Other bits have no
-- meaning.
use Rattle.std.specs.Prelude.{ℕ, ◌^◌, ◌/◌, ◌%◌, Bool, true, eqb}
use Rattle.rules.specs.declared.policy.Policy.{Policy}
use Rattle.rules.specs.declared.policy.MissingColumnsPolicy.{MissingColumnsPolicy}
use Rattle.rules.specs.declared.policy.ExtraColumnsPolicy.{ExtraColumnsPolicy}
use Rattle.rules.specs.code.Choice.{when◌then◌else◌}

abbrev pub bit : ℕ → ℕ → Bool
bit k word = eqb (word / 2 ^ k % 2) 1

abbrev pub insert_if : Bool → MissingColumnsPolicy
insert_if b = when b then MissingColumnsPolicy.Insert else MissingColumnsPolicy.Raise

abbrev pub ignore_if : Bool → ExtraColumnsPolicy
ignore_if b = when b then ExtraColumnsPolicy.Ignore else ExtraColumnsPolicy.Raise

abbrev pub policy_of : ℕ → Policy
policy_of word =
    record {
      null_upcast = bit 0 word;
      integer_upcast = bit 1 word;
      float_upcast = bit 2 word;
      float_downcast = bit 3 word;
      integer_to_float_cast = bit 4 word;
      datetime_convert_timezone = bit 5 word;
      datetime_nanoseconds_downcast = bit 6 word;
      datetime_microseconds_downcast = bit 7 word;
      datetime_microseconds_upcast = bit 8 word;
      datetime_milliseconds_upcast = bit 9 word;
      categorical_to_string = bit 10 word;
      missing_struct_fields = insert_if (bit 11 word);
      extra_struct_fields = ignore_if (bit 12 word);
      missing_columns = insert_if (bit 13 word);
      decimal_widening = bit 14 word;
      extra_columns = ignore_if (bit 15 word);
    }

-- the policy with every flag on, with which the check judges a cast
abbrev pub all_on : Policy
all_on =
    record {
      null_upcast = true;
      integer_upcast = true;
      float_upcast = true;
      float_downcast = true;
      integer_to_float_cast = true;
      datetime_convert_timezone = true;
      datetime_nanoseconds_downcast = true;
      datetime_microseconds_downcast = true;
      datetime_microseconds_upcast = true;
      datetime_milliseconds_upcast = true;
      categorical_to_string = true;
      missing_struct_fields = MissingColumnsPolicy.Insert;
      extra_struct_fields = ExtraColumnsPolicy.Ignore;
      missing_columns = MissingColumnsPolicy.Insert;
      decimal_widening = true;
      extra_columns = ExtraColumnsPolicy.Ignore;
    }
