-- `Allows` of policies and of words. Assumes nothing.
use Prim.Native.Nat.{ℕ}
use mathlib.Core.Path.{◌≡◌, refl, sym}
use mathlib.Core.Bool.{Bool, true, false}
use native.Mathlib.Omega.{arith}
use Rattle.rules.specs.declared.policy.Policy.{Policy}
use Rattle.rules.specs.declared.policy.MissingColumnsPolicy.{MissingColumnsPolicy}
use Rattle.rules.specs.declared.policy.MissingColumnsPolicy.TheVariants.{Insert}
use Rattle.rules.specs.declared.policy.ExtraColumnsPolicy.{ExtraColumnsPolicy}
use Rattle.rules.specs.declared.policy.ExtraColumnsPolicy.TheVariants.{Ignore}
use Rattle.rules.specs.Policies.{bit, insert_if, ignore_if, policy_of, all_on}
use Rattle.rules.specs.Allows.{◌⇒◌, Allows, BitsAmong}

-- ---- no flag is left out: two policies that allow the same are equal

same_flag : (a b : Bool) → (a ⇒ b) → (b ⇒ a) → a ≡ b
same_flag true b h g = sym (h refl)
same_flag false true h g = g refl
same_flag false false h g = refl

same-missing : (a b : MissingColumnsPolicy) → (a ≡ Insert → b ≡ Insert) → (b ≡ Insert → a ≡ Insert) → a ≡ b
same-missing MissingColumnsPolicy.Insert b h g = sym (h refl)
same-missing MissingColumnsPolicy.Raise MissingColumnsPolicy.Insert h g = g refl
same-missing MissingColumnsPolicy.Raise MissingColumnsPolicy.Raise h g = refl

same_extra : (a b : ExtraColumnsPolicy) → (a ≡ Ignore → b ≡ Ignore) → (b ≡ Ignore → a ≡ Ignore) → a ≡ b
same_extra ExtraColumnsPolicy.Ignore b h g = sym (h refl)
same_extra ExtraColumnsPolicy.Raise ExtraColumnsPolicy.Ignore h g = g refl
same_extra ExtraColumnsPolicy.Raise ExtraColumnsPolicy.Raise h g = refl

pub allows_same : {p q : Policy} → Allows p q → Allows q p → p ≡ q
allows_same A B i =
    record {
      null_upcast = same_flag _ _ A.null_upcast_of B.null_upcast_of i;
      integer_upcast = same_flag _ _ A.integer_upcast_of B.integer_upcast_of i;
      float_upcast = same_flag _ _ A.float_upcast_of B.float_upcast_of i;
      float_downcast = same_flag _ _ A.float_downcast_of B.float_downcast_of i;
      integer_to_float_cast = same_flag _ _ A.integer_to_float-cast B.integer_to_float-cast i;
      datetime_convert_timezone = same_flag _ _ A.datetime-convert_timezone B.datetime-convert_timezone i;
      datetime_nanoseconds_downcast = same_flag _ _ A.datetime_nanoseconds_downcast_of B.datetime_nanoseconds_downcast_of i;
      datetime_microseconds_downcast = same_flag _ _ A.datetime_microseconds_downcast_of B.datetime_microseconds_downcast_of i;
      datetime_microseconds_upcast = same_flag _ _ A.datetime_microseconds_upcast_of B.datetime_microseconds_upcast_of i;
      datetime_milliseconds_upcast = same_flag _ _ A.datetime_milliseconds_upcast_of B.datetime_milliseconds_upcast_of i;
      categorical_to_string = same_flag _ _ A.categorical-to-string B.categorical-to-string i;
      missing_struct_fields = same-missing _ _ A.missing-struct_fields B.missing-struct_fields i;
      extra_struct_fields = same_extra _ _ A.extra_struct_fields_of B.extra_struct_fields_of i;
      missing_columns = same-missing _ _ A.missing-columns B.missing-columns i;
      decimal_widening = same_flag _ _ A.decimal_widening_of B.decimal_widening_of i;
      extra_columns = same_extra _ _ A.extra_columns_of B.extra_columns_of i;
    }

-- ---- no policy allows more than the one with every flag on

pub all_on_allows : (p : Policy) → Allows p all_on
all_on_allows p =
    record {
      null_upcast_of = λ e. refl;
      integer_upcast_of = λ e. refl;
      float_upcast_of = λ e. refl;
      float_downcast_of = λ e. refl;
      integer_to_float-cast = λ e. refl;
      datetime-convert_timezone = λ e. refl;
      datetime_nanoseconds_downcast_of = λ e. refl;
      datetime_microseconds_downcast_of = λ e. refl;
      datetime_microseconds_upcast_of = λ e. refl;
      datetime_milliseconds_upcast_of = λ e. refl;
      categorical-to-string = λ e. refl;
      missing-struct_fields = λ e. refl;
      extra_struct_fields_of = λ e. refl;
      missing-columns = λ e. refl;
      decimal_widening_of = λ e. refl;
      extra_columns_of = λ e. refl;
    }

-- ---- the policies of two words

insert_bit : (a b : Bool) → (a ⇒ b) → insert_if a ≡ Insert → insert_if b ≡ Insert
insert_bit true b h e = rw (h refl)
insert_bit false true h e = refl
insert_bit false false h e = e

ignore_bit : (a b : Bool) → (a ⇒ b) → ignore_if a ≡ Ignore → ignore_if b ≡ Ignore
ignore_bit true b h e = rw (h refl)
ignore_bit false true h e = refl
ignore_bit false false h e = e

pub words_allow : (a b : ℕ) → BitsAmong a b → Allows (policy_of a) (policy_of b)
words_allow a b h =
    record {
      null_upcast_of = h 0 (omega arith);
      integer_upcast_of = h 1 (omega arith);
      float_upcast_of = h 2 (omega arith);
      float_downcast_of = h 3 (omega arith);
      integer_to_float-cast = h 4 (omega arith);
      datetime-convert_timezone = h 5 (omega arith);
      datetime_nanoseconds_downcast_of = h 6 (omega arith);
      datetime_microseconds_downcast_of = h 7 (omega arith);
      datetime_microseconds_upcast_of = h 8 (omega arith);
      datetime_milliseconds_upcast_of = h 9 (omega arith);
      categorical-to-string = h 10 (omega arith);
      missing-struct_fields = insert_bit (bit 11 a) (bit 11 b) (h 11 (omega arith));
      extra_struct_fields_of = ignore_bit (bit 12 a) (bit 12 b) (h 12 (omega arith));
      missing-columns = insert_bit (bit 13 a) (bit 13 b) (h 13 (omega arith));
      decimal_widening_of = h 14 (omega arith);
      extra_columns_of = ignore_bit (bit 15 a) (bit 15 b) (h 15 (omega arith));
    }
