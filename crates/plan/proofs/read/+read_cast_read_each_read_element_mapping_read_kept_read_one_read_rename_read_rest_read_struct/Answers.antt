-- The proof of the cycle of calls that reads selectors: each way has its law in `Moves`. The measure is 4 for each
-- level left. Assumes nothing.
use Rattle.plan.proofs.Moves.{array-to, array-stopped, list-to, list-stopped, cast_to, cast_untyped, cast-stopped, rename-to, rename-stopped, struct-to, struct_uncounted, struct-stopped, rest-position, rest-constant, rest-cast, rest-rename, rest-struct, rest-element, rest_unknown, selector-deep, selector-to, selector-stopped, selector-position, passing_position, passing_none, passing_all, passing-stopped, passing-more}
use Rattle.plan.proofs.Skipping.{pass-none, pass-read}
use native.Mathlib.Omega.{arith}
use mathlib.Core.Path.{◌∙◌, refl, sym}
use borrow.Author.Rules.{rules}
use Rattle.plan.proofs.read.+read_cast_read_each_read_element_mapping_read_kept_read_one_read_rename_read_rest_read_struct.Goals as goal

pub read_cast-returns-in-To-read_data_type : goal.read_cast-returns-in-To-read_data_type
read_cast-returns-in-To-read_data_type t c =
    record { value = search cast_to; skips = search rules }

pub read_cast-returns-in-Refused-read_data_type : goal.read_cast-returns-in-Refused-read_data_type
read_cast-returns-in-Refused-read_data_type t c =
    record { value = search cast_untyped; skips = search rules }

pub read_cast-returns-in-Refused : goal.read_cast-returns-in-Refused
read_cast-returns-in-Refused t c =
    record { value = search cast-stopped; skips = search rules }

pub read_each-loop-i-init : goal.read_each-loop-i-init
read_each-loop-i-init t c =
    (passing_none _ _ _ _, pass-none _, omega arith, c.requires.1, refl)

pub read_each-overflow_add-e : goal.read_each-overflow_add-e
read_each-overflow_add-e t c =
    let h = c.is_position.ensures c.if-is_position.true in search rules

pub read_each-keep_passed-since-requires : goal.read_each-keep_passed-since-requires
read_each-keep_passed-since-requires t c =
    let (P, S, n, T, l) = c.loop-i.invariant in let h = c.is_position.ensures c.if-is_position.true in record {
      skips = (T, S, selector-position _ _ _ h);
      count_bound = omega (
        arith,
        n,
        c.loop-i-test.true,
        c.ranges.n,
      );
    }

pub read_each-loop-i-preserved-then-is_position : goal.read_each-loop-i-preserved-then-is_position
read_each-loop-i-preserved-then-is_position t c =
    let (P, S, n, T, l) = c.loop-i.invariant in
    let h = c.is_position.ensures c.if-is_position.true in (
      passing_position P c.loop-i-test.true h,
      c.keep_passed-since.ensures.skips_2.1,
      omega (arith, n, c.keep_passed-since.ensures.count_bound_2.0),
      c.keep_passed-since.ensures.skips_2.0,
      c.keep_passed-since.ensures.count_bound_2.1
          ∙ l,
    )

pub read_each-keep_passed-since-requires-in-To : goal.read_each-keep_passed-since-requires-in-To
read_each-keep_passed-since-requires-in-To t c =
    let (P, S, n, T, l) = c.loop-i.invariant in record {
      skips = (c.read_one.ensures.skips.0, S, sym c.in-To.is ∙ c.read_one.ensures.value);
      count_bound = omega (
        arith,
        n,
        c.loop-i-test.true,
        c.ranges.n,
      );
    }

pub read_each-loop-i-preserved : goal.read_each-loop-i-preserved
read_each-loop-i-preserved t c =
    let (P, S, n, T, l) = c.loop-i.invariant in (
      passing-more _ _ _ _ P c.loop-i-test.true c.read_one.ensures.value c.in-To.is,
      c.keep_passed-since-in-To.ensures.skips_2.1,
      omega (arith, n, c.keep_passed-since-in-To.ensures.count_bound_2.0),
      c.keep_passed-since-in-To.ensures.skips_2.0,
      c.keep_passed-since-in-To.ensures.count_bound_2.1 ∙ c.read_one.ensures.skips.1 ∙ l,
    )

pub read_each-returns-in-Refused : goal.read_each-returns-in-Refused
read_each-returns-in-Refused t c =
    let (P, S, n, T, l) = c.loop-i.invariant in record { value = passing-stopped _ _ _ _ P c.loop-i-test.true c.read_one.ensures.value c.in-Refused.is; skips = (c.read_one.ensures.skips.0, c.read_one.ensures.skips.1 ∙ l) }

pub read_each-returns : goal.read_each-returns
read_each-returns t c =
    let (P, S, n, T, l) = c.loop-i.invariant in record { value = passing_all _ _ _ _ P c.loop-i-test.false; skips = (T, l) }

pub read_element_mapping-returns-in-To : goal.read_element_mapping-returns-in-To
read_element_mapping-returns-in-To t c =
    record { value = search list-to; value_2 = search array-to; skips = search rules }

pub read_element_mapping-returns-in-Refused : goal.read_element_mapping-returns-in-Refused
read_element_mapping-returns-in-Refused t c =
    record { value = search list-stopped; value_2 = search array-stopped; skips = search rules }

pub read_kept-keep_nested-requires : goal.read_kept-keep_nested-requires
read_kept-keep_nested-requires t c =
    (c.read_one.ensures.skips.0, pass-read c.read_one.ensures.value c.in-To.is)

pub read_kept-returns-in-To : goal.read_kept-returns-in-To
read_kept-returns-in-To t c =
    record { value = sym c.in-To.is ∙ c.read_one.ensures.value; skips = (c.keep_nested.ensures.0, c.keep_nested.ensures.1 ∙ c.read_one.ensures.skips.1) }

pub read_kept-returns-in-Refused : goal.read_kept-returns-in-Refused
read_kept-returns-in-Refused t c =
    record { value = sym c.in-Refused.is ∙ c.read_one.ensures.value; skips = c.read_one.ensures.skips }

pub read_one-returns-then-depth-eq0 : goal.read_one-returns-then-depth-eq0
read_one-returns-then-depth-eq0 t c =
    record { value = search selector-deep; skips = search rules }

pub read_one-returns-in-Byte : goal.read_one-returns-in-Byte
read_one-returns-in-Byte t c =
    record { value = search (selector-to, rules); skips = search rules }

pub read_one-returns-in-Refused : goal.read_one-returns-in-Refused
read_one-returns-in-Refused t c =
    record { value = search (selector-stopped, rules); skips = search rules }

pub read_rename-returns-in-To : goal.read_rename-returns-in-To
read_rename-returns-in-To t c =
    record { value = search rename-to; skips = search rules }

pub read_rename-returns-in-Refused : goal.read_rename-returns-in-Refused
read_rename-returns-in-Refused t c =
    record { value = search rename-stopped; skips = search rules }

pub read_rest-returns-in-0 : goal.read_rest-returns-in-0
read_rest-returns-in-0 t c =
    record { value = search (rest-position, rules); skips = search rules }

pub read_rest-returns-in-1 : goal.read_rest-returns-in-1
read_rest-returns-in-1 t c =
    record { value = search (rest-constant, rules); skips = search rules }

pub read_rest-returns-in-2 : goal.read_rest-returns-in-2
read_rest-returns-in-2 t c =
    record { value = search (rest-cast, rules); skips = search rules }

pub read_rest-returns-in-3 : goal.read_rest-returns-in-3
read_rest-returns-in-3 t c =
    record { value = search (rest-rename, rules); skips = search rules }

pub read_rest-returns-in-4 : goal.read_rest-returns-in-4
read_rest-returns-in-4 t c =
    record { value = search (rest-struct, rules); skips = search rules }

pub read_rest-returns-in-5 : goal.read_rest-returns-in-5
read_rest-returns-in-5 t c =
    record { value = rest-element _ _ _ c.in-5.in_default-own.rest c.in-5.if-code-lt7-own.true c.read_element_mapping.ensures.value c.read_element_mapping.ensures.value_2; skips = c.read_element_mapping.ensures.skips }

pub read_rest-returns-in_default : goal.read_rest-returns-in_default
read_rest-returns-in_default t c =
    record { value = rest_unknown _ _ _ _ c.in_default.if-code-lt7-own.false; skips = search rules }

pub read_struct-returns-in-Is : goal.read_struct-returns-in-Is
read_struct-returns-in-Is t c =
    record { value = search struct-to; skips = search rules }

pub read_struct-returns-in-Refused-short : goal.read_struct-returns-in-Refused-short
read_struct-returns-in-Refused-short t c =
    record { value = search struct_uncounted; skips = search rules }

pub read_struct-returns-in-Refused : goal.read_struct-returns-in-Refused
read_struct-returns-in-Refused t c =
    record { value = search struct-stopped; skips = search rules }
