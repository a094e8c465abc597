-- `ends::table::keep_pair` meets its contract: one pair more that is true. Assumes nothing.
use lib.ListN.{length, set, length-set}
use Rattle.ends.specs.code.Ends.{Ends}
use Prim.Native.Nat.{ℕ, ◌-◌}
use mathlib.Core.List.{List}
use mathlib.Core.Path.{subst, refl, sym, ap, ◌∙◌}
use native.Mathlib.Omega.{arith}
use Rattle.ends.proofs.Entries.{ends-pair}
use Rattle.ends.proofs.table.keep_pair.Goals as goal

pub returns-then-n-gt65535 : goal.returns-then-n-gt65535
returns-then-n-gt65535 c =
    record { ends = (λ v s T E. T); ends_len_unchanged = refl }

pub returns-then-n-wide : goal.returns-then-n-wide
returns-then-n-wide c =
    record { ends = (λ v s T E. T); ends_len_unchanged = refl }

pub loop-j-init : goal.loop-j-init
loop-j-init c =
    (refl, refl, omega arith, omega arith)

pub returns-then-ends-j-eq0 : goal.returns-then-ends-j-eq0
returns-then-ends-j-eq0 c =
    let i = c.loop-j.j - 1 in let kept : List ℕ → List ℕ = λ u. set (set u i c.args.d) c.loop-j.j c.args.n in record {
      ends = (λ v s T E. subst (λ (u : List ℕ). Ends v s (kept u)) (sym c.loop-j.invariant.0) (ends-pair T i c.loop-j.j _ _ (omega arith) c.requires.0 E (omega arith)
          (omega arith)));
      ends_len_unchanged = length-set (set c.loop-j.ends i c.args.d) c.loop-j.j c.args.n ∙ length-set c.loop-j.ends i c.args.d ∙ ap (λ (u : List ℕ). length u) c.loop-j.invariant.0;
    }

pub returns : goal.returns
returns c =
    record { ends = (λ v s T E. subst (λ (u : List ℕ). Ends v s u) (sym c.loop-j.invariant.0) T); ends_len_unchanged = ap (λ (u : List ℕ). length u) c.loop-j.invariant.0 }
