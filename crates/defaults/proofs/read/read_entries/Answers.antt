-- `defaults::read::read_entries` meets its contract: the loop keeps `Filling`. Assumes nothing.
use Prim.Native.Nat.{ℕ}
use mathlib.Core.Path.{refl, ap, ◌∙◌}
use mathlib.Core.List.{List}
use native.Mathlib.Omega.{arith}
use lib.ListN.{length}
use Rattle.layout.proofs.Ways.{clash}
use Rattle.defaults.proofs.Indexing.{filling_start, filling_all, filling_end, filling-broken, filling-inside, filling-repeated, filling-more}
use Rattle.defaults.proofs.Indexing.{pushed-length}
use Rattle.defaults.proofs.read.read_entries.Goals as goal

pub loop-i-init : goal.loop-i-init
loop-i-init c =
    (refl, filling_start (omega arith) c.requires.1 c.clear.ensures.cleared)

pub find_entry-earlier-requires : goal.find_entry-earlier-requires
find_entry-earlier-requires c =
    c.loop-i.invariant.1.chained.inside

pub returns-then-is_found : goal.returns-then-is_found
returns-then-is_found c =
    record {
      value = filling-repeated c.loop-i.invariant.1 c.loop-i-test.true c.read_entry.ensures c.in-Is.is c.find_entry-earlier.ensures
          c.is_found.ensures c.if-is_found.true;
      indexed = λ e h. clash (cc);
    }

pub push-requires : goal.push-requires
push-requires c =
    let a = filling-inside c.loop-i.invariant.1 c.loop-i-test.true c.read_entry.ensures c.in-Is.is in (c.loop-i.invariant.1.chained.inside.long, omega arith, omega arith)

pub returns-in-Refused : goal.returns-in-Refused
returns-in-Refused c =
    record { value = filling-broken c.loop-i.invariant.1 c.loop-i-test.true c.read_entry.ensures c.in-Refused.is; indexed = λ e h. clash (cc) }

pub overflow_add-i : goal.overflow_add-i
overflow_add-i c =
    omega (arith, c.loop-i-test.true, c.ranges)

pub loop-i-smaller : goal.loop-i-smaller
loop-i-smaller c =
    omega arith

pub loop-i-preserved : goal.loop-i-preserved
loop-i-preserved c = (
  ap (λ (l : List ℕ). length l) c.push.ensures ∙ pushed-length (length c.args.s.now) c.loop-i.d.at c.in-Is.id
      c.loop-i.index ∙ c.loop-i.invariant.0,
  filling-more c.loop-i.invariant.1 c.loop-i-test.true c.read_entry.ensures c.in-Is.is
      c.find_entry-earlier.ensures c.is_found.ensures c.if-is_found.false c.push.ensures,
)

pub returns : goal.returns
returns c =
    record { value = filling_all c.loop-i.invariant.1 c.loop-i-test.false; indexed = λ e h. filling_end c.loop-i.invariant.1 c.loop-i-test.false }
