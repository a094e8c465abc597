-- Where a constant's value stands. Assumes nothing.
use Prim.Native.Nat.{ℕ}
use mathlib.Core.Path.{◌≡◌, refl, ap, ◌∙◌}
use Rattle.layout.specs.Bytes.{Bytes}
use Rattle.layout.specs.Tree.{dtype_of}
use Rattle.layout.specs.declared.bytes.Span.{Span}
use Rattle.layout.specs.declared.edition.Edition.TheVariants.{One}
use Rattle.values.specs.Reading.{value}
use Rattle.walk.specs.code.Stands.{SelectorAt}
use Rattle.walk.specs.code.Parts.{ConstantAt}
use Rattle.nodes.specs.code.Raw.{NodeIs}
use Rattle.raw.specs.code.Constant.{ConstantRaw}

pub constant-part : {s : Bytes} {at : ℕ} {P : SelectorAt s at} {n : Span} {m : ℕ} → ConstantAt s at P n m → ConstantRaw s m
constant-part A = record { type = A.type; value = A.value }

pub constant-raw : {plan : Bytes} {t c : ℕ} (X : ConstantRaw plan t) → c ≡ X.type.end → NodeIs One plan t plan c X.value.tree
constant-raw {plan} {t} {c} X e = record {
  raw = record {
    type = X.type;
    value = record {
      tree = X.value.tree;
      end = X.value.end;
      reads = ap
          (λ (i : ℕ). value (dtype_of X.type.tree) plan i) e ∙ X.value.reads;
    };
  };
  is = refl;
}
