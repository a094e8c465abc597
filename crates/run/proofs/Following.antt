-- What is written after what was written before. Assumes nothing.
use Prim.Native.Nat.{ℕ, ◌+◌, ◌≤◌, ◌<◌}
use mathlib.Core.Path.{◌≡◌, refl, ap, sym, subst, ◌∙◌}
use mathlib.Core.Bool.{Bool, true, false, not}
use mathlib.Core.List.{◌++◌}
use native.Mathlib.Omega.{arith}
use native.Mathlib.Decide.{dec_lt}
use lib.ListN.{length, take, length-append}
use borrow.Rule.Slice.PartMut.{mid_of, put_mid, same_len_mid, take_put}
use Rattle.layout.specs.Bytes.{Bytes, AllBytes}
use Rattle.layout.specs.Limits.{longest, deepest}
use Rattle.layout.specs.Tree.{DataType, dtype_of, fields_of}
use Rattle.layout.specs.declared.columns.ColumnRange.{ColumnRange}
use Rattle.layout.specs.declared.columns.Siblings.TheVariants.{Free}
use Rattle.layout.specs.declared.cursor.Cursor.{Cursor}
use Rattle.layout.proofs.Ways.{clash}
use Rattle.forms.specs.Depth.{depth_of}
use Rattle.forms.proofs.Read.{type→}
use Rattle.forms.proofs.ReadBack.{type_extent}
use Rattle.store.specs.code.Overlay.{Agree, Holds}
use Rattle.values.specs.Value.{Value}
use Rattle.values.specs.Encode.{encode_value}
use Rattle.plan.specs.Run.{eval, clean}
use Rattle.plan.proofs.Typed.{Typed, check→typed}
use Rattle.plan.proofs.Preserve.{eval-over}
use Rattle.raw.specs.code.Stored.{Stores}
use Rattle.transfer.specs.code.Reaching.{Kept}
use Rattle.overflow.proofs.Seeking.{row-over, formed_at}
use Rattle.output.specs.code.Output.{Emits}
use Rattle.output.specs.code.Answers.{EmitTopAt}
use Rattle.output.proofs.Given.{eval-given}
use Rattle.output.proofs.Whole.{fits-levels}
use Rattle.output.proofs.Writing.{emits_exact, emits-append}
use Rattle.run.specs.declared.tops.Top.{Top}
use Rattle.run.specs.declared.tops.TopWritten.{TopWritten}
use Rattle.run.specs.code.Tops.{TopIn, Follows, TopAnswer, TopIs}
use Rattle.run.proofs.Parts.{part-stored}

-- ---- one run of bytes after another

-- in a buffer that is the same as far as anything is written
emits_kept : {out₀ a : Bytes} {len : ℕ} {out new : Bytes} → take len new ≡ take len out → Emits out₀ 0 a len out → Emits out₀ 0 a len new
unfolding Holds Agree
emits_kept {out₀} {a} {len} {out} {new} h E = record {
  fits = λ l.
      let (e, H) = E.fits l in
      (e, ap (λ (n : ℕ). take n new) (sym e) ∙ h ∙ ap (λ (n : ℕ). take n out) e ∙ H);
  exceeds = E.exceeds;
}

pub follows_kept : {out new : Bytes} {len : ℕ} {b : Bytes} {r : ℕ} {o : Bytes} → length new ≡ length out → take len new ≡ take len out
    → Follows new len b r o → Follows out len b r o
follows_kept l h F = record { emits = λ out₀ a z E. F.emits out₀ a (l ∙ z) (emits_kept h E) }

-- past the limit nothing more counts
pub follows_past : {out : Bytes} {len : ℕ} (b : Bytes) {r : ℕ} {new : Bytes} → longest < len → longest < r → Follows out len b r new
follows_past b h g = record { emits = λ out₀ a z E. emits-beyond a b (beyond E h) g }
  where
    beyond : {out₀ a : Bytes} {len : ℕ} {out : Bytes} → Emits out₀ 0 a len out → longest < len → longest < length a
    beyond {a = a} E h = go (dec_lt longest (length a))
      where
        go : Dec (longest < length a) → longest < length a
        go (yes i) = i
        go (no i) = let (e, H) = E.fits (omega arith) in absurd (omega (arith, e))

    emits-beyond : {out₀ : Bytes} (a c : Bytes) {r : ℕ} {new : Bytes} → longest < length a → longest < r → Emits out₀ 0 (a ++ c) r new
    emits-beyond a c h g =
        let n : length (a ++ c) ≡ length a + length c = length-append a c in
        record { fits = λ l. absurd (omega (arith, n)); exceeds = λ l. g }

pub follows_emits : {out : Bytes} {len : ℕ} {b : Bytes} {r : ℕ} {new : Bytes} → len ≤ longest → Emits out len b r new → Follows out len b r new
follows_emits h W = record { emits = λ out₀ a z E. emits-append z E h W }

-- into the rest of the buffer, where n elements were lent
follows_stored : (out : Bytes) {len : ℕ} (n : ℕ) {b : Bytes} {r : ℕ} {new : Bytes} → len ≤ longest → length out ≤ len + n → Stores (mid_of len n out) 0 b r new
    → Follows out len b (len + r) (put_mid len n out new)
follows_stored out {len} n {b} h l S = follows_emits h (emits_exact out len b (omega (arith, S.ends)) (part-stored out len n b l S.stored))

-- ---- one selector

module _ {lay : Bytes} {columns : ColumnRange} {rec plan tgt : Bytes} {top : Top} (A : TopIn lay columns rec plan tgt top) (ro : AllBytes rec)
    (po : AllBytes plan) where
  pub top-typed : Typed (fields_of A.row.columns.columns) A.selector.here.tree A.selector.column.name (dtype_of A.type.tree)
  top-typed =
      subst (λ (u : DataType). Typed (fields_of A.row.columns.columns) A.selector.here.tree A.selector.column.name u) A.is
      (check→typed (formed_at po A.selector.here) A.selector.passes)

  pub top-low : depth_of (dtype_of A.type.tree) ≤ deepest
  top-low = omega (arith, (type_extent (type→ top.column.edition Free tgt top.column.depth top.column.at.at A.type.reads)).deep, A.deep)

  abbrev pub top_asks : clean (eval A.row.values.values A.selector.here.tree) ≡ true
      → EmitTopAt columns.edition lay columns.count columns.first.at rec plan top.selector.at
  top_asks c = record {
    row = A.row;
    selector = A.selector.here;
    same = eval-given top-typed (row-over ro A.row);
    clean = c;
    low = omega (arith, top-low, fits-levels (eval-over top-typed (row-over ro A.row)));
    short = A.short;
    small = A.selector.small;
  }

pub clean_of : {b : Bool} (c : Bool) → b ≡ not c → b ≡ false → c ≡ true
clean_of true e f = refl
clean_of false e f = clash (cc)

-- ---- its answers

module _ {x : Value} {e : ℕ} {out : Bytes} {len : ℕ} where
  pub top-overflowing : {b : Bool} {new : Bytes} → b ≡ not (clean x) → b ≡ true → TopIs x e out len TopWritten.Overflows new
  top-overflowing h t = record { answer = not-clean (clean x) (sym h ∙ t) }
    where
      not-clean : (c : Bool) → not c ≡ true → c ≡ false
      not-clean true q = clash (cc)
      not-clean false q = refl

  pub top-given : {c : Cursor} {r : ℕ} {new : Bytes} → c.at ≡ e → clean x ≡ true → Follows out len (encode_value x) r new → TopIs x e out len
      (TopWritten.To c r) new
  top-given h c F = record { answer = (h, c, F) }

  module _ (n : ℕ) where
    -- in one pass, into the rest of the buffer
    pub top-passed : {new : Bytes} → len ≤ longest → length out ≤ len + n → {c : Cursor} {r : ℕ}
        → (c.at ≡ e) × Kept (clean x) (encode_value x) (mid_of len n out) 0 r new → TopIs x e out len (TopWritten.To c (len + r)) (put_mid len n out new)
    top-passed h l (a, K) = top-given a K.clean (follows_stored out n h l K.stores)

    -- after a pass that settled nothing
    pub top_anew : (new : Bytes) → length new ≡ length (mid_of len n out) → len ≤ length out → {r : TopWritten} {o : Bytes}
        → TopIs x e (put_mid len n out new) len r o → TopIs x e out len r o
    top_anew new z w {r} {o} T = record { answer = go r T.answer }
      where
        go : (r : TopWritten) → TopAnswer x e (put_mid len n out new) len r o → TopAnswer x e out len r o
        go (TopWritten.To c q) (a, b, F) = (a, b, follows_kept (same_len_mid len n out new z) (take_put len n out new w) F)
        go TopWritten.Overflows h = h
