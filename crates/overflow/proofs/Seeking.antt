-- What holds while a node is sought, and what is answered. Assumes nothing.
use Prim.Native.Nat.{ℕ, ◌-◌, ◌≤◌, ◌<◌}
use mathlib.Core.Path.{◌≡◌, refl, sym, ◌∙◌, subst}
use mathlib.Core.Bool.{Bool, true, false}
use mathlib.Core.List.{List, [], ◌∷◌}
use native.Mathlib.Omega.{arith}
use lib.ListN.{get_or}
use Rattle.layout.specs.Bytes.{Bytes, AllBytes}
use Rattle.layout.specs.Tree.{Fields, fields_of}
use Rattle.layout.specs.declared.edition.Edition.{Edition}
use Rattle.values.specs.Value.{Values}
use Rattle.values.proofs.Back.{values_back}
use Rattle.plan.specs.Selector.{Selector}
use Rattle.plan.specs.code.Formed.{Formed}
use Rattle.plan.specs.Run.{eval}
use Rattle.plan.specs.code.Fits.{FitsAllOver}
use Rattle.plan.proofs.Typed.{check→typed}
use Rattle.plan.proofs.Over.{all-over}
use Rattle.plan.proofs.ReadBack.{selector_back}
use Rattle.nodes.specs.code.Raw.{RowAt}
use Rattle.layout.specs.declared.columns.ColumnRange.{ColumnRange}
use Rattle.walk.specs.code.Stands.{SelectorAt}
use Rattle.walk.specs.code.State.{Frame, input_of, State, state as state_of}
use Rattle.walk.specs.code.Moves.{Input as InputOf}
use Rattle.walk.specs.code.Walks.{WalkAt, rank, Located, StepsTo}
use Rattle.walk.specs.declared.walk.Walk.{Walk}
use Rattle.walk.proofs.Walks.{walk_starts, outward_asks, frames-deep}
use Rattle.overflow.specs.code.Ranges.{RecordAt}
use Rattle.overflow.specs.code.Want.{SmallWant}
use Rattle.overflow.specs.code.Some.{some, some_in, asked}
use Rattle.overflow.specs.code.Seek.{stop_of, Seeks}
use Rattle.overflow.specs.declared.want.Want.{Want}
use Rattle.overflow.specs.declared.stop.Stop.{Stop}
use Rattle.overflow.specs.declared.stop.Stop.TheVariants.{No, Yes, Input, Outward}
use Rattle.overflow.proofs.Scoped.{in_record, TypedState}
use Rattle.overflow.proofs.Moving.{moved_typed, moved_asked}
use Rattle.overflow.proofs.Meaning.{Means, stop_means}

-- ---- b is the answer to a, asked of the nodes where w stands

pub record Seeking (plan : Bytes) (Γ : Fields) (ρ : Values) (b : Bool) (w : Walk) (a : Want) : Type 0 where
  pub fits : FitsAllOver Γ ρ
  pub state : State
  pub standing : WalkAt plan w state
  pub typed : TypedState Γ state
  pub small : SmallWant a
  pub is : asked ρ state a ≡ b

module _ {plan : Bytes} {Γ : Fields} {ρ : Values} {b : Bool} {w : Walk} {a : Want} (S : Seeking plan Γ ρ b w a) where
  module _ {r : Walk} (h : (x : State) → WalkAt plan w x → Located plan x w r) where
    pub seeking_located : Seeking plan Γ ρ b r a
    seeking_located =
        let L = h S.state S.standing in
        record {
          fits = S.fits;
          state = L.state;
          standing = L.standing;
          typed = moved_typed L.moves S.typed;
          small = S.small;
          is = sym (moved_asked S.fits a L.moves S.typed) ∙ S.is;
        }

    -- what the answer there says
    module _ {q : Stop} (g : (x : State) → WalkAt plan r x → q ≡ stop_of ρ x a) where
      means : {p : Stop} → q ≡ p → Means Γ ρ (h S.state S.standing).state a p
      means {p} e =
          let L = h S.state S.standing in
          subst (λ (z : Stop). Means Γ ρ L.state a z) (sym (g L.state L.standing) ∙ e)
          (stop_means S.fits L.stopped (moved_typed L.moves S.typed) a S.small)

      pub seeking-no : q ≡ No → false ≡ b
      unfolding seeking_located
      seeking-no e = sym (means e) ∙ seeking_located.is

      pub seeking-yes : q ≡ Yes → true ≡ b
      unfolding seeking_located
      seeking-yes e = sym (means e) ∙ seeking_located.is

      pub input-starts : r.at < r.lim
      input-starts = walk_starts (h S.state S.standing).standing

      pub seeking-input : {c : Want} {n : Walk} → q ≡ Input c → ((p : Bytes) (x : State) (s : Selector) → WalkAt p r x → InputOf x.selector s →
          StepsTo p (state_of s x.frames x.path) r n)
          → Seeking plan Γ ρ b n c × (rank n < rank w)
      unfolding seeking_located
      seeking-input e k =
          let L = h S.state S.standing in
          let I = means e in
          let N = k plan L.state I.input L.standing I.is in (
            record { fits = S.fits; state = _; standing = N.standing; typed = I.typed; small = I.small; is = sym I.same ∙ seeking_located.is },
            omega (arith, N.falls, L.falls),
          )

      pub outward-starts : {c : Want} → q ≡ Outward c → (0 < r.deep) × (r.deep ≤ 64) × (get_or r.maps (r.deep - 1) 0 < r.at)
      outward-starts e =
          let S = (h S.state S.standing).standing in
          outward_asks S (frames-deep S (means e).frames)

      pub seeking-outward : {c : Want} {n : Walk} → q ≡ Outward c → ((p : Bytes) (x : State) (f : Frame) (E : List Frame) → WalkAt p r x →
          x.frames ≡ f ∷ E → StepsTo p (state_of (input_of f) E []) r n)
          → Seeking plan Γ ρ b n c × (rank n < rank w)
      unfolding seeking_located
      seeking-outward e k =
          let L = h S.state S.standing in
          let O = means e in
          let N = k plan L.state O.frame O.outer L.standing O.frames in (
            record { fits = S.fits; state = _; standing = N.standing; typed = O.typed; small = O.small; is = sym O.same ∙ seeking_located.is },
            omega (arith, N.falls, L.falls),
          )

-- ---- the start

pub row-over : {v : Edition} {lay : Bytes} {n t : ℕ} {rec : Bytes} → AllBytes rec → (X : RowAt v lay n t rec 0) → FitsAllOver
    (fields_of X.columns.columns) X.values.values
row-over {rec = rec} o X = all-over (values_back (fields_of X.columns.columns) rec o 0 X.values.values X.values.end (omega arith)
    X.values.reads).fits

pub formed_at : {plan : Bytes} {at : ℕ} → AllBytes plan → (P : SelectorAt plan at) → Formed P.tree
formed_at {plan} {at} o P = (selector_back plan o 64 at P.tree P.end P.reads).formed

-- of all that stand there
abbrev pub Going : Bytes → ColumnRange → Bytes → Bytes → Walk → Want → Walk → Want → Type 0
Going lay columns rec plan w₀ a₀ w a =
    (X : RecordAt lay columns rec) (S : Seeks plan w₀ (fields_of X.columns.columns))
    → Seeking plan (fields_of X.columns.columns) X.values.values (some a₀ S.path (eval X.values.values S.selector)) w a

pub going_start : (lay : Bytes) (columns : ColumnRange) (rec plan : Bytes) (w : Walk) (a : Want) → AllBytes rec → AllBytes plan → SmallWant a
    → Going lay columns rec plan w a w a
unfolding asked some_in
going_start lay columns rec plan w a o p s X S = record {
  fits = row-over o X;
  state = state_of S.selector [] S.path;
  standing = S.standing;
  typed = record {
    scope = fields_of X.columns.columns;
    name = S.column.name;
    type = S.column.type;
    scoped = in_record;
    typed = check→typed (subst Formed S.standing.selector (formed_at p S.standing.here)) S.passes;
  };
  small = s;
  is = refl;
}
