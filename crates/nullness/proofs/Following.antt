-- What holds while a place is followed, and what is answered. Assumes nothing.
use Prim.Native.Nat.{◌<◌}
use mathlib.Core.Path.{◌≡◌, refl, sym, ◌∙◌, subst}
use mathlib.Core.Bool.{Bool, true, false}
use mathlib.Core.List.{[]}
use native.Mathlib.Omega.{arith}
use Rattle.layout.specs.Bytes.{Bytes, AllBytes}
use Rattle.layout.specs.Tree.{Fields, fields_of}
use Rattle.plan.specs.Selector.{Selector}
use Rattle.plan.specs.code.Formed.{Formed}
use Rattle.plan.specs.Nullness.{Nullnesses, nullness_of}
use Rattle.plan.specs.Marks.{givens}
use Rattle.plan.proofs.Typed.{check→typed}
use Rattle.layout.specs.declared.columns.ColumnRange.{ColumnRange}
use Rattle.walk.specs.code.State.{State, state as state_of}
use Rattle.walk.specs.code.Moves.{Input as InputOf}
use Rattle.walk.specs.code.Walks.{WalkAt, rank, Located, StepsTo}
use Rattle.walk.specs.declared.walk.Walk.{Walk}
use Rattle.walk.proofs.Walks.{walk_starts}
use Rattle.overflow.specs.code.Ranges.{ColumnsIn}
use Rattle.overflow.proofs.Scoped.{in_record}
use Rattle.overflow.proofs.Seeking.{formed_at}
use Rattle.nullness.specs.code.Places.{fills_at}
use Rattle.nullness.specs.code.Stops.{scope_of, fills_here, stop_of, Follows}
use Rattle.nullness.specs.declared.stop.Stop.{Stop}
use Rattle.nullness.specs.declared.stop.Stop.TheVariants.{Passes, Fails, Input}
use Rattle.nullness.proofs.Tracing.{Traced, moved_traced, moved_fills}
use Rattle.nullness.proofs.Meaning.{Means, stop_means}

-- b is whether a required field may stand where w stands
pub record Following (plan : Bytes) (Γ : Fields) (N : Nullnesses) (b : Bool) (w : Walk) : Type 0 where
  pub state : State
  pub standing : WalkAt plan w state
  pub traced : Traced Γ state
  pub is : fills_here N state ≡ b

module _ {plan : Bytes} {Γ : Fields} {N : Nullnesses} {b : Bool} {w : Walk} (F : Following plan Γ N b w) {r : Walk}
    (h : (x : State) → WalkAt plan w x → Located plan x w r) where
  pub following_located : Following plan Γ N b r
  following_located =
      let L = h F.state F.standing in
      record {
        state = L.state;
        standing = L.standing;
        traced = moved_traced L.moves F.traced;
        is = sym (moved_fills N L.moves F.traced) ∙ F.is;
      }

  pub input-starts : r.at < r.lim
  input-starts = walk_starts (h F.state F.standing).standing

  module _ {q : Stop} (g : (x : State) → WalkAt plan r x → q ≡ stop_of N x) where
    means : {p : Stop} → q ≡ p → Means Γ N (h F.state F.standing).state p
    means e =
        let L = h F.state F.standing in
        subst (λ (z : Stop). Means Γ N L.state z) (sym (g L.state L.standing) ∙ e) (stop_means N L.stopped (moved_traced L.moves F.traced))

    pub following_passes : q ≡ Passes → true ≡ b
    unfolding following_located
    following_passes e = sym (means e) ∙ following_located.is

    pub following_fails : q ≡ Fails → false ≡ b
    unfolding following_located
    following_fails e = sym (means e) ∙ following_located.is

    pub following_input : {n : Walk} → q ≡ Input → ((p : Bytes) (x : State) (s : Selector) → WalkAt p r x → InputOf x.selector s → StepsTo p
        (state_of s x.frames x.path) r n)
        → Following plan Γ N b n × (rank n < rank w)
    unfolding following_located
    following_input e k =
        let L = h F.state F.standing in
        let I = means e in
        let S = k plan L.state I.input L.standing I.is in
        (record { state = _; standing = S.standing; traced = I.traced; is = sym I.same ∙ following_located.is }, omega (arith, S.falls, L.falls))

-- of all that stand there
abbrev pub Followings : Bytes → ColumnRange → Bytes → Walk → Walk → Type 0
Followings incoming columns plan w₀ w =
    (P : ColumnsIn incoming columns) (F : Follows plan w₀ (fields_of P.columns))
    → Following plan (fields_of P.columns) (givens P.columns) (fills_at (nullness_of (givens P.columns) F.selector) F.path) w

pub following_start : (incoming : Bytes) (columns : ColumnRange) (plan : Bytes) (w : Walk) → AllBytes plan → Followings incoming columns plan w w
unfolding fills_here scope_of
following_start incoming columns plan w o P F = record {
  state = state_of F.selector [] F.path;
  standing = F.standing;
  traced = record {
    scope = fields_of P.columns;
    name = F.column.name;
    type = F.column.type;
    end = F.end;
    scoped = in_record;
    typed = check→typed (subst Formed F.standing.selector (formed_at o F.standing.here)) F.passes;
    leads = F.leads;
    zeroed = tt;
  };
  is = refl;
}
