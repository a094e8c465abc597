-- What `stop` and `resolve` answer on each way. Assumes nothing.
use Prim.Native.Nat.{ℕ, ◌+◌, ◌≤◌, ◌<◌}
use mathlib.Core.Path.{◌≡◌, sym, ◌∙◌, subst}
use mathlib.Core.List.{List, []}
use native.Mathlib.Omega.{arith}
use lib.ListN.{length}
use lib.Seq.{slice}
use Rattle.layout.specs.Bytes.{Bytes}
use Rattle.layout.specs.Tree.{DataType}
use Rattle.layout.specs.declared.bytes.Span.{Span}
use Rattle.layout.specs.declared.columns.Position.{Position}
use Rattle.layout.specs.declared.columns.Label.{Label as LabelSpan}
use Rattle.layout.specs.declared.cursor.Cursor.{Cursor}
use Rattle.layout.specs.declared.edition.Edition.{Edition}
use Rattle.layout.specs.declared.edition.Edition.TheVariants.{One}
use Rattle.plan.specs.Selector.{Selector, nesting}
use Rattle.plan.specs.Check.{Column}
use Rattle.nodes.specs.code.Typed.{LeadsAt}
use Rattle.checker.specs.code.Shallow.{Shallow}
use Rattle.walk.specs.code.State.{State, state}
use Rattle.walk.specs.code.Moves.{Input, i_rename}
use Rattle.walk.specs.code.Types.{Along, a_here}
use Rattle.walk.specs.code.Walks.{WalkAt, rank, Located, StepsTo}
use Rattle.walk.specs.code.Parts.{HeadIs}
use Rattle.walk.specs.declared.walk.Walk.{Walk}
use Rattle.walk.specs.declared.head.SelectorHead.{SelectorHead}
use Rattle.walk.proofs.Heads.{is_position_lem, is-constant, is-cast, is-rename, is_struct_mapping, is_list_mapping, is-array}
use Rattle.checker.specs.code.TypesAt.{ColumnAlong, TypedAt, NamedAt, SourceAt, Resolves, StoppedAt, RenameStop, StopAnswer, StopIs}
use Rattle.checker.specs.declared.resolve.Stop.{Stop}
use Rattle.checker.specs.declared.resolve.Source.{Source}
use Rattle.checker.specs.declared.resolve.Resolved.{Resolved}
use Rattle.checker.proofs.Steps.{gives_moved}
use Rattle.checker.proofs.Room.{shallow_moved, rename-shallow}
use Rattle.checker.proofs.Stops.{column_stop_lem, constant_stop_lem, cast_stop_lem, rename_stop, struct_stop_lem, list_stop_lem, array_stop}
use Rattle.walk.proofs.View.{selector-longer}
use Rattle.checker.proofs.Fields.{FieldHere}

-- under the selector's other name
pub selected : {x : State} {s : Selector} → x.selector ≡ s → Shallow x → Shallow (state s x.frames x.path)
selected {x} e H = record { here = subst (λ (y : Selector). nesting y + length x.frames ≤ 64) e H.here; frames = H.frames }

-- at a selector, with no path left
pub named-typed : {incoming : Bytes} {v : Edition} {n : ℕ} {plan : Bytes} {w : Walk} {a : Column} → NamedAt incoming v n plan w a → TypedAt incoming v n
    plan w a.type
named-typed {a = a} N = record {
  columns = N.columns;
  place = state N.selector N.frames [];
  standing = N.standing;
  shallow = N.shallow;
  typed = record { scope = N.scope; column = a; scoped = N.scoped; passes = N.passes; along = a_here };
}

-- the walk x goes on for w
pub record Onward (incoming : Bytes) (v : Edition) (n : ℕ) (plan : Bytes) (w x : Walk) : Type 0 where
  pub some : DataType
  pub start : TypedAt incoming v n plan x some
  pub keeps : (t : DataType) → TypedAt incoming v n plan w t → TypedAt incoming v n plan x t
  pub falls : rank x ≤ rank w

module _ {incoming : Bytes} {v : Edition} {n : ℕ} {plan : Bytes} where
  -- ---- stop

  module _ {w : Walk} {t : DataType} (S : StoppedAt incoming v n plan w t) {r : SelectorHead} (h : HeadIs plan w.at S.typed.standing.here r) where
    abbrev is : Selector → Type 0
    is s = S.typed.place.selector ≡ s

    place_is : {s : Selector} → S.typed.standing.here.tree ≡ s → S.typed.place.selector ≡ s
    place_is e = sym S.typed.standing.selector ∙ e

    along-path : {u : DataType} → Along u S.typed.place.path t → Along u (slice w.deep w.len w.path) t
    along-path {u} a = subst (λ (p : List ℕ). Along u p t) (sym S.typed.standing.path) a

    pub stop_column : {k : Position} → r ≡ SelectorHead.Position k → ColumnAlong incoming v n k (slice w.deep w.len w.path) t
    stop_column e =
        let C = column_stop_lem S.stopped (place_is (is_position_lem h e).1) S.typed.typed in
        record { columns = S.typed.columns; column = C.column; found = C.found; along = along-path C.along }

    pub stop_constant : {b : Span} {c : Cursor} → r ≡ SelectorHead.Constant b c → LeadsAt One plan c.at (slice w.deep w.len w.path) t
    stop_constant e =
        let C = is-constant h e in
        record { type = C.type; along = along-path (constant_stop_lem (place_is C.is) S.typed.typed) }

    pub stop_cast : {c d : Cursor} (e : r ≡ SelectorHead.Cast c) → d.at ≡ (is-cast h e).input.end → LeadsAt One plan d.at
        (slice w.deep w.len w.path) t
    stop_cast e f =
        let C = is-cast h e in
        subst (λ (i : ℕ). LeadsAt One plan i (slice w.deep w.len w.path) t) (sym f)
        (record { type = C.type; along = along-path (cast_stop_lem (place_is C.is) S.typed.typed) })

    pub stop_rename : {c : Cursor} → r ≡ SelectorHead.Rename c → StopIs incoming v n plan w t Stop.Rename
    stop_rename e =
        let C = is-rename h e in
        record {
          answer = record {
            columns = S.typed.columns;
            place = S.typed.place;
            standing = S.typed.standing;
            input = C.input.tree;
            renamed = subst (λ (s : Selector). Input s C.input.tree) (sym (place_is C.is)) i_rename;
            shallow = rename-shallow {n = C.name.bytes} (selected (place_is C.is) S.typed.shallow);
            typed = rename_stop (place_is C.is) S.typed.typed;
          };
        }

    pub stop_struct : {c : Cursor} → r ≡ SelectorHead.Struct c → StopIs incoming v n plan w t Stop.Mapping
    stop_struct e =
        let T = S.typed in
        record {
          answer = record {
            columns = T.columns;
            place = T.place;
            standing = T.standing;
            shallow = T.shallow;
            made = struct_stop_lem S.stopped
                (place_is (is_struct_mapping h e).is) T.typed;
          };
        }

    pub stop_list : {c : Cursor} → r ≡ SelectorHead.List c → StopIs incoming v n plan w t Stop.Mapping
    stop_list e =
        let T = S.typed in
        record {
          answer = record {
            columns = T.columns;
            place = T.place;
            standing = T.standing;
            shallow = T.shallow;
            made = list_stop_lem S.stopped
                (place_is (is_list_mapping h e).is) T.typed;
          };
        }

    pub stop_array : {c : Cursor} → r ≡ SelectorHead.Array c → StopIs incoming v n plan w t Stop.Mapping
    stop_array e =
        let T = S.typed in
        record {
          answer = record {
            columns = T.columns;
            place = T.place;
            standing = T.standing;
            shallow = T.shallow;
            made = array_stop S.stopped
                (place_is (is-array h e).is) T.typed;
          };
        }

  -- ---- resolve

  pub located_typed : {x y : Walk} {t : DataType} (T : TypedAt incoming v n plan x t) → Located plan T.place x y → StoppedAt incoming v n plan y t
  located_typed T L = record {
    typed = record {
      columns = T.columns;
      place = L.state;
      standing = L.standing;
      shallow = shallow_moved L.moves T.shallow;
      typed =
          gives_moved L.moves T.typed;
    };
    stopped = L.stopped;
  }

  pub onward-start : {w : Walk} {t : DataType} → TypedAt incoming v n plan w t → Onward incoming v n plan w w
  onward-start {t = t} T = record { some = t; start = T; keeps = λ u U. U; falls = omega arith }

  module _ {w x y : Walk} (O : Onward incoming v n plan w x) (L : (z : State) → WalkAt plan x z → Located plan z x y) where
    stops : {t : DataType} → TypedAt incoming v n plan w t → StoppedAt incoming v n plan y t
    stops {t} T = let U = O.keeps t T in located_typed U (L U.place U.standing)

    pub onward_stops : StoppedAt incoming v n plan y O.some
    onward_stops = located_typed O.start (L O.start.place O.start.standing)

    lower : rank y ≤ rank w
    lower = let a = (L O.start.place O.start.standing).falls in omega (arith, O.falls)

    module _ {r : Stop} (h : (t : DataType) → StoppedAt incoming v n plan y t → StopIs incoming v n plan y t r) where
      opened : {t : DataType} {q : Stop} → r ≡ q → StoppedAt incoming v n plan y t → StopAnswer incoming v n plan y t q
      opened {t} {q} e S = subst (λ (p : Stop). StopAnswer incoming v n plan y t p) e (h t S).answer

      -- what is answered where no rename is met
      pub resolves : {s : Source} {c : Cursor} {q : Resolved} → q ≡ record { source = s; at = c; walk = y }
          → ((t : DataType) → StoppedAt incoming v n plan y t → SourceAt incoming v n plan s c.at y t)
          → (t : DataType) → TypedAt incoming v n plan w t → Resolves incoming v n plan w t q
      resolves e f t T =
          subst (λ (q : Resolved). Resolves incoming v n plan w t q) (sym e) (record { resolved = record { stands = f t (stops T) }; falls = lower })

      pub resolves-incoming : {c : Cursor} {q : Resolved} → r ≡ Stop.Incoming c → q ≡ record { source = Source.Incoming; at = c; walk = y } →
          (t : DataType) → TypedAt incoming v n plan w t → Resolves incoming v n plan w t q
      resolves-incoming e f = resolves f (λ t S. opened e S)

      pub resolves-plan : {c : Cursor} {q : Resolved} → r ≡ Stop.Plan c → q ≡ record { source = Source.Plan; at = c; walk = y } → (t : DataType) →
          TypedAt incoming v n plan w t → Resolves incoming v n plan w t q
      resolves-plan e f = resolves f (λ t S. opened e S)

      pub resolves-mapped : {c : Cursor} {q : Resolved} → r ≡ Stop.Mapping → q ≡ record { source = Source.Mapped; at = c; walk = y } → (t : DataType) →
          TypedAt incoming v n plan w t → Resolves incoming v n plan w t q
      resolves-mapped e f = resolves f (λ t S. opened e S)

      module _ (e : r ≡ Stop.Rename) where
        pub before-end : y.at < y.lim
        before-end = let W = (opened e onward_stops).standing in let b = selector-longer W.here in omega (arith, W.ends)

        module _ {z : Walk} (g : (p : Bytes) (x : State) (s : Selector) → WalkAt p y x → Input x.selector s → StepsTo p
            (state s x.frames x.path) y z) where
          goes : {t : DataType} → RenameStop incoming v n plan y t → TypedAt incoming v n plan z t
          goes R = record {
            columns = R.columns;
            place = _;
            standing = (g plan R.place R.input R.standing R.renamed).standing;
            shallow =
                R.shallow;
            typed = R.typed;
          }

          pub onward-less : rank z < rank x
          onward-less =
              let R = opened e onward_stops in
              let a = (g plan R.place R.input R.standing R.renamed).falls in
              let b = (L O.start.place O.start.standing).falls in
              omega arith

          pub onward-again : Onward incoming v n plan w z
          onward-again =
              let a = onward-less in
              record { some = O.some; start = goes (opened e onward_stops); keeps = λ t T. goes (opened e (stops T)); falls = omega (arith, O.falls) }

pub column_type : {s : Bytes} {v : Edition} {n : ℕ} {k : Position} {p : List ℕ} {t : DataType} (A : ColumnAlong s v n k p t) {l : LabelSpan} {e : ℕ} →
    FieldHere v 16 s A.column l e → LeadsAt v s e p t
column_type {p = p} {t = t} A F = record { type = F.type; along = subst (λ (u : DataType). Along u p t) (sym F.typed) A.along }

pub stop_bounds : {incoming : Bytes} {v : Edition} {n : ℕ} {plan : Bytes} {w : Walk} {t : DataType} → StoppedAt incoming v n plan w t →
    (w.deep ≤ w.len) × (w.len ≤ length w.path)
stop_bounds S = let W = S.typed.standing in (W.deep, let r = W.room.1 in omega (arith, W.short))
