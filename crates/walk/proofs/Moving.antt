-- What the functions of src/walk.rt return on each way, from what the callees answered and what the tests said. Assumes
-- nothing.
use Prim.Native.Nat.{ℕ, ◌+◌, ◌-◌, ◌≤◌, ◌<◌}
use mathlib.Core.Path.{◌≡◌, refl, sym, ap, ◌∙◌, subst}
use mathlib.Core.Bool.{Bool, true, false}
use mathlib.Core.List.{List, [], ◌∷◌}
use native.Mathlib.Omega.{arith}
use lib.ListN.{length, get_or, set}
use Rattle.layout.specs.Bytes.{Bytes}
use Rattle.layout.specs.declared.bytes.Span.{Span}
use Rattle.layout.specs.declared.columns.Position.{Position}
use Rattle.layout.specs.declared.cursor.Cursor.{Cursor}
use Rattle.layout.proofs.Ways.{clash}
use Rattle.plan.specs.Selector.{Selector, position, constant, cast, rename, struct_mapping, list_mapping, array_mapping}
use Rattle.walk.specs.code.Stands.{SelectorAt, SelectorsAt}
use Rattle.walk.specs.code.Parts.{ConstantAt, CastAt, RenameAt, StructAt, ListAt, ArrayAt, CountedIs, NthIs}
use Rattle.walk.specs.code.State.{Frame, fields, element, State, state}
use Rattle.walk.specs.code.Moves.{Moves, m_here, Input, i_rename, Part, p_field, p_list, p_array, Mapping, is_struct_mapping, is_list_mapping, is-array, NoPart, n_field}
use Rattle.walk.specs.code.Moves.{t_field, t_element}
use Rattle.walk.specs.code.Walks.{Entered, e_fields, e_list, e_array, WalkAt, rank, Located, PartAt, PartAnswer, PartIs, StepsTo, Enters, Leaves}
use Rattle.walk.specs.code.Walks.{MoveAnswer, MoveIs}
use Rattle.walk.specs.declared.head.StructFields.{StructFields}
use Rattle.walk.specs.declared.walk.Walk.{Walk}
use Rattle.walk.specs.declared.walk.PartFound.{PartFound}
use Rattle.walk.specs.declared.walk.Move.{Move}
use Rattle.walk.proofs.View.{selector-longer, selector_moved, selectors_moved, selectors-counted}
use Rattle.walk.proofs.Trees.{stop_constant, stop_cast, stop_rename, stop_column, stop_element, stop_mapping, stop_no_part, move_rename, move_part}
use Rattle.walk.proofs.Trees.{move_leave, part-mapping, part_same, part-some}
use Rattle.walk.proofs.Walks.{entries_none, innermost, some-inner, entered-before, walk_starts, walk_small, path-some, path-none, path-more}
use Rattle.walk.proofs.Walks.{outward_asks, frames-deep, pushed}

-- ---- a mapping's part

-- whether a selector is a mapping
unfoldable pub maps : Selector → Bool
maps (position k) = false
maps (constant n t v) = false
maps (cast s t o) = false
maps (rename s n) = false
maps (struct_mapping s ss) = true
maps (list_mapping s e) = true
maps (array_mapping s e) = true

maps_mapping : {y : Selector} → Mapping y → maps y ≡ true
unfolding maps
maps_mapping is_struct_mapping = refl
maps_mapping is_list_mapping = refl
maps_mapping is-array = refl

pub unmapped : {B : Type 0} {y z : Selector} → y ≡ z → maps z ≡ false → Mapping y → B
unmapped {y = y} {z = z} e f m = let h : true ≡ false = sym (maps_mapping m) ∙ ap maps e ∙ f in clash (cc)

pub part-position : {B : Type 0} {y : Selector} {j : Position} → y ≡ position j → Mapping y → B
unfolding maps
part-position e = unmapped e refl

module _ {s : Bytes} {at : ℕ} {P : SelectorAt s at} where
  pub part-constant : {B : Type 0} {n : Span} {m : ℕ} → ConstantAt s at P n m → Mapping P.tree → B
  unfolding maps
  part-constant C = unmapped C.is refl

  pub part-cast : {B : Type 0} {m : ℕ} → CastAt s at P m → Mapping P.tree → B
  unfolding maps
  part-cast C = unmapped C.is refl

  pub part-rename : {B : Type 0} {m : ℕ} → RenameAt s at P m → Mapping P.tree → B
  unfolding maps
  part-rename R = unmapped R.is refl

module _ {s : Bytes} {at : ℕ} {P : SelectorAt s at} (k : ℕ) where
  module _ {m : ℕ} (S : StructAt s at P m) {r : StructFields} (F : CountedIs s S.input.end S.fields r) where
    pub field_found : k < r.count → {c : Cursor} → ((n : ℕ) (Q : SelectorsAt s n r.first.at) → k < n → NthIs s n r.first.at Q k c.at) →
        PartIs s at P k (PartFound.At c)
    field_found l {c} h =
        let N = h S.fields.count (selectors_moved refl (sym F.first) S.fields.selectors) (omega (arith, F.count)) in
        record {
          answer = record {
            frame = fields S.input.tree;
            here = N.here;
            part = subst (λ (y : Selector). Part y k (fields S.input.tree) N.here.tree) (sym S.is) (p_field N.nth);
            entered = e_fields S.code (selector_moved S.starts S.input) refl (omega (arith, S.inside, F.first, N.starts));
            starts = omega (arith, S.starts, S.inside, F.first, N.starts, selector-longer S.input);
            ends = omega (arith, N.ends, S.ends.1);
          };
        }

    pub field-none : r.count ≤ k → PartIs s at P k PartFound.None
    field-none l =
        let n = selectors-counted S.fields.count S.fields.selectors in
        record { answer = subst (λ (y : Selector). NoPart y k) (sym S.is) (n_field (omega (arith, F.count, n))) }

  pub list-found : {m : ℕ} (L : ListAt s at P m) {c : Cursor} → c.at ≡ L.input.end → PartIs s at P k (PartFound.At c)
  list-found L {c} e = record {
    answer = record {
      frame = element L.input.tree k;
      here = selector_moved (sym e) L.element;
      part = subst (λ (y : Selector). Part y k (element L.input.tree k) L.element.tree) (sym L.is) p_list;
      entered = e_list L.code (selector_moved L.starts L.input) refl (omega (arith, e));
      starts = omega (arith, e, L.starts, selector-longer L.input);
      ends = omega (arith, L.ends);
    };
  }

  pub array-found : {m : ℕ} (A : ArrayAt s at P m) {c : Cursor} → c.at ≡ A.input.end → PartIs s at P k (PartFound.At c)
  array-found A {c} e = record {
    answer = record {
      frame = element A.input.tree k;
      here = selector_moved (sym e) A.element;
      part = subst (λ (y : Selector). Part y k (element A.input.tree k) A.element.tree) (sym A.is) p_array;
      entered = e_array A.code (selector_moved A.starts A.input) refl (omega (arith, e));
      starts = omega (arith, e, A.starts, selector-longer A.input);
      ends = omega (arith, A.ends);
    };
  }

  -- what an answer says
  module _ {r : PartFound} (R : PartIs s at P k r) where
    pub part_at : {c : Cursor} → r ≡ PartFound.At c → PartAt s at P k c.at
    part_at e = subst (λ (q : PartFound). PartAnswer s at P k q) e R.answer

    pub part_none : r ≡ PartFound.None → NoPart P.tree k
    part_none e = subst (λ (q : PartFound). PartAnswer s at P k q) e R.answer

-- ---- the next move

module _ {plan : Bytes} {w : Walk} {x : State} (M : WalkAt plan w x) where
  module _ (m : Mapping x.selector) where
    here-mapping : Mapping M.here.tree
    here-mapping = subst Mapping (sym M.selector) m

    pub entering-ended : w.len ≤ w.deep → MoveIs plan w x M Move.Stop
    entering-ended l = record { answer = stop_mapping m (path-none M l) }

    module _ (l : w.deep < w.len) {r : PartFound} (h : (P : SelectorAt plan w.at) → Mapping P.tree → PartIs plan w.at P
        (get_or w.path w.deep 0) r) where
      pub entering-part : {c : Cursor} → r ≡ PartFound.At c → MoveIs plan w x M (Move.Enter c)
      entering-part e = record {
        answer = record {
          number = get_or w.path w.deep 0;
          rest = _;
          path = path-some M l;
          part = part_at (get_or w.path w.deep 0)
              (h M.here here-mapping) e;
        };
      }

      pub entering-none : r ≡ PartFound.None → MoveIs plan w x M Move.Stop
      entering-none e =
          let n = part_none (get_or w.path w.deep 0) (h M.here here-mapping) e in
          record { answer = stop_no_part (subst (λ (y : Selector). NoPart y (get_or w.path w.deep 0)) M.selector n) (path-some M l) }

  module _ {k : Position} (a : x.selector ≡ position k) where
    pub leaving-column : w.deep ≡ 0 → MoveIs plan w x M Move.Stop
    leaving-column z = record { answer = stop_column a (entries_none z M.entries) }

  -- the innermost mapping stands in the plan, before the walk
  pub inner-inside : (w.deep ≡ 0 → ⊥) → get_or w.maps (w.deep - 1) 0 < length plan
  inner-inside z =
      let (f, F, e) = some-inner z M.entries in
      let I = innermost e M.entries in
      omega (arith, entered-before I.entered, walk_starts M, M.bound)

  module _ {k : Position} (a : x.selector ≡ position k) (z : w.deep ≡ 0 → ⊥) where
    pub leaving-field : {i : ℕ} → i ≡ k.0 → get_or plan (get_or w.maps (w.deep - 1) 0) 0 ≡ 4 → MoveIs plan w x M (Move.Leave i)
    leaving-field {i} h c =
        let (f, F, e) = some-inner z M.entries in
        go f F e (innermost e M.entries).entered
      where
        go : (f : Frame) (F : List Frame) → x.frames ≡ f ∷ F → Entered plan (get_or w.maps (w.deep - 1) 0) (get_or w.path (w.deep - 1) 0) w.at f
            → MoveIs plan w x M (Move.Leave i)
        go f F e (e_fields d P g l) = record { answer = record { position = k; is = a; frame = f; outer = F; frames = e; input = _; takes = t_field h } }
        go f F e (e_list d P g l) = absurd (omega arith)
        go f F e (e_array d P g l) = absurd (omega arith)

    module _ (c : get_or plan (get_or w.maps (w.deep - 1) 0) 0 ≡ 4 → ⊥) where
      pub leaving-element : k.0 ≡ 0 → MoveIs plan w x M (Move.Leave (get_or w.path (w.deep - 1) 0))
      leaving-element h =
          let (f, F, e) = some-inner z M.entries in
          go f F e (innermost e M.entries).entered
        where
          go : (f : Frame) (F : List Frame) → x.frames ≡ f ∷ F → Entered plan (get_or w.maps (w.deep - 1) 0) (get_or w.path (w.deep - 1) 0) w.at f
              → MoveIs plan w x M (Move.Leave (get_or w.path (w.deep - 1) 0))
          go f F e (e_fields d P g l) = absurd (c d)
          go f F e (e_list d P g l) = record { answer = record { position = k; is = a; frame = f; outer = F; frames = e; input = _; takes = t_element h } }
          go f F e (e_array d P g l) = record { answer = record { position = k; is = a; frame = f; outer = F; frames = e; input = _; takes = t_element h } }

      pub leaving-none : (k.0 ≡ 0 → ⊥) → MoveIs plan w x M Move.Stop
      leaving-none h =
          let (f, F, e) = some-inner z M.entries in
          go f F e (innermost e M.entries).entered
        where
          go : (f : Frame) (F : List Frame) → x.frames ≡ f ∷ F → Entered plan (get_or w.maps (w.deep - 1) 0) (get_or w.path (w.deep - 1) 0) w.at f
              → MoveIs plan w x M Move.Stop
          go f F e (e_fields d P g l) = absurd (c d)
          go f F e (e_list d P g l) = record { answer = stop_element a e h }
          go f F e (e_array d P g l) = record { answer = stop_element a e h }

  -- the selector, by its head
  pub walk_is : {y : Selector} → M.here.tree ≡ y → x.selector ≡ y
  walk_is e = sym M.selector ∙ e

  pub walk_mapping : {y : Selector} → M.here.tree ≡ y → Mapping y → Mapping x.selector
  walk_mapping e m = subst Mapping (sym (walk_is e)) m

  pub next-constant : {n : Span} {m : ℕ} → ConstantAt plan w.at M.here n m → MoveIs plan w x M Move.Stop
  next-constant C = record { answer = stop_constant (walk_is C.is) }

  pub next_cast_lem : {m : ℕ} → CastAt plan w.at M.here m → MoveIs plan w x M Move.Stop
  next_cast_lem C = record { answer = stop_cast (walk_is C.is) }

  module _ {m : ℕ} (R : RenameAt plan w.at M.here m) where
    pub next-rename : w.deep < w.len → MoveIs plan w x M Move.Input
    next-rename l = record { answer = record { input = _; name = _; is = walk_is R.is; number = _; rest = _; path = path-some M l } }

    pub next-renamed : w.len ≤ w.deep → MoveIs plan w x M Move.Stop
    next-renamed l = record { answer = stop_rename (walk_is R.is) (path-none M l) }

-- ---- the moves, until none is left

-- the walk w0, which stood for x, has become w
pub record Walking (plan : Bytes) (x : State) (w0 w : Walk) : Type 0 where
  pub state : State
  pub standing : WalkAt plan w state
  pub moves : (z : State) → Moves state z → Moves x z
  pub falls : rank w ≤ rank w0

pub walking_none : {plan : Bytes} {x : State} {w : Walk} → WalkAt plan w x → Walking plan x w w
walking_none {x = x} M = record { state = x; standing = M; moves = λ z m. m; falls = omega arith }

module _ {plan : Bytes} {x : State} {w0 w : Walk} (N : Walking plan x w0 w) {q : Move} (Q : MoveIs plan w N.state N.standing q) where
  opened : {r : Move} → q ≡ r → MoveAnswer plan w N.state N.standing r
  opened e = subst (λ (r : Move). MoveAnswer plan w N.state N.standing r) e Q.answer

  -- one more move, after which less is left
  further : {y : State} {r : Walk} → ((z : State) → Moves y z → Moves N.state z) → StepsTo plan y w r → Walking plan x w0 r × (rank r < rank w)
  further {y} m S = (record { state = y; standing = S.standing; moves = λ z n. N.moves z (m z n); falls = omega (arith, S.falls, N.falls) }, S.falls)

  pub walking_input : q ≡ Move.Input → {r : Walk}
      → ((p : Bytes) (y : State) (s : Selector) → WalkAt p w y → Input y.selector s → StepsTo p (state s y.frames y.path) w r) → Walking plan x
      w0 r × (rank r < rank w)
  walking_input e h =
      let A = opened e in
      further (λ z m. move_rename A.is A.path m)
      (h plan N.state A.input N.standing (subst (λ (y : Selector). Input y A.input) (sym A.is) i_rename))

  pub walking_enter : {c : Cursor} → q ≡ Move.Enter c → {r : Walk}
      → ((p : Bytes) (y : State) (M : WalkAt p w y) (E : Enters p w y M c.at) → StepsTo p
      (state E.part.here.tree (E.part.frame ∷ y.frames) E.rest) w r)
      → Walking plan x w0 r × (rank r < rank w)
  walking_enter e h =
      let A = opened e in
      further (λ z m. move_part (subst (λ (y : Selector). Part y A.number A.part.frame A.part.here.tree) N.standing.selector
      A.part.part) A.path m)
      (h plan N.state N.standing A)

  pub walking_leave : {k : ℕ} → q ≡ Move.Leave k → {r : Walk}
      → ((p : Bytes) (y : State) → WalkAt p w y → (L : Leaves y k) → StepsTo p (state L.input L.outer (k ∷ y.path)) w r) → Walking plan x w0 r ×
      (rank r < rank w)
  walking_leave e h =
      let A = opened e in
      further (λ z m. move_leave A.is A.frames A.takes m) (h plan N.state N.standing A)

  pub walking_done : q ≡ Move.Stop → Located plan x w0 w
  walking_done e = record { state = N.state; standing = N.standing; moves = N.moves N.state m_here; stopped = opened e; falls = N.falls }

  -- what the moves ask
  pub input_asks : w.at < w.lim
  input_asks = walk_starts N.standing

  pub enter_asks : {c : Cursor} → q ≡ Move.Enter c → (w.at < 65536) × (w.deep < 64)
  enter_asks e = let A = opened e in (walk_small N.standing, omega (arith, path-more N.standing A.path, N.standing.short))

  pub leave_asks : {k : ℕ} → q ≡ Move.Leave k → (0 < w.deep) × (w.deep ≤ 64) × (get_or w.maps (w.deep - 1) 0 < w.at)
  leave_asks e = outward_asks N.standing (frames-deep N.standing (opened e).frames)

-- ---- into a mapping's part where the path ends

module _ {plan : Bytes} {w : Walk} {x : State} (M : WalkAt plan w x) {k : ℕ} {f : Frame} {t : Selector} (h : x.path ≡ []) (p : Part x.selector k f t)
    {q : PartFound} (g : (P : SelectorAt plan w.at) → Mapping P.tree → PartIs plan w.at P k q) where
  part-here : (P : SelectorAt plan w.at) → P.tree ≡ x.selector → Part P.tree k f t
  part-here P e = subst (λ (y : Selector). Part y k f t) (sym e) p

  pub child-none : {B : Type 0} → q ≡ PartFound.None → B
  child-none e =
      let a = part-here M.here M.selector in
      part-some a (part_none k (g M.here (part-mapping a)) e)

  pub child_in : w.deep < 64 → {c : Cursor} → q ≡ PartFound.At c → {r : Walk}
      → (let v : Walk = record { at = w.at; lim = w.lim; deep = w.deep; len = w.deep + 1; maps = w.maps; path = set w.path w.deep k } in
      (p : Bytes) (y : State) (M : WalkAt p v y) (E : Enters p v y M c.at) → StepsTo p
      (state E.part.here.tree (E.part.frame ∷ y.frames) E.rest) v r)
      → StepsTo plan (state t (f ∷ x.frames) []) w r
  unfolding rank
  child_in l {c} e {r} j =
      let N = pushed M h l k in
      let a = part-here N.here N.selector in
      let T = part_at k (g N.here (part-mapping a)) e in
      let S = j plan (state x.selector x.frames (k ∷ [])) N (record { number = k; rest = []; path = refl; part = T }) in
      let (u, v) = part_same T.part a in
      record {
        standing = subst (λ (y : Selector). WalkAt plan r (state y (f ∷ x.frames) [])) v
            (subst (λ (d : Frame). WalkAt plan r (state T.here.tree (d ∷ x.frames) [])) u S.standing);
        falls = S.falls;
      }
