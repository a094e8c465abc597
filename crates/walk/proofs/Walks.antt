-- Each move of a walk stands for the moved state. Assumes nothing.
use Prim.Native.Nat.{ℕ, suc, ◌+◌, ◌-◌, ◌^◌, ◌≤◌, ◌<◌}
use mathlib.Core.Path.{◌≡◌, refl, sym, ap, ◌∙◌, subst}
use mathlib.Core.List.{List, [], ◌∷◌}
use native.Mathlib.Omega.{arith}
use native.Mathlib.Numerals.{add-one}
use lib.ListN.{length, get_or, take, drop, set, length-set}
use lib.Seq.{slice, slice-cons, slice_empty, length-slice, take-set-lt, drop-set-lt, get_or-set_same, get_or-set_other}
use Rattle.layout.specs.Bytes.{Bytes}
use Rattle.layout.specs.declared.columns.Position.{Position}
use Rattle.layout.proofs.Ways.{clash}
use Rattle.plan.specs.Selector.{Selector}
use Rattle.plan.specs.Read.{longest_plan}
use Rattle.walk.specs.code.Stands.{SelectorAt}
use Rattle.walk.specs.code.State.{Frame, input_of, State, state}
use Rattle.walk.specs.code.Moves.{Input, Takes, t_field, t_element}
use Rattle.walk.specs.code.Walks.{Entered, e_fields, e_list, e_array, Entries, e_none, e_more, WalkAt, rank, outward_of, StepsTo, Enters, Leaves}
use Rattle.walk.specs.declared.walk.Walk.{Walk}
use Rattle.walk.proofs.View.{selector-longer}
use Rattle.walk.proofs.Trees.{input-at}

-- ---- the entered mappings

entered-later : {plan : Bytes} {m i p q : ℕ} {f : Frame} → p ≤ q → Entered plan m i p f → Entered plan m i q f
entered-later h (e_fields c P e l) = e_fields c P e (omega arith)
entered-later h (e_list c P e l) = e_list c P e (omega arith)
entered-later h (e_array c P e l) = e_array c P e (omega arith)

entries-later : {plan : Bytes} {maps path : List ℕ} {d p q : ℕ} {E : List Frame} → p ≤ q → Entries plan maps path d p E → Entries plan maps path d q E
entries-later h e_none = e_none
entries-later h (e_more t u) = e_more (entered-later h t) u

-- what the arrays have from d on is of no account
entries-same : {plan : Bytes} (maps path maps' path' : List ℕ) {d p : ℕ} {E : List Frame} →
    ((j : ℕ) → j < d → (get_or maps j 0 ≡ get_or maps' j 0) × (get_or path j 0 ≡ get_or path' j 0))
    → Entries plan maps path d p E → Entries plan maps' path' d p E
entries-same maps path maps' path' h e_none = e_none
entries-same {plan} maps path maps' path' h (e_more {d} {p} {f} {E} t u) =
    let (a, b) = h d (omega arith) in
    e_more
    (subst (λ (m : ℕ). Entered plan m (get_or path' d 0) p f) a (subst (λ (i : ℕ). Entered plan (get_or maps d 0) i p f) b t))
    (subst (λ (m : ℕ). Entries plan maps' path' d m E) a (entries-same maps path maps' path' (λ j k. h j (omega arith)) u))

pub entries_none : {plan : Bytes} {maps path : List ℕ} {d p : ℕ} {E : List Frame} → d ≡ 0 → Entries plan maps path d p E → E ≡ []
entries_none z e_none = refl
entries_none z (e_more t u) = absurd (omega arith)

no_entries : {plan : Bytes} {maps path : List ℕ} {d p : ℕ} {E : List Frame} → E ≡ [] → Entries plan maps path d p E → d ≡ 0
no_entries e e_none = refl
no_entries e (e_more t u) = clash (cc)

-- the innermost mapping, and those around it
pub record Inner (plan : Bytes) (maps path : List ℕ) (d p : ℕ) (f : Frame) (F : List Frame) : Type 0 where
  pub some : 0 < d
  pub entered : Entered plan (get_or maps (d - 1) 0) (get_or path (d - 1) 0) p f
  pub outer : Entries plan maps path (d - 1) (get_or maps (d - 1) 0) F

inner_of : {plan : Bytes} {maps path : List ℕ} {d p : ℕ} {f g : Frame} {E F : List Frame} → g ∷ E ≡ f ∷ F → Entered plan (get_or maps d 0) (get_or path d 0) p g
    → Entries plan maps path d (get_or maps d 0) E → Inner plan maps path (suc d) p f F
inner_of {plan} {maps} {path} {d} {p} {f} {g} {E} {F} h t u =
    let a : g ≡ f = cc in
    let b : E ≡ F = cc in
    let e : d ≡ suc d - 1 = omega arith in
    record {
      some = omega arith;
      entered = subst (λ (j : ℕ). Entered plan (get_or maps j 0) (get_or path j 0) p f) e
          (subst (λ (x : Frame). Entered plan (get_or maps d 0) (get_or path d 0) p x) a t);
      outer = subst (λ (j : ℕ). Entries plan maps path j (get_or maps j 0) F) e (subst (λ (X : List Frame). Entries plan maps path d (get_or maps d 0) X) b u);
    }

pub innermost : {plan : Bytes} {maps path : List ℕ} {d p : ℕ} {E : List Frame} {f : Frame} {F : List Frame} → E ≡ f ∷ F → Entries plan maps path d p E →
    Inner plan maps path d p f F
innermost h e_none = clash (cc)
innermost h (e_more t u) = inner_of h t u

pub some-inner : {plan : Bytes} {maps path : List ℕ} {d p : ℕ} {E : List Frame} → (d ≡ 0 → ⊥) → Entries plan maps path d p E → (f : Frame) ×
    (F : List Frame) × (E ≡ f ∷ F)
some-inner h e_none = absurd (h refl)
some-inner h (e_more {f = f} {E = E} t u) = (f, E, refl)

-- the input of an entered mapping
record EnteredInput (plan : Bytes) (m p : ℕ) (f : Frame) : Type 0 where
  here : SelectorAt plan (m + 1)
  is : here.tree ≡ input_of f
  ends : here.end ≤ p

entered-input : {plan : Bytes} {m i p : ℕ} {f : Frame} → Entered plan m i p f → EnteredInput plan m p f
entered-input (e_fields c P e l) = record { here = P; is = e; ends = l }
entered-input (e_list c P e l) = record { here = P; is = e; ends = l }
entered-input (e_array c P e l) = record { here = P; is = e; ends = l }

-- a mapping begins before what is inside it
pub entered-before : {plan : Bytes} {m i p : ℕ} {f : Frame} → Entered plan m i p f → m + 1 < p
entered-before t = let I = entered-input t in omega (arith, I.ends, selector-longer I.here)

takes-input : {k : Position} {f : Frame} {i : ℕ} {s : Selector} → Takes k f i s → input_of f ≡ s
takes-input (t_field h) = refl
takes-input (t_element h) = refl

-- ---- the path

slice_set : (e len k : ℕ) (path : List ℕ) → e < len → len ≤ length path → slice e len (set path e k) ≡ k ∷ slice (suc e) len path
slice_set e len k path h r =
    let i : e < length path = omega arith in
    let n : len ≤ length (set path e k) = omega (arith, length-set path e k) in
    slice-cons e len (set path e k) 0 h n
    ∙ ap (λ (x : ℕ). x ∷ slice (suc e) len (set path e k)) (get_or-set_same path e k 0 i)
    ∙ ap (λ (l : List ℕ). k ∷ drop (suc e) l) (take-set-lt len path e k h)
    ∙ ap (λ (l : List ℕ). k ∷ l) (drop-set-lt (suc e) (take len path) e k (omega arith))

module _ {plan : Bytes} {w : Walk} {x : State} (M : WalkAt plan w x) where
  pub walk_starts : w.at < w.lim
  walk_starts = omega (arith, M.ends, selector-longer M.here)

  pub walk_inside : w.at < length plan
  walk_inside = omega (arith, walk_starts, M.bound)

  pub walk_small : w.at < 65536
  walk_small = omega (arith, walk_starts, M.bound, M.small)

  -- what a measure over a walk may be put beside
  pub rank_below : rank w < 2 ^ 34
  unfolding rank
  rank_below = omega (arith, M.bound, M.small)

  -- no mapping is entered
  pub top-frames : w.deep ≡ 0 → x.frames ≡ []
  top-frames z = entries_none z M.entries

  pub frames-top : x.frames ≡ [] → w.deep ≡ 0
  frames-top e = no_entries e M.entries

  pub path-some : w.deep < w.len → x.path ≡ get_or w.path w.deep 0 ∷ slice (suc w.deep) w.len w.path
  path-some h = sym M.path ∙ slice-cons w.deep w.len w.path 0 h (omega (arith, M.short, M.room.1))

  path-length : length x.path ≡ w.len - w.deep
  path-length = sym (ap length M.path) ∙ length-slice w.deep w.len w.path (omega (arith, M.short, M.room.1))

  pub path-none : w.len ≤ w.deep → x.path ≡ []
  path-none h =
      let e : w.len ≡ w.deep = omega (arith, M.deep) in
      sym M.path ∙ ap (λ (n : ℕ). slice w.deep n w.path) e ∙ slice_empty w.deep w.path

  pub path-end : x.path ≡ [] → w.deep ≡ w.len
  path-end h = let e : length x.path ≡ 0 = ap length h in omega (arith, path-length, M.deep)

  pub path-more : {k : ℕ} {p : List ℕ} → x.path ≡ k ∷ p → w.deep < w.len
  path-more {k} {p} h = let e : length x.path ≡ suc (length p) = ap length h in omega (arith, path-length, M.deep)

  -- ---- to the input

  pub to_input : {s : Selector} → Input x.selector s
      → StepsTo plan (state s x.frames x.path) w (record { at = w.at + 1; lim = w.lim; deep = w.deep; len = w.len; maps = w.maps; path = w.path })
  unfolding rank
  to_input {s} i =
      let I = input-at M.here (subst (λ (y : Selector). Input y s) (sym M.selector) i) in
      record {
        standing = record {
          here = I.here;
          selector = I.is;
          ends = omega (arith, I.ends, M.ends);
          bound = M.bound;
          small = M.small;
          entries = entries-later (omega arith) M.entries;
          deep = M.deep;
          short = M.short;
          room = M.room;
          path = M.path;
        };
        falls = omega (arith, walk_starts);
      }

  -- ---- into a part

  module _ {m : ℕ} (E : Enters plan w x M m) where
    pub enter : StepsTo plan (state E.part.here.tree (E.part.frame ∷ x.frames) E.rest) w
        (record { at = m; lim = w.lim; deep = w.deep + 1; len = w.len; maps = set w.maps w.deep w.at; path = w.path })
    unfolding rank
    enter =
        let T = E.part in
        let l = path-more E.path in
        let c : get_or w.path w.deep 0 ∷ slice (suc w.deep) w.len w.path ≡ E.number ∷ E.rest = sym (path-some l) ∙ E.path in
        let a : E.number ≡ get_or w.path w.deep 0 = cc in
        let b : slice (suc w.deep) w.len w.path ≡ E.rest = cc in
        let maps = set w.maps w.deep w.at in
        let here : w.at ≡ get_or maps w.deep 0 = sym (get_or-set_same w.maps w.deep w.at 0 (omega (arith, M.short, M.room.0))) in
        let frame : Entered plan (get_or maps w.deep 0) (get_or w.path w.deep 0) m T.frame =
        subst (λ (i : ℕ). Entered plan i (get_or w.path w.deep 0) m T.frame) here
        (subst (λ (i : ℕ). Entered plan w.at i m T.frame) a T.entered) in
        let under : Entries plan maps w.path w.deep w.at x.frames =
        entries-same w.maps w.path maps w.path (λ j h. (sym (get_or-set_other w.maps w.deep j w.at 0 (λ z. omega arith)), refl)) M.entries in
        let all : Entries plan maps w.path (suc w.deep) m (T.frame ∷ x.frames) =
        e_more frame (subst (λ (i : ℕ). Entries plan maps w.path w.deep i x.frames) here under) in
        record {
          standing = record {
            here = T.here;
            selector = refl;
            ends = omega (arith, T.ends, M.ends);
            bound = M.bound;
            small = M.small;
            entries = subst (λ (n : ℕ). Entries plan maps w.path n m (T.frame ∷ x.frames)) (sym (add-one w.deep)) all;
            deep = omega arith;
            short = M.short;
            room = (omega (arith, M.room.0, length-set w.maps w.deep w.at), M.room.1);
            path = ap (λ (n : ℕ). slice n w.len w.path) (add-one w.deep) ∙ b;
          };
          falls = omega (arith, T.starts, T.ends, M.ends, selector-longer T.here);
        }

  -- ---- out of a mapping

  pub outward_asks : (w.deep ≡ 0 → ⊥) → (0 < w.deep) × (w.deep ≤ 64) × (get_or w.maps (w.deep - 1) 0 < w.at)
  outward_asks z =
      let (f, F, e) = some-inner z M.entries in
      let I = innermost e M.entries in
      (I.some, omega (arith, M.deep, M.short), omega (arith, entered-before I.entered))

  module _ {f : Frame} {F : List Frame} (e : x.frames ≡ f ∷ F) where
    pub frames-deep : w.deep ≡ 0 → ⊥
    frames-deep z = let I = innermost e M.entries in omega (arith, I.some)

    pub outward : StepsTo plan (state (input_of f) F []) w (outward_of w)
    unfolding rank
    outward =
        let I = innermost e M.entries in
        let O = entered-input I.entered in
        record {
          standing = record {
            here = O.here;
            selector = O.is;
            ends = O.ends;
            bound = omega (arith, walk_starts, M.bound);
            small = M.small;
            entries = entries-later (omega arith) I.outer;
            deep = omega arith;
            short = omega (arith, M.deep, M.short);
            room = M.room;
            path = slice_empty (w.deep - 1) w.path;
          };
          falls = omega (arith, walk_starts, M.bound, M.small, O.ends, selector-longer O.here);
        }

  -- the same, but that the path goes on from the part that is taken
  left : {i : ℕ} (L : Leaves x i) → StepsTo plan (state L.input L.outer (i ∷ x.path)) w
      (record { at = get_or w.maps (w.deep - 1) 0 + 1; lim = w.at; deep = w.deep - 1; len = w.len; maps = w.maps; path = set w.path (w.deep - 1) i })
  unfolding rank outward
  left {i} L =
      let I = innermost L.frames M.entries in
      let O = outward L.frames in
      let S = O.standing in
      let d = w.deep - 1 in
      let e : w.deep ≡ suc d = omega (arith, I.some) in
      let l : d < w.len = omega (arith, I.some, M.deep) in
      let r : w.len ≤ length w.path = omega (arith, M.short, M.room.1) in
      let path = set w.path d i in
      record {
        standing = record {
          here = S.here;
          selector = S.selector ∙ takes-input L.takes;
          ends = S.ends;
          bound = S.bound;
          small = M.small;
          entries = entries-same w.maps w.path w.maps path (λ j h. (refl, sym (get_or-set_other w.path d j i 0 (λ z. omega arith)))) S.entries;
          deep = omega arith;
          short = M.short;
          room = (M.room.0, omega (arith, M.room.1, length-set w.path d i));
          path = slice_set d w.len i w.path l r ∙ ap (λ (n : ℕ). i ∷ slice n w.len w.path) (sym e) ∙ ap (λ (p : List ℕ). i ∷ p) M.path;
        };
        falls = O.falls;
      }

  pub leave : {n : Walk} → n ≡ outward_of w → {i : ℕ} (L : Leaves x i) → StepsTo plan (state L.input L.outer (i ∷ x.path)) w
      (record { at = n.at; lim = n.lim; deep = n.deep; len = w.len; maps = n.maps; path = set n.path (w.deep - 1) i })
  leave e {i} L =
      subst (λ (n : Walk). StepsTo plan (state L.input L.outer (i ∷ x.path)) w
      (record { at = n.at; lim = n.lim; deep = n.deep; len = w.len; maps = n.maps; path = set n.path (w.deep - 1) i })) (sym e) (left L)

  -- ---- a number put at the path's end

  pub pushed : x.path ≡ [] → w.deep < 64 → (k : ℕ)
      → WalkAt plan (record { at = w.at; lim = w.lim; deep = w.deep; len = w.deep + 1; maps = w.maps; path = set w.path w.deep k })
      (state x.selector x.frames (k ∷ []))
  pushed h l k =
      let r : w.deep < length w.path = omega (arith, M.room.1) in
      let e = add-one w.deep in
      record {
        here = M.here;
        selector = M.selector;
        ends = M.ends;
        bound = M.bound;
        small = M.small;
        entries = entries-same w.maps w.path w.maps (set w.path w.deep k)
            (λ j g. (refl, sym (get_or-set_other w.path w.deep j k 0 (λ z. omega arith)))) M.entries;
        deep = omega arith;
        short = omega arith;
        room = (M.room.0, omega (arith, M.room.1, length-set w.path w.deep k));
        path =
            ap (λ (n : ℕ). slice w.deep n (set w.path w.deep k)) e
            ∙ slice_set w.deep (suc w.deep) k w.path (omega arith) (omega arith)
            ∙ ap (λ (p : List ℕ). k ∷ p) (slice_empty (suc w.deep) w.path);
      }

-- ---- the start

pub top : {plan : Bytes} {at lim : ℕ} {maps path : List ℕ} (P : SelectorAt plan at) → P.end ≤ lim → lim ≤ length plan → length plan ≤ longest_plan →
    length maps ≡ 64 → length path ≡ 64
    → WalkAt plan (record { at = at; lim = lim; deep = 0; len = 0; maps = maps; path = path }) (state P.tree [] [])
top {path = path} P e b s m p = record {
  here = P;
  selector = refl;
  ends = e;
  bound = b;
  small = s;
  entries = e_none;
  deep = omega arith;
  short = omega arith;
  room = (m, p);
  path = slice_empty 0 path;
}
