-- The walk past casts and renames, step by step. Assumes nothing.
use Prim.Native.Nat.{ℕ, zero, suc, ◌+◌, ◌-◌, ◌%◌, ◌<◌, ◌≤◌}
use mathlib.Core.Path.{◌≡◌, refl, ap, sym, subst, ◌∙◌}
use mathlib.Core.Bool.{true}
use mathlib.Core.List.{List, [], ◌∷◌, ◌++◌}
use native.Mathlib.Omega.{arith}
use native.Mathlib.Decide.{ℕ_discrete}
use lib.ListN.{length, get_or, set, length-append, length-set}
use lib.Seq.{get_or-set_same, get_or-set_other}
use borrow.Author.Tests.{ne_eqb}
use Rattle.layout.specs.Bytes.{Bytes}
use Rattle.layout.specs.Parser.{choose}
use Rattle.layout.specs.Tree.{DataType, leaf, struct, list, array, ColumnType, dtype_of}
use Rattle.layout.specs.Layout.{kind, type}
use Rattle.layout.specs.code.Answers.{head_res}
use Rattle.layout.specs.code.Stands.{TypeAt}
use Rattle.layout.specs.declared.columns.Siblings.TheVariants.{Free}
use Rattle.layout.specs.declared.cursor.Cursor.{Cursor}
use Rattle.layout.specs.declared.types.Head.{Head}
use Rattle.layout.specs.declared.types.LeafType.{LeafType as LeafSpan}
use Rattle.layout.specs.declared.edition.Edition.{Edition}
use Rattle.layout.specs.declared.leaf.Leaf.{Leaf}
use Rattle.layout.specs.declared.leaf.Leaf.TheVariants.{Null}
use Rattle.layout.proofs.Ways.{clash}
use Rattle.layout.proofs.View.{leaf_at_lem}
use Rattle.rules.specs.declared.outcome.CastOption.{CastOption}
use Rattle.plan.specs.Selector.{Selector, position, constant, cast, rename, struct_mapping, list_mapping, array_mapping, Selectors, snil, scons, count_selectors}
use Rattle.walk.specs.code.State.{Frame, fields, State, state}
use Rattle.walk.specs.code.Moves.{Moves, Stopped, s_column, s_constant, s_cast, s_rename, s_struct, s_list, s_array, s_no_element, s_no_field, Input, i_cast}
use Rattle.walk.specs.code.Moves.{i_rename}
use Rattle.walk.specs.code.Walks.{WalkAt, Located, StepsTo, rank}
use Rattle.walk.specs.declared.walk.Walk.{Walk}
use Rattle.walk.proofs.Walks.{rank_below}
use Rattle.output.specs.code.Chain.{ends, goes, casts, next_field, next_out, next_cast, next_part, next_element, next_of, next, Passed, p_here, p_goes, p_casts}
use Rattle.output.specs.code.Chain.{Kept}
use Rattle.output.specs.code.Answers.{cast_pass, GoesOn, CastsOn, PassAnswer, PassIs, OnwardTo, OriginIs}
use Rattle.output.specs.declared.casts.Pass.{Pass}
use Rattle.output.proofs.Chain.{moves-passed, passed_on, passed-moves}
use Rattle.layout.proofs.Leaves.{leaf_of-type}
use Rattle.raw.proofs.Leaves.{is_nested, struct_nested, list_nested, array_nested}

-- ---- a cast's type, by what it begins with

goes_nested : (t : DataType) → is_nested t ≡ true → Pass.Goes ≡ cast_pass t
goes_nested (leaf l) e = clash (cc)
goes_nested (struct fs) e = refl
goes_nested (list t) e = refl
goes_nested (array w t) e = refl

module _ {v : Edition} {s : Bytes} {at : ℕ} (T : TypeAt v 16 s at) where
  cast-by : {c : ColumnType} → c ≡ T.tree → cast_pass (dtype_of c) ≡ cast_pass (dtype_of T.tree)
  cast-by e = ap (λ (c : ColumnType). cast_pass (dtype_of c)) e

  pub type-leaf : {p : Head} {l : LeafSpan} {c : Cursor} → head_res s p ≡ kind s at → p ≡ Head.Leaf l c → Pass.Casts l.leaf ≡ cast_pass (dtype_of T.tree)
  unfolding dtype_of
  type-leaf {l = l} h q = ap Pass.Casts (sym (leaf_of-type l.leaf _)) ∙ cast-by (sym (leaf_at_lem T h q).0)

  pub type-struct : {p : Head} {n : ℕ} {c : Cursor} → head_res s p ≡ kind s at → p ≡ Head.Struct n c → Pass.Goes ≡ cast_pass (dtype_of T.tree)
  type-struct h q = goes_nested (dtype_of T.tree) (struct_nested T h q)

  pub type-list : {p : Head} {c : Cursor} → head_res s p ≡ kind s at → p ≡ Head.List c → Pass.Goes ≡ cast_pass (dtype_of T.tree)
  type-list h q = goes_nested (dtype_of T.tree) (list_nested T h q)

  pub type-array : {p : Head} {w : ℕ} {c : Cursor} → head_res s p ≡ kind s at → p ≡ Head.Array w c → Pass.Goes ≡ cast_pass (dtype_of T.tree)
  type-array h q = goes_nested (dtype_of T.tree) (array_nested T h q)

-- the answer at the type's place under another name
pub type_as : {v : Edition} {s : Bytes} {at to : ℕ} (T : TypeAt v 16 s at) {r : Pass} → to ≡ at →
    ((U : TypeAt v 16 s to) → r ≡ cast_pass (dtype_of U.tree)) → r ≡ cast_pass (dtype_of T.tree)
type_as {v} {s} T e f = f (record { tree = T.tree; end = T.end; reads = ap (λ (i : ℕ). type v Free 16 s i) e ∙ T.reads })

-- ---- what a walk does next, by its selector

-- neither a cast nor a rename
abbrev pub Plain : Selector → Type 0
Plain (position k) = Unit {0}
Plain (constant n t v) = Unit {0}
Plain (cast s t o) = ⊥
Plain (rename s n) = ⊥
Plain (struct_mapping s ss) = Unit {0}
Plain (list_mapping s e) = Unit {0}
Plain (array_mapping s e) = Unit {0}

past-fields : (ss : Selectors) (k : ℕ) (E : List Frame) (p : List ℕ) → count_selectors ss ≤ k → next_field ss k E p ≡ ends
unfolding next_field count_selectors
past-fields snil k E p h = refl
past-fields (scons t ss) zero E p h = absurd (omega arith)
past-fields (scons t ss) (suc k) E p h = past-fields ss k E p (omega arith)

stopped-ends : {x : State} → Stopped x → Plain x.selector → next x ≡ ends
unfolding next_of next_out next_part next_element choose
stopped-ends s_column h = refl
stopped-ends s_constant h = refl
stopped-ends s_cast h = absurd h
stopped-ends s_rename h = absurd h
stopped-ends s_struct h = refl
stopped-ends s_list h = refl
stopped-ends s_array h = refl
stopped-ends (s_no_element {k = k} l) h = rw (ne_eqb k.0 0 (λ e. omega arith))
stopped-ends (s_no_field {s} {ss} {E} {k} {p} l) h = past-fields ss k (fields s ∷ E) p l

below : (t : DataType) (y : State) (k : ℕ) (p : List ℕ) → next_cast t y (k ∷ p) ≡ goes y
unfolding next_cast
below (leaf l) y k p = refl
below (struct fs) y k p = refl
below (list u) y k p = refl
below (array w u) y k p = refl

-- the selector s stands at x
module _ (x : State) {s : Selector} (e : s ≡ x.selector) where
  pub pass-ends : Stopped x → Plain s → PassIs x Pass.Ends
  pass-ends S h = record { answer = stopped-ends S (subst Plain e h) }

  input_of : {i : Selector} → Input s i → Input x.selector i
  input_of {i} h = subst (λ (r : Selector). Input r i) e h

  next-of : next x ≡ next_of s x.frames x.path
  next-of = ap (λ (r : Selector). next_of r x.frames x.path) (sym e)

  pub pass-rename : {i : Selector} {n : Bytes} → s ≡ rename i n → PassIs x Pass.Goes
  unfolding next_of
  pass-rename {i} f =
      record {
        answer = record {
          input = i;
          is = input_of (subst (λ (r : Selector). Input r i) (sym f) i_rename);
          next = next-of ∙ ap
              (λ (r : Selector). next_of r x.frames x.path) f;
        };
      }

  module _ {i : Selector} {t : DataType} {o : CastOption} (f : s ≡ cast i t o) where
    is-input : Input x.selector i
    is-input = input_of (subst (λ (r : Selector). Input r i) (sym f) i_cast)

    cast-next : next x ≡ next_cast t (state i x.frames x.path) x.path
    unfolding next_of
    cast-next = next-of ∙ ap (λ (r : Selector). next_of r x.frames x.path) f

    pub pass_below : {k : ℕ} {p : List ℕ} → x.path ≡ k ∷ p → PassIs x Pass.Goes
    pass_below {k} {p} g =
        record {
          answer = record {
            input = i;
            is = is-input;
            next = cast-next ∙ ap (λ (q : List ℕ). next_cast t (state i x.frames x.path) q) g ∙
                below t (state i x.frames x.path) k p;
          };
        }

    pub pass-at-end : x.path ≡ [] → {r : Pass} → r ≡ cast_pass t → PassIs x r
    unfolding next_cast
    pass-at-end g h = subst (λ (r : Pass). PassIs x r) (sym h) (go t (cast-next ∙ ap (λ (q : List ℕ). next_cast t (state i x.frames x.path) q) g))
      where
        go : (t : DataType) → next x ≡ next_cast t (state i x.frames x.path) [] → PassIs x (cast_pass t)
        go (leaf l) h = record { answer = record { input = i; is = is-input; next = h } }
        go (struct fs) h = record { answer = record { input = i; is = is-input; next = h } }
        go (list u) h = record { answer = record { input = i; is = is-input; next = h } }
        go (array w u) h = record { answer = record { input = i; is = is-input; next = h } }

-- ---- opening an answer

module _ {x : State} {r : Pass} (N : PassIs x r) where
  opened : {q : Pass} → r ≡ q → PassAnswer x q
  opened e = subst (λ (q : Pass). PassAnswer x q) e N.answer

  pub is-ends : r ≡ Pass.Ends → next x ≡ ends
  is-ends e = opened e

  pub is-goes : r ≡ Pass.Goes → GoesOn x
  is-goes e = opened e

  pub is-casts : {k : Leaf} → r ≡ Pass.Casts k → CastsOn x k
  is-casts e = opened e

pub onward-to : {plan : Bytes} {x : State} {s : Selector} {w i r : Walk} → StepsTo plan (state s x.frames x.path) w i → Located plan
    (state s x.frames x.path) i r → OnwardTo plan x s w r
onward-to T L = record { state = L.state; standing = L.standing; moves = L.moves; stopped = L.stopped; falls = omega (arith, L.falls, T.falls) }

-- ---- the loop of `find_origin`

passed-goes : {x y z u : State} {ks : List Leaf} → Passed x ks y → next y ≡ goes z → Moves z u → Passed x ks u
passed-goes p_here e m = p_goes e (moves-passed m)
passed-goes (p_goes f p) e m = p_goes f (passed-goes p e m)
passed-goes (p_casts f p) e m = p_casts f (passed-goes p e m)

passed-casts : {x y z u : State} {ks : List Leaf} {k : Leaf} → Passed x ks y → next y ≡ casts k z → Moves z u → Passed x (ks ++ (k ∷ [])) u
passed-casts p_here e m = p_casts e (moves-passed m)
passed-casts (p_goes f p) e m = p_goes f (passed-casts p e m)
passed-casts (p_casts f p) e m = p_casts f (passed-casts p e m)

-- from x, where w₀ stands, to where w stands, past that many casts
pub record Passing (plan : Bytes) (x : State) (w₀ : Walk) (n : ℕ) (w : Walk) : Type 0 where
  pub kinds : List Leaf
  pub state : State
  pub passed : Passed x kinds state
  pub counted : length kinds ≡ n
  pub standing : WalkAt plan w state
  pub stopped : Stopped state
  pub falls : n + rank w ≤ rank w₀

pub passing_none : {plan : Bytes} {x : State} {w : Walk} → WalkAt plan w x → Stopped x → Passing plan x w 0 w
passing_none {x = x} W S = record { kinds = []; state = x; passed = p_here; counted = refl; standing = W; stopped = S; falls = omega arith }

module _ {plan : Bytes} {x : State} {w₀ : Walk} {n : ℕ} {w : Walk} (P : Passing plan x w₀ n w) {r : Walk} where
  pub passing_goes : (G : GoesOn P.state) → OnwardTo plan P.state G.input w r → Passing plan x w₀ n r
  passing_goes G O = record {
    kinds = P.kinds;
    state = O.state;
    passed = passed-goes P.passed G.next O.moves;
    counted = P.counted;
    standing = O.standing;
    stopped = O.stopped;
    falls = omega (arith, P.falls, O.falls);
  }

  pub passing_casts : {k : Leaf} (G : CastsOn P.state k) → OnwardTo plan P.state G.input w r → Passing plan x w₀ (n + 1) r
  passing_casts {k} G O = record {
    kinds = P.kinds ++ (k ∷ []);
    state = O.state;
    passed = passed-casts P.passed G.next O.moves;
    counted = length-append P.kinds (k ∷ []) ∙ ap (λ (i : ℕ). i + 1) P.counted;
    standing = O.standing;
    stopped = O.stopped;
    falls = omega (arith, P.falls, O.falls);
  }

pub passing_small : {plan : Bytes} {x : State} {w₀ : Walk} {n : ℕ} {w : Walk} → Passing plan x w₀ n w → WalkAt plan w₀ x → n < 18446744073709551615
passing_small P W = omega (arith, P.falls, rank_below W)

pub passing_origin : {plan : Bytes} {x : State} {w w₀ : Walk} {n : ℕ} {r : Walk} (L : Located plan x w w₀) (P : Passing plan L.state w₀ n r) → next
    P.state ≡ ends
    → OriginIs plan x w (record { casts = n; walk = r })
passing_origin L P e = record {
  kinds = P.kinds;
  state = P.state;
  passed = passed_on (moves-passed L.moves) P.passed;
  ended = e;
  counted = P.counted;
  standing = P.standing;
  falls = omega (arith, P.falls, L.falls);
}

-- ---- the loop of `last_kinds`

casts_eq : {a b : Leaf} {x y : State} → casts a x ≡ casts b y → (a ≡ b) × (x ≡ y)
casts_eq e = (cc, cc)

goes_eq : {x y : State} → goes x ≡ goes y → x ≡ y
goes_eq e = cc

passed-from : {y z u : State} {ks : List Leaf} → 0 < length ks → Moves y u → Passed y ks z → Passed u ks z
passed-from {ks = []} h m p = absurd (omega arith)
passed-from {ks = k ∷ ks} h m p = passed-moves m p

-- past a cast
pub record Behind (y z : State) (ks : List Leaf) (k : Leaf) : Type 0 where
  pub rest : List Leaf
  pub is : ks ≡ k ∷ rest
  pub passed : Passed y rest z

never_ends : {B : Type 0} {y z : State} {ks : List Leaf} → 0 < length ks → Passed y ks z → next y ≡ ends → B
never_ends h p_here e = absurd (omega arith)
never_ends h (p_goes f p) e = clash (cc)
never_ends h (p_casts f p) e = clash (cc)

past-goes : {y y' z : State} {ks : List Leaf} → 0 < length ks → Passed y ks z → next y ≡ goes y' → Passed y' ks z
past-goes h p_here e = absurd (omega arith)
past-goes {z = z} {ks = ks} h (p_goes f p) e = subst (λ (u : State). Passed u ks z) (goes_eq (sym f ∙ e)) p
past-goes h (p_casts f p) e = clash (cc)

past-casts : {y y' z : State} {ks : List Leaf} {k : Leaf} → 0 < length ks → Passed y ks z → next y ≡ casts k y' → Behind y' z ks k
past-casts h p_here e = absurd (omega arith)
past-casts h (p_goes f p) e = clash (cc)
past-casts {z = z} h (p_casts {ks = ks} f p) e =
    let (a, b) = casts_eq (sym f ∙ e) in
    record { rest = ks; is = ap (λ (k : Leaf). k ∷ ks) a; passed = subst (λ (u : State). Passed u ks z) b p }

-- n of the first i of the casts ks are left from y
pub record Ahead (z : State) (ks : List Leaf) (i n : ℕ) (y : State) : Type 0 where
  pub kinds : List Leaf
  pub passed : 0 < n → Passed y kinds z
  pub more : n ≤ length kinds
  pub same : (m : ℕ) → m < n → get_or kinds (n - 1 - m) Null ≡ get_or ks (i - 1 - m) Null

module _ {z : State} {ks : List Leaf} {i n : ℕ} {y : State} (A : Ahead z ks i n y) (h : 0 < n) where
  some_left : 0 < length A.kinds
  some_left = omega (arith, A.more)

  pub ahead_ends : {B : Type 0} → next y ≡ ends → B
  ahead_ends e = never_ends some_left (A.passed h) e

  pub ahead_goes : {y' u : State} → next y ≡ goes y' → Moves y' u → Ahead z ks i n u
  ahead_goes e m = record { kinds = A.kinds; passed = λ l. passed-from some_left m (past-goes some_left (A.passed h) e); more = A.more; same = A.same }

  module _ {k : Leaf} {y' : State} (e : next y ≡ casts k y') where
    past : Behind y' z A.kinds k
    past = past-casts some_left (A.passed h) e

    pub ahead_kind : k ≡ get_or ks (i - 1 - (n - 1)) Null
    ahead_kind =
        let q : 0 ≡ n - 1 - (n - 1) = omega arith in
        let l : n - 1 < n = omega arith in
        sym (ap (λ (l : List Leaf). get_or l 0 Null) past.is) ∙ ap (λ (j : ℕ). get_or A.kinds j Null) q ∙ A.same (n - 1) l

    pub ahead_casts : {u : State} → Moves y' u → Ahead z ks i (n - 1) u
    ahead_casts m =
        let B = past in
        let l : length A.kinds ≡ suc (length B.rest) = ap length B.is in
        record { kinds = B.rest; passed = λ g. passed-from (omega (arith, A.more, l)) m B.passed; more = omega (arith, A.more, l); same = same }
      where
        same : (m : ℕ) → m < n - 1 → get_or past.rest (n - 1 - 1 - m) Null ≡ get_or ks (i - 1 - m) Null
        same m l =
            let q : suc (n - 1 - 1 - m) ≡ n - 1 - m = omega arith in
            ap (λ (j : ℕ). get_or (k ∷ past.rest) j Null) q ∙ ap (λ (l : List Leaf). get_or l (n - 1 - m) Null) (sym past.is) ∙ A.same m (omega arith)

-- One kind more, at its place; where it is not among the last 1,024, what it takes the place of is not either.
kept_more : {ks : List Leaf} {i left : ℕ} {kinds : List Leaf} {kind : Leaf} → Kept ks i (left + 1) kinds → kind ≡ get_or ks (i - 1 - left) Null
    → Kept ks i left (set kinds (left % 1024) kind)
kept_more {ks} {i} {left} {kinds} {kind} K e = record {
  room = length-set kinds (left % 1024) kind ∙ K.room;
  right = λ m a b c. go m a b c
      (ℕ_discrete m left);
}
  where
    go : (m : ℕ) → left ≤ m → m < i → m < 1024 → Dec (m ≡ left) → get_or (set kinds (left % 1024) kind) m Null ≡ get_or ks (i - 1 - m) Null
    go m a b c (yes q) =
        let p : m ≡ left % 1024 = omega arith in
        ap (λ (j : ℕ). get_or (set kinds (left % 1024) kind) j Null) p ∙ get_or-set_same kinds (left % 1024) kind Null (omega (arith, K.room)) ∙ e
        ∙ ap (λ (j : ℕ). get_or ks (i - 1 - j) Null) (sym q)
    go m a b c (no q) =
        let p : m ≡ left % 1024 → ⊥ = λ z. q (omega arith) in
        get_or-set_other kinds (left % 1024) m kind Null p ∙ K.right m (omega (arith, q)) b c

-- from where w stands n of the first i casts are left, and the kinds of those before them are kept
pub record Keeping (plan : Bytes) (z : State) (ks : List Leaf) (i n : ℕ) (kinds : List Leaf) (w : Walk) : Type 0 where
  pub state : State
  pub standing : WalkAt plan w state
  pub stopped : Stopped state
  pub ahead : Ahead z ks i n state
  pub kept : Kept ks i n kinds

pub ahead_all : {x y z : State} {ks : List Leaf} {i : ℕ} → Moves x y → Passed x ks z → i ≤ length ks → Ahead z ks i i y
ahead_all {ks = ks} m p h = record { kinds = ks; passed = λ l. passed-from (omega arith) m p; more = h; same = λ m l. refl }

pub keeping_none : {plan : Bytes} {x z : State} {ks : List Leaf} {i : ℕ} {w : Walk} {kinds : List Leaf} → length kinds ≡ 1024 → WalkAt plan w x → Stopped x
    → Ahead z ks i i x → Keeping plan z ks i i kinds w
keeping_none {x = x} e W S A = record { state = x; standing = W; stopped = S; ahead = A; kept = record { room = e; right = λ m a b c. absurd (omega arith) } }

module _ {plan : Bytes} {z : State} {ks : List Leaf} {i n : ℕ} {kinds : List Leaf} {w : Walk} (Q : Keeping plan z ks i n kinds w) where
  pub keeping_all : n ≤ 0 → Kept ks i 0 kinds
  keeping_all h = record { room = Q.kept.room; right = λ m a b c. Q.kept.right m (omega arith) b c }

  module _ (h : 0 < n) {r : Walk} where
    pub keeping_goes : (G : GoesOn Q.state) → OnwardTo plan Q.state G.input w r → Keeping plan z ks i n kinds r
    keeping_goes G O = record {
      state = O.state;
      standing = O.standing;
      stopped = O.stopped;
      ahead = ahead_goes Q.ahead h G.next O.moves;
      kept = Q.kept;
    }

    pub keeping_casts : {k : Leaf} (G : CastsOn Q.state k) → OnwardTo plan Q.state G.input w r
        → Keeping plan z ks i (n - 1) (set kinds ((n - 1) % 1024) k) r
    keeping_casts G O =
        let K : Kept ks i (n - 1 + 1) kinds = record { room = Q.kept.room; right = λ m a b c. Q.kept.right m (omega arith) b c } in
        record {
          state = O.state;
          standing = O.standing;
          stopped = O.stopped;
          ahead = ahead_casts Q.ahead h G.next O.moves;
          kept = kept_more K (ahead_kind Q.ahead h G.next);
        }
