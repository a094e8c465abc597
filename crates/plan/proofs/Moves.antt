-- What reading a plan returns on each way, from what the callees answered and what the tests said. Assumes nothing.
use Prim.Native.Nat.{ℕ, zero, suc, ◌+◌, ◌-◌, ◌≤◌, ◌<◌, zero-le}
use mathlib.Core.Path.{◌≡◌, refl, sym, ap, ◌∙◌}
use mathlib.Core.Bool.{Bool, true, false}
use native.Mathlib.Omega.{arith}
use native.Mathlib.Decide.{ℕ_discrete}
use lib.ListN.{length, get_or, take, length-take}
use lib.Dec.{eqb}
use borrow.Author.Tests.{ne_eqb, eq-eqb, eqb-true, lt-ltb, le-leb, lt-leb}
use Rattle.layout.specs.Bytes.{Bytes, same_bytes}
use Rattle.layout.specs.Parser.{Res, refuse, ok, next, choose, Parser, byte, u16}
use Rattle.layout.specs.Tree.{dtype_of}
use Rattle.layout.specs.Layout.{text, type, ended}
use Rattle.layout.specs.code.Answers.{step_res, short_res, text_res, moved_of}
use Rattle.layout.specs.code.Stands.{TypeAt}
use Rattle.layout.specs.declared.bytes.Span.{Span}
use Rattle.layout.specs.declared.cursor.Cursor.{Cursor}
use Rattle.layout.specs.declared.cursor.Step.{Step}
use Rattle.layout.specs.declared.cursor.Short.{Short}
use Rattle.layout.specs.declared.cursor.Text.{Text}
use Rattle.layout.specs.declared.cursor.Moved.{Moved}
use Rattle.layout.specs.declared.columns.Siblings.TheVariants.{Free}
use Rattle.layout.specs.declared.edition.Edition.TheVariants.{One}
use Rattle.layout.proofs.Ways.{clash, moved_to, moved_refused, to-pure, to_on, to_off}
use Rattle.layout.proofs.Keys.{None, none}
use Rattle.layout.proofs.OfBytes.{same_bytes_eq}
use Rattle.layout.proofs.View.{next-ok}
use Rattle.rules.specs.declared.outcome.CastOption.{CastOption}
use Rattle.rules.specs.declared.outcome.OptionCode.{OptionCode}
use Rattle.rules.specs.Outcomes.{option_at}
use Rattle.values.specs.Value.{Value}
use Rattle.values.specs.Reading.{value}
use Rattle.values.specs.Record.{renumber}
use Rattle.values.specs.code.Answers.{value_moved}
use Rattle.values.specs.declared.read.ValueRead.{ValueRead}
use Rattle.plan.specs.Selector.{Selector, constant, cast, rename, struct_mapping, list_mapping, array_mapping, Selectors, snil, scons}
use Rattle.plan.specs.Selector.{count_selectors}
use Rattle.plan.specs.Encode.{plan_mark}
use Rattle.plan.specs.Read.{data_type, cast_option, known_option, position_rest, constant_rest, cast_rest, rename_rest, struct_rest, list_rest, array_rest}
use Rattle.plan.specs.Read.{selector_rest, selector, selectors, plan_sized, plan_version, plan_counted, plan_from, faulty, plan}
use Rattle.plan.specs.code.Answers.{value_end, plan_read}
use Rattle.plan.specs.declared.read.PlanRead.{PlanRead}

module _ (s : Bytes) (at : ℕ) where
  pub text-to : {q : Text} {p : Span} {c : Cursor} → text_res s q ≡ text s at → q ≡ Text.Is p c → Moved.To c ≡ moved_of (text s at)
  unfolding moved_of
  text-to e f = rw (← e, f)

  pub text-stopped : {q : Text} {n : ℕ} → text_res s q ≡ text s at → q ≡ Text.Refused n → Moved.Refused n ≡ moved_of (text s at)
  unfolding moved_of
  text-stopped e f = rw (← e, f)

  pub type-to : {r : Moved} → r ≡ moved_of (type One Free 16 s at) → r ≡ moved_of (data_type s at)
  unfolding data_type
  type-to e = to-pure dtype_of (type One Free 16 s at) e

  pub position-to : {q : Short} {n : ℕ} {c : Cursor} → short_res q ≡ u16 s at → q ≡ Short.Is n c → Moved.To c ≡ moved_of (position_rest s at)
  unfolding position_rest next moved_of
  position-to e f = rw (← e, f)

  pub position-stopped : {q : Short} {n : ℕ} → short_res q ≡ u16 s at → q ≡ Short.Refused n → Moved.Refused n ≡ moved_of (position_rest s at)
  unfolding position_rest next moved_of
  position-stopped e f = rw (← e, f)

  module _ {q : Step} (e : step_res q ≡ byte s at) where
    pub option-known : {b : ℕ} {c : Cursor} {o : OptionCode} {x : CastOption} → q ≡ Step.Byte b c → o ≡ option_at b → o ≡ OptionCode.Known x → Moved.To c
        ≡ moved_of (cast_option s at)
    unfolding cast_option known_option next moved_of
    option-known f g h = rw (← e, f) (rw (← g, h))

    pub option_unknown : {b : ℕ} {c : Cursor} {o : OptionCode} → q ≡ Step.Byte b c → o ≡ option_at b → o ≡ OptionCode.Unknown → Moved.Refused 3 ≡ moved_of
        (cast_option s at)
    unfolding cast_option known_option next moved_of
    option_unknown f g h = rw (← e, f) (rw (← g, h))

    pub option-stopped : {n : ℕ} → q ≡ Step.Refused n → Moved.Refused n ≡ moved_of (cast_option s at)
    unfolding cast_option next moved_of
    option-stopped f = rw (← e, f)

-- ---- a constant

pub value_end-is : (e : ℕ) (x : Res Value) → value_end (value_moved e x) ≡ moved_of x
unfolding value_moved moved_of
value_end-is e (refuse n) = refl
value_end-is e (ok v m) = refl

-- the type that a reader passed over
pub type-stands : (s : Bytes) {d : Cursor} {m : Moved} {e : Cursor} → m ≡ moved_of (type One Free 16 s d.at) → m ≡ Moved.To e → TypeAt One 16 s d.at
type-stands s {d} {m} {e} g h = let t = moved_to (type One Free 16 s d.at) g h in record { tree = t.0; end = e.at; reads = t.1 }

module _ (s : Bytes) (at : ℕ) {q : Text} (a : text_res s q ≡ text s at) where
  pub constant-stopped : {n : ℕ} → q ≡ Text.Refused n → Moved.Refused n ≡ moved_of (constant_rest s at)
  unfolding constant_rest next moved_of
  constant-stopped f = rw (← a, f)

  module _ {p : Span} {d : Cursor} (f : q ≡ Text.Is p d) {m : Moved} (g : m ≡ moved_of (type One Free 16 s d.at)) where
    pub constant_untyped : {n : ℕ} → m ≡ Moved.Refused n → Moved.Refused n ≡ moved_of (constant_rest s at)
    unfolding constant_rest data_type next moved_of
    constant_untyped h = rw (← a, f) (rw (moved_refused (type One Free 16 s d.at) g h))

    pub constant-to : {e : Cursor} {r : ValueRead} {o : Moved} → m ≡ Moved.To e
        → ((P : TypeAt One 16 s d.at) → r ≡ value_moved P.end (value (dtype_of P.tree) s e.at)) → o ≡ value_end r → o ≡ moved_of (constant_rest s at)
    unfolding constant_rest data_type next
    constant-to {e} {r} {o} h v w =
        let t = moved_to (type One Free 16 s d.at) g h in
        let P : TypeAt One 16 s d.at = record { tree = t.0; end = e.at; reads = t.1 } in
        let z : o ≡ moved_of (value (dtype_of t.0) s e.at) = w ∙ ap value_end (v P) ∙ value_end-is e.at (value (dtype_of t.0) s e.at) in
        rw (← a, f) (rw t.1 (to-pure (λ (x : Value). constant _ (dtype_of t.0) x) (value (dtype_of t.0) s e.at) z))

-- ---- selectors, where p reads those inside

module _ (p : Parser Selector) (s : Bytes) (at : ℕ) {q : Moved} (a : q ≡ moved_of (p s at)) where
  pub cast-stopped : {n : ℕ} → q ≡ Moved.Refused n → Moved.Refused n ≡ moved_of (cast_rest p s at)
  unfolding cast_rest
  cast-stopped f = to_off (p s at) _ a f

  pub cast_untyped : {d : Cursor} {r : Moved} {n : ℕ} → q ≡ Moved.To d → r ≡ moved_of (data_type s d.at) → r ≡ Moved.Refused n → Moved.Refused n ≡
      moved_of (cast_rest p s at)
  unfolding cast_rest
  cast_untyped {d} f g h = to_on (p s at) _ a f (λ x. to_off (data_type s d.at) _ g h)

  pub cast_to : {d e : Cursor} {r o : Moved} → q ≡ Moved.To d → r ≡ moved_of (data_type s d.at) → r ≡ Moved.To e → o ≡ moved_of (cast_option s e.at) →
      o ≡ moved_of (cast_rest p s at)
  unfolding cast_rest
  cast_to {d} {e} f g h k = to_on (p s at) _ a f (λ x. to_on (data_type s d.at) _ g h (λ t. to-pure (cast x t) (cast_option s e.at) k))

  pub rename-stopped : {n : ℕ} → q ≡ Moved.Refused n → Moved.Refused n ≡ moved_of (rename_rest p s at)
  unfolding rename_rest
  rename-stopped f = to_off (p s at) _ a f

  pub rename-to : {d : Cursor} {o : Moved} → q ≡ Moved.To d → o ≡ moved_of (text s d.at) → o ≡ moved_of (rename_rest p s at)
  unfolding rename_rest
  rename-to {d} f g = to_on (p s at) _ a f (λ x. to-pure (rename x) (text s d.at) g)

  pub struct-stopped : {n : ℕ} → q ≡ Moved.Refused n → Moved.Refused n ≡ moved_of (struct_rest p s at)
  unfolding struct_rest
  struct-stopped f = to_off (p s at) _ a f

  pub struct_uncounted : {d : Cursor} {r : Short} {n : ℕ} → q ≡ Moved.To d → short_res r ≡ u16 s d.at → r ≡ Short.Refused n → Moved.Refused n ≡
      moved_of (struct_rest p s at)
  unfolding struct_rest next moved_of
  struct_uncounted {d} f g h = let t = moved_to (p s at) a f in rw t.1 (rw (← g, h))

  pub struct-to : {d e : Cursor} {r : Short} {n : ℕ} {o : Moved} → q ≡ Moved.To d → short_res r ≡ u16 s d.at → r ≡ Short.Is n e → o ≡ moved_of
      (selectors p n s e.at)
      → o ≡ moved_of (struct_rest p s at)
  unfolding struct_rest next
  struct-to {d} {e} {r} {n} f g h k = let t = moved_to (p s at) a f in rw t.1 (rw (← g, h) (to-pure (struct_mapping t.0) (selectors p n s e.at) k))

  pub list-stopped : {n : ℕ} → q ≡ Moved.Refused n → Moved.Refused n ≡ moved_of (list_rest p s at)
  unfolding list_rest
  list-stopped f = to_off (p s at) _ a f

  pub list-to : {d : Cursor} {o : Moved} → q ≡ Moved.To d → o ≡ moved_of (p s d.at) → o ≡ moved_of (list_rest p s at)
  unfolding list_rest
  list-to {d} f g = to_on (p s at) _ a f (λ x. to-pure (list_mapping x) (p s d.at) g)

  pub array-stopped : {n : ℕ} → q ≡ Moved.Refused n → Moved.Refused n ≡ moved_of (array_rest p s at)
  unfolding array_rest
  array-stopped f = to_off (p s at) _ a f

  pub array-to : {d : Cursor} {o : Moved} → q ≡ Moved.To d → o ≡ moved_of (p s d.at) → o ≡ moved_of (array_rest p s at)
  unfolding array_rest
  array-to {d} f g = to_on (p s at) _ a f (λ x. to-pure (array_mapping x) (p s d.at) g)

-- by the code
module _ (p : Parser Selector) (s : Bytes) (at : ℕ) {code : ℕ} {o : Moved} where
  pub rest-position : code ≡ 0 → o ≡ moved_of (position_rest s at) → o ≡ moved_of (selector_rest p code s at)
  unfolding selector_rest choose
  rest-position h e = rw h e

  pub rest-constant : code ≡ 1 → o ≡ moved_of (constant_rest s at) → o ≡ moved_of (selector_rest p code s at)
  unfolding selector_rest choose
  rest-constant h e = rw h e

  pub rest-cast : code ≡ 2 → o ≡ moved_of (cast_rest p s at) → o ≡ moved_of (selector_rest p code s at)
  unfolding selector_rest choose
  rest-cast h e = rw h e

  pub rest-rename : code ≡ 3 → o ≡ moved_of (rename_rest p s at) → o ≡ moved_of (selector_rest p code s at)
  unfolding selector_rest choose
  rest-rename h e = rw h e

  pub rest-struct : code ≡ 4 → o ≡ moved_of (struct_rest p s at) → o ≡ moved_of (selector_rest p code s at)
  unfolding selector_rest choose
  rest-struct h e = rw h e

  rest-list : code ≡ 5 → o ≡ moved_of (list_rest p s at) → o ≡ moved_of (selector_rest p code s at)
  unfolding selector_rest choose
  rest-list h e = rw h e

  rest-array : code ≡ 6 → o ≡ moved_of (array_rest p s at) → o ≡ moved_of (selector_rest p code s at)
  unfolding selector_rest choose
  rest-array h e = rw h e

  -- one of the two
  pub rest-element : None 0 code 5 → code < 7 → o ≡ moved_of (list_rest p s at) → o ≡ moved_of (array_rest p s at) → o ≡ moved_of (selector_rest p code s at)
  rest-element h lt e f = go (ℕ_discrete code 5)
    where
      go : Dec (code ≡ 5) → o ≡ moved_of (selector_rest p code s at)
      go (yes q) = rest-list q e
      go (no q) = rest-array (let l = none 0 code 5 h zero-le in omega arith) f

pub rest_unknown : (p : Parser Selector) (s : Bytes) (at code : ℕ) → 7 ≤ code → Moved.Refused 3 ≡ moved_of (selector_rest p code s at)
unfolding selector_rest choose moved_of
rest_unknown p s at code l =
    rw (
      ne_eqb code 0 (λ e. omega arith),
      ne_eqb code 1 (λ e. omega arith),
      ne_eqb code 2 (λ e. omega arith),
      ne_eqb code 3 (λ e. omega arith),
      ne_eqb
          code 4 (λ e. omega arith),
      ne_eqb code 5 (λ e. omega arith),
      ne_eqb code 6 (λ e. omega arith),
    )

module _ (s : Bytes) (at d : ℕ) where
  pub selector-deep : d ≡ 0 → Moved.Refused 4 ≡ moved_of (selector d s at)
  unfolding selector moved_of
  selector-deep z = rw z

  level : (d ≡ 0 → ⊥) → selector d s at ≡ next (byte s at) (λ c m. selector_rest (selector (d - 1)) c s m)
  unfolding selector
  level z = ap (λ (k : ℕ). selector k s at) (let e : d ≡ suc (d - 1) = omega arith in e)

  module _ (z : d ≡ 0 → ⊥) {q : Step} (e : step_res q ≡ byte s at) where
    pub selector-to : {c : ℕ} {b : Cursor} {o : Moved} → q ≡ Step.Byte c b → o ≡ moved_of (selector_rest (selector (d - 1)) c s b.at) → o ≡ moved_of
        (selector d s at)
    unfolding next
    selector-to f g = rw (level z, ← e, f) g

    pub selector-stopped : {n : ℕ} → q ≡ Step.Refused n → Moved.Refused n ≡ moved_of (selector d s at)
    unfolding next moved_of
    selector-stopped f = rw (level z, ← e, f)

  -- a position, read at once
  pub selector-position : (0 < d) × (at + 3 ≤ length s) × (get_or s at 0 ≡ 0) → Moved.To (record { at = at + 3 }) ≡ moved_of (selector d s at)
  unfolding selector_rest position_rest u16 byte next choose moved_of
  selector-position (z, l, q) =
      let k : at + 3 ≡ at + 1 + 1 + 1 = omega arith in
      rw (
        level (λ e. omega arith),
        lt-ltb at (length s) (omega arith),
        q,
        lt-ltb (at + 1) (length s) (omega arith),
        lt-ltb (at + 1 + 1) (length s)
            (omega arith),
      )
      (ap (λ (m : ℕ). Moved.To (record { at = m })) k)

-- whether there is one
pub position_untold : {B : Type 0} → false ≡ true → B
position_untold h = clash (cc)

pub position-told : (s : Bytes) (at : ℕ) {d : ℕ} → (d ≡ 0 → ⊥) → 3 ≤ length s → at ≤ length s - 3 → eqb (get_or s at 0) 0 ≡ true → (0 < d) ×
    (at + 3 ≤ length s) × (get_or s at 0 ≡ 0)
position-told s at z l m h = (omega arith, omega arith, eqb-true (get_or s at 0) 0 h)

-- ---- the loop over selectors

pub record Passing (p : Parser Selector) (s : Bytes) (n from i at : ℕ) : Type 0 where
  pub within : i ≤ n
  pub rest : moved_of (selectors p n s from) ≡ moved_of (selectors p (n - i) s at)

module _ (p : Parser Selector) (s : Bytes) (n from : ℕ) where
  pub passing_none : Passing p s n from 0 from
  passing_none = record { within = omega arith; rest = ap (λ (k : ℕ). moved_of (selectors p k s from)) (let e : n ≡ n - 0 = omega arith in e) }

  module _ {i at : ℕ} (a : Passing p s n from i at) where
    pub passing_all : n ≤ i → Moved.To (record { at = at }) ≡ moved_of (selectors p n s from)
    unfolding selectors moved_of
    passing_all h = let e : n - i ≡ 0 = omega arith in rw (a.rest, e)

    module _ (lt : i < n) {q : Moved} (b : q ≡ moved_of (p s at)) where
      step : n - i ≡ suc (n - (i + 1))
      step = omega arith

      pub passing-stopped : {k : ℕ} → q ≡ Moved.Refused k → Moved.Refused k ≡ moved_of (selectors p n s from)
      unfolding selectors next moved_of
      passing-stopped f = rw (a.rest, step) (rw (moved_refused (p s at) b f))

      pub passing-more : {c : Cursor} → q ≡ Moved.To c → Passing p s n from (i + 1) c.at
      unfolding selectors next
      passing-more {c} f =
          let t = moved_to (p s at) b f in
          record { within = omega arith; rest = a.rest ∙ rw step (rw t.1 (sym (to-pure (scons t.0) (selectors p (n - (i + 1)) s c.at) refl))) }

-- a position among them
pub passing_position : {d : ℕ} {s : Bytes} {n from i at : ℕ} → Passing (selector d) s n from i at → i < n → (0 < d) × (at + 3 ≤ length s) × (get_or s at 0 ≡ 0)
    → Passing (selector d) s n from (i + 1) (at + 3)
passing_position {d} {s} {n} {from} {i} {at} a lt h = passing-more (selector d) s n from a lt (selector-position s at d h) refl

-- ---- the whole plan

selectors-count : (p : Parser Selector) (n : ℕ) (s : Bytes) (at : ℕ) {ss : Selectors} {m : ℕ} → selectors p n s at ≡ ok ss m → count_selectors ss ≡ n
unfolding selectors count_selectors
selectors-count p zero s at {ss} h = let e : ss ≡ snil = cc in rw e
selectors-count p (suc n) s at {ss} h =
    let (x, i, a, b) = next-ok _ _ h in
    let (xs, j, a₁, b₁) = next-ok _ _ b in
    let e : ss ≡ scons x xs = cc in
    rw e (ap suc (selectors-count p n s i a₁))

module _ (s : Bytes) {q : Short} (g : short_res q ≡ u16 s 5) where
  pub plan_uncounted : {k : ℕ} → q ≡ Short.Refused k → PlanRead.Refused 30 ≡ plan_read (faulty (plan_counted s 5))
  unfolding plan_counted renumber plan_read next
  plan_uncounted h = rw (← g, h)

  module _ {n : ℕ} {c : Cursor} {o : Moved} (h : q ≡ Short.Is n c) (i : o ≡ moved_of (selectors (selector 64) n s c.at)) where
    pub plan_broken : {k : ℕ} → o ≡ Moved.Refused k → PlanRead.Refused 30 ≡ plan_read (faulty (plan_counted s 5))
    unfolding plan_counted renumber plan_read next
    plan_broken j = rw (← g, h) (rw (moved_refused (selectors (selector 64) n s c.at) i j))

    pub plan-longer : {d : Cursor} → o ≡ Moved.To d → (d.at ≡ length s → ⊥) → PlanRead.Refused 30 ≡ plan_read (faulty (plan_counted s 5))
    unfolding plan_counted ended renumber plan_read next choose
    plan-longer {d} j k = rw (← g, h) (rw ((moved_to (selectors (selector 64) n s c.at) i j).1, ne_eqb d.at (length s) k))

    pub plan_whole : {d : Cursor} → o ≡ Moved.To d → d.at ≡ length s → PlanRead.Read n (record { at = 7 }) ≡ plan_read (faulty (plan_counted s 5))
    unfolding plan_counted ended renumber plan_read next choose
    plan_whole {d} j k =
        let t = moved_to (selectors (selector 64) n s c.at) i j in
        let l = selectors-count (selector 64) n s c.at t.1 in
        rw (← g, h) (rw (t.1, eq-eqb d.at (length s) k) (ap (λ (m : ℕ). PlanRead.Read m (record { at = 7 })) (sym l)))

module _ (s : Bytes) where
  pub plan_big : 65536 < length s → PlanRead.Refused 30 ≡ plan_read (plan s)
  unfolding plan plan_from plan_sized renumber plan_read next choose
  plan_big h = rw (lt-leb (length s) 65536 h)

  module _ (small : length s ≤ 65536) where
    pub plan_unmarked : {b : Bool} → b ≡ same_bytes (take 5 s) plan_mark → b ≡ false → PlanRead.Refused 30 ≡ plan_read (plan s)
    unfolding plan plan_from plan_sized plan_version renumber plan_read next choose
    plan_unmarked e f = let z : same_bytes (take 5 s) plan_mark ≡ false = sym e ∙ f in rw (le-leb (length s) 65536 small, z)

    pub plan-short : length s < 5 → PlanRead.Refused 30 ≡ plan_read (plan s)
    plan-short h = plan_unmarked refl (go (same_bytes (take 5 s) plan_mark) refl)
      where
        go : (b : Bool) → same_bytes (take 5 s) plan_mark ≡ b → b ≡ false
        go true e =
            let z : length (take 5 s) ≡ 5 = ap length (same_bytes_eq (take 5 s) plan_mark e) in
            let k : length (take 5 s) < 5 = simp length-take (omega arith) in
            absurd (omega arith)
        go false e = refl

    pub plan_marked : {b : Bool} {o : PlanRead} → b ≡ same_bytes (take 5 s) plan_mark → b ≡ true → o ≡ plan_read (faulty (plan_counted s 5)) → o ≡ plan_read (plan s)
    unfolding plan plan_from plan_sized plan_version next choose
    plan_marked e f g = let z : same_bytes (take 5 s) plan_mark ≡ true = sym e ∙ f in rw (le-leb (length s) 65536 small, z) g
