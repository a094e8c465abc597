-- What src/stop.rt answers at each selector. Assumes nothing.
use Prim.Native.Nat.{ℕ, ◌≤◌, ◌<◌}
use mathlib.Core.Path.{◌≡◌, sym, ap, ◌∙◌}
use mathlib.Core.Bool.{Bool, true, false, not}
use mathlib.Core.List.{List}
use native.Mathlib.Omega.{arith}
use lib.Seq.{slice}
use Rattle.layout.specs.Bytes.{Bytes}
use Rattle.layout.specs.declared.bytes.Span.{Span}
use Rattle.layout.specs.declared.columns.Position.{Position}
use Rattle.layout.specs.declared.cursor.Cursor.{Cursor}
use Rattle.values.specs.Value.{Value}
use Rattle.plan.specs.Selector.{Selector, position}
use Rattle.plan.specs.Nullness.{Nullnesses, nullness_at}
use Rattle.walk.specs.code.State.{State}
use Rattle.walk.specs.code.Parts.{HeadIs}
use Rattle.walk.specs.code.Walks.{WalkAt}
use Rattle.walk.specs.declared.walk.Walk.{Walk}
use Rattle.walk.specs.declared.head.SelectorHead.{SelectorHead}
use Rattle.walk.proofs.Heads.{is-constant, is-cast, is-rename, is_struct_mapping, is_list_mapping, is-array}
use Rattle.walk.proofs.Walks.{top-frames, some-inner, path-some, path-none}
use Rattle.walk.proofs.Moving.{walk_is}
use Rattle.overflow.specs.code.Some.{some_sought}
use Rattle.overflow.specs.code.Seek.{RawIn}
use Rattle.overflow.specs.declared.scan.Sought.{Sought}
use Rattle.nullness.specs.code.Places.{fills_at}
use Rattle.nullness.specs.code.Stops.{answered, column_stop, input_stop, stop_at, stop_of}
use Rattle.nullness.specs.declared.stop.Stop.{Stop}
use Rattle.nullness.specs.declared.stop.Stop.TheVariants.{Passes, Fails, Input}

module _ {plan : Bytes} {w : Walk} {x : State} (M : WalkAt plan w x) where
  pub transform_more : w.deep < w.len → Passes ≡ input_stop x.path
  unfolding input_stop
  transform_more h = sym (ap input_stop (path-some M h))

  pub transform_none : w.len ≤ w.deep → Input ≡ input_stop x.path
  unfolding input_stop
  transform_none h = sym (ap input_stop (path-none M h))

  module _ (v : Value) {b : Bool} (e : b ≡ some_sought Sought.Null (slice w.deep w.len w.path) v) where
    sought-here : {c : Bool} → b ≡ c → not (some_sought Sought.Null x.path v) ≡ not c
    sought-here f = ap not (sym (ap (λ (p : List ℕ). some_sought Sought.Null p v) M.path) ∙ sym e ∙ f)

    pub constant-null : b ≡ true → Fails ≡ answered (not (some_sought Sought.Null x.path v))
    unfolding answered
    constant-null f = sym (ap answered (sought-here f))

    pub constant-filled : b ≡ false → Passes ≡ answered (not (some_sought Sought.Null x.path v))
    unfolding answered
    constant-filled f = sym (ap answered (sought-here f))

  module _ (N : Nullnesses) where
    selected : {s : Selector} {r : Stop} → x.selector ≡ s → r ≡ stop_at N s x.frames x.path → r ≡ stop_of N x
    selected e h = h ∙ sym (ap (λ (s : Selector). stop_at N s x.frames x.path) e)

    module _ {k : Position} (e : x.selector ≡ position k) where
      pub position_in : 0 < w.deep → Fails ≡ stop_of N x
      unfolding stop_at column_stop
      position_in h =
          let (f, F, g) = some-inner (λ z. omega arith) M.entries in
          selected e (sym (ap (column_stop (fills_at (nullness_at N k.0) x.path)) g))

      pub position-top : w.deep ≤ 0 → {b : Bool} {r : Stop} → b ≡ fills_at (nullness_at N k.0) (slice 0 w.len w.path) → r ≡ answered b → r ≡ stop_of N x
      unfolding stop_at column_stop
      position-top h {b} {r} f g =
          let z : 0 ≡ w.deep = omega arith in
          let p : slice 0 w.len w.path ≡ x.path = ap (λ (d : ℕ). slice d w.len w.path) z ∙ M.path in
          let y : b ≡ fills_at (nullness_at N k.0) x.path = f ∙ ap (fills_at (nullness_at N k.0)) p in
          selected e (g ∙ ap answered y ∙ sym (ap (column_stop (fills_at (nullness_at N k.0) x.path)) (top-frames M (sym z))))

    module _ {q : SelectorHead} (H : HeadIs plan w.at M.here q) {r : Stop} where
      pub constant_stop_lem : {n : Span} {c : Cursor} → q ≡ SelectorHead.Constant n c
          → ((X : RawIn plan c.at) → r ≡ answered (not (some_sought Sought.Null x.path X.value.tree))) → r ≡ stop_of N x
      unfolding stop_at
      constant_stop_lem f h = let K = is-constant H f in selected (walk_is M K.is) (h (record { type = K.type; value = K.value }))

      module _ (h : r ≡ input_stop x.path) {c : Cursor} where
        pub cast_stop_lem : q ≡ SelectorHead.Cast c → r ≡ stop_of N x
        unfolding stop_at
        cast_stop_lem f = selected (walk_is M (is-cast H f).is) h

        pub rename_stop : q ≡ SelectorHead.Rename c → r ≡ stop_of N x
        unfolding stop_at
        rename_stop f = selected (walk_is M (is-rename H f).is) h

        pub struct_stop_lem : q ≡ SelectorHead.Struct c → r ≡ stop_of N x
        unfolding stop_at
        struct_stop_lem f = selected (walk_is M (is_struct_mapping H f).is) h

        pub list_stop_lem : q ≡ SelectorHead.List c → r ≡ stop_of N x
        unfolding stop_at
        list_stop_lem f = selected (walk_is M (is_list_mapping H f).is) h

        pub array_stop : q ≡ SelectorHead.Array c → r ≡ stop_of N x
        unfolding stop_at
        array_stop f = selected (walk_is M (is-array H f).is) h
