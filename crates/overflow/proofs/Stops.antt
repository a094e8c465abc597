-- What src/stop.rt answers at each selector is what is to be asked there. Assumes nothing.
use Prim.Native.Nat.{ℕ, ◌≤◌, ◌<◌}
use mathlib.Core.Path.{◌≡◌, refl, sym, ap, ◌∙◌}
use mathlib.Core.Bool.{Bool, true, false}
use mathlib.Core.List.{List, []}
use native.Mathlib.Omega.{arith}
use lib.ListN.{length}
use lib.Seq.{slice}
use Rattle.layout.specs.Bytes.{Bytes}
use Rattle.layout.specs.Tree.{DataType, dtype_of}
use Rattle.layout.specs.Layout.{type, deepest}
use Rattle.layout.specs.code.Stands.{TypeAt}
use Rattle.layout.specs.declared.bytes.Span.{Span}
use Rattle.layout.specs.declared.columns.Position.{Position}
use Rattle.layout.specs.declared.columns.Siblings.TheVariants.{Free}
use Rattle.layout.specs.declared.cursor.Cursor.{Cursor}
use Rattle.layout.specs.declared.edition.Edition.TheVariants.{One}
use Rattle.values.specs.Value.{Value, Values}
use Rattle.plan.specs.Selector.{Selector, position}
use Rattle.plan.specs.Run.{value_at}
use Rattle.walk.specs.code.State.{State}
use Rattle.walk.specs.code.Stands.{SelectorAt}
use Rattle.walk.specs.code.Parts.{HeadIs}
use Rattle.walk.specs.code.Walks.{WalkAt}
use Rattle.walk.specs.declared.walk.Walk.{Walk}
use Rattle.walk.specs.declared.head.SelectorHead.{SelectorHead}
use Rattle.walk.proofs.Heads.{is_position_lem, is-constant, is-cast, is-rename, is_struct_mapping, is_list_mapping, is-array}
use Rattle.walk.proofs.Walks.{top-frames, some-inner, path-some, path-none}
use Rattle.walk.proofs.Moving.{walk_is}
use Rattle.overflow.specs.code.Some.{some}
use Rattle.overflow.specs.code.Seek.{RawIn, answered, column_stop, ran_stop, constant_stop, cast_stop, struct_stop, list_stop, stop_at, stop_of}
use Rattle.overflow.specs.declared.want.Want.{Want}
use Rattle.overflow.specs.declared.stop.Stop.{Stop}
use Rattle.overflow.specs.declared.stop.Stop.TheVariants.{No, Yes, Input}

module _ {plan : Bytes} {w : Walk} {x : State} (M : WalkAt plan w x) where
  -- ---- by what is left of the path

  pub struct-more : (a : Want) → w.deep < w.len → No ≡ struct_stop x.path a
  unfolding struct_stop
  struct-more a h = sym (ap (λ (p : List ℕ). struct_stop p a) (path-some M h))

  pub struct-none : (a : Want) → w.len ≤ w.deep → {r : Stop} → r ≡ struct_stop [] a → r ≡ struct_stop x.path a
  struct-none a h e = e ∙ sym (ap (λ (p : List ℕ). struct_stop p a) (path-none M h))

  pub cast-more : (t : DataType) (a : Want) → w.deep < w.len → No ≡ cast_stop x.path t a
  unfolding cast_stop
  cast-more t a h = sym (ap (λ (p : List ℕ). cast_stop p t a) (path-some M h))

  pub cast-none : (t : DataType) (a : Want) → w.len ≤ w.deep → {r : Stop} → r ≡ cast_stop [] t a → r ≡ cast_stop x.path t a
  cast-none t a h e = e ∙ sym (ap (λ (p : List ℕ). cast_stop p t a) (path-none M h))

  pub constant-found : (v : Value) (a : Want) {b : Bool} {r : Stop} → b ≡ some a (slice w.deep w.len w.path) v → b ≡ true → r ≡ ran_stop x.frames
      → r ≡ constant_stop (some a x.path v) x.frames
  unfolding constant_stop
  constant-found v a e f h = h ∙ sym (ap (λ (c : Bool). constant_stop c x.frames) (sym (ap (λ (p : List ℕ). some a p v) M.path) ∙ sym e ∙ f))

  pub constant-not : (v : Value) (a : Want) {b : Bool} → b ≡ some a (slice w.deep w.len w.path) v → b ≡ false → No ≡ constant_stop
      (some a x.path v) x.frames
  unfolding constant_stop
  constant-not v a e f = sym (ap (λ (c : Bool). constant_stop c x.frames) (sym (ap (λ (p : List ℕ). some a p v) M.path) ∙ sym e ∙ f))

  -- ---- by the selector

  module _ (ρ : Values) (a : Want) where
    selected : {s : Selector} {r : Stop} → x.selector ≡ s → r ≡ stop_at ρ s x.frames x.path a → r ≡ stop_of ρ x a
    selected e h = h ∙ sym (ap (λ (s : Selector). stop_at ρ s x.frames x.path a) e)

    module _ {k : Position} (e : x.selector ≡ position k) where
      pub position_in : 0 < w.deep → Yes ≡ stop_of ρ x a
      unfolding stop_at column_stop
      position_in h =
          let (f, F, g) = some-inner (λ z. omega arith) M.entries in
          selected e (sym (ap (column_stop (some a x.path (value_at ρ k.0))) g))

      pub position-top : w.deep ≤ 0 → {b : Bool} {r : Stop} → b ≡ some a (slice 0 w.len w.path) (value_at ρ k.0) → r ≡ answered b → r ≡ stop_of ρ x a
      unfolding stop_at column_stop
      position-top h {b} {r} f g =
          let z : 0 ≡ w.deep = omega arith in
          let p : slice 0 w.len w.path ≡ x.path = ap (λ (d : ℕ). slice d w.len w.path) z ∙ M.path in
          let y : b ≡ some a x.path (value_at ρ k.0) = f ∙ ap (λ (q : List ℕ). some a q (value_at ρ k.0)) p in
          selected e (g ∙ ap answered y ∙ sym (ap (column_stop (some a x.path (value_at ρ k.0))) (top-frames M (sym z))))

    module _ {q : SelectorHead} (H : HeadIs plan w.at M.here q) where
      pub rename_stop : {c : Cursor} → q ≡ SelectorHead.Rename c → Input a ≡ stop_of ρ x a
      unfolding stop_at
      rename_stop f = selected (walk_is M (is-rename H f).is) refl

      pub struct_stop_lem : {c : Cursor} → q ≡ SelectorHead.Struct c → {r : Stop} → r ≡ struct_stop x.path a → r ≡ stop_of ρ x a
      unfolding stop_at
      struct_stop_lem f h = selected (walk_is M (is_struct_mapping H f).is) h

      pub list_stop_lem : {c : Cursor} → q ≡ SelectorHead.List c → {r : Stop} → r ≡ list_stop a → r ≡ stop_of ρ x a
      unfolding stop_at
      list_stop_lem f h = selected (walk_is M (is_list_mapping H f).is) h

      pub array_stop : {c : Cursor} → q ≡ SelectorHead.Array c → {r : Stop} → r ≡ list_stop a → r ≡ stop_of ρ x a
      unfolding stop_at
      array_stop f h = selected (walk_is M (is-array H f).is) h

      module _ {n : Span} {c : Cursor} (f : q ≡ SelectorHead.Constant n c) where
        pub constant_stop_lem : {r : Stop} → ((X : RawIn plan c.at) → r ≡ constant_stop (some a x.path X.value.tree) x.frames) → r ≡ stop_of ρ x a
        unfolding stop_at
        constant_stop_lem h = let K = is-constant H f in selected (walk_is M K.is) (h (record { type = K.type; value = K.value }))

      module _ {c : Cursor} (f : q ≡ SelectorHead.Cast c) {m : ℕ} (g : (P : SelectorAt plan c.at) → m ≡ P.end) where
        pub cast_stop_lem : {r : Stop} → ((T : TypeAt One deepest plan m) → r ≡ cast_stop x.path (dtype_of T.tree) a) → r ≡ stop_of ρ x a
        unfolding stop_at
        cast_stop_lem h =
            let C = is-cast H f in
            selected (walk_is M C.is) (h (record {
              tree = C.type.tree;
              end = C.type.end;
              reads = ap (λ (o : ℕ). type One Free deepest plan o)
                  (g C.input) ∙ C.type.reads;
            }))

  -- ---- what the callees ask

  module _ {q : SelectorHead} (H : HeadIs plan w.at M.here q) where
    pub position_stop : {k : Position} → q ≡ SelectorHead.Position k → x.selector ≡ position k
    position_stop f = walk_is M (is_position_lem H f).1

    pub constant-raw : {n : Span} {c : Cursor} → q ≡ SelectorHead.Constant n c → RawIn plan c.at
    constant-raw f = let K = is-constant H f in record { type = K.type; value = K.value }

    pub cast-type : {c : Cursor} → q ≡ SelectorHead.Cast c → {m : ℕ} → ((P : SelectorAt plan c.at) → m ≡ P.end) → TypeAt One deepest plan m
    cast-type f g =
        let C = is-cast H f in
        record { tree = C.type.tree; end = C.type.end; reads = ap (λ (o : ℕ). type One Free deepest plan o) (g C.input) ∙ C.type.reads }

  pub path_room : w.len ≤ length w.path
  path_room = omega (arith, M.short, M.room.1)
