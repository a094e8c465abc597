-- A built plan nests its selectors at most 33 deep, and is formed: within what a plan may have (30). Assumes nothing.
use Prim.Native.Nat.{ℕ, suc, ◌*◌, ◌≤◌, ◌<◌}
use mathlib.Core.Path.{◌≡◌, refl, ap}
use mathlib.Core.Bool.{Bool, true, false}
use native.Mathlib.Omega.{arith}
use Rattle.layout.specs.Bytes.{Bytes, same_bytes}
use Rattle.layout.specs.Parser.{choose}
use Rattle.layout.specs.Tree.{Label, ColumnType, Columns, DataType, leaf, struct, list, array, Fields, count_fields, dtype_of, fields_of}
use Rattle.layout.specs.Layout.{deepest}
use Rattle.layout.specs.declared.columns.Position.{Position}
use Rattle.layout.specs.declared.matching.Matching.{Matching}
use Rattle.layout.specs.declared.matching.Matching.TheVariants.{ByName, ByNumber}
use Rattle.forms.specs.code.Readable.{ShortText, Readable, ReadableFields}
use Rattle.forms.specs.Depth.{depth_of, depth_of_fields}
use Rattle.plan.specs.Selector.{Selector, position, rename, struct_mapping, list_mapping, array_mapping, Selectors, count_selectors, nesting, nesting_all}
use Rattle.plan.specs.code.Formed.{FormedType, Formed, f_position, f_constant, f_cast, f_rename, f_struct, f_list, f_array, FormedAll, f_nil, f_cons}
use Rattle.plan.proofs.Typed.{At, here, there}
use Rattle.matching.specs.Default.{Defaults}
use Rattle.matching.specs.Build.{renamed, list_selector, array_selector}
use Rattle.matching.proofs.Lookup.{counterpart-at}
use Rattle.matching.proofs.Attach.{Attach, a-same, a-cast, a_struct_lem, a_list_lem, a_array, AttachAll, a_nil, a-found, a-missing}
use Rattle.matching.proofs.InPlace.{struct_selector_lem}
use Rattle.matching.proofs.Limits.{ShortNames, ShortNamesAll}
use Rattle.matching.proofs.Fitting.{Good, good_none, missing-fits}

-- ---- the nesting

depth-least : (t : DataType) → 1 ≤ depth_of t
unfolding depth_of
depth-least (leaf l) = omega arith
depth-least (struct fs) = omega arith
depth-least (list t) = omega arith
depth-least (array w t) = omega arith

renamed-nests : (v : Matching) (b a : Label) (s : Selector) → nesting (renamed v b a s) ≤ suc (nesting s)
unfolding renamed choose nesting
renamed-nests ByName b a s = omega arith
renamed-nests ByNumber b a s = go (same_bytes a.name b.name)
  where
    go : (x : Bool) → nesting (choose x s (rename s b.name)) ≤ suc (nesting s)
    go true = omega arith
    go false = omega arith

choose-nests : (x : Bool) (k : Position) (n : ℕ) (s : Selector) → nesting s ≤ n → 1 ≤ n → nesting (choose x (position k) s) ≤ n
unfolding choose nesting
choose-nests true k n s p q = q
choose-nests false k n s p q = p

module _ (v : Matching) where
  mutual
    unfolding list_selector array_selector nesting nesting_all depth_of depth_of_fields dtype_of fields_of

    pub attach_nests : {d : Defaults} {u t : ColumnType} {k : Position} {s : Selector} → Attach v d u k t s → nesting s ≤ 2 * depth_of (dtype_of u)
    attach_nests a-same = omega arith
    attach_nests (a-cast {u = u} r p) = omega (arith, depth-least (dtype_of u))
    attach_nests (a_struct_lem {k = k} {fs} {gs} {ss} c h r) =
        rw (← r, struct_selector_lem k fs ss) (choose-nests _ k _ (struct_mapping (position k) ss) (omega (arith, attach_all_nests h)) (omega arith))
    attach_nests (a_list_lem {k = k} {a} {b} {u = u} {e = x} y m h r) =
        rw (← r) (choose-nests _ k _ (list_mapping (position k) (renamed v b a x))
        (omega (arith, attach_nests h, renamed-nests v b a x, depth-least (dtype_of u))) (omega arith))
    attach_nests (a_array {k = k} {a = a} {b} {u = u} {e = x} y m h r) =
        rw (← r) (choose-nests _ k _ (array_mapping (position k) (renamed v b a x))
        (omega (arith, attach_nests h, renamed-nests v b a x, depth-least (dtype_of u))) (omega arith))

    pub attach_all_nests : {d : Defaults} {gs fs : Columns} {ss : Selectors} → AttachAll v d gs fs ss → nesting_all ss ≤ suc (2 * depth_of_fields (fields_of gs))
    attach_all_nests a_nil = omega arith
    attach_all_nests (a-found {a = a} {b} {s = s} q m h r hs) = rw (← r) (omega (arith, attach_nests h, attach_all_nests hs, renamed-nests v b a s))
    attach_all_nests (a-missing q y m r hs) = rw (← r) (omega (arith, attach_all_nests hs))

-- ---- formed

pub attached_count : (v : Matching) {d : Defaults} {gs fs : Columns} {ss : Selectors} → AttachAll v d gs fs ss → count_selectors ss ≡ count_fields (fields_of gs)
unfolding count_selectors count_fields fields_of
attached_count v a_nil = refl
attached_count v (a-found q m h r hs) = ap suc (attached_count v hs)
attached_count v (a-missing q y m r hs) = ap suc (attached_count v hs)

at-below : {fs : Fields} {k : ℕ} {n : Bytes} {t : DataType} → At fs k n t → k < count_fields fs
unfolding count_fields
at-below here = omega arith
at-below (there a) = omega (arith, at-below a)

-- a field's own part of what holds of all
at-readable : {fs : Fields} {k : ℕ} {n : Bytes} {t : DataType} → At fs k n t → ReadableFields fs → Readable t
at-readable here h = h.1.0
at-readable (there a) h = at-readable a h.1.1

choose_formed : (x : Bool) {k : Position} {s : Selector} → k.0 < 65536 → Formed s → Formed (choose x (position k) s)
unfolding choose
choose_formed true h f = f_position h
choose_formed false h f = f

renamed_formed : (v : Matching) (b a : Label) {s : Selector} → ShortText b.name → Formed s → Formed (renamed v b a s)
unfolding renamed choose
renamed_formed ByName b a h f = f
renamed_formed ByNumber b a {s} h f = go (same_bytes a.name b.name)
  where
    go : (x : Bool) → Formed (choose x s (rename s b.name))
    go true = f
    go false = f_rename f h

-- a type that was read, and its parts
formed_type : (t : DataType) → Readable t → depth_of t ≤ deepest → FormedType t
formed_type t r d = record { readable = r; deep = d }

module _ (v : Matching) where
  mutual
    unfolding list_selector array_selector dtype_of fields_of depth_of depth_of_fields

    pub attach_formed : {d : Defaults} {u t : ColumnType} {k : Position} {s : Selector} → Attach v d u k t s → Good d → k.0 < 65536 → Readable
        (dtype_of t) → Readable (dtype_of u) → depth_of (dtype_of u) ≤ deepest
        → ShortNames u → Formed s
    attach_formed a-same g h i r z n = f_position h
    attach_formed (a-cast {u = u} c p) g h i r z n = rw (← p) (f_cast (f_position h) (formed_type (dtype_of u) r z))
    attach_formed (a_struct_lem {k = k} {fs} {gs} {ss} c a q) g h i r z n =
        let e = attached_count v a in
        let b = r.0 in
        rw (← q, struct_selector_lem k fs ss) (choose_formed _ h (f_struct (f_position h) (omega arith)
        (attach_all_formed a g i.0 i.1 r.1 (omega arith) n)))
    attach_formed (a_list_lem {k = k} {a} {b} {e = x} y m f q) g h i r z n =
        rw (← q) (choose_formed _ h (f_list (f_position h) (renamed_formed v b a n.0 (attach_formed f good_none (omega arith) i r (omega arith) n.1))))
    attach_formed (a_array {k = k} {a = a} {b} {e = x} y m f q) g h i r z n =
        rw (← q) (choose_formed _ h (f_array (f_position h) (renamed_formed v b a n.0
        (attach_formed f good_none (omega arith) i.1 r.1 (omega arith) n.1))))

    pub attach_all_formed : {d : Defaults} {gs fs : Columns} {ss : Selectors} → AttachAll v d gs fs ss → Good d → count_fields (fields_of fs) < 65536 →
        ReadableFields (fields_of fs) → ReadableFields (fields_of gs)
        → depth_of_fields (fields_of gs) ≤ deepest → ShortNamesAll gs → FormedAll ss
    attach_all_formed a_nil g c i r z n = f_nil
    attach_all_formed (a-found {a = a} {b} {fs = fs} {x = x} q m f p fs') g c i r z n =
        let C = counterpart-at v b fs q in
        let h = at-below C.place in
        let F : Formed x = rw (← p) (renamed_formed v b a n.0 (attach_formed f g (omega arith) (at-readable C.place i) r.1.0 (omega arith)
        n.1.0)) in
        f_cons F (attach_all_formed fs' g c i r.1.1 (omega arith) n.1.1)
    attach_all_formed (a-missing {d} {b} {u} {x = x} q y m p fs') g c i r z n =
        let F : Formed x = rw (← p) (f_constant n.0 (formed_type (dtype_of u) r.1.0 (omega arith)) (missing-fits d g b u y)) in
        f_cons F (attach_all_formed fs' g c i r.1.1 (omega arith) n.1.1)
