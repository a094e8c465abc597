-- A built selector passes the check at its target type. Assumes nothing.
use Prim.Native.Nat.{ℕ}
use mathlib.Core.Path.{◌≡◌, refl}
use mathlib.Core.Bool.{Bool, true, false}
use mathlib.Core.List.{[]}
use Rattle.layout.specs.Bytes.{Bytes, same_bytes}
use Rattle.layout.specs.Parser.{choose}
use Rattle.layout.specs.Tree.{Label, ColumnType, Columns, DataType, struct, list, array, Fields, dtype_of, fields_of}
use Rattle.layout.specs.declared.columns.Position.{Position}
use Rattle.layout.specs.declared.matching.Matching.{Matching}
use Rattle.layout.specs.declared.matching.Matching.TheVariants.{ByName, ByNumber}
use Rattle.layout.proofs.OfBytes.{same_bytes_eq}
use Rattle.plan.specs.Selector.{Selector, position, rename, struct_mapping, list_mapping, array_mapping, Selectors}
use Rattle.plan.specs.Check.{element_of, within_limits}
use Rattle.plan.proofs.Typed.{At, here, Typed, t_position, t_constant, t_cast, t_rename, t_struct, t_list, t_array, TypedAll, t_nil, t_cons}
use Rattle.matching.specs.Default.{Defaults}
use Rattle.matching.specs.Build.{renamed, is_position, list_selector, array_selector, first}
use Rattle.matching.proofs.Lookup.{matches, counterpart-at, all}
use Rattle.matching.proofs.Attach.{Attach, a-same, a-cast, a_struct_lem, a_list_lem, a_array, AttachAll, a_nil, a-found, a-missing}
use Rattle.matching.proofs.InPlace.{is_bare_lem, straight, struct_selector_lem, renamed-bare}
use Rattle.matching.proofs.Untouched.{bare→equal, straight→equal}
use Rattle.matching.proofs.Limits.{WithinLimits, first-within, rest-within, struct-within, list-within, array-within}
use Rattle.matching.proofs.Fitting.{Good, good_none, missing-fits}

-- ---- the mappings, left out or not

struct-typed : {Γ : Fields} {k : Position} {n : Bytes} {fs gs : Fields} (ss : Selectors) (b : Bool) → (b ≡ true → fs ≡ gs) → At Γ k.0 n (struct fs) →
    TypedAll fs ss gs → within_limits (struct gs) ≡ true
    → Typed Γ (choose b (position k) (struct_mapping (position k) ss)) n (struct gs)
unfolding choose
struct-typed ss true h a d z = t_position (rw (h refl) at a)
struct-typed ss false h a d z = t_struct (t_position a) d z

list-typed : {Γ : Fields} {k : Position} {m n : Bytes} {t u : DataType} (e : Selector) (b : Bool) → (b ≡ true → t ≡ u) → At Γ k.0 n (list t) → Typed
    (element_of t) e m u → within_limits (list u) ≡ true
    → Typed Γ (choose b (position k) (list_mapping (position k) e)) n (list u)
unfolding choose
list-typed e true h a d z = t_position (rw (h refl) at a)
list-typed e false h a d z = t_list (t_position a) d z

array_typed : {Γ : Fields} {k : Position} {w : ℕ} {m n : Bytes} {t u : DataType} (e : Selector) (b : Bool) → (b ≡ true → t ≡ u) → At Γ k.0 n
    (array w t) → Typed (element_of t) e m u
    → within_limits (array w u) ≡ true → Typed Γ (choose b (position k) (array_mapping (position k) e)) n (array w u)
unfolding choose
array_typed e true h a d z = t_position (rw (h refl) at a)
array_typed e false h a d z = t_array (t_position a) d z

pub at-element : {t : DataType} → At (element_of t) first.0 [] t
at-element = here

-- ---- renames

renamed-typed : {Γ : Fields} (v : Matching) (b a : Label) {s : Selector} {t : DataType} → matches v b a ≡ true → Typed Γ s a.name t → within_limits t
    ≡ true → Typed Γ (renamed v b a s) b.name t
unfolding renamed choose
renamed-typed ByName b a h d z = rw (← same_bytes_eq a.name b.name h) d
renamed-typed {Γ} ByNumber b a {s} {t} h d z = go (same_bytes a.name b.name) refl
  where
    go : (x : Bool) → same_bytes a.name b.name ≡ x → Typed Γ (choose x s (rename s b.name)) b.name t
    go true q = rw (← same_bytes_eq a.name b.name q) d
    go false q = t_rename d z

-- in an element, where names have no effect
renamed-element : {Γ : Fields} (v : Matching) (b a : Label) {s : Selector} {n : Bytes} {t : DataType} → Typed Γ s n t → within_limits t ≡ true →
    (m : Bytes) × Typed Γ (renamed v b a s) m t
unfolding renamed choose
renamed-element ByName b a {n = n} d z = (n, d)
renamed-element {Γ} ByNumber b a {s} {n} {t} d z = go (same_bytes a.name b.name)
  where
    go : (x : Bool) → (m : Bytes) × Typed Γ (choose x s (rename s b.name)) m t
    go true = (n, d)
    go false = (b.name, t_rename d z)

module _ (v : Matching) where
  mutual
    unfolding list_selector array_selector dtype_of fields_of

    pub attach_typed : {d : Defaults} {Γ : Fields} {n : Bytes} {u t : ColumnType} {k : Position} {s : Selector} → Attach v d u k t s → Good d → At Γ
        k.0 n (dtype_of t) → within_limits (dtype_of u) ≡ true
        → Typed Γ s n (dtype_of u)
    attach_typed a-same g a z = t_position a
    attach_typed (a-cast r p) g a z = rw p (t_cast (t_position a) r (rw p at z))
    attach_typed (a_struct_lem {k = k} {fs} {gs} {ss} c h r) g a z =
        rw (← r, struct_selector_lem k fs ss)
        (struct-typed ss (straight 0 (fields_of fs) ss) (straight→equal v h (fields_of fs) all) a (attach_all_typed h g (struct-within (fields_of gs) z)) z)
    attach_typed (a_list_lem {a = x} {b} {u = u} {e = e} y m h r) g a z =
        let y = list-within (dtype_of u) z in
        let (m, d) = renamed-element v b x (attach_typed h good_none at-element y) y in
        rw (← r) (list-typed (renamed v b x e) (is_position 0 (renamed v b x e)) (λ c. (bare→equal v h (renamed-bare v b x e (is_bare_lem 0 _ c))).1) a d z)
    attach_typed (a_array {w = w} {a = x} {b} {u = u} {e = e} y m h r) g a z =
        let y = array-within w (dtype_of u) z in
        let (m, d) = renamed-element v b x (attach_typed h good_none at-element y) y in
        rw (← r) (array_typed (renamed v b x e) (is_position 0 (renamed v b x e)) (λ c. (bare→equal v h (renamed-bare v b x e (is_bare_lem 0 _ c))).1) a d z)

    pub attach_all_typed : {d : Defaults} {gs fs : Columns} {ss : Selectors} → AttachAll v d gs fs ss → Good d → WithinLimits (fields_of gs) → TypedAll
        (fields_of fs) ss (fields_of gs)
    attach_all_typed a_nil g z = t_nil
    attach_all_typed (a-found {a = a} {b} {u = u} {fs = fs} {x = x} q m h r hs) g z =
        let f = counterpart-at v b fs q in
        let y = first-within z in
        let e : Typed (fields_of fs) x b.name (dtype_of u) = rw (← r) (renamed-typed v b a f.match (attach_typed h g f.place y) y) in
        t_cons e (attach_all_typed hs g (rest-within z))
    attach_all_typed (a-missing {d} {b} {u} {fs = fs} {x = x} q y m r hs) g z =
        let e : Typed (fields_of fs) x b.name (dtype_of u) = rw (← r) (t_constant (missing-fits d g b u y)) in
        t_cons e (attach_all_typed hs g (rest-within z))
