-- What is stored into the part of a buffer from an index to its end. Assumes nothing.
use mathlib.Core.Path.{◌≡◌, refl, ap, sym, ◌∙◌}
use mathlib.Core.List.{List, [], ◌∷◌, ◌++◌, append-nil}
use Prim.Native.Nat.{ℕ, zero, suc, ◌+◌, ◌≤◌}
use native.Mathlib.Omega.{arith}
use lib.ListN.{length, take, drop, set, length-drop, drop_of_length-le}
use lib.Seq.{take_all}
use borrow.Rule.Slice.PartMut.{mid_of, put_mid}
use Rattle.store.specs.code.Overlay.{overlay}
use Rattle.store.proofs.Overlay.{overlay_out}

overlay_cons : (x : ℕ) (out : List ℕ) (k : ℕ) (bs : List ℕ) → overlay (x ∷ out) (suc k) bs ≡ x ∷ overlay out k bs
unfolding overlay
overlay_cons x out k [] = refl
overlay_cons x out k (b ∷ bs) =
    let e : suc k + 1 ≡ suc (k + 1) = omega arith in
    rw e (overlay_cons x (set out k b) (k + 1) bs)

overlay-part : (out : List ℕ) (k : ℕ) (bs : List ℕ) → overlay out k bs ≡ take k out ++ overlay (drop k out) 0 bs
overlay-part out zero bs = refl
overlay-part [] (suc k) bs = overlay_out [] (suc k) bs (omega arith) ∙ sym (overlay_out [] 0 bs (omega arith))
overlay-part (x ∷ out) (suc k) bs = overlay_cons x out k bs ∙ ap (λ (r : List ℕ). x ∷ r) (overlay-part out k bs)

-- the n elements from index k on were lent, and are the rest
pub part-stored : (out : List ℕ) (k n : ℕ) (bs : List ℕ) {new : List ℕ} → length out ≤ k + n → new ≡ overlay (mid_of k n out) 0 bs → put_mid k n out new ≡
    overlay out k bs
part-stored out k n bs {new} h e =
    let l : length (drop k out) ≤ n = omega (arith, length-drop k out) in
    ap (λ (r : List ℕ). take k out ++ (new ++ r)) (drop_of_length-le (drop k out) l)
    ∙ ap (λ (r : List ℕ). take k out ++ r) (append-nil new ∙ e ∙ ap (λ (r : List ℕ). overlay r 0 bs) (take_all n (drop k out) l))
    ∙ sym (overlay-part out k bs)
