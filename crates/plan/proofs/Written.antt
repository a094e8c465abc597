-- The reader of plans reads what was written back. Assumes nothing.
use Prim.Native.Nat.{ℕ, zero, suc, ◌≤◌, ◌<◌}
use mathlib.Core.Path.{◌≡◌, refl, sym, ap, ◌∙◌}
use mathlib.Core.List.{[], ◌∷◌, ◌++◌, append-nil}
use mathlib.Core.Bool.{true}
use native.Mathlib.Omega.{arith}
use lib.ListN.{length, take, drop_of_length-le}
use lib.Seq.{take-append_seam}
use borrow.Author.Tests.{le-leb, eq-eqb}
use Rattle.layout.specs.Bytes.{Bytes, same_bytes}
use Rattle.layout.specs.Parser.{ok, next, choose}
use Rattle.layout.specs.Layout.{ended}
use Rattle.forms.specs.Form.{u16_bytes, text_bytes, form}
use Rattle.layout.proofs.OfBytes.{same_bytes-refl}
use Rattle.rules.specs.Outcomes.{option_code}
use Rattle.values.specs.Encode.{encode_value}
use Rattle.values.specs.Record.{renumber}
use Rattle.values.proofs.Stand.{Stand, stand_split, byte_forth}
use Rattle.values.proofs.Forth.{value_forth}
use Rattle.plan.specs.Selector.{Selector, Selectors, snil, count_selectors, nesting, nesting_all}
use Rattle.plan.specs.Encode.{encode_selector, encode_selectors, plan_mark, encode_plan}
use Rattle.plan.specs.Read.{selectors, position_rest, constant_rest, cast_rest, rename_rest, struct_rest, list_rest, array_rest, selector_rest, selector}
use Rattle.plan.specs.Read.{longest_plan, deepest_selector, plan_sized, plan_version, plan_from, plan_counted, plan}
use Rattle.plan.specs.code.Formed.{Formed, f_position, f_constant, f_cast, f_rename, f_struct, f_list, f_array, FormedAll, f_nil, f_cons}
use Rattle.plan.proofs.Parts.{count_forth, text_forth, type_forth, option_forth}

mutual
  unfolding selector selector_rest position_rest constant_rest cast_rest rename_rest struct_rest list_rest array_rest selectors next choose encode_selector
      encode_selectors count_selectors nesting nesting_all

  pub selector_forth : {x : Selector} → Formed x → (d : ℕ) → nesting x ≤ d → (s : Bytes) (at m : ℕ) → Stand s at (encode_selector x) m → selector d s at ≡ ok x m
  selector_forth (f_position {k} b) zero h s at m P = absurd (omega arith)
  selector_forth (f_position {k} b) (suc d) h s at m P =
      let Q = stand_split (0 ∷ []) (u16_bytes k.0) P in
      rw (byte_forth Q.first, count_forth b Q.second)
  selector_forth (f_constant {n} {t} {v} a b c) zero h s at m P = absurd (omega arith)
  selector_forth (f_constant {n} {t} {v} a b c) (suc d) h s at m P =
      let Q = stand_split (1 ∷ []) (text_bytes n ++ (form t ++ encode_value v)) P in
      let R = stand_split (text_bytes n) (form t ++ encode_value v) Q.second in
      let S = stand_split (form t) (encode_value v) R.second in
      rw (byte_forth Q.first, text_forth n a.0 R.first, type_forth t b S.first, value_forth c s _ m S.second)
  selector_forth (f_cast {s = x} {t = t} {o = o} f b) zero h s at m P = absurd (omega arith)
  selector_forth (f_cast {s = x} {t = t} {o = o} f b) (suc d) h s at m P =
      let Q = stand_split (2 ∷ []) (encode_selector x ++ (form t ++ (option_code o ∷ []))) P in
      let R = stand_split (encode_selector x) (form t ++ (option_code o ∷ [])) Q.second in
      let S = stand_split (form t) (option_code o ∷ []) R.second in
      rw (byte_forth Q.first, selector_forth f d (omega arith) s _ _ R.first, type_forth t b S.first, option_forth o S.second)
  selector_forth (f_rename {s = x} {n = n} f b) zero h s at m P = absurd (omega arith)
  selector_forth (f_rename {s = x} {n = n} f b) (suc d) h s at m P =
      let Q = stand_split (3 ∷ []) (encode_selector x ++ text_bytes n) P in
      let R = stand_split (encode_selector x) (text_bytes n) Q.second in
      rw (byte_forth Q.first, selector_forth f d (omega arith) s _ _ R.first, text_forth n b.0 R.second)
  selector_forth (f_struct {s = x} {ss = xs} f b fs) zero h s at m P = absurd (omega arith)
  selector_forth (f_struct {s = x} {ss = xs} f b fs) (suc d) h s at m P =
      let Q = stand_split (4 ∷ []) (encode_selector x ++ (u16_bytes (count_selectors xs) ++ encode_selectors xs)) P in
      let R = stand_split (encode_selector x) (u16_bytes (count_selectors xs) ++ encode_selectors xs) Q.second in
      let S = stand_split (u16_bytes (count_selectors xs)) (encode_selectors xs) R.second in
      rw (
        byte_forth Q.first,
        selector_forth f d (omega arith) s _ _ R.first,
        count_forth b S.first,
        selectors_forth fs d (omega arith) s _ m
            S.second,
      )
  selector_forth (f_list {s = x} {e = e} f g) zero h s at m P = absurd (omega arith)
  selector_forth (f_list {s = x} {e = e} f g) (suc d) h s at m P =
      let Q = stand_split (5 ∷ []) (encode_selector x ++ encode_selector e) P in
      let R = stand_split (encode_selector x) (encode_selector e) Q.second in
      rw (byte_forth Q.first, selector_forth f d (omega arith) s _ _ R.first, selector_forth g d (omega arith) s _ m R.second)
  selector_forth (f_array {s = x} {e = e} f g) zero h s at m P = absurd (omega arith)
  selector_forth (f_array {s = x} {e = e} f g) (suc d) h s at m P =
      let Q = stand_split (6 ∷ []) (encode_selector x ++ encode_selector e) P in
      let R = stand_split (encode_selector x) (encode_selector e) Q.second in
      rw (byte_forth Q.first, selector_forth f d (omega arith) s _ _ R.first, selector_forth g d (omega arith) s _ m R.second)

  pub selectors_forth : {xs : Selectors} → FormedAll xs → (d : ℕ) → nesting_all xs ≤ d → (s : Bytes) (at m : ℕ) → Stand s at (encode_selectors xs) m →
      selectors (selector d) (count_selectors xs) s at ≡ ok xs m
  selectors_forth f_nil d h s at m P = ap (λ (x : ℕ). ok snil x) (let e : at ≡ m = omega (arith, P.ends) in e)
  selectors_forth (f_cons {s = x} {ss = xs} f fs) d h s at m P =
      let Q = stand_split (encode_selector x) (encode_selectors xs) P in
      rw (selector_forth f d (omega arith) s at _ Q.first, selectors_forth fs d (omega arith) s _ m Q.second)

-- all of a plan stands from its start to its end
whole : (s : Bytes) → Stand s 0 s (length s)
whole s =
    let l : length s ≤ length s = omega arith in
    record { is = sym (ap (λ (r : Bytes). s ++ r) (drop_of_length-le s l) ∙ append-nil s); ends = omega arith; within = l }

pub plan_forth : {ss : Selectors} → FormedAll ss → count_selectors ss < 65536 → nesting_all ss ≤ deepest_selector → length (encode_plan ss) ≤ longest_plan →
    plan (encode_plan ss) ≡ ok ss (length (encode_plan ss))
unfolding plan plan_from plan_counted plan_sized plan_version ended renumber next choose encode_plan
plan_forth {ss} f c n l =
    let s = encode_plan ss in
    let Q = stand_split plan_mark (u16_bytes (count_selectors ss) ++ encode_selectors ss) (whole s) in
    let R = stand_split (u16_bytes (count_selectors ss)) (encode_selectors ss) Q.second in
    let t : take 5 s ≡ plan_mark = take-append_seam plan_mark (u16_bytes (count_selectors ss) ++ encode_selectors ss) in
    let v : same_bytes (take 5 s) plan_mark ≡ true = ap (λ (b : Bytes). same_bytes b plan_mark) t ∙ same_bytes-refl plan_mark in
    rw (
      le-leb (length s) longest_plan l,
      v,
      count_forth c R.first,
      selectors_forth f deepest_selector n s _ (length s) R.second,
      eq-eqb (length s)
          (length s) refl,
    )
