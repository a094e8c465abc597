-- Names, types, options and counts in a plan: what was written is read, and what was read was written. Assumes nothing.
use Prim.Native.Nat.{ℕ, ◌+◌, ◌≤◌, ◌<◌}
use mathlib.Core.Path.{◌≡◌, refl, sym, ap, ◌∙◌}
use mathlib.Core.List.{[], ◌∷◌, ◌++◌}
use native.Mathlib.Omega.{arith}
use lib.ListN.{length, take, drop, take-append-drop}
use lib.Seq.{drop-append-le, length-take-le}
use borrow.Author.Tests.{le-leb}
use Rattle.layout.specs.Bytes.{Bytes, AllBytes}
use Rattle.layout.specs.Parser.{ok, next, choose, byte, u16}
use Rattle.layout.specs.Tree.{DataType}
use Rattle.layout.specs.Layout.{text, deepest}
use Rattle.layout.specs.declared.columns.Siblings.TheVariants.{Free}
use Rattle.layout.specs.declared.edition.Edition.TheVariants.{One}
use Rattle.layout.proofs.Ways.{clash}
use Rattle.layout.proofs.View.{next-ok}
use Rattle.forms.specs.Form.{u16_bytes, text_bytes, form}
use Rattle.forms.specs.code.Readable.{ShortText}
use Rattle.forms.proofs.Leaves.{little-u16}
use Rattle.forms.proofs.Slices.{Stands, stands-length}
use Rattle.forms.proofs.Read.{text-stands, type→}
use Rattle.forms.proofs.ReadBack.{type-stands}
use Rattle.forms.proofs.Written.{type_at, dtype_labelled}
use Rattle.forms.proofs.Theorems.{read_extent, read-readable}
use Rattle.rules.specs.declared.outcome.CastOption.{CastOption}
use Rattle.rules.specs.declared.outcome.OptionCode.{OptionCode}
use Rattle.rules.specs.declared.outcome.OptionCode.TheVariants.{Known, Unknown}
use Rattle.rules.specs.Outcomes.{option_code, option_at}
use Rattle.rules.proofs.Options.{option_of_code, code_of-option}
use Rattle.values.proofs.Stand.{Stand, stand_split, stand_same, byte_back, byte_forth, chunk_forth, u16_back, u16_forth, ok_same}
use Rattle.plan.specs.Read.{data_type, known_option, cast_option}
use Rattle.plan.specs.code.Formed.{FormedType}

-- bytes between two offsets
pub stands→stand : {s : Bytes} {at m : ℕ} {bs : Bytes} → Stands s at m bs → Stand s at bs m
stands→stand {s} {at} {m} {bs} P =
    let a = P.from in
    let b = P.to in
    let t = length-take-le m s b in
    let e : drop at s ≡ drop at (take m s) ++ drop m s = ap (λ (r : Bytes). drop at r) (sym (take-append-drop m s)) ∙ drop-append-le at (take m s)
    (drop m s) (omega arith) in
    let f : drop at s ≡ bs ++ drop m s = e ∙ ap (λ (r : Bytes). r ++ drop m s) P.is in
    record { is = f; ends = let l = stands-long in omega arith; within = b }
  where
    stands-long : at + length bs ≡ m
    stands-long = stands-length P

-- ---- what was written is read

module _ {s : Bytes} {at m : ℕ} where
  pub count_forth : {n : ℕ} → n < 65536 → Stand s at (u16_bytes n) m → u16 s at ≡ ok n m
  count_forth {n} h P = u16_forth h (stand_same (little-u16 n h) P)

  pub text_forth : (b : Bytes) → length b ≤ 63 → Stand s at (text_bytes b) m → text s at ≡ ok b m
  unfolding text text_bytes next choose
  text_forth b h P =
      let Q = stand_split (length b ∷ []) b P in
      rw (byte_forth Q.first, le-leb (length b) 63 h, chunk_forth b Q.second)

  pub type_forth : (t : DataType) → FormedType t → Stand s at (form t) m → data_type s at ≡ ok t m
  unfolding data_type next
  type_forth t f P = rw (type_at t deepest s at (drop m s) f.readable f.deep P.is, dtype_labelled t, ← P.ends)

  pub option_forth : (o : CastOption) → Stand s at (option_code o ∷ []) m → cast_option s at ≡ ok o m
  unfolding cast_option known_option next
  option_forth o P = rw (byte_forth P, option_of_code o)

-- ---- what was read was written

module _ (s : Bytes) (o : AllBytes s) (at : ℕ) where
  pub count_back : {n m : ℕ} → u16 s at ≡ ok n m → Stand s at (u16_bytes n) m × (n < 65536)
  count_back {n} e = let B = u16_back s o at e in (stand_same (sym (little-u16 n B.below)) B.stands, B.below)

  pub text_back : {b : Bytes} {m : ℕ} → text s at ≡ ok b m → Stand s at (text_bytes b) m × ShortText b
  text_back e = let (p, (l, q)) = text-stands s at e in (stands→stand p, (l, q o))

  pub type_back : {t : DataType} {m : ℕ} → data_type s at ≡ ok t m → Stand s at (form t) m × FormedType t
  unfolding data_type
  type_back e =
      let (c, i, p, q) = next-ok _ _ e in
      let (a, b, l, d) = read_extent One Free deepest s at p in
      ok_same (λ t m. Stand s at (form t) m × FormedType t) q
      (stands→stand (type-stands o (type→ One Free s deepest at p)), record { readable = read-readable One Free deepest s at o p; deep = d })

  known-back : (k : OptionCode) (b i : ℕ) {c : CastOption} {m : ℕ} → option_at b ≡ k → byte s at ≡ ok b i → known_option k s i ≡ ok c m → Stand s at
      (option_code c ∷ []) m
  unfolding known_option
  known-back (Known c) b i e p q = ok_same (λ c m. Stand s at (option_code c ∷ []) m) q
      (stand_same (ap (λ (x : ℕ). x ∷ []) (code_of-option b c e)) (byte_back s at p))
  known-back Unknown b i e p q = clash (cc)

  pub option_back : {c : CastOption} {m : ℕ} → cast_option s at ≡ ok c m → Stand s at (option_code c ∷ []) m
  unfolding cast_option
  option_back e = let (b, i, p, q) = next-ok _ _ e in known-back (option_at b) b i refl p q
