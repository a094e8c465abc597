-- Zones as bytes: which count as UTC, and how two compare.
use mathlib.Core.Path.{◌≡◌, refl, sym, ap, ◌∙◌}
use mathlib.Core.List.{[]}
use mathlib.Core.Bool.{Bool, true, false, ◌&&◌, ◌||◌, true≢false}
use Rattle.layout.proofs.OfBytes.{same_bytes_eq, same_bytes-refl}
use Rattle.layout.specs.Bytes.{Bytes, same_bytes}
use Rattle.rules.specs.declared.params.Params.TheVariants.{Identical, SameAsUtc, Different}
use Rattle.rules.specs.code.Choice.{when◌then◌else◌}
use Rattle.rules.specs.Params.{same_as_utc}
use Rattle.rules.specs.Zones.{utc, etc_utc, text_z, is_utc, read_zone, zones_of}

-- ---- what counts as UTC

or-false : (b : Bool) → b ≡ (b || false)
or-false true = refl
or-false false = refl

-- the texts in turn
module _ (zone : Bytes) {a : Bool} (e : a ≡ same_bytes zone []) where
  pub utc-absent : a ≡ true → true ≡ is_utc zone
  unfolding is_utc
  utc-absent f = rw (← e, f)

  module _ (f : a ≡ false) {b : Bool} (g : b ≡ same_bytes zone utc) where
    pub utc-text : b ≡ true → true ≡ is_utc zone
    unfolding is_utc
    utc-text h = rw (← e, f, ← g, h)

    module _ (h : b ≡ false) {c : Bool} (k : c ≡ same_bytes zone etc_utc) where
      pub utc-etc : c ≡ true → true ≡ is_utc zone
      unfolding is_utc
      utc-etc l = rw (← e, f, ← g, h, ← k, l)

      pub utc-z : {d : Bool} → c ≡ false → d ≡ same_bytes zone text_z → d ≡ is_utc zone
      unfolding is_utc
      utc-z l m = rw (← e, f, ← g, h, ← k, l, ← m) (or-false _)

utc-is_utc : is_utc utc ≡ true
unfolding is_utc same_bytes
utc-is_utc = refl

not-text : (z : Bytes) → is_utc z ≡ false → same_bytes z utc ≡ false
not-text z n = go (same_bytes z utc) refl
  where
    go : (c : Bool) → same_bytes z utc ≡ c → c ≡ false
    go true q = absurd (true≢false (sym utc-is_utc ∙ ap is_utc (sym (same_bytes_eq z utc q)) ∙ n))
    go false q = refl

text-not : (z : Bytes) → is_utc z ≡ false → same_bytes utc z ≡ false
text-not z n = go (same_bytes utc z) refl
  where
    go : (c : Bool) → same_bytes utc z ≡ c → c ≡ false
    go true q = absurd (true≢false (sym utc-is_utc ∙ ap is_utc (same_bytes_eq utc z q) ∙ n))
    go false q = refl

-- ---- the comparison, by its tests

pub zones_identical : (a b : Bytes) → same_bytes a b ≡ true → Identical ≡ zones_of a b
unfolding zones_of
zones_identical a b e = rw e

pub zones_utc : (a b : Bytes) → same_bytes a b ≡ false → is_utc a ≡ true → is_utc b ≡ true → SameAsUtc ≡ zones_of a b
unfolding zones_of read_zone
zones_utc a b e f g = rw (e, f, g, same_bytes-refl utc)

pub zones_left : (a b : Bytes) → same_bytes a b ≡ false → is_utc a ≡ false → Different ≡ zones_of a b
unfolding zones_of read_zone
zones_left a b e f = rw (e, f) (go (is_utc b) refl)
  where
    go : (c : Bool) → is_utc b ≡ c → Different ≡ (when same_bytes a (when c then utc else b) then SameAsUtc else Different)
    go true q = rw (not-text a f)
    go false q = rw e

pub zones_right : (a b : Bytes) → same_bytes a b ≡ false → is_utc a ≡ true → is_utc b ≡ false → Different ≡ zones_of a b
unfolding zones_of read_zone
zones_right a b e f g = rw (e, f, g, text-not b g)

-- ---- what 21 asks

-- zones are the same for 21 where their bytes are, or both count as UTC
pub zones_same : (a b : Bytes) → same_as_utc (zones_of a b) ≡ (same_bytes a b || (is_utc a && is_utc b))
zones_same a b = go (same_bytes a b) refl (is_utc a) refl (is_utc b) refl
  where
    go : (s : Bool) → same_bytes a b ≡ s → (c : Bool) → is_utc a ≡ c → (d : Bool) → is_utc b ≡ d → same_as_utc (zones_of a b) ≡ (s || (c && d))
    go true q c e d f = ap same_as_utc (sym (zones_identical a b q))
    go false q true e true f = ap same_as_utc (sym (zones_utc a b q e f))
    go false q true e false f = ap same_as_utc (sym (zones_right a b q e f))
    go false q false e d f = ap same_as_utc (sym (zones_left a b q e))
