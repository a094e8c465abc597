-- Which values a type has while a plan is run: what a record holds for it, or `voverflow` in place of a date-time.
use Rattle.std.specs.Prelude.{ℕ, ◌<◌, ◌≡◌, true, length}
use Rattle.layout.specs.Bytes.{Bytes}
use Rattle.layout.specs.Tree.{LeafType, leaf_of, DataType, leaf, struct, list, array, Fields, fnil, fcons}
use Rattle.layout.specs.declared.leaf.Leaf.{Leaf}
use Rattle.rules.specs.Classes.{is_datetime}
use Rattle.values.specs.Value.{Value, vnull, vnumber, vtext, voverflow, vstruct, vlist, varray, Values, vnil, vcons, count_values}
use Rattle.values.specs.Content.{content_of, patterns_of, within}
use Rattle.values.specs.declared.content.Content.TheVariants.{Text}

-- the rules of the values' `Fits`, and `over-datetime`
mutual
  pub data FitsOver : DataType → Value → Type 0 where
    over-null : {t : DataType} → FitsOver t vnull
    over-number : {l : LeafType} {k : Leaf} {n : ℕ} → leaf_of l ≡ k → n < patterns_of k → within k n ≡ true → FitsOver (leaf l) (vnumber k n)
    over-text : {l : LeafType} {b : Bytes} → content_of (leaf_of l) ≡ Text → length b < 65536 → FitsOver (leaf l) (vtext b)
    over-datetime : {l : LeafType} → is_datetime (leaf_of l) ≡ true → FitsOver (leaf l) voverflow
    over-struct : {fs : Fields} {vs : Values} → FitsAllOver fs vs → FitsOver (struct fs) (vstruct vs)
    over-list : {t : DataType} {vs : Values} → count_values vs < 65536 → FitsEachOver t vs → FitsOver (list t) (vlist vs)
    over-array : {w : ℕ} {t : DataType} {vs : Values} → count_values vs ≡ w → FitsEachOver t vs → FitsOver (array w t) (varray vs)

  pub data FitsAllOver : Fields → Values → Type 0 where
    over_nil : FitsAllOver fnil vnil
    over_cons : {n : Bytes} {t : DataType} {fs : Fields} {v : Value} {vs : Values} → FitsOver t v → FitsAllOver fs vs → FitsAllOver (fcons n t fs) (vcons v vs)

  pub data FitsEachOver : DataType → Values → Type 0 where
    over_none : {t : DataType} → FitsEachOver t vnil
    over-more : {t : DataType} {v : Value} {vs : Values} → FitsOver t v → FitsEachOver t vs → FitsEachOver t (vcons v vs)
