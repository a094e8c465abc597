-- What fits while a plan is run, and what fits a type: the same but for `voverflow`. Assumes nothing.
use mathlib.Core.Path.{◌≡◌, refl}
use mathlib.Core.Bool.{true}
use Rattle.layout.specs.Tree.{DataType, Fields}
use Rattle.values.specs.Value.{Value, Values}
use Rattle.values.specs.Fits.{Fits, fit_null, fit_number, fit_text, fit_struct, fit_list, fit_array, FitsAll, all_nil, all_cons, FitsEach, each_nil, each_cons}
use Rattle.plan.specs.Run.{clean, clean_all_of}
use Rattle.plan.specs.code.Fits.{FitsOver, over-null, over-number, over-text, over-datetime, over-struct, over-list, over-array, FitsAllOver, over_nil}
use Rattle.plan.specs.code.Fits.{over_cons, FitsEachOver, over_none, over-more}
use Rattle.plan.proofs.Results.{true≠false, both, and-true}

mutual
  pub fits-over : {t : DataType} {v : Value} → Fits t v → FitsOver t v
  fits-over fit_null = over-null
  fits-over (fit_number e h t) = over-number e h t
  fits-over (fit_text e h) = over-text e h
  fits-over (fit_struct a) = over-struct (all-over a)
  fits-over (fit_list h a) = over-list h (each_over a)
  fits-over (fit_array h a) = over-array h (each_over a)

  pub all-over : {fs : Fields} {vs : Values} → FitsAll fs vs → FitsAllOver fs vs
  all-over all_nil = over_nil
  all-over (all_cons a b) = over_cons (fits-over a) (all-over b)

  pub each_over : {t : DataType} {vs : Values} → FitsEach t vs → FitsEachOver t vs
  each_over each_nil = over_none
  each_over (each_cons a b) = over-more (fits-over a) (each_over b)

mutual
  unfolding clean clean_all_of

  pub clean-fits : {t : DataType} {v : Value} → FitsOver t v → clean v ≡ true → Fits t v
  clean-fits over-null c = fit_null
  clean-fits (over-number e h t) c = fit_number e h t
  clean-fits (over-text e h) c = fit_text e h
  clean-fits (over-datetime e) c = true≠false c refl
  clean-fits (over-struct a) c = fit_struct (clean_all a c)
  clean-fits (over-list h a) c = fit_list h (clean-each a c)
  clean-fits (over-array h a) c = fit_array h (clean-each a c)

  pub clean_all : {fs : Fields} {vs : Values} → FitsAllOver fs vs → clean_all_of vs ≡ true → FitsAll fs vs
  clean_all over_nil c = all_nil
  clean_all (over_cons {v = v} a b) c = let (p, q) = both (clean v) c in all_cons (clean-fits a p) (clean_all b q)

  clean-each : {t : DataType} {vs : Values} → FitsEachOver t vs → clean_all_of vs ≡ true → FitsEach t vs
  clean-each over_none c = each_nil
  clean-each (over-more {v = v} a b) c = let (p, q) = both (clean v) c in each_cons (clean-fits a p) (clean-each b q)

-- what fits is clean
mutual
  unfolding clean clean_all_of

  pub fits-clean : {t : DataType} {v : Value} → Fits t v → clean v ≡ true
  fits-clean fit_null = refl
  fits-clean (fit_number e h t) = refl
  fits-clean (fit_text e h) = refl
  fits-clean (fit_struct a) = all-clean a
  fits-clean (fit_list h a) = each-clean a
  fits-clean (fit_array h a) = each-clean a

  pub all-clean : {fs : Fields} {vs : Values} → FitsAll fs vs → clean_all_of vs ≡ true
  all-clean all_nil = refl
  all-clean (all_cons a b) = and-true (fits-clean a) (all-clean b)

  each-clean : {t : DataType} {vs : Values} → FitsEach t vs → clean_all_of vs ≡ true
  each-clean each_nil = refl
  each-clean (each_cons a b) = and-true (fits-clean a) (each-clean b)
