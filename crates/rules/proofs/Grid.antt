-- A function at each pair of some values, as rows: what a sample of many pairs computes.
use mathlib.Core.List.{List, [], ◌∷◌}

abbrev pub along : {A B : Type 0} → (A → B) → List A → List B
along f [] = []
along f (x ∷ xs) = f x ∷ along f xs

abbrev pub grid : {A B C : Type 0} → (A → B → C) → List A → List B → List (List C)
grid f xs ys = along (λ x. along (f x) ys) xs
