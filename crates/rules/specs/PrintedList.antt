-- Document 02, L4: "the printed list of integer types", by which fitters compare: a row for each incoming type, and in
-- it whether each type holds it; rows and columns stand in the order of the codes, int8 to int64 and uint8 to uint64.
-- Nothing is defined by it: that the range rule says the same of all 64 pairs is a theorem (`all_64`).
use Rattle.std.specs.Prelude.{Bool, true, false, List, [], ◌∷◌, ℕ}

abbrev pub codes : List ℕ
codes = 2 ∷ 3 ∷ 4 ∷ 5 ∷ 6 ∷ 7 ∷ 8 ∷ 9 ∷ []

abbrev pub held : List (List Bool)
held =
    (true ∷ true ∷ true ∷ true ∷ false ∷ false ∷ false ∷ false ∷ [])
    ∷ (false ∷ true ∷ true ∷ true ∷ false ∷ false ∷ false ∷ false ∷ [])
    ∷ (false ∷ false ∷ true ∷ true ∷ false ∷ false ∷ false ∷ false ∷ [])
    ∷ (false ∷ false ∷ false ∷ true ∷ false ∷ false ∷ false ∷ false ∷ [])
    ∷ (false ∷ true ∷ true ∷ true ∷ true ∷ true ∷ true ∷ true ∷ [])
    ∷ (false ∷ false ∷ true ∷ true ∷ false ∷ true ∷ true ∷ true ∷ [])
    ∷ (false ∷ false ∷ false ∷ true ∷ false ∷ false ∷ true ∷ true ∷ [])
    ∷ (false ∷ false ∷ false ∷ false ∷ false ∷ false ∷ false ∷ true ∷ [])
    ∷ []
