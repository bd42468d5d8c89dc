-- The lines that are printed, as bytes. Every line ends with a byte 10.
use Rattle.std.specs.Prelude.{ℕ, suc, List, [], ◌∷◌, ◌++◌, codes, decimal}
use Rattle.std.specs.List.{flat_map}

-- a refusal and its place
abbrev pub refused_line : ℕ → ℕ → List ℕ
refused_line refusal place = codes "refused " ++ (decimal refusal ++ (codes " at " ++ (decimal place ++ codes "\n")))

-- an operation's number, after one space
abbrev pub spaced : ℕ → List ℕ
spaced number = codes " " ++ decimal number

-- view k, and the operation numbers of its list
abbrev pub view_line : ℕ → List ℕ → List ℕ
view_line k list = (codes "view " ++ (decimal k ++ codes ":")) ++ (flat_map spaced list ++ codes "\n")

-- a line for each list, from view k on
abbrev pub view_lines : ℕ → List (List ℕ) → List ℕ
view_lines k [] = []
view_lines k (list ∷ lists) = view_line k list ++ view_lines (suc k) lists

-- a legal verdict, with a line for each view
abbrev pub legal_text : List (List ℕ) → List ℕ
legal_text orders = codes "legal\n" ++ view_lines 1 orders

-- an illegal verdict
abbrev pub illegal_text : List ℕ
illegal_text = codes "illegal\n"
