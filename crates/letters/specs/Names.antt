-- The letters of each model, and the model of the letters.
use Rattle.std.specs.Prelude.{ℕ, List, [], ◌∷◌, ◌≢◌}
use Rattle.models.specs.Meaning.{Meaning}
use Rattle.models.specs.Bases.{sequential, coherent, pram}
use Rattle.models.specs.Layers.{write_into, agreement}
use Rattle.letters.specs.declared.Letters.{Letters}
use Rattle.letters.specs.declared.Letters.TheVariants.{S, C, P, FS, FC, FP, AS, AP, AFS, AFP}

-- the letters, by their numbers: A is 65, C 67, F 70, P 80 and S 83
abbrev pub named : Letters → List ℕ
named S = 83 ∷ []
named C = 67 ∷ []
named P = 80 ∷ []
named FS = 70 ∷ 83 ∷ []
named FC = 70 ∷ 67 ∷ []
named FP = 70 ∷ 80 ∷ []
named AS = 65 ∷ 83 ∷ []
named AP = 65 ∷ 80 ∷ []
named AFS = 65 ∷ 70 ∷ 83 ∷ []
named AFP = 65 ∷ 70 ∷ 80 ∷ []

-- they are the letters of no model
abbrev pub Unnamed : List ℕ → Type 0
Unnamed letters = (l : Letters) → letters ≢ named l

-- the model that the letters name: F is the write-into order, A is agreement on writes
abbrev pub meaning_of : Letters → Meaning
meaning_of S = sequential
meaning_of C = coherent
meaning_of P = pram
meaning_of FS = write_into sequential
meaning_of FC = write_into coherent
meaning_of FP = write_into pram
meaning_of AS = agreement sequential
meaning_of AP = agreement pram
meaning_of AFS = agreement (write_into sequential)
meaning_of AFP = agreement (write_into pram)
