-- Where a number stands in a list: somewhere, or earlier than another.
use Rattle.std.specs.Prelude.{◌≡◌, ℕ, List, ◌∷◌, ◌++◌}

-- i stands in the list
pub record Stands (list : List ℕ) (i : ℕ) : Type 0 where
  pub before : List ℕ
  pub after : List ℕ
  pub is : list ≡ before ++ i ∷ after

-- i stands in the list earlier than j
pub record Earlier (list : List ℕ) (i j : ℕ) : Type 0 where
  pub before : List ℕ
  pub between : List ℕ
  pub after : List ℕ
  pub is : list ≡ before ++ i ∷ (between ++ j ∷ after)

-- no number stands in the list twice
abbrev pub Once : List ℕ → Type 0
Once list = (before after : List ℕ) (i : ℕ) → list ≡ before ++ i ∷ after → Stands before i → ⊥
