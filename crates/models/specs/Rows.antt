-- Whole tables of sets: what each bit of a row says. A row's index is an operation's rank in rising number.
use Rattle.std.specs.Prelude.{◌≡◌, ℕ, ◌<◌, true, ◌&&◌, ◌||◌, ◌⊎◌, List, length, Decides, slice_index_or}
use Rattle.opset.specs.declared.OpSet.{OpSet}
use Rattle.opset.specs.Sets.{has}
use Rattle.ranks.specs.Numbers.{number_at}
use Rattle.models.specs.Chains.{Chain}

-- a set of ranks has exactly those whose operations are P; the list tells the numbers of the ranks
abbrev pub Row : (ℕ → Type 0) → List ℕ → OpSet → Type 0
Row P list row = (i : ℕ) → i < 64 → Decides (has row i) (P (number_at list i))

-- row j of a table; the empty set past its end
abbrev pub row_at : List OpSet → ℕ → OpSet
row_at rows j = slice_index_or rows j (record { 0 = 0 })

-- row j of a table has exactly the ranks i for which R holds of i and j
abbrev pub Rows : (ℕ → ℕ → Type 0) → List ℕ → List OpSet → Type 0
Rows R list rows = (j : ℕ) → j < 64 → Row (λ i. R i (number_at list j)) list (row_at rows j)

-- each row that has rank `via` has gained what the row of `via` has
pub record Passed (rows : List OpSet) (via : ℕ) (after : List OpSet) : Type 0 where
  pub long : length after ≡ length rows
  pub each : (i j : ℕ) → i < 64 → j < 64 → has (row_at after j) i ≡ (has (row_at rows j) i || (has (row_at rows j) via && has (row_at rows via) i))

-- each row has gained the ranks for which R holds
pub record Added (R : ℕ → ℕ → Type 0) (list : List ℕ) (rows after : List OpSet) : Type 0 where
  pub long : length after ≡ length rows
  pub each : (i j : ℕ) → i < 64 → j < 64 → Decides (has (row_at after j) i) ((has (row_at rows j) i ≡ true) ⊎ R (number_at list i) (number_at list j))

-- rank i is in row j
pub record Edge (rows : List OpSet) (i j : ℕ) : Type 0 where
  pub from : i < 64
  pub to : j < 64
  pub is : has (row_at rows j) i ≡ true

-- a table has rank i in row j exactly where a chain of such steps in another table leads from i to j
abbrev pub Closed : List OpSet → List OpSet → Type 0
Closed rows closure = (i j : ℕ) → i < 64 → j < 64 → Decides (has (row_at closure j) i) (Chain (Edge rows) i j)
