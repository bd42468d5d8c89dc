-- The numbers of a trace's operations, rising, and the rank of each. Rests on traces.
use Rattle.std.specs.Prelude.{◌≡◌, ℕ, zero, suc, ◌+◌, ◌*◌, ◌<◌, ◌≤◌, cond, List, [], ◌∷◌, length, is_some, slice_index}
use Rattle.trace.specs.Operations.{capacity}
use Rattle.trace.specs.Traces.{Trace, processor_count, operation_count, operation_at, There}

-- of the n numbers from i on, those at which there is an operation
abbrev pub numbers_from : Trace → ℕ → ℕ → List ℕ
numbers_from t i zero = []
numbers_from t i (suc n) = cond (is_some (operation_at t i)) (i ∷ numbers_from t (i + 1) n) (numbers_from t (i + 1) n)

-- the numbers of all operations, rising from the first of processor 1
abbrev pub numbers : Trace → List ℕ
numbers t = numbers_from t 101 (100 * processor_count t)

-- the number of a rank, counted from 0; 0 where there is none
abbrev pub number_at : List ℕ → ℕ → ℕ
number_at list rank = slice_index list rank

-- the number stands in the list at that rank
pub record RankOf (list : List ℕ) (number rank : ℕ) : Type 0 where
  pub within : rank < length list
  pub at : number_at list rank ≡ number

-- the number stands in the list at no rank
abbrev pub Unlisted : List ℕ → ℕ → Type 0
Unlisted list number = (rank : ℕ) → RankOf list number rank → ⊥

-- a lower rank has a lower number
abbrev pub Rising : List ℕ → Type 0
Rising list = (r s : ℕ) → r < s → s < length list → number_at list r < number_at list s

-- what is so of the list of a trace
pub record Numbers (t : Trace) : Type 0 where
  -- it is as long as there are operations
  pub count : length (numbers t) ≡ operation_count t
  -- there are not more than a table has room for
  pub few : operation_count t ≤ capacity
  -- it has only numbers of operations
  pub there : (r : ℕ) → r < length (numbers t) → There t (number_at (numbers t) r)
  -- it has the number of every operation
  pub every : (i : ℕ) → There t i → (r : ℕ) × RankOf (numbers t) i r
  -- it rises
  pub rising : Rising (numbers t)
