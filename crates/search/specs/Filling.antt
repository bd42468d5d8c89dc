-- The parts of the search's tables: what each says of a model and a trace. Operations go by rank, and views from 0.
use Rattle.std.specs.Prelude.{◌≡◌, ℕ, suc, ◌<◌, ◌≤◌, true, List, length, slice_index_or}
use Rattle.trace.specs.declared.operation.Operation.{Operation}
use Rattle.trace.specs.Operations.{unused}
use Rattle.trace.specs.Traces.{Trace}
use Rattle.opset.specs.declared.OpSet.{OpSet}
use Rattle.opset.specs.Sets.{has, size}
use Rattle.ranks.specs.Numbers.{numbers, number_at}
use Rattle.models.specs.Meaning.{Meaning, Is}
use Rattle.models.specs.Rows.{Row, row_at}

-- the operation of a rank; an unused one where there is none
abbrev pub operation_of : List Operation → ℕ → Operation
operation_of operations r = slice_index_or operations r unused

-- the sets are what the first n views hold
pub record Held (m : Meaning) (t : Trace) (n : ℕ) (held : List OpSet) : Type 0 where
  pub rows : (k : ℕ) → k < n → Row (m.holds t (suc k)) (numbers t) (row_at held k)
  pub long : length held ≡ n
  pub within : (k i : ℕ) → has (row_at held k) i ≡ true → i < 64
  pub sized : (k : ℕ) → size (row_at held k) ≤ 64

-- the operations of the first n ranks of a list
pub record Listing (t : Trace) (list : List ℕ) (n : ℕ) (operations : List Operation) : Type 0 where
  pub each : (r : ℕ) → r < n → Is t (number_at list r) (operation_of operations r)
  pub long : length operations ≡ 64
  pub small : (r : ℕ) → (operation_of operations r).variable < 17
