-- Tables of sets about a list of operations, by rank. Rests on places in a list.
use Rattle.std.specs.Prelude.{ℕ, ◌<◌, List, length, Decides}
use Rattle.opset.specs.declared.OpSet.{OpSet}
use Rattle.opset.specs.Sets.{has}
use Rattle.trace.specs.Traces.{Trace}
use Rattle.ranks.specs.Numbers.{numbers, number_at}
use Rattle.models.specs.Rows.{row_at}
use Rattle.orders.specs.Lists.{Earlier}

-- row j of a table has exactly the ranks i whose operations stand in the list earlier than that of j
abbrev pub EarlierRows : Trace → List ℕ → List OpSet → Type 0
EarlierRows t list rows = (i j : ℕ) → i < length (numbers t) → j < length (numbers t) → Decides (has (row_at rows j) i) (Earlier list (number_at (numbers t) i) (number_at (numbers t) j))
