use Rattle.std.proofs.Common.{◌≡◌, ℕ, length, take}
use Rattle.opset.specs.Sets.{has}
use Rattle.search.specs.Steps.{is_in, asks, asks_more}
use Rattle.search.proofs.tables.Tables.enlarged.Given as goal

-- the ranks so far are seen, and what they ask is in the rows
abbrev pub invariant-loop-rank : goal.invariant-loop-rank
invariant-loop-rank l =
    (length l.next ≡ 64)
    × ((j : ℕ) → has l.seen j ≡ is_in j (take l.rank-index l.list))
    × ((i j : ℕ) → asks l.next i j ≡ asks_more l.self (asks l.before) (take l.rank-index l.list) i j)
