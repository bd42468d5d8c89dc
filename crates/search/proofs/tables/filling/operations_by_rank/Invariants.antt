use Rattle.search.specs.Filling.{Listing}
use Rattle.search.proofs.tables.filling.operations_by_rank.Given as goal

-- the operations of the ranks so far are right
abbrev pub invariant-loop-rank : goal.invariant-loop-rank
invariant-loop-rank l = Listing l.table l.ranks l.rank l.operations
