use Rattle.orders.proofs.Walking.{Comparing}
use Rattle.orders.proofs.clauses.Clauses.find_other.Given as goal

-- the list agrees with those gone through so far
abbrev pub invariant-loop-other : goal.invariant-loop-other
invariant-loop-other g l = Comparing (g.M.MemoryModel.meaning l.self.model.now) l.self.table.now l.numbers l.view l.list l.other l.rest
