use Rattle.orders.proofs.Walking.{Checking}
use Rattle.orders.proofs.clauses.Clauses.find_disagreeing.Given as goal

-- the views before this one agree
abbrev pub invariant-loop-view : goal.invariant-loop-view
invariant-loop-view g l = Checking (g.M.MemoryModel.meaning l.self.model.now) l.self.table.now l.numbers l.view l.rest
