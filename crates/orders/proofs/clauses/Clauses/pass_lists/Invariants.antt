use Rattle.orders.proofs.Passing.{Passed}
use Rattle.orders.proofs.clauses.Clauses.pass_lists.Given as goal

-- the views before this one are passed
abbrev pub invariant-loop-view : goal.invariant-loop-view
invariant-loop-view g l = Passed (g.M.MemoryModel.meaning l.self.model.now) l.self.table.now l.numbers l.view l.rest
