use Rattle.orders.proofs.Agreeing.{AgreesTo}
use Rattle.orders.proofs.clauses.Clauses.is_agreeing.Given as goal

-- the operations so far stand as in the other list
abbrev pub invariant-loop-rank : goal.invariant-loop-rank
invariant-loop-rank g l = AgreesTo (g.M.MemoryModel.meaning l.self.model.now) l.self.table.now l.view l.other l.list l.rank
