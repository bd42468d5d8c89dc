use Rattle.orders.proofs.Parting.{UpTo}
use Rattle.orders.proofs.Orderly.{Behind}
use Rattle.orders.proofs.clauses.Clauses.is_ordered.Given as goal

-- the numbers so far have all before them that has to be, and their ranks are marked
abbrev pub invariant-loop-number : goal.invariant-loop-number
invariant-loop-number g l = UpTo (Behind (g.M.MemoryModel.meaning l.self.model.now) l.self.table.now l.view) l.self.table.now l.list l.number-index l.seen
