use Rattle.orders.proofs.Parting.{UpTo}
use Rattle.orders.proofs.Exactly.{New}
use Rattle.orders.proofs.clauses.Clauses.is_exact.Given as goal

-- the numbers so far are held and each there once, and their ranks are marked
abbrev pub invariant-loop-number : goal.invariant-loop-number
invariant-loop-number g l = UpTo (New (g.M.MemoryModel.meaning l.self.model.now) l.self.table.now l.view) l.self.table.now l.list l.number-index l.seen
