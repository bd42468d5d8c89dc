use Rattle.orders.proofs.Agreeing.{Tabled}
use Rattle.orders.proofs.clauses.earlier_rows.Given as goal

-- the table of the numbers so far
abbrev pub invariant-loop-number : goal.invariant-loop-number
invariant-loop-number l = Tabled l.table l.list l.number-index l.rows l.seen
