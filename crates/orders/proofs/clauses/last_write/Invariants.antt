use Rattle.std.proofs.Common.{take}
use Rattle.orders.specs.Orders.{LastWrite}
use Rattle.orders.proofs.clauses.last_write.Given as goal

-- it is the last write of the numbers so far
abbrev pub invariant-loop-number : goal.invariant-loop-number
invariant-loop-number l = LastWrite l.table l.variable (take l.number-index l.list) l.last
