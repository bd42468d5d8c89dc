use Rattle.std.proofs.Common.{take}
use Rattle.orders.proofs.Parting.{Each}
use Rattle.orders.proofs.LastWrites.{SeesSource}
use Rattle.orders.proofs.clauses.is_seeing.Given as goal

-- the reads so far see their sources
abbrev pub invariant-loop-place : goal.invariant-loop-place
invariant-loop-place l = Each (SeesSource l.table) (take l.place l.list)
