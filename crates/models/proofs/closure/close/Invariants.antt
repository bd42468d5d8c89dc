use Rattle.models.proofs.Closing.{Reaching}
use Rattle.models.proofs.closure.close.Given as goal

-- the table has what is reached through the ranks so far
abbrev pub invariant-loop-via : goal.invariant-loop-via
invariant-loop-via l = Reaching l.initial.rows l.via l.rows
