use Rattle.models.proofs.Passing.{Passing}
use Rattle.models.proofs.closure.pass_through.Given as goal

-- the rows so far have gained what they are to gain, and the others are as they were
abbrev pub invariant-loop-row : goal.invariant-loop-row
invariant-loop-row l = Passing l.initial.rows l.via l.row-index l.rows
