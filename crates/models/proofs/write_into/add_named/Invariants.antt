use Rattle.ranks.specs.Numbers.{numbers}
use Rattle.models.specs.Layers.{Names}
use Rattle.models.proofs.Passing.{Changing, Gained}
use Rattle.models.proofs.write_into.add_named.Given as goal

-- the rows so far have gained what they are to gain, and the others are as they were
abbrev pub invariant-loop-rank : goal.invariant-loop-rank
invariant-loop-rank l = Changing (Gained (Names l.table) (numbers l.table) l.initial.rows) l.initial.rows l.rank l.rows
