use Rattle.std.proofs.Common.{◌≡◌, map, take}
use Rattle.search.specs.Steps.{number_of}
use Rattle.search.proofs.tables.Tables.numbers_of.Given as goal

-- the numbers so far are those of the ranks so far
abbrev pub invariant-loop-rank : goal.invariant-loop-rank
invariant-loop-rank l = l.numbers ≡ map (number_of l.self) (take l.rank-index l.ranks)
