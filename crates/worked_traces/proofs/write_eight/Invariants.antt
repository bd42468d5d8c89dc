use Rattle.std.proofs.Common.{◌≡◌}
use Rattle.worked_traces.specs.Full.{written}
use Rattle.worked_traces.proofs.write_eight.Given as goal

-- the writes so far are recorded
abbrev pub invariant-loop : goal.invariant-loop
invariant-loop l = l.table ≡ written l.processor l.counter l.initial.table
