use Rattle.std.proofs.Common.{◌≡◌, ◌-◌}
use Rattle.trace.specs.Traces.{empty_trace}
use Rattle.worked_traces.specs.Full.{written_by}
use Rattle.worked_traces.proofs.full.Given as goal

-- the processors before this one have their writes
abbrev pub invariant-loop-processor : goal.invariant-loop-processor
invariant-loop-processor l = l.table ≡ written_by (l.processor - 1) (empty_trace 8 1)
