use Rattle.std.proofs.Common.{◌≡◌, drop}
use Rattle.trace.specs.Traces.{WellFormed}
use Rattle.trace_file.specs.Made.{made_from, made}
use Rattle.trace_file.proofs.changes.play.Given as goal

-- the calls that are left make of the table's trace what all calls make, and it is well-formed
abbrev pub invariant-loop-change : goal.invariant-loop-change
invariant-loop-change l = (made_from l.table (drop l.change-index l.changes) ≡ made l.changes) × WellFormed l.table
