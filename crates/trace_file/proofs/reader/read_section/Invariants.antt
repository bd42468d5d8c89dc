use Rattle.std.proofs.Common.{◌-◌}
use Rattle.trace_file.proofs.Steps.{Recording}
use Rattle.trace_file.proofs.reader.read_section.Given as goal

-- the records that are left are read from the trace so far as all are from the first
abbrev pub invariant-loop-position : goal.invariant-loop-position
invariant-loop-position l = Recording l.initial.table l.section l.count l.initial.rest l.table (l.position - 1) l.rest
