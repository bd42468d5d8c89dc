use Rattle.std.proofs.Common.{◌-◌}
use Rattle.trace_file.proofs.Steps.{Sectioning}
use Rattle.trace_file.proofs.reader.read.Given as goal

-- the sections that are left are read from the trace so far as the whole file is
abbrev pub invariant-loop-section : goal.invariant-loop-section
invariant-loop-section l = Sectioning l.bytes l.processors l.table (l.section - 1) l.start
