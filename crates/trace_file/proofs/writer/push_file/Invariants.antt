use Rattle.std.proofs.Common.{◌-◌}
use Rattle.trace_file.specs.Files.{section_bytes}
use Rattle.trace_file.proofs.Lengths.{Putting}
use Rattle.trace_file.proofs.writer.push_file.Given as goal

-- the sections so far stand after the size
abbrev pub invariant-loop-processor : goal.invariant-loop-processor
invariant-loop-processor l = Putting section_bytes l.table.lanes l.initial.file (l.processor - 1) l.file
