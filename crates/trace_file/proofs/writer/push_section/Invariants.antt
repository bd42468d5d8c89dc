use Rattle.trace_file.specs.Files.{record_bytes}
use Rattle.trace_file.proofs.Lengths.{Putting}
use Rattle.trace_file.proofs.writer.push_section.Given as goal

-- the records so far stand after the count
abbrev pub invariant-loop-operation : goal.invariant-loop-operation
invariant-loop-operation l = Putting record_bytes l.lane l.initial.file l.operation-index l.file
