-- The number and the place of each fault: a record's number passes up unaltered, and each layer adds its place.
use Rattle.std.specs.Prelude.{ℕ}
use Rattle.trace.specs.Operations.{number}
use Rattle.trace_file.specs.declared.faults.RecordFault.{RecordFault}
use Rattle.trace_file.specs.declared.faults.RecordFault.TheVariants as record_fault
use Rattle.trace_file.specs.declared.faults.SectionFault.{SectionFault}
use Rattle.trace_file.specs.declared.faults.SectionFault.TheVariants as section_fault
use Rattle.trace_file.specs.declared.faults.FileFault.{FileFault}
use Rattle.trace_file.specs.declared.faults.FileFault.TheVariants as file_fault

-- a record: too few bytes, no kind, no variable, no source, or no room for one more operation
abbrev pub record_number : RecordFault → ℕ
record_number record_fault.Short = 15
record_number record_fault.Kind = 2
record_number record_fault.Variable = 3
record_number record_fault.Source = 4
record_number record_fault.Full = 5

-- a section: its count is missing, or a record is at fault
abbrev pub section_number : SectionFault → ℕ
section_number section_fault.NoCount = 15
section_number (section_fault.Record at) = record_number at.fault

abbrev pub section_place : SectionFault → ℕ
section_place section_fault.NoCount = 0
section_place (section_fault.Record at) = at.position

-- a file: its size is missing or out of range, a section is at fault, or bytes are left over
abbrev pub file_number : FileFault → ℕ
file_number file_fault.Short = 15
file_number file_fault.Size = 7
file_number (file_fault.Section at) = section_number at.fault
file_number file_fault.LeftOver = 16

abbrev pub file_place : FileFault → ℕ
file_place file_fault.Short = 0
file_place file_fault.Size = 0
file_place (file_fault.Section at) = number at.position (section_place at.fault)
file_place file_fault.LeftOver = 0
