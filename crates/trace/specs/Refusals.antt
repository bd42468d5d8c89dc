-- The refusals of the calls on a table, by their numbers.
use Rattle.std.specs.Prelude.{ℕ, Ok, Err, Result, Option, None, Some}
use Rattle.trace.specs.declared.refusal.Refusal.{Refusal}
use Rattle.trace.specs.declared.refusal.Refusal.TheVariants.{Processor, Kind, Variable, Source, Full, Recorded, Size, Nothing}
use Rattle.trace.specs.declared.refusal.SourceFault.{SourceFault}
use Rattle.trace.specs.declared.refusal.SourceFault.TheVariants as fault

-- the number of a refusal
abbrev pub refusal_number : Refusal → ℕ
refusal_number Processor = 1
refusal_number Kind = 2
refusal_number Variable = 3
refusal_number Source = 4
refusal_number Full = 5
refusal_number Recorded = 6
refusal_number Size = 7
refusal_number Nothing = 8

-- the number of what is wrong with a source
abbrev pub fault_number : SourceFault → ℕ
fault_number fault.NoWrite = 9
fault_number fault.Variable = 10
fault_number fault.Value = 11

-- what a call answers: 0 and its value, or its refusal and 0
abbrev pub answered : Result ℕ Refusal → ℕ × ℕ
answered (Ok value) = (0, value)
answered (Err refusal) = (refusal_number refusal, 0)

-- the number of a fault, and 0 for none
abbrev pub number_told : Option SourceFault → ℕ
number_told None = 0
number_told (Some f) = fault_number f
