-- The file of a trace: its size, and a section of records for each processor. Rests on traces.
use Rattle.std.specs.Prelude.{◌≡◌, ℕ, ◌/◌, ◌%◌, List, [], ◌∷◌, ◌++◌, length}
use Rattle.std.specs.List.{flat_map}
use Rattle.trace.specs.declared.operation.Operation.{Operation}
use Rattle.trace.specs.Operations.{kind_number}
use Rattle.trace.specs.Traces.{Trace, processor_count, WellFormed}

-- a number in two bytes and in four, high byte first
abbrev pub two_bytes : ℕ → List ℕ
two_bytes n = n / 256 % 256 ∷ n % 256 ∷ []

abbrev pub four_bytes : ℕ → List ℕ
four_bytes n = n / 16777216 % 256 ∷ n / 65536 % 256 ∷ n / 256 % 256 ∷ n % 256 ∷ []

-- a record: kind, variable, source, value
abbrev pub record_bytes : Operation → List ℕ
record_bytes o = kind_number o.kind ∷ o.variable ∷ (two_bytes o.source ++ four_bytes o.value)

-- a section: how many records, and the records
abbrev pub section_bytes : List Operation → List ℕ
section_bytes lane = length lane ∷ flat_map record_bytes lane

-- the file: how many processors, how many variables, and the sections
abbrev pub file_of : Trace → List ℕ
file_of t = processor_count t ∷ t.variables ∷ flat_map section_bytes t.lanes

-- the bytes are the file of a well-formed trace
abbrev pub IsFile : List ℕ → Type 0
IsFile bytes = (t : Trace) × WellFormed t × (file_of t ≡ bytes)
