-- The first fault of some bytes, told by the file's own form: all that comes before it is right.
-- Rests on the file of a trace, and on what is wrong with one record.
use Rattle.std.specs.Prelude.{◌≡◌, ℕ, ◌+◌, ◌<◌, List, [], ◌∷◌, ◌++◌, length, replicate, ◌≢◌}
use Rattle.std.specs.List.{flat_map}
use Rattle.trace.specs.declared.operation.Operation.{Operation}
use Rattle.trace.specs.Operations.{number, Within}
use Rattle.trace.specs.Traces.{Trace, WellFormed}
use Rattle.trace_file.specs.Files.{record_bytes, section_bytes, file_of}
use Rattle.trace_file.specs.Reading.{record_fault}

-- what has been told of a trace: the lanes of whole sections, a lane that is begun, and so many that are empty still
abbrev pub told : ℕ → List (List Operation) → List Operation → ℕ → Trace
told variables whole lane empty = record { variables = variables; lanes = whole ++ lane ∷ replicate empty [] }

-- the number and the place of the first fault
pub data FirstFault (bytes : List ℕ) : ℕ → ℕ → Type 0 where
  -- the size is missing
  no_size : length bytes < 2 → FirstFault bytes 15 0
  -- the size is out of range
  bad_size : (p v : ℕ) (rest : List ℕ) → bytes ≡ p ∷ v ∷ rest → (Within 1 8 p × Within 1 16 v → ⊥) → FirstFault bytes 7 0
  -- whole sections, and then no count for the next
  no_count : (p v : ℕ) (whole : List (List Operation)) (empty : ℕ) → length whole + 1 + empty ≡ p → WellFormed (told v whole [] empty)
      → bytes ≡ p ∷ v ∷ flat_map section_bytes whole → FirstFault bytes 15 (number (length whole + 1) 0)
  -- whole sections, a count, some of its records, and then a record that has a fault
  bad_record : (p v : ℕ) (whole : List (List Operation)) (empty : ℕ) (count : ℕ) (lane : List Operation) (rest : List ℕ) (n : ℕ)
      → length whole + 1 + empty ≡ p → WellFormed (told v whole lane empty) → length lane < count
      → bytes ≡ p ∷ v ∷ (flat_map section_bytes whole ++ count ∷ (flat_map record_bytes lane ++ rest))
      → record_fault (told v whole lane empty) (length whole + 1) rest ≡ n → (n ≢ 0)
      → FirstFault bytes n (number (length whole + 1) (length lane + 1))
  -- a whole file, and then more
  left_over : (t : Trace) (b : ℕ) (rest : List ℕ) → WellFormed t → bytes ≡ file_of t ++ b ∷ rest → FirstFault bytes 16 0
