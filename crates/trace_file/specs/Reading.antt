-- Reading a file: its bytes in order, up to the first fault.
-- Each record is entered in the trace read so far, and refused as the call that records an operation refuses it.
use Rattle.std.specs.Prelude.{ℕ, zero, suc, ◌+◌, ◌*◌, cond, ◌&&◌, List, [], ◌∷◌, length, drop, ◌==◌, nat_lt, slice_index}
use Rattle.trace.specs.declared.operation.Operation.{Operation}
use Rattle.trace.specs.Operations.{number, within}
use Rattle.trace.specs.Traces.{Trace, operation_count, empty_trace}
use Rattle.trace.specs.Calls.{operation, appended, record_refusal}

-- what came of reading: a trace, or the number and the place of the first fault
pub data Reading : Type 0 where
  good : Trace → Reading
  faulty : ℕ → ℕ → Reading

-- what came of reading some records: the trace so far with the bytes that are left, or a fault
pub data Progress : Type 0 where
  going : Trace → List ℕ → Progress
  stopped : ℕ → ℕ → Progress

-- the fields of the record at the front of some bytes
abbrev pub kind_field : List ℕ → ℕ
kind_field bytes = slice_index bytes 0

abbrev pub variable_field : List ℕ → ℕ
variable_field bytes = slice_index bytes 1

abbrev pub source_field : List ℕ → ℕ
source_field bytes = slice_index bytes 2 * 256 + slice_index bytes 3

abbrev pub value_field : List ℕ → ℕ
value_field bytes = slice_index bytes 4 * 16777216 + slice_index bytes 5 * 65536 + slice_index bytes 6 * 256 + slice_index bytes 7

-- what is wrong with that record, in section s, or 0
abbrev pub record_fault : Trace → ℕ → List ℕ → ℕ
record_fault t s bytes = cond (nat_lt (length bytes) 8) 15 (record_refusal t s (kind_field bytes) (variable_field bytes) (source_field bytes))

-- the operation that the record tells of, and the trace with that entered
abbrev pub record_of : List ℕ → Operation
record_of bytes = operation (kind_field bytes) (variable_field bytes) (source_field bytes) (value_field bytes)

abbrev pub entered : Trace → ℕ → List ℕ → Trace
entered t s bytes = appended t s (record_of bytes)

-- the next n records of section s, r of which are read
abbrev pub read_records : Trace → ℕ → ℕ → ℕ → List ℕ → Progress
read_records t s r zero bytes = going t bytes
read_records t s r (suc n) bytes =
    cond (record_fault t s bytes == 0)
    (read_records (entered t s bytes) s (r + 1) n (drop 8 bytes))
    (stopped (record_fault t s bytes) (number s (r + 1)))

-- section s: a count, and that many records
abbrev pub read_section : Trace → ℕ → List ℕ → Progress
read_section t s [] = stopped 15 (number s 0)
read_section t s (count ∷ bytes) = read_records t s 0 count bytes

-- what is read next, unless there was a fault
abbrev pub and_then : Progress → (Trace → List ℕ → Reading) → Reading
and_then (going t rest) next = next t rest
and_then (stopped n place) next = faulty n place

-- the next n sections, s of which are read, and then nothing
abbrev pub read_sections : Trace → ℕ → ℕ → List ℕ → Reading
read_sections t s zero [] = good t
read_sections t s zero (b ∷ bytes) = faulty 16 0
read_sections t s (suc n) bytes = and_then (read_section t (s + 1) bytes) (λ u rest. read_sections u (s + 1) n rest)

-- the whole file
abbrev pub read_file : List ℕ → Reading
read_file bytes =
    cond (nat_lt (length bytes) 2) (faulty 15 0)
    (cond (within 1 8 (slice_index bytes 0) && within 1 16 (slice_index bytes 1))
    (read_sections (empty_trace (slice_index bytes 0) (slice_index bytes 1)) 0 (slice_index bytes 0) (drop 2 bytes))
    (faulty 7 0))

-- load: how many operations a good file has, or its fault with the place
abbrev pub load_answer : Reading → ℕ × ℕ
load_answer (good t) = (0, operation_count t)
load_answer (faulty n place) = (n, place)

-- a good file's trace replaces the one that was there
abbrev pub load_after : Trace → Reading → Trace
load_after t (good u) = u
load_after t (faulty n place) = t
