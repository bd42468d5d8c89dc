-- What the reader's answers stand for.
use Rattle.std.specs.Prelude.{◌≡◌, ℕ, ◌<◌, ◌≤◌, List, length, take, drop, is_ok, IfOk, IfErr, Ok, Err, Decides, Result, slice_index}
use Rattle.std.specs.Borrow.{Bor}
use Rattle.trace.specs.declared.table.Table.{Table}
use Rattle.trace.specs.Operations.{number}
use Rattle.trace.specs.Traces.{Trace, processor_count}
use Rattle.trace_file.specs.declared.faults.At.{At}
use Rattle.trace_file.specs.declared.faults.RecordFault.{RecordFault}
use Rattle.trace_file.specs.declared.faults.SectionFault.{SectionFault}
use Rattle.trace_file.specs.declared.faults.FileFault.{FileFault}
use Rattle.trace_file.specs.declared.faults.FileFault.TheVariants.{Short}
use Rattle.trace_file.specs.Files.{file_of, IsFile}
use Rattle.trace_file.specs.FirstFaults.{FirstFault}
use Rattle.trace_file.specs.Faults.{record_number, section_number, section_place, file_number, file_place}
use Rattle.trace_file.specs.Reading.{Reading, good, faulty, going, stopped, record_fault, entered, read_section, read_file}

-- a fault with its position, what is good as it is
abbrev pub placed : {T F : Type 0} → ℕ → Result T F → Result T (At F)
placed p (Ok x) = Ok x
placed p (Err f) = Err (record { position = p; fault = f })

-- a record is entered, and what follows it is left, or it has the fault of its number
pub record RecordEntered (t : Trace) (s : ℕ) (bytes rest : List ℕ) (u : Trace) : Type 0 where
  pub fault : record_fault t s bytes ≡ 0
  pub left : rest ≡ drop 8 bytes
  pub trace : u ≡ entered t s bytes

abbrev pub RecordRead : Trace → ℕ → List ℕ → Result (Bor (List ℕ)) RecordFault → Trace → Type 0
RecordRead t s bytes (Ok rest) u = RecordEntered t s bytes rest.now u
RecordRead t s bytes (Err f) u = record_fault t s bytes ≡ record_number f

-- a section of n bytes is read, or it has the fault of its number and place
pub record SectionEntered (t : Trace) (s : ℕ) (bytes : List ℕ) (n : ℕ) (u : Trace) : Type 0 where
  pub within : n ≤ length bytes
  pub read : read_section t s bytes ≡ going u (drop n bytes)
  pub processors : processor_count u ≡ processor_count t

abbrev pub SectionRead : Trace → ℕ → List ℕ → Result ℕ SectionFault → Trace → Type 0
SectionRead t s bytes (Ok n) u = SectionEntered t s bytes n u
SectionRead t s bytes (Err f) u = read_section t s bytes ≡ stopped (section_number f) (number s (section_place f))

-- the two bytes that stand first, or too few bytes for them
pub record SizeThere (bytes : List ℕ) (size : ℕ × ℕ) : Type 0 where
  pub within : 2 ≤ length bytes
  pub processors : size.0 ≡ slice_index bytes 0
  pub variables : size.1 ≡ slice_index bytes 1

pub record SizeMissing (bytes : List ℕ) (f : FileFault) : Type 0 where
  pub short : length bytes < 2
  pub fault : f ≡ Short

abbrev pub SizeRead : List ℕ → Result (ℕ × ℕ) FileFault → Type 0
SizeRead bytes (Ok size) = SizeThere bytes size
SizeRead bytes (Err f) = SizeMissing bytes f

-- what the reader of a whole file answers
abbrev pub reading_of : Result Table FileFault → Reading
reading_of (Ok t) = good t
reading_of (Err f) = faulty (file_number f) (file_place f)

-- what the reader of a whole file promises
pub record FileRead (bytes : List ℕ) (r : Result Table FileFault) : Type 0 where
  -- the answer is the reading of the bytes
  pub answer : reading_of r ≡ read_file bytes
  -- a table comes exactly when the bytes are the file of a well-formed trace
  pub exactly : Decides (is_ok r) (IsFile bytes)
  -- the file of the table's trace is these bytes again
  pub same : IfOk r (λ t. file_of t ≡ bytes)
  -- a fault is the first
  pub fault : IfErr r (λ f. FirstFault bytes (file_number f) (file_place f))
  -- no byte past the 530th matters
  pub enough : read_file (take 530 bytes) ≡ read_file bytes
