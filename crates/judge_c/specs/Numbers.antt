-- The number that the C function answers. Rests on what the calls of a judge answer, and on the letters.
use Rattle.std.specs.Prelude.{◌≡◌, cond, List, ℕ, ◌+◌, ◌*◌, ◌==◌}
use Rattle.trace.specs.Traces.{Trace, empty_trace}
use Rattle.trace_file.specs.Reading.{read_file, load_answer, load_after}
use Rattle.models.specs.Meaning.{Meaning}
use Rattle.letters.specs.declared.Letters.{Letters}
use Rattle.letters.specs.Names.{Unnamed, named, meaning_of}
use Rattle.judge.specs.Answers.{Judged}

-- an answer as one number: the value of an accepted call, else 1000 times the refusal, and the place
abbrev pub one_number : ℕ × ℕ → ℕ
one_number answer = cond (answer.0 == 0) answer.1 (1000 * answer.0 + answer.1)

-- the trace that a file leaves on a fresh judge
abbrev pub trace_in : List ℕ → Trace
trace_in file = load_after (empty_trace 1 1) (read_file file)

-- a file under a model: the refusal of the file, else the verdict or its refusal
pub data Answered (m : Meaning) (file : List ℕ) : ℕ → Type 0 where
  refused : ((load_answer (read_file file)).0 ≡ 0 → ⊥) → Answered m file (one_number (load_answer (read_file file)))
  judged : (load_answer (read_file file)).0 ≡ 0 → (answer : ℕ × ℕ) → Judged m (trace_in file) answer → Answered m file (one_number answer)

-- a file under the model that letters name: 17000 where they name none
pub data Told (letters file : List ℕ) : ℕ → Type 0 where
  unnamed : Unnamed letters → Told letters file 17000
  named_so : (l : Letters) (number : ℕ) → letters ≡ named l → Answered (meaning_of l) file number → Told letters file number
