-- What is printed for an input: letters, a byte 10, and a trace file. Rests on the lines, on the file, and on legality.
use Rattle.std.specs.Prelude.{◌≡◌, ℕ, List, ◌∷◌, ◌++◌, take, ◌≢◌}
use Rattle.std.specs.List.{AllByRecursion}
use Rattle.trace.specs.Traces.{Trace, Complete}
use Rattle.trace.specs.Completeness.{completeness_answer}
use Rattle.trace_file.specs.Reading as reading
use Rattle.trace_file.specs.Reading.{read_file}
use Rattle.models.specs.Meaning.{Meaning}
use Rattle.orders.specs.Orders.{Legal, First}
use Rattle.letters.specs.declared.Letters.{Letters}
use Rattle.letters.specs.Names as names
use Rattle.letters.specs.Names.{Unnamed, meaning_of}
use Rattle.judge_text.specs.Lines.{refused_line, illegal_text, legal_text}

-- the text for a model and a file
pub data FileTold (m : Meaning) (file : List ℕ) : List ℕ → Type 0 where
  -- the file has a fault
  faulty : (refusal place : ℕ) → read_file file ≡ reading.faulty refusal place → FileTold m file (refused_line refusal place)
  -- its trace is not complete
  incomplete : (t : Trace) → read_file file ≡ reading.good t → (Complete t → ⊥)
      → FileTold m file (refused_line (completeness_answer t).0 (completeness_answer t).1)
  -- it is complete, and no orders meet the model
  illegal : (t : Trace) → read_file file ≡ reading.good t → Complete t → (Legal m t → ⊥) → FileTold m file illegal_text
  -- it is complete, and these are the first orders that do
  legal : (t : Trace) → read_file file ≡ reading.good t → Complete t → (orders : List (List ℕ)) → First m t orders → FileTold m file (legal_text orders)

-- no byte is a byte 10
abbrev pub Unended : List ℕ → Type 0
Unended bytes = AllByRecursion (λ b. b ≢ 10) bytes

-- the letters are what stands before the first byte 10, and the file is what follows it
pub record Parted (input letters file : List ℕ) : Type 0 where
  pub is : input ≡ letters ++ 10 ∷ file
  pub first : Unended letters

-- the text for an input
pub data Told (input : List ℕ) : List ℕ → Type 0 where
  -- there is no byte 10
  unended : Unended input → Told input (refused_line 17 0)
  -- the letters name no model
  unnamed : (letters file : List ℕ) → Parted input letters file → Unnamed letters → Told input (refused_line 17 0)
  -- they name a model, and the rest is told by that and the file
  named : (l : Letters) (file text : List ℕ) → Parted input (names.named l) file → FileTold (meaning_of l) file text → Told input text

-- no byte past the 534th alters the text: three letters and a byte 10 may stand before a file, and 530 bytes of that can matter
abbrev pub Enough : List ℕ → Type 0
Enough input = (text : List ℕ) → Told (take 534 input) text → Told input text

-- an input has one text
abbrev pub Settled : List ℕ → Type 0
Settled input = (one other : List ℕ) → Told input one → Told input other → one ≡ other
