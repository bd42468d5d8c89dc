-- The trace that a list of calls has made, told by the calls alone.
-- Rests on what each call answers and leaves.
use Rattle.std.specs.Prelude.{ℕ, List, [], ◌∷◌, vec_items}
use Rattle.trace.specs.Traces.{Trace, empty_trace}
use Rattle.trace.specs.Calls.{size_answer, size_after, record_answer, record_after, strike_answer, strike_after}
use Rattle.trace_file.specs.declared.changes.Change.{Change}
use Rattle.trace_file.specs.declared.changes.Change.TheVariants.{Size, Record, Strike, Load}
use Rattle.trace_file.specs.Reading.{read_file, load_answer, load_after}

-- what a call answers on a trace
abbrev pub change_answer : Trace → Change → ℕ × ℕ
change_answer t (Size p v) = size_answer t p v
change_answer t (Record p k v s x) = record_answer t p k v s
change_answer t (Strike p) = strike_answer t p
change_answer t (Load bytes) = load_answer (read_file (vec_items bytes))

-- what a call leaves of a trace: changed as its rule says when accepted, and as it was when refused
abbrev pub changed : Trace → Change → Trace
changed t (Size p v) = size_after t p v
changed t (Record p k v s x) = record_after t p k v s x
changed t (Strike p) = strike_after t p
changed t (Load bytes) = load_after t (read_file (vec_items bytes))

-- what a list of calls, first to last, leaves of a trace
abbrev pub made_from : Trace → List Change → Trace
made_from t [] = t
made_from t (c ∷ cs) = made_from (changed t c) cs

-- the trace that a list of calls has made, beginning with one processor, one variable and no operations
abbrev pub made : List Change → Trace
made cs = made_from (empty_trace 1 1) cs
