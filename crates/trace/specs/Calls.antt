-- The recording calls: when each is refused, what it answers, and the trace that it leaves.
-- A refusal is the number of the first test that fails; 0 accepts.
use Rattle.std.specs.Prelude.{ℕ, ◌+◌, ◌-◌, Bool, cond, ◌&&◌, List, [], ◌∷◌, ◌++◌, length, take, is_some, ◌==◌, nat_lt, slice_set}
use Rattle.std.specs.Option.{unwrap_or}
use Rattle.trace.specs.declared.operation.Kind.TheVariants.{Read}
use Rattle.trace.specs.declared.operation.Operation.{Operation}
use Rattle.trace.specs.Operations.{kind_of, number, capacity, within, source_fits}
use Rattle.trace.specs.Traces.{Trace, processor_count, operation_count, lane_at, empty_trace}

-- the number of the first test that fails, or 0
abbrev pub first_failed : List (Bool × ℕ) → ℕ
first_failed [] = 0
first_failed (check ∷ later) = cond check.0 (first_failed later) check.1

-- an answer: a refusal with value 0, or 0 with a value
abbrev pub answer : ℕ → ℕ → ℕ × ℕ
answer refusal x = cond (refusal == 0) (0, x) (refusal, 0)

-- what an accepted call leaves, and what a refused one does
abbrev pub after : ℕ → Trace → Trace → Trace
after refusal changed t = cond (refusal == 0) changed t

-- size: the numbers are in range, and nothing is recorded yet
abbrev pub size_refusal : Trace → ℕ → ℕ → ℕ
size_refusal t p v = first_failed ((within 1 8 p && within 1 16 v, 7) ∷ ((operation_count t == 0), 6) ∷ [])

abbrev pub size_answer : Trace → ℕ → ℕ → ℕ × ℕ
size_answer t p v = answer (size_refusal t p v) 0

abbrev pub size_after : Trace → ℕ → ℕ → Trace
size_after t p v = after (size_refusal t p v) (empty_trace p v) t

-- the operation with a kind's number, a variable, a source and a value; a number that is no kind's is never recorded
abbrev pub operation : ℕ → ℕ → ℕ → ℕ → Operation
operation k v s x = record { kind = unwrap_or (kind_of k) Read; variable = v; source = s; value = x }

-- the trace with another lane for processor p
abbrev pub with_lane : Trace → ℕ → List Operation → Trace
with_lane t p lane = record { variables = t.variables; lanes = slice_set t.lanes (p - 1) lane }

-- the trace with one operation more at the end of processor p
abbrev pub appended : Trace → ℕ → Operation → Trace
appended t p o = with_lane t p (lane_at t p ++ o ∷ [])

-- record: the processor, the kind, the variable, the source, and room for one more
abbrev pub record_refusal : Trace → ℕ → ℕ → ℕ → ℕ → ℕ
record_refusal t p k v s =
    first_failed (
    (within 1 (processor_count t) p, 1)
    ∷ (is_some (kind_of k), 2)
    ∷ (within 1 t.variables v, 3)
    ∷ (source_fits (processor_count t) k s, 4)
    ∷ (nat_lt (operation_count t) capacity, 5)
    ∷ []
    )

abbrev pub record_answer : Trace → ℕ → ℕ → ℕ → ℕ → ℕ × ℕ
record_answer t p k v s = answer (record_refusal t p k v s) (number p (length (lane_at t p) + 1))

abbrev pub record_after : Trace → ℕ → ℕ → ℕ → ℕ → ℕ → Trace
record_after t p k v s x = after (record_refusal t p k v s) (appended t p (operation k v s x)) t

-- strike: the processor, and an operation to remove
abbrev pub strike_refusal : Trace → ℕ → ℕ
strike_refusal t p = first_failed ((within 1 (processor_count t) p, 1) ∷ (nat_lt 0 (length (lane_at t p)), 8) ∷ [])

abbrev pub strike_answer : Trace → ℕ → ℕ × ℕ
strike_answer t p = answer (strike_refusal t p) (number p (length (lane_at t p)))

-- the trace without the last operation of processor p
abbrev pub shortened : Trace → ℕ → Trace
shortened t p = with_lane t p (take (length (lane_at t p) - 1) (lane_at t p))

abbrev pub strike_after : Trace → ℕ → Trace
strike_after t p = after (strike_refusal t p) (shortened t p) t
