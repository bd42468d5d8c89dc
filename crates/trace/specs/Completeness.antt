-- Which read's source does not fit, if any: the reads by rising number, each tested in one order.
-- Rests on traces; `Complete`, the relation that the answer decides, is defined there.
use Rattle.std.specs.Prelude.{◌≡◌, ℕ, zero, suc, ◌+◌, ◌*◌, ◌<◌, cond, [], ◌∷◌, Some, None, Option, ◌==◌}
use Rattle.trace.specs.declared.operation.Operation.{Operation}
use Rattle.trace.specs.Operations.{is_read, is_write}
use Rattle.trace.specs.Traces.{Trace, processor_count, starting_value, operation_at}
use Rattle.trace.specs.Calls.{first_failed}

-- a read against what stands at its source: it is a write there, of the read's variable, with the read's value
abbrev pub against_write : Operation → Option Operation → ℕ
against_write r None = 9
against_write r (Some w) = first_failed ((is_write w, 9) ∷ ((w.variable == r.variable), 10) ∷ ((w.value == r.value), 11) ∷ [])

-- what is wrong with a read's source, or 0; with source 0 the read saw the starting value
abbrev pub source_refusal : Trace → Operation → ℕ
source_refusal t r =
    cond (r.source == 0)
    (first_failed (((r.value == starting_value t r.variable), 11) ∷ []))
    (against_write r (operation_at t r.source))

-- the same of whatever stands at a number: of a write nothing is asked, nor where there is no operation
abbrev pub read_refusal : Trace → Option Operation → ℕ
read_refusal t None = 0
read_refusal t (Some o) = cond (is_read o) (source_refusal t o) 0

abbrev pub refusal_at : Trace → ℕ → ℕ
refusal_at t i = read_refusal t (operation_at t i)

-- the first of the n numbers from i on that has a refusal: that refusal and the number, or (0, 0)
abbrev pub first_refusal : Trace → ℕ → ℕ → ℕ × ℕ
first_refusal t i zero = (0, 0)
first_refusal t i (suc n) = cond (refusal_at t i == 0) (first_refusal t (i + 1) n) (refusal_at t i, i)

-- the completeness answer: the numbers that an operation can have, rising from the first of processor 1
abbrev pub completeness_answer : Trace → ℕ × ℕ
completeness_answer t = first_refusal t 101 (100 * processor_count t)

-- i is the lowest number that has a refusal, and n is that refusal
pub record FirstUnfit (t : Trace) (n i : ℕ) : Type 0 where
  pub unfit : refusal_at t i ≡ n
  pub before : (j : ℕ) → j < i → refusal_at t j ≡ 0
