-- A trace as a plain value: how many variables there are, and a lane of operations for each processor.
-- Rests on operations alone; no type of the code's table is named here.
use Rattle.std.specs.Prelude.{◌≡◌, ℕ, zero, suc, ◌<◌, ◌≤◌, Bool, true, ◌&&◌, ◌⊎◌, List, [], ◌∷◌, ◌++◌, length, replicate, is_some, Some, None, sum_by, Option, slice_index_or}
use Rattle.std.specs.List.{AllByRecursion, slice_get}
use Rattle.trace.specs.declared.operation.Operation.{Operation}
use Rattle.trace.specs.Operations.{is_read, is_write, processor_of, position_of, capacity, Within, Fitting, fitting}

-- a trace: its variables are 1 to `variables`, its processors 1 to the number of lanes, and a lane lists what its processor did
pub record Trace : Type 0 where
  pub variables : ℕ
  pub lanes : List (List Operation)

-- how many processors there are
abbrev pub processor_count : Trace → ℕ
processor_count t = length t.lanes

-- how many operations there are, over all processors
abbrev pub operation_count : Trace → ℕ
operation_count t = sum_by length t.lanes

-- the value that a variable has before any write
abbrev pub starting_value : Trace → ℕ → ℕ
starting_value t v = 0

-- the operations of processor p, counted from 1; none where there is no such processor
abbrev pub lane_at : Trace → ℕ → List Operation
lane_at t zero = []
lane_at t (suc p) = slice_index_or t.lanes p []

-- the operation at position q of a lane, counted from 1
abbrev pub positioned : List Operation → ℕ → Option Operation
positioned lane zero = None
positioned lane (suc q) = slice_get lane q

-- the operation of number i, where there is one
abbrev pub operation_at : Trace → ℕ → Option Operation
operation_at t i = positioned (lane_at t (processor_of i)) (position_of i)

-- there is an operation of number i
abbrev pub There : Trace → ℕ → Type 0
There t i = is_some (operation_at t i) ≡ true

-- i stands before j in program order: both are there, on one processor, and i has the lower position
pub record ProgramOrder (t : Trace) (i j : ℕ) : Type 0 where
  pub first : There t i
  pub second : There t j
  pub processor : processor_of i ≡ processor_of j
  pub earlier : position_of i < position_of j

-- the trace is of a size that there is, and each field of each operation is in range
pub record WellFormed (t : Trace) : Type 0 where
  pub processors : Within 1 8 (processor_count t)
  pub variables : Within 1 16 t.variables
  pub few : operation_count t ≤ capacity
  pub operations : AllByRecursion (AllByRecursion (Fitting (processor_count t) t.variables)) t.lanes

-- the tests that each operation of a lane, and of all lanes, has its fields in range
abbrev pub lane_fits : ℕ → ℕ → List Operation → Bool
lane_fits processors variables [] = true
lane_fits processors variables (o ∷ os) = fitting processors variables o && lane_fits processors variables os

abbrev pub lanes_fit : ℕ → ℕ → List (List Operation) → Bool
lanes_fit processors variables [] = true
lanes_fit processors variables (l ∷ ls) = lane_fits processors variables l && lanes_fit processors variables ls

-- the read r saw what its source says: the starting value, or a write that is there, of the same variable and value
pub record Saw (t : Trace) (r w : Operation) : Type 0 where
  pub there : operation_at t r.source ≡ Some w
  pub write : is_write w ≡ true
  pub variable : w.variable ≡ r.variable
  pub value : w.value ≡ r.value

abbrev pub Sourced : Trace → Operation → Type 0
Sourced t r = ((r.source ≡ 0) × (r.value ≡ starting_value t r.variable)) ⊎ ((w : Operation) × Saw t r w)

-- every read of the trace is sourced
abbrev pub Complete : Trace → Type 0
Complete t = (i : ℕ) (r : Operation) → operation_at t i ≡ Some r → is_read r ≡ true → Sourced t r

-- t is a prefix of u: the same size, and each processor did in t the first of what it did in u
pub record Prefix (t u : Trace) : Type 0 where
  pub variables : t.variables ≡ u.variables
  pub processors : processor_count t ≡ processor_count u
  pub lanes : (p : ℕ) → (rest : List Operation) × (lane_at u p ≡ lane_at t p ++ rest)

-- a trace of that size with no operations
abbrev pub empty_trace : ℕ → ℕ → Trace
empty_trace processors variables = record { variables = variables; lanes = replicate processors [] }
