-- What a memory model means, and the laws that every model owes. Rests on traces.
use Rattle.std.specs.Prelude.{◌≡◌, ℕ, ◌≤◌, Bool, true, Some, Decides, ◌≢◌}
use Rattle.trace.specs.declared.operation.Operation.{Operation}
use Rattle.trace.specs.Operations.{is_read, is_write, Within}
use Rattle.trace.specs.Traces.{Trace, processor_count, operation_at, There, Complete, Prefix}

-- a model, by four facts for each trace; operations go by their numbers, and views are numbered from 1
pub record Meaning : Type 1 where
  -- how many views there are, by the numbers of processors and of variables
  pub views : ℕ → ℕ → ℕ
  -- view k holds operation i
  pub holds : Trace → ℕ → ℕ → Type 0
  -- operation i is required before operation j
  pub before : Trace → ℕ → ℕ → Type 0
  -- the writes i and j are required alike
  pub alike : Trace → ℕ → ℕ → Type 0

-- operation i is there, and is the operation o
abbrev pub Is : Trace → ℕ → Operation → Type 0
Is t i o = operation_at t i ≡ Some o

-- operation i is there, and is a write
abbrev pub Write : Trace → ℕ → Type 0
Write t i = (o : Operation) × Is t i o × (is_write o ≡ true)

-- view k is one of the model's views of the trace
abbrev pub View : Meaning → Trace → ℕ → Type 0
View m t k = Within 1 (m.views (processor_count t) t.variables) k

-- what the model says of t it says of u
pub record Grows (m : Meaning) (t u : Trace) : Type 0 where
  pub holds : (k i : ℕ) → m.holds t k i → m.holds u k i
  pub before : (i j : ℕ) → m.before t i j → m.before u i j
  pub alike : (i j : ℕ) → m.alike t i j → m.alike u i j

-- what every model owes
pub record Laws (m : Meaning) : Type 0 where
  -- there are at most 16 views, for sizes that a trace can have
  pub few : (p v : ℕ) → Within 1 8 p → Within 1 16 v → m.views p v ≤ 16
  -- whether a view holds an operation can be told
  pub told : (t : Trace) (k i : ℕ) → (b : Bool) × Decides b (m.holds t k i)
  -- only views that there are hold, and only operations that are there are held
  pub held : (t : Trace) (k i : ℕ) → m.holds t k i → View m t k × There t i
  -- only operations that are there are required before
  pub ordered : (t : Trace) (i j : ℕ) → m.before t i j → There t i × There t j
  -- only writes are required alike, in either order of naming
  pub agreed : (t : Trace) (i j : ℕ) → m.alike t i j → Write t i × Write t j
  pub either : (t : Trace) (i j : ℕ) → m.alike t i j → m.alike t j i
  -- a view of a complete trace that holds a read holds its source
  pub sources : (t : Trace) → Complete t → (k i : ℕ) (r : Operation) → m.holds t k i → Is t i r → is_read r ≡ true → (r.source ≢ 0) → m.holds t k r.source
  -- what holds in a complete prefix of a complete trace holds in the whole
  pub grows : (t u : Trace) → Complete t → Complete u → Prefix t u → Grows m t u
