-- What an inspection finds in orders that are put forward as a list of numbers. Rests on the four clauses.
use Rattle.std.specs.Prelude.{◌≡◌, ℕ, suc, ◌+◌, ◌*◌, ◌<◌, ◌≤◌, List, [], ◌∷◌, ◌++◌, length, Ok, Err, Result, ◌≢◌}
use Rattle.std.specs.Borrow.{Bor}
use Rattle.trace.specs.Operations.{Within}
use Rattle.trace.specs.Traces.{Trace, processor_count, Complete}
use Rattle.trace.specs.Completeness.{completeness_answer}
use Rattle.models.specs.Meaning.{Meaning, View}
use Rattle.orders.specs.declared.finding.Clause.{Clause}
use Rattle.orders.specs.declared.finding.Finding.{Finding}
use Rattle.orders.specs.Findings.{clause_number, finding_number}
use Rattle.orders.specs.Orders.{view_at, Exact, Ordered, Seeing, Agrees, Explains, Meets}

-- orders in writing: for each view how many operations it lists, and then these
abbrev pub written : List (List ℕ) → List ℕ
written [] = []
written (list ∷ lists) = length list ∷ (list ++ written lists)

-- numbers that end before a view's list does
pub data EndsEarly : List ℕ → Type 0 where
  nothing : EndsEarly []
  short : (count : ℕ) (numbers : List ℕ) → length numbers < count → EndsEarly (count ∷ numbers)

-- numbers that begin with a view's list, and what follows it
abbrev pub Parts : List ℕ → List ℕ → List ℕ → Type 0
Parts numbers list rest = numbers ≡ length list ∷ (list ++ rest)

-- the first of a view's own clauses that its list breaks
pub data Fails (m : Meaning) (t : Trace) (k : ℕ) (list : List ℕ) : ℕ → Type 0 where
  not_exact : (Exact m t k list → ⊥) → Fails m t k list 1
  not_ordered : Exact m t k list → (Ordered m t k list → ⊥) → Fails m t k list 2
  not_seeing : Exact m t k list → Ordered m t k list → (Seeing t list → ⊥) → Fails m t k list 3

-- the same, for the list that these numbers begin with
pub data Breaks (m : Meaning) (t : Trace) (k : ℕ) (numbers : List ℕ) : ℕ → Type 0 where
  ends : EndsEarly numbers → Breaks m t k numbers 1
  fails : (list rest : List ℕ) (clause : ℕ) → numbers ≡ length list ∷ (list ++ rest) → Fails m t k list clause → Breaks m t k numbers clause

-- the list that these numbers begin with breaks none of them
pub record Kept (m : Meaning) (t : Trace) (k : ℕ) (numbers rest : List ℕ) : Type 0 where
  pub list : List ℕ
  pub parts : Parts numbers list rest
  pub explains : Explains m t k list

-- a list that keeps its clauses is passed over, and of another the first clause that it breaks is told
abbrev pub Passing : Meaning → Trace → ℕ → List ℕ → Result (Bor (List ℕ)) Clause → Type 0
Passing m t k numbers (Ok rest) = Kept m t k numbers rest.now
Passing m t k numbers (Err clause) = Breaks m t k numbers (clause_number clause)

-- view `other` is one before view k, and the list of view k does not agree with its
pub record DisagreesWith (m : Meaning) (t : Trace) (orders : List (List ℕ)) (k : ℕ) (list : List ℕ) (other : ℕ) : Type 0 where
  pub low : 1 ≤ other
  pub earlier : other < k
  pub disagrees : Agrees m t k (view_at orders other) list → ⊥

-- the list of view k agrees with those of all views before it
abbrev pub AgreesWithEarlier : Meaning → Trace → List (List ℕ) → ℕ → List ℕ → Type 0
AgreesWithEarlier m t orders k list = (other : ℕ) → 1 ≤ other → other < k → Agrees m t k (view_at orders other) list

-- the views before view k all agree with those before them
abbrev pub AgreeBefore : Meaning → Trace → List (List ℕ) → ℕ → Type 0
AgreeBefore m t orders k = (b : ℕ) → b < k → AgreesWithEarlier m t orders b (view_at orders b)

-- view k does not agree with some earlier one, and it is the first such view
pub record Disagrees (m : Meaning) (t : Trace) (orders : List (List ℕ)) (k : ℕ) : Type 0 where
  pub view : View m t k
  pub other : ℕ
  pub low : 1 ≤ other
  pub earlier : other < k
  pub disagrees : Agrees m t k (view_at orders other) (view_at orders k) → ⊥
  pub first : (a b : ℕ) → 1 ≤ a → a < b → b < k → Agrees m t b (view_at orders a) (view_at orders b)

-- the numbers begin with the lists of the first views, and these keep their own clauses
pub record Begins (m : Meaning) (t : Trace) (numbers : List ℕ) (orders : List (List ℕ)) (rest : List ℕ) : Type 0 where
  pub is : numbers ≡ written orders ++ rest
  pub each : (k : ℕ) → Within 1 (length orders) k → Explains m t k (view_at orders k)

-- the numbers begin with a list for each view, and these keep their own clauses
pub record Whole (m : Meaning) (t : Trace) (numbers rest : List ℕ) : Type 0 where
  pub orders : List (List ℕ)
  pub begins : Begins m t numbers orders rest
  pub count : length orders ≡ m.views (processor_count t) t.variables

-- what is found where a list for each view is there
pub data FindsLast (m : Meaning) (t : Trace) (orders : List (List ℕ)) (rest : List ℕ) : ℕ → Type 0 where
  disagrees : (k : ℕ) → Disagrees m t orders k → FindsLast m t orders rest (400 + k)
  left_over : Meets m t orders → (rest ≢ []) → FindsLast m t orders rest 500
  meets : Meets m t orders → rest ≡ [] → FindsLast m t orders rest 0

-- what is found, by its number
pub data Finds (m : Meaning) (t : Trace) (numbers : List ℕ) : ℕ → Type 0 where
  breaks : (orders : List (List ℕ)) (rest : List ℕ) (clause : ℕ)
      → Begins m t numbers orders rest → length orders < m.views (processor_count t) t.variables
      → Breaks m t (suc (length orders)) rest clause → Finds m t numbers (100 * clause + suc (length orders))
  whole : (orders : List (List ℕ)) (rest : List ℕ) (value : ℕ)
      → Begins m t numbers orders rest → length orders ≡ m.views (processor_count t) t.variables
      → FindsLast m t orders rest value → Finds m t numbers value

-- the lists of all views are passed over where they keep their own clauses, else the first thing that is wrong is told
abbrev pub PassingAll : Meaning → Trace → List ℕ → Result (Bor (List ℕ)) Finding → Type 0
PassingAll m t numbers (Ok rest) = Whole m t numbers rest.now
PassingAll m t numbers (Err f) = Finds m t numbers (finding_number f)

-- the numbers are orders in writing, and these meet the model
abbrev pub Passes : Meaning → Trace → List ℕ → Type 0
Passes m t numbers = (orders : List (List ℕ)) × (numbers ≡ written orders) × Meets m t orders

-- what fails first in orders in writing, by its clause and its view; clause 4 is looked at where no view breaks its own clauses
pub data Failure (m : Meaning) (t : Trace) (numbers : List ℕ) : ℕ → ℕ → Type 0 where
  own : (orders : List (List ℕ)) (rest : List ℕ) (clause : ℕ)
      → Begins m t numbers orders rest → length orders < m.views (processor_count t) t.variables
      → Breaks m t (suc (length orders)) rest clause → Failure m t numbers clause (suc (length orders))
  agreement : (orders : List (List ℕ)) (rest : List ℕ) (k : ℕ)
      → Begins m t numbers orders rest → length orders ≡ m.views (processor_count t) t.variables
      → Disagrees m t orders k → Failure m t numbers 4 k

-- the answer to an inspection: on a trace that is not complete a refusal with its place, else 0 and what is found
pub data Inspected (m : Meaning) (t : Trace) (numbers : List ℕ) : ℕ × ℕ → Type 0 where
  refused : (Complete t → ⊥) → Inspected m t numbers (completeness_answer t)
  found : Complete t → (value : ℕ) → Finds m t numbers value → Inspected m t numbers (0, value)
