-- What it is for orders to explain a trace under a model: four clauses. Rests on the meaning of a model.
use Rattle.std.specs.Prelude.{◌≡◌, ℕ, zero, suc, ◌<◌, true, ◌⊎◌, List, [], ◌∷◌, ◌++◌, length, slice_index_or}
use Rattle.std.specs.List.{AllByRecursion}
use Rattle.trace.specs.declared.operation.Operation.{Operation}
use Rattle.trace.specs.Operations.{is_read, is_write}
use Rattle.trace.specs.Traces.{Trace, processor_count}
use Rattle.models.specs.Meaning.{Meaning, Is, View}
use Rattle.orders.specs.Lists.{Stands, Earlier, Once}

-- the list of view k, counted from 1; empty where there is no such view
abbrev pub view_at : List (List ℕ) → ℕ → List ℕ
view_at orders zero = []
view_at orders (suc k) = slice_index_or orders k []

-- operation i is a write to variable v
pub record WriteTo (t : Trace) (v i : ℕ) : Type 0 where
  pub operation : Operation
  pub there : Is t i operation
  pub writes : is_write operation ≡ true
  pub variable : operation.variable ≡ v

-- the last write to variable v in a list is s; 0 where there is none
pub data LastWrite (t : Trace) (v : ℕ) (list : List ℕ) : ℕ → Type 0 where
  none : AllByRecursion (λ i. WriteTo t v i → ⊥) list → LastWrite t v list 0
  last : (before after : List ℕ) (s : ℕ) → list ≡ before ++ s ∷ after → WriteTo t v s → AllByRecursion (λ i. WriteTo t v i → ⊥) after → LastWrite t v list s

-- a read r, with what stands before it in a view: the last write to its variable there is its source
abbrev pub Sees : Trace → List ℕ → Operation → Type 0
Sees t before r = LastWrite t r.variable before r.source

-- the first clause: the list has exactly the operations that view k holds, each once
pub record Exact (m : Meaning) (t : Trace) (k : ℕ) (list : List ℕ) : Type 0 where
  pub only : (i : ℕ) → Stands list i → m.holds t k i
  pub every : (i : ℕ) → m.holds t k i → Stands list i
  pub once : Once list

-- the second: what is required before an operation, and held, stands earlier
abbrev pub Ordered : Meaning → Trace → ℕ → List ℕ → Type 0
Ordered m t k list = (before after : List ℕ) (j : ℕ) → list ≡ before ++ j ∷ after → (i : ℕ) → m.before t i j → m.holds t k i → Stands before i

-- the third: each read sees its source
abbrev pub Seeing : Trace → List ℕ → Type 0
Seeing t list = (before after : List ℕ) (j : ℕ) → list ≡ before ++ j ∷ after → (r : Operation) → Is t j r → is_read r ≡ true → Sees t before r

-- the fourth: two writes required alike stand in view b, if it holds both, as they do in another list
abbrev pub Agrees : Meaning → Trace → ℕ → List ℕ → List ℕ → Type 0
Agrees m t b other list = (i j : ℕ) → m.alike t i j → m.holds t b i → m.holds t b j → Earlier other i j → Earlier list i j

-- the list of view k keeps the first three clauses
pub record Explains (m : Meaning) (t : Trace) (k : ℕ) (list : List ℕ) : Type 0 where
  pub exact : Exact m t k list
  pub ordered : Ordered m t k list
  pub seeing : Seeing t list

-- orders meet a model on a trace
pub record Meets (m : Meaning) (t : Trace) (orders : List (List ℕ)) : Type 0 where
  -- there is a list for each view
  pub count : length orders ≡ m.views (processor_count t) t.variables
  -- it keeps the first three clauses
  pub each : (k : ℕ) → View m t k → Explains m t k (view_at orders k)
  -- and the fourth with every other
  pub agree : (a b : ℕ) → View m t a → View m t b → Agrees m t b (view_at orders a) (view_at orders b)

-- the trace is legal under the model
abbrev pub Legal : Meaning → Trace → Type 0
Legal m t = (orders : List (List ℕ)) × Meets m t orders

-- orders come before others: at the first place that differs, in the first view that does, they have the lower number
pub record Precedes (orders others : List (List ℕ)) : Type 0 where
  pub view : ℕ
  pub views : (k : ℕ) → k < view → view_at orders k ≡ view_at others k
  pub start : List ℕ
  pub lower : ℕ
  pub higher : ℕ
  pub rest : List ℕ
  pub other_rest : List ℕ
  pub list : view_at orders view ≡ start ++ lower ∷ rest
  pub other : view_at others view ≡ start ++ higher ∷ other_rest
  pub differ : lower < higher

-- the first of all orders that meet the model
pub record First (m : Meaning) (t : Trace) (orders : List (List ℕ)) : Type 0 where
  pub meets : Meets m t orders
  pub first : (others : List (List ℕ)) → Meets m t others → (others ≡ orders) ⊎ Precedes orders others
