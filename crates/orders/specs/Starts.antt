-- Orders under construction: full lists for the first views, a part of the next. Rests on the four clauses.
use Rattle.std.specs.Prelude.{◌≡◌, ℕ, suc, ◌<◌, ◌≤◌, true, List, ◌∷◌, ◌++◌, length}
use Rattle.trace.specs.declared.operation.Operation.{Operation}
use Rattle.trace.specs.Operations.{is_read, Within}
use Rattle.trace.specs.Traces.{Trace}
use Rattle.models.specs.Meaning.{Meaning, Is}
use Rattle.orders.specs.Lists.{Stands, Earlier}
use Rattle.orders.specs.Orders.{view_at, Sees}

-- operation j may stand in view k right after the operations `placed`, by the lists of the views before
pub record Placed (m : Meaning) (t : Trace) (orders : List (List ℕ)) (k : ℕ) (placed : List ℕ) (j : ℕ) : Type 0 where
  -- the view holds it, and it is new there
  pub held : m.holds t k j
  pub new : Stands placed j → ⊥
  -- nothing that has to stand earlier is missing
  pub ordered : (i : ℕ) → m.before t i j → m.holds t k i → Stands placed i
  -- a read sees its source
  pub sees : (r : Operation) → Is t j r → is_read r ≡ true → Sees t placed r
  -- no partner that precedes it in an earlier view is missing
  pub agrees : (a i : ℕ) → 1 ≤ a → a < k → m.alike t i j → m.holds t k i → Earlier (view_at orders a) i j → Stands placed i

-- every operation of the list was so when it was placed
abbrev pub AllPlaced : Meaning → Trace → List (List ℕ) → ℕ → List ℕ → Type 0
AllPlaced m t orders k list = (before after : List ℕ) (j : ℕ) → list ≡ before ++ j ∷ after → Placed m t orders k before j

-- a start that stands: the lists of the first views, and a part of the next
pub record Standing (m : Meaning) (t : Trace) (orders : List (List ℕ)) (part : List ℕ) : Type 0 where
  pub done : (k : ℕ) → Within 1 (length orders) k → AllPlaced m t orders k (view_at orders k)
  pub full : (k i : ℕ) → Within 1 (length orders) k → m.holds t k i → Stands (view_at orders k) i
  pub next : AllPlaced m t orders (suc (length orders)) part

-- it is a start of these orders
pub record StartOf (whole orders : List (List ℕ)) (part : List ℕ) : Type 0 where
  pub short : length orders ≤ length whole
  pub lists : (k : ℕ) → Within 1 (length orders) k → view_at orders k ≡ view_at whole k
  pub rest : List ℕ
  pub parted : view_at whole (suc (length orders)) ≡ part ++ rest
