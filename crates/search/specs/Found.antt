-- What a search finds, and the reading of one of its lists.
use Rattle.std.specs.Prelude.{◌≡◌, ℕ, ◌<◌, ◌≤◌, List, ◌++◌, map, length, drop, Ok, Err, Result}
use Rattle.trace.specs.Operations.{Within}
use Rattle.orders.specs.Orders.{view_at}
use Rattle.search.specs.Steps.{number_of, FirstFill}
use Rattle.search.specs.declared.tables.Tables.{Tables}
use Rattle.search.specs.declared.found.NotShown.{NotShown}
use Rattle.search.specs.declared.found.NotShown.TheVariants.{NoView, FewSlots}

-- orders as a search gives them: at most 16 lists of at most 64 numbers each
pub record Small (orders : List (List ℕ)) : Type 0 where
  pub few : length orders ≤ 16
  pub short : (k : ℕ) → length (view_at orders k) ≤ 64

-- the list is that of view k, and there is such a view
pub record IsView (orders : List (List ℕ)) (k : ℕ) (list : List ℕ) : Type 0 where
  pub view : Within 1 (length orders) k
  pub is : list ≡ view_at orders k

-- there is no view k, and the slots are left
pub record Unviewed (orders : List (List ℕ)) (k : ℕ) (slots after : List ℕ) : Type 0 where
  pub none : Within 1 (length orders) k → ⊥
  pub left : after ≡ slots

-- the slots are too few for the list of view k, and are left
pub record Crowded (orders : List (List ℕ)) (k : ℕ) (slots after : List ℕ) : Type 0 where
  pub view : Within 1 (length orders) k
  pub few : length slots < length (view_at orders k)
  pub left : after ≡ slots

-- the first of the slots have the list of view k, which has n numbers, and the rest of them are left
pub record Copied (orders : List (List ℕ)) (k n : ℕ) (slots after : List ℕ) : Type 0 where
  pub view : Within 1 (length orders) k
  pub count : n ≡ length (view_at orders k)
  pub room : n ≤ length slots
  pub is : after ≡ view_at orders k ++ drop n slots

-- what the reading of view k's list into slots answers, and how it leaves them
abbrev pub Shown : List (List ℕ) → ℕ → List ℕ → List ℕ → Result ℕ NotShown → Type 0
Shown orders k slots after (Ok n) = Copied orders k n slots after
Shown orders k slots after (Err NoView) = Unviewed orders k slots after
Shown orders k slots after (Err FewSlots) = Crowded orders k slots after

-- the orders are the first full lists of all views that the tables allow, by their numbers
pub record FirstFound (tables : Tables) (orders : List (List ℕ)) : Type 0 where
  pub lists : List (List ℕ)
  pub first : FirstFill tables lists
  pub is : orders ≡ map (map (number_of tables)) lists
