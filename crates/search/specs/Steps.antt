-- Orders as the search builds them: ranks in lists, place by place and view by view, by what the tables say.
-- Rests on the tables alone; what they mean is said elsewhere.
use Rattle.std.specs.Prelude.{◌≡◌, ℕ, ◌+◌, ◌<◌, Bool, true, false, cond, not, ◌&&◌, ◌||◌, ◌⊎◌, List, [], ◌∷◌, ◌++◌, take, drop, ◌==◌, ◌≢◌, slice_index}
use Rattle.trace.specs.declared.operation.Operation.{Operation}
use Rattle.trace.specs.Operations.{is_read, is_write}
use Rattle.opset.specs.declared.OpSet.{OpSet}
use Rattle.opset.specs.Sets.{has, size}
use Rattle.ranks.specs.Numbers.{number_at}
use Rattle.models.specs.Rows.{row_at}
use Rattle.search.specs.declared.tables.Tables.{Tables}
use Rattle.search.specs.Filling.{operation_of}

-- ---- ranks in a list

-- i is in the list
abbrev pub is_in : ℕ → List ℕ → Bool
is_in i [] = false
is_in i (x ∷ xs) = x == i || is_in i xs

-- j is in the list earlier than i
abbrev pub precedes : List ℕ → ℕ → ℕ → Bool
precedes [] j i = false
precedes (x ∷ xs) j i = (x == j && is_in i xs) || precedes xs j i

-- ---- what the tables say of ranks

-- the sets of all views
abbrev pub views_of : Tables → List OpSet
views_of tables = tables.held

-- the set of view k, and those of the views after it
abbrev pub view_of : Tables → ℕ → OpSet
view_of tables k = row_at tables.held k

abbrev pub later_than : Tables → ℕ → List OpSet
later_than tables k = drop (k + 1) (views_of tables)

-- the number of the operation of a rank
abbrev pub number_of : Tables → ℕ → ℕ
number_of tables i = number_at tables.ranks i

-- the operation of rank i is a write to variable v
unfoldable pub writes : Tables → ℕ → ℕ → Bool
writes tables v i = is_write (operation_of tables.operations i) && (operation_of tables.operations i).variable == v

-- the number of the last write to variable v in a list; `last` where it has none
abbrev pub last_from : Tables → ℕ → ℕ → List ℕ → ℕ
last_from tables v last [] = last
last_from tables v last (i ∷ is) = last_from tables v (cond (writes tables v i) (number_of tables i) last) is

-- the number of the last write to variable v in a list; 0 where it has none
abbrev pub last_write : Tables → ℕ → List ℕ → ℕ
last_write tables v list = last_from tables v 0 list

-- a read's source is the last write to its variable
abbrev pub Reads : Operation → ℕ → Type 0
Reads o last = is_read o ≡ true → o.source ≡ last

-- a table of sets asks that j stand before i
abbrev pub asks : List OpSet → ℕ → ℕ → Bool
asks rows i j = has (row_at rows i) j

-- what is asked of the later views, once a view has this list: it puts alike operations in its order
abbrev pub asks_more : Tables → (ℕ → ℕ → Bool) → List ℕ → ℕ → ℕ → Bool
asks_more tables needs list i j = needs i j || (asks tables.alike i j && precedes list j i)

-- ---- one view

-- rank i may stand in a view right after the ranks s, where `needs i j` says that j is to stand before i
pub record Placeable (tables : Tables) (needs : ℕ → ℕ → Bool) (view : OpSet) (s : List ℕ) (i : ℕ) : Type 0 where
  pub held : has view i ≡ true
  pub new : is_in i s ≡ false
  pub after : (j : ℕ) → has view j ≡ true → needs i j ≡ true → is_in j s ≡ true
  pub reads : Reads (operation_of tables.operations i) (last_write tables (operation_of tables.operations i).variable s)

-- t goes on from s: each rank was placeable when it was placed
abbrev pub GoesOn : Tables → (ℕ → ℕ → Bool) → OpSet → List ℕ → List ℕ → Type 0
GoesOn tables needs view s [] = Unit {0}
GoesOn tables needs view s (i ∷ t) = Placeable tables needs view s i × GoesOn tables needs view (s ++ i ∷ []) t

-- all that the view holds is in the list
abbrev pub Full : OpSet → List ℕ → Type 0
Full view list = (i : ℕ) → has view i ≡ true → is_in i list ≡ true

-- ---- all views

-- a full list for each view, each by what those before it ask too
abbrev pub FillsAll : Tables → (ℕ → ℕ → Bool) → List OpSet → List (List ℕ) → Type 0
FillsAll tables needs [] [] = Unit {0}
FillsAll tables needs [] (o ∷ orders) = ⊥
FillsAll tables needs (v ∷ views) [] = ⊥
FillsAll tables needs (v ∷ views) (o ∷ orders) = GoesOn tables needs v [] o × Full v o × FillsAll tables (asks_more tables needs o) views orders

-- t completes the list s of a view, and the orders are of the views after it
pub record Completes (tables : Tables) (needs : ℕ → ℕ → Bool) (view : OpSet) (s : List ℕ) (later : List OpSet) (t : List ℕ) (orders : List (List ℕ)) : Type 0 where
  pub goes : GoesOn tables needs view s t
  pub full : Full view (s ++ t)
  pub rest : FillsAll tables (asks_more tables needs (s ++ t)) later orders

-- xs is lower at the first place where they differ
abbrev pub Lower : List ℕ → List ℕ → Type 0
Lower [] ys = ⊥
Lower (x ∷ xs) [] = ⊥
Lower (x ∷ xs) (y ∷ ys) = (x < y) ⊎ ((x ≡ y) × Lower xs ys)

-- the orders are the others, or lower in the first view where they differ
abbrev pub NotAfter : List (List ℕ) → List (List ℕ) → Type 0
NotAfter [] [] = Unit {0}
NotAfter [] (u ∷ others) = ⊥
NotAfter (o ∷ orders) [] = ⊥
NotAfter (o ∷ orders) (u ∷ others) = Lower o u ⊎ ((o ≡ u) × NotAfter orders others)

-- the first way to complete the list s of a view and the views after it
pub record Foremost (tables : Tables) (needs : ℕ → ℕ → Bool) (view : OpSet) (s : List ℕ) (later : List OpSet) (t : List ℕ) (orders : List (List ℕ)) : Type 0 where
  pub completes : Completes tables needs view s later t orders
  pub first : (u : List ℕ) (others : List (List ℕ)) → Completes tables needs view s later u others → NotAfter (t ∷ orders) (u ∷ others)

-- there is no way to complete them
abbrev pub Stuck : Tables → (ℕ → ℕ → Bool) → OpSet → List ℕ → List OpSet → Type 0
Stuck tables needs view s later = (u : List ℕ) (others : List (List ℕ)) → Completes tables needs view s later u others → ⊥

-- the first of all full lists for all views
pub record FirstFill (tables : Tables) (lists : List (List ℕ)) : Type 0 where
  pub fills : FillsAll tables (asks tables.before) (views_of tables) lists
  pub first : (others : List (List ℕ)) → FillsAll tables (asks tables.before) (views_of tables) others → NotAfter lists others

-- there are none
abbrev pub NoFill : Tables → Type 0
NoFill tables = (lists : List (List ℕ)) → FillsAll tables (asks tables.before) (views_of tables) lists → ⊥

-- ---- how the search holds them

-- each view's part of a list of places
abbrev pub cut : List OpSet → List ℕ → List (List ℕ)
cut [] xs = []
cut (v ∷ views) xs = take (size v) xs ∷ cut views (drop (size v) xs)

-- how many places the views have
abbrev pub total : List OpSet → ℕ
total [] = 0
total (v ∷ views) = size v + total views

-- what is held of the list s of a view: what is left to place, and the last write to each variable
pub record Start (tables : Tables) (view : OpSet) (s : List ℕ) (rest : OpSet) (latest : List ℕ) : Type 0 where
  pub left : (i : ℕ) → has rest i ≡ (has view i && not (is_in i s))
  pub last : (v : ℕ) → v < 17 → slice_index latest v ≡ last_write tables v s
  pub inside : (i : ℕ) → is_in i s ≡ true → has view i ≡ true

-- an operation passes the test of a candidate
pub record Clear (o : Operation) (before rest : OpSet) (latest : List ℕ) : Type 0 where
  pub after : (j : ℕ) → has rest j ≡ true → has before j ≢ true
  pub reads : Reads o (slice_index latest o.variable)
