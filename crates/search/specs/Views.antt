-- A view that is being filled: what the search holds of it, and what it says. Rests on orders as they are built.
use Rattle.std.specs.Prelude.{◌≡◌, ℕ, ◌+◌, ◌<◌, ◌≤◌, Bool, cond, List, ◌++◌, length, take, drop, MatchBool, slice_index, slice_set}
use Rattle.opset.specs.declared.OpSet.{OpSet}
use Rattle.opset.specs.Sets.{size}
use Rattle.search.specs.declared.building.View.{View}
use Rattle.search.specs.declared.tables.Tables.{Tables}
use Rattle.search.specs.Filling.{operation_of}
use Rattle.search.specs.Steps.{views_of, view_of, later_than, number_of, writes, asks, asks_more, Foremost, Stuck, FirstFill, cut, total, Start}

-- the view's list, as far as it is placed
abbrev pub list_of : View → List ℕ → List ℕ
list_of view order = drop view.from order

-- the search may go on: what is held of the view's list is right, and there is room for all that is left
pub record Ready (tables : Tables) (view : View) (rest : OpSet) (latest order : List ℕ) : Type 0 where
  pub index : view.index < length tables.held
  pub start : Start tables (view_of tables view.index) (list_of view order) rest latest
  pub forward : view.from ≤ length order
  pub room : length order + (size rest + total (later_than tables view.index)) ≤ 1024

-- the order goes on with the first way to complete the view and those after it, and with nothing else
pub record GoneOn (tables : Tables) (view : View) (rest : OpSet) (order exit : List ℕ) : Type 0 where
  pub added : List ℕ
  pub is : exit ≡ order ++ added
  pub count : length added ≡ size rest + total (later_than tables view.index)
  pub foremost :
      Foremost tables (asks view.before) (view_of tables view.index) (list_of view order) (later_than tables view.index)
      (take (size rest) added) (cut (later_than tables view.index) (drop (size rest) added))

-- there is no way to complete them, and the order is left
pub record NoneOn (tables : Tables) (view : View) (order exit : List ℕ) : Type 0 where
  pub left : exit ≡ order
  pub stuck : Stuck tables (asks view.before) (view_of tables view.index) (list_of view order) (later_than tables view.index)

-- the answer: whether there is a way to complete them, and how the order is left
abbrev pub Says : Tables → View → OpSet → List ℕ → List ℕ → Bool → Type 0
Says tables view rest order exit answer = MatchBool answer (GoneOn tables view rest order exit) (NoneOn tables view order exit)

-- the view after one whose list is finished
pub record Next (tables : Tables) (view : View) (order : List ℕ) (next : View) : Type 0 where
  pub index : next.index ≡ view.index + 1
  pub from : next.from ≡ length order
  pub before : (i j : ℕ) → asks next.before i j ≡ asks_more tables (asks view.before) (list_of view order) i j

-- the places are those of the first full lists of all views
pub record Filled (tables : Tables) (order : List ℕ) : Type 0 where
  pub first : FirstFill tables (cut (views_of tables) order)
  pub count : length order ≡ total (views_of tables)

-- the last writes once the operation of rank i is placed too, and what is to be put back to have them as they were
pub record Noted (tables : Tables) (i : ℕ) (latest : List ℕ) (last : ℕ) (after : List ℕ) : Type 0 where
  pub each : (v : ℕ) → v < 17 → slice_index after v ≡ cond (writes tables v i) (number_of tables i) (slice_index latest v)
  pub back : slice_set after (operation_of tables.operations i).variable last ≡ latest
