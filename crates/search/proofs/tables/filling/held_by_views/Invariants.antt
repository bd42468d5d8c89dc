use Rattle.std.proofs.Common.{◌-◌, ◌≤◌}
use Rattle.search.specs.Filling.{Held}
use Rattle.search.proofs.tables.filling.held_by_views.Given as goal

-- the sets of the views before this one are right
abbrev pub invariant-loop-view : goal.invariant-loop-view
invariant-loop-view g l = (l.view - 1 ≤ l.views) × Held (g.M.MemoryModel.meaning l.model) l.table (l.view - 1) l.held
