-- The refusals of a view whose list is not shown, by their numbers.
use Rattle.std.specs.Prelude.{ℕ}
use Rattle.search.specs.declared.found.NotShown.{NotShown}
use Rattle.search.specs.declared.found.NotShown.TheVariants.{NoView, FewSlots}

-- the number of such a refusal
abbrev pub not_shown_number : NotShown → ℕ
not_shown_number NoView = 13
not_shown_number FewSlots = 14
