use Rattle.std.proofs.Common.{◌≡◌}
use Rattle.opset.specs.Sets.{size}
use Rattle.search.proofs.Views.{left, TriedHere}
use Rattle.search.proofs.tables.Tables.+fill.Given as goal

abbrev pub decreases-fill : goal.decreases-fill
decreases-fill l = left l.self.now l.view.now l.rest

-- the order and the last writes are as they were, and the candidates so far lead nowhere
abbrev pub invariant-loop-rank : goal.invariant-loop-rank
invariant-loop-rank l = (l.order ≡ l.initial.order) × (l.latest ≡ l.initial.latest) × TriedHere l.self l.view l.rest l.initial.order l.candidates

abbrev pub decreases-loop-rank : goal.decreases-loop-rank
decreases-loop-rank l = size l.candidates
