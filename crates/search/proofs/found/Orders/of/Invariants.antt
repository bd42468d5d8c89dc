use Rattle.search.proofs.Cutting.{Cutting}
use Rattle.search.proofs.found.Orders.of.Given as goal

-- the lists of the views so far are cut
abbrev pub invariant-loop-held : goal.invariant-loop-held
invariant-loop-held l = Cutting l.tables l.order l.held-index l.lists l.rest
