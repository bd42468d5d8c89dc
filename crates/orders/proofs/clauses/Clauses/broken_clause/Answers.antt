use Rattle.std.proofs.lemmas.Bool.{both_ways}
use Rattle.orders.specs.Inspecting.{not_exact, not_ordered, not_seeing}
use Rattle.orders.proofs.clauses.Clauses.broken_clause.Goals as goal

pub returns-then-not-is_exact : goal.returns-then-not-is_exact
returns-then-not-is_exact g c = not_exact (λ e. both_ways _ c.if-not-is_exact.true (c.is_exact.ensures.answer.1 e))

pub returns-then-not-is_ordered : goal.returns-then-not-is_ordered
returns-then-not-is_ordered g c = not_ordered (c.is_exact.ensures.answer.0 c.if-not-is_exact.false) (λ e. both_ways _ c.if-not-is_ordered.true (c.is_ordered.ensures.answer.1 e))

pub returns-then-not-is_seeing : goal.returns-then-not-is_seeing
returns-then-not-is_seeing g c = not_seeing (c.is_exact.ensures.answer.0 c.if-not-is_exact.false) (c.is_ordered.ensures.answer.0 c.if-not-is_ordered.false) (λ e. both_ways _ c.if-not-is_seeing.true (c.is_seeing.ensures.answer.1 e))
