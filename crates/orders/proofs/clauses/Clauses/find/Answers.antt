use Rattle.std.proofs.Common.{sym, ◌∙◌}
use Rattle.orders.proofs.Passing.{finds_disagreement, finds_left_over, finds_nothing}
use Rattle.orders.proofs.clauses.Clauses.find.Goals as goal

pub returns-in-Some : goal.returns-in-Some
returns-in-Some g c = finds_disagreement _ (g.M.MemoryModel.laws c.args.self.now.model.now) _ _ _ c.in_ok-rest.ensures _ c.find_disagreeing.ensures _ c.in-Some.is

pub returns-then-is_empty : goal.returns-then-is_empty
returns-then-is_empty g c = finds_nothing _ (g.M.MemoryModel.laws c.args.self.now.model.now) _ _ _ c.in_ok-rest.ensures _ c.find_disagreeing.ensures c.in_default.is (sym c.is_empty.ensures ∙ c.if-is_empty.true)

pub returns-else-is_empty : goal.returns-else-is_empty
returns-else-is_empty g c = finds_left_over _ (g.M.MemoryModel.laws c.args.self.now.model.now) _ _ _ c.in_ok-rest.ensures _ c.find_disagreeing.ensures c.in_default.is (sym c.is_empty.ensures ∙ c.if-is_empty.false)
