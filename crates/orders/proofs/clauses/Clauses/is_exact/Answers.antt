use Rattle.std.proofs.lemmas.Bool.{false≢true}
use Rattle.orders.proofs.Exactly.{exact_unlisted, exact_unheld, exact_twice, exact_again, exact_decides}
use Rattle.orders.proofs.clauses.Clauses.is_exact.Goals as goal
use Rattle.orders.proofs.clauses.Clauses.is_exact.Goals.{then-not-contains-via-then-not-contains, then-not-contains-via-else-not-contains+then-contains}

pub returns-in_default-clause-answer : goal.returns-in_default-clause-answer
returns-in_default-clause-answer g c = (
  λ b. absurd (false≢true b),
  λ e. absurd (exact_unlisted _ (g.M.MemoryModel.laws c.args.self.now.model.now) _ c.of-ranks.ensures.facts c.of-ranks.result c.of-ranks.ensures.value _ _ _ c.loop-number-test.true c.in_default.ensures.place e),
)

pub returns-then-not-contains-clause-answer : goal.returns-then-not-contains-clause-answer
returns-then-not-contains-clause-answer g c = (
  λ b. absurd (false≢true b),
  λ e. absurd (
      elim c.then-not-contains.branch [
        | then-not-contains-via-then-not-contains w ↦
            exact_unheld _ (g.M.MemoryModel.laws c.args.self.now.model.now) _ c.of-ranks.ensures.facts c.of-ranks.result c.of-ranks.ensures.value _ _ _ _ _ _ c.loop-number-test.true c.loop-number.invariant c.held-held.ensures c.in-Some.ensures.place w.if-not-contains.ensures.answer e
        | then-not-contains-via-else-not-contains+then-contains w ↦
            exact_twice _ (g.M.MemoryModel.laws c.args.self.now.model.now) _ c.of-ranks.ensures.facts c.of-ranks.result c.of-ranks.ensures.value _ _ _ _ _ _ c.loop-number-test.true c.loop-number.invariant c.held-held.ensures c.in-Some.ensures.place w.if-contains.ensures.answer e
      ]
      ),
)

pub loop-number-preserved : goal.loop-number-preserved
loop-number-preserved g c =
    exact_again _ (g.M.MemoryModel.laws c.args.self.now.model.now) _ c.of-ranks.ensures.facts c.of-ranks.result c.of-ranks.ensures.value _ _ _ _ _ _ c.loop-number-test.true c.loop-number.invariant c.held-held.ensures c.in-Some.ensures.place
    c.with-seen.result c.if-not-contains.ensures.answer c.if-contains.ensures.answer c.with-seen.ensures.holds

pub returns-clause-answer : goal.returns-clause-answer
returns-clause-answer g c =
    exact_decides _ (g.M.MemoryModel.laws c.args.self.now.model.now) _ c.of-ranks.ensures.facts c.of-ranks.result c.of-ranks.ensures.value _ _ _ _ _ _ c.loop-number-test.false c.loop-number.invariant c.held-held.ensures c.has_all.ensures
