use Rattle.std.proofs.Common.{sym, refl, ◌∙◌}
use Rattle.std.proofs.lemmas.Bool.{false≢true}
use Rattle.orders.proofs.Agreeing.{agrees_all, agrees_unheld, agrees_again, agrees_fails}
use Rattle.orders.proofs.clauses.Clauses.is_agreeing.Goals as goal
use Rattle.orders.proofs.clauses.Clauses.is_agreeing.Goals.{else-contains-via-then-contains+else-not-has_all, else-contains-via-else-contains}

pub returns-then-not-has_all-clause-answer : goal.returns-then-not-has_all-clause-answer
returns-then-not-has_all-clause-answer g c = (
  λ b. absurd (false≢true b),
  λ e. absurd (
      agrees_fails _ (g.M.MemoryModel.laws c.args.self.now.model.now) _ c.of-ranks.ensures.facts c.of-ranks.result c.of-ranks.ensures.value _ c.len-rank-end.ensures.value _ _ _ _ c.loop-rank-test.true c.loop-rank.invariant
      c.held-held.result c.held-held.ensures _ _ _ c.alike_rows-alike.ensures c.earlier_rows-wanted.ensures c.earlier_rows-earlier.ensures c.intersection.result c.intersection-partners.result c.intersection.ensures c.intersection-partners.ensures
      (sym c.contains.ensures.answer ∙ c.if-contains.true) _ c.has_all.ensures c.if-not-has_all.true e
      ),
)

pub loop-rank-preserved : goal.loop-rank-preserved
loop-rank-preserved g c =
    elim c.else-contains.branch [
      | else-contains-via-then-contains+else-not-has_all w ↦
          agrees_again _ (g.M.MemoryModel.laws c.args.self.now.model.now) _ c.of-ranks.ensures.facts c.of-ranks.result c.of-ranks.ensures.value _ c.len-rank-end.ensures.value _ _ _ _ c.loop-rank-test.true c.loop-rank.invariant
          c.held-held.result c.held-held.ensures _ _ _ c.alike_rows-alike.ensures c.earlier_rows-wanted.ensures c.earlier_rows-earlier.ensures c.intersection.result c.intersection-partners.result c.intersection.ensures c.intersection-partners.ensures
          (sym c.contains.ensures.answer ∙ w.if-contains.true) _ w.has_all.ensures w.if-not-has_all.false
      | else-contains-via-else-contains w ↦
          agrees_unheld _ (g.M.MemoryModel.laws c.args.self.now.model.now) _ c.of-ranks.ensures.facts c.of-ranks.result c.of-ranks.ensures.value _ c.len-rank-end.ensures.value _ _ _ _ c.loop-rank-test.true c.loop-rank.invariant
          c.held-held.result c.held-held.ensures (sym c.contains.ensures.answer ∙ w.if-contains.false)
    ]

pub returns-clause-answer : goal.returns-clause-answer
returns-clause-answer g c = (λ _. agrees_all _ (g.M.MemoryModel.laws c.args.self.now.model.now) _ c.of-ranks.ensures.facts c.of-ranks.result c.of-ranks.ensures.value _ c.len-rank-end.ensures.value _ _ _ _ c.loop-rank-test.false c.loop-rank.invariant, λ _. refl)
