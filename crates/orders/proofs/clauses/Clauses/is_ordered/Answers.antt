use Rattle.std.proofs.Common.{sym, ap, ◌∙◌, subst}
use Rattle.std.proofs.lemmas.Bool.{false≢true}
use Rattle.opset.specs.Sets.{has}
use Rattle.orders.proofs.Parting.{UpTo}
use Rattle.orders.proofs.Orderly.{ordered_skips, ordered_fails, ordered_again}
use Rattle.orders.proofs.clauses.Clauses.is_ordered.Goals as goal
use Rattle.orders.proofs.clauses.Clauses.is_ordered.Goals.{in-Some+else-not-has_all, in_default}

pub returns-then-not-has_all-clause-answer : goal.returns-then-not-has_all-clause-answer
returns-then-not-has_all-clause-answer g c = (
  λ b. absurd (false≢true b),
  λ e. absurd (
      ordered_fails _ (g.M.MemoryModel.laws c.args.self.now.model.now) _ c.of-ranks.ensures.facts c.of-ranks.result c.of-ranks.ensures.value _ _ _ _ c.loop-number-test.true c.loop-number.invariant
      c.held-held.result c.before_rows-before.result c.intersection.result c.in-Some.rank c.held-held.ensures c.before_rows-before.ensures c.in-Some.ensures.place c.intersection.ensures c.has_all.result c.has_all.ensures c.if-not-has_all.true e
      ),
)

pub loop-number-preserved : goal.loop-number-preserved
loop-number-preserved g c =
    elim c.match-rank.branch [
      | in-Some+else-not-has_all w ↦
          ordered_again _ (g.M.MemoryModel.laws c.args.self.now.model.now) _ c.of-ranks.ensures.facts c.of-ranks.result c.of-ranks.ensures.value _ _ _ _ c.loop-number-test.true c.loop-number.invariant
          c.held-held.result c.before_rows-before.result w.intersection.result w.in-Some.rank c.held-held.ensures c.before_rows-before.ensures w.in-Some.ensures.place w.intersection.ensures w.has_all.result w.has_all.ensures w.if-not-has_all.false
          c.match-rank.seen (λ j. ap (λ z. has z j) w.seen-is ∙ w.with-seen.ensures.holds j)
      | in_default w ↦
          subst (UpTo _ _ _ _) (sym w.seen-is)
          (ordered_skips _ (g.M.MemoryModel.laws c.args.self.now.model.now) _ c.of-ranks.ensures.facts c.of-ranks.result c.of-ranks.ensures.value _ _ _ _ c.loop-number-test.true c.loop-number.invariant w.in_default.ensures.place)
    ]
