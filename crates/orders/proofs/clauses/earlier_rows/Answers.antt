use Rattle.std.proofs.Common.{ap, ◌∙◌}
use Rattle.opset.specs.Sets.{has}
use Rattle.orders.proofs.Agreeing.{tabled_none, tabled_more, tabled_skips, tabled_all}
use Rattle.orders.proofs.clauses.earlier_rows.Goals as goal
use Rattle.orders.proofs.clauses.earlier_rows.Goals.{in-Some, in_default}

pub loop-number-init : goal.loop-number-init
loop-number-init c = tabled_none _ c.of-ranks.ensures.facts c.of-ranks.result c.of-ranks.ensures.value _ c.empty-rows.result c.empty-seen.result c.empty-rows.ensures c.empty-seen.ensures

pub loop-number-preserved : goal.loop-number-preserved
loop-number-preserved c =
    elim c.match-rank.branch [
      | in-Some w ↦
          tabled_more _ c.of-ranks.ensures.facts c.of-ranks.result c.of-ranks.ensures.value _ _ _ _ c.loop-number-test.true c.loop-number.invariant
          w.union.result c.match-rank.seen w.in-Some.rank c.match-rank.rows w.in-Some.ensures.place w.union.ensures (λ k. ap (λ z. has z k) w.seen-is ∙ w.with-seen.ensures.holds k) w.rows-is
      | in_default w ↦
          tabled_skips _ c.of-ranks.ensures.facts c.of-ranks.result c.of-ranks.ensures.value _ _ _ _ c.loop-number-test.true c.loop-number.invariant c.match-rank.rows c.match-rank.seen w.in_default.ensures.place w.rows-is w.seen-is
    ]

pub returns : goal.returns
returns c = tabled_all _ _ _ _ _ c.loop-number-test.false c.loop-number.invariant
