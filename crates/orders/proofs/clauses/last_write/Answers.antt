use Rattle.orders.specs.Orders.{none}
use Rattle.orders.proofs.LastWrites.{last_moves, last_stays}
use Rattle.orders.proofs.clauses.last_write.Goals as goal
use Rattle.orders.proofs.clauses.last_write.Goals.{then-is_write_to, else-is_write_to}

pub loop-number-init : goal.loop-number-init
loop-number-init c = none tt

pub loop-number-preserved : goal.loop-number-preserved
loop-number-preserved c =
    elim c.if-is_write_to.branch [
      | then-is_write_to w ↦ last_moves _ _ c.args.list.now _ _ _ _ c.loop-number-test.true c.loop-number.invariant c.is_write_to.ensures w.if-is_write_to.true w.last-is
      | else-is_write_to w ↦ last_stays _ _ c.args.list.now _ _ _ _ c.loop-number-test.true c.loop-number.invariant c.is_write_to.ensures w.if-is_write_to.false w.last-is
    ]
