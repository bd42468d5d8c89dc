use Rattle.std.proofs.Common.{length, sym, ap, ◌∙◌, arith}
use Rattle.search.proofs.Cutting.{cutting_small}
use Rattle.search.proofs.found.Orders.of.Goals as goal

pub invariant_of-result : goal.invariant_of-result
invariant_of-result c = cutting_small c.args.tables.now c.args.order.now _ _ _ c.loop-held.invariant (omega (arith, c.loop-held-test.false, ap length c.as_slice-held-items.ensures.value))
