use Rattle.std.proofs.Common.{arith}
use lib.Seq.{take-set-lt}
use Rattle.fixed_list.proofs.Padding.{another, item_at}
use Rattle.fixed_list.proofs.FixedList.replace.Goals as goal

pub invariant_of-self : goal.invariant_of-self
invariant_of-self g c = another _ _ _ _ c.self.invariant c.args.index c.args.item (omega (arith, c.if-index-self.false))

pub returns-clause-item : goal.returns-clause-item
returns-clause-item g c = rw (← c.self.view_is) (item_at _ _ _ _ c.self.invariant c.args.index _ (omega (arith, c.if-index-self.false)))

pub returns-clause-after : goal.returns-clause-after
returns-clause-after g c = rw (← c.self.view_is) (take-set-lt c.self.inside.len c.self.inside.items c.args.index c.args.item (omega (arith, c.if-index-self.false)))
