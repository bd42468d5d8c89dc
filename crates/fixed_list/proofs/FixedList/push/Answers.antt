use Rattle.std.proofs.Common.{arith}
use Rattle.fixed_list.proofs.Padding.{one_more}
use Rattle.fixed_list.proofs.FixedList.push.Goals as goal

pub invariant_of-self : goal.invariant_of-self
invariant_of-self g c = one_more _ _ _ _ c.self.invariant c.args.item (omega (arith, c.self.invariant.fits, c.if-self.false))
