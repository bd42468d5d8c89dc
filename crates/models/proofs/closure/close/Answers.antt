use Rattle.std.proofs.Common.{arith}
use Rattle.models.proofs.Closing.{reaching_all}
use Rattle.models.proofs.closure.close.Goals as goal

pub returns : goal.returns
returns c = reaching_all _ _ _ (omega arith) c.loop-via.invariant
