use Rattle.std.proofs.Common.{arith}
use Rattle.std.proofs.lemmas.Grind.{common_steps}
use Rattle.models.proofs.closure.pass_through.Goals as goal
use Rattle.models.proofs.closure.pass_through.Goals.{then-contains, else-contains}

pub loop-row-preserved : goal.loop-row-preserved
loop-row-preserved c = elim c.if-contains.branch [ then-contains w ↦ grind (arith, common_steps) | else-contains w ↦ grind (arith, common_steps) ]
