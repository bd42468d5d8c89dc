use Rattle.opset.proofs.Sets.{has_none}
use Rattle.opset.proofs.OpSet.empty.Goals as goal

pub returns : goal.returns
returns c = has_none
