use Rattle.opset.specs.Sets.{has}
use Rattle.opset.proofs.Digits.{bit_of_and}
use Rattle.opset.proofs.OpSet.intersection.Goals as goal

pub returns : goal.returns
unfolding has
returns c = bit_of_and c.args.self.0 c.args.other.0
