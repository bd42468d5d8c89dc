use Rattle.opset.specs.Sets.{has}
use Rattle.opset.proofs.Digits.{bit_of_or}
use Rattle.opset.proofs.OpSet.union.Goals as goal

pub returns : goal.returns
unfolding has
returns c = bit_of_or c.args.self.0 c.args.other.0
