use Rattle.std.proofs.Common.{arith}
use Rattle.opset.specs.Sets.{has}
use Rattle.opset.proofs.Digits.{bit_of_and_not}
use Rattle.opset.proofs.OpSet.difference.Goals as goal

pub returns : goal.returns
unfolding has
returns c k = bit_of_and_not 64 c.args.self.0 c.args.other.0 k (omega arith) (omega arith)
