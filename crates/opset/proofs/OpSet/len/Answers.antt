use Rattle.std.proofs.Common.{sym, refl, arith}
use lib.Count.{ones-le}
use Rattle.opset.specs.Sets.{size}
use Rattle.opset.proofs.Sets.{size_le, size_members, size_listed}
use Rattle.opset.proofs.OpSet.len.Goals as goal

pub returns : goal.returns
unfolding size
returns c =
    let s = c.args.self in
    record {
      value = size_members s (omega arith);
      bound = size_le s (omega arith);
      sized = refl;
      listed = λ list h. sym (size_listed s list h);
    }

pub overflow_cast-result : goal.overflow_cast-result
overflow_cast-result c = omega (arith, ones-le 64 c.args.self.0 (omega arith))
