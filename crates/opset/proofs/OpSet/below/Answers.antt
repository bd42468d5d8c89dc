use Rattle.std.proofs.Common.{◌≡◌, ℕ, ◌-◌, min, ltb, ap, ◌∙◌, arith}
use Rattle.std.proofs.lemmas.Nat.{one_shl}
use Rattle.opset.specs.Digits.{bit}
use Rattle.opset.specs.Sets.{has}
use Rattle.opset.proofs.Digits.{bit_lowest}
use Rattle.opset.proofs.OpSet.below.Goals as goal

pub returns-then-n-lt64 : goal.returns-then-n-lt64
unfolding has
returns-then-n-lt64 c k =
    let n = c.args.n in
    let count : n ≡ min n 64 = omega arith in
    ap (λ (x : ℕ). bit (x - 1) k) (one_shl n 64 (omega arith)) ∙ bit_lowest n k ∙ ap (ltb k) count

pub returns-else-n-lt64 : goal.returns-else-n-lt64
unfolding has
returns-else-n-lt64 c k =
    let count : 64 ≡ min c.args.n 64 = omega arith in
    bit_lowest 64 k ∙ ap (ltb k) count
