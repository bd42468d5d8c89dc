use Rattle.std.proofs.Common.{ℕ, ◌*◌, ◌%◌, ◌^◌, Bool, ◌||◌, sym, ap, ◌∙◌, arith}
use Rattle.std.proofs.lemmas.Nat.{one_shl}
use Rattle.opset.specs.Digits.{bit}
use Rattle.opset.specs.Sets.{has}
use Rattle.opset.proofs.Digits.{bit_of_or, bit_power}
use Rattle.opset.proofs.Sets.{with_below}
use Rattle.opset.proofs.OpSet.with.Goals as goal

pub returns-then-i-lt64 : goal.returns-then-i-lt64
unfolding has
returns-then-i-lt64 c =
    let a = c.args.self.0 in
    let i = c.args.i in
    record {
      holds =
          λ k.
          bit_of_or a ((1 * 2 ^ i) % 2 ^ 64) k
          ∙ ap (λ (x : Bool). bit a k || x) (ap (λ (x : ℕ). bit x k) (one_shl i 64 (omega arith)) ∙ bit_power i k)
          ∙ sym (with_below i k (bit a k) (omega arith));
      past = λ l. absurd (omega arith);
    }
