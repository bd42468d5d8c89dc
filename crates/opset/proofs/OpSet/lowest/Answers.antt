use Rattle.std.proofs.Common.{◌≡◌, ℕ, ◌<◌, ap, ◌∙◌, ⊎_elim, arith}
use borrow.Author.Numbers.{trailing_lt}
use Rattle.std.proofs.lemmas.Bool.{cases_lt, both_ways}
use Rattle.opset.specs.Digits.{bit}
use Rattle.opset.specs.Sets.{has, Empty}
use Rattle.opset.proofs.Digits.{bit_none, bit_trailing, bit_under_trailing}
use Rattle.opset.proofs.OpSet.lowest.Goals as goal

pub returns-else-is_empty : goal.returns-else-is_empty
unfolding has
returns-else-is_empty c =
    let s = c.args.self in
    let a = s.0 in
    let none : a ≡ 0 → Empty s = λ e k. ap (λ (x : ℕ). bit x k) e ∙ bit_none k in
    let some : 0 < a = ⊎_elim (λ l. l) (λ l. absurd (both_ways _ c.if-is_empty.false (c.is_empty.ensures.1 (none (omega arith))))) (cases_lt 0 a) in
    record {
      member = bit_trailing 64 a some (omega arith);
      first = bit_under_trailing 64 a;
      index = omega (arith, trailing_lt 64 a);
    }
