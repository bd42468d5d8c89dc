use Rattle.std.proofs.Common.{◌≡◌, ℕ, false, eqb, ltb, sym, ap, ◌∙◌, arith}
use lib.Bits.{and_mask}
use Rattle.std.proofs.lemmas.Bool.{le-ltb}
use Rattle.opset.specs.Digits.{bit}
use Rattle.opset.specs.Sets.{has}
use Rattle.opset.proofs.Sets.{has_past}
use Rattle.opset.proofs.OpSet.contains.Goals as goal

pub returns-then-i-lt64 : goal.returns-then-i-lt64
unfolding has bit
returns-then-i-lt64 c = record { answer = ap (λ (x : ℕ). eqb x 1) (and_mask _ 1); past = λ l. absurd (omega arith) }

pub returns-else-i-lt64 : goal.returns-else-i-lt64
returns-else-i-lt64 c =
    let i = c.args.i in
    let off : ltb i 64 ≡ false = le-ltb i 64 (omega arith) in
    record { answer = off ∙ sym (has_past c.args.self i (omega arith) (omega arith)); past = λ l. off }
