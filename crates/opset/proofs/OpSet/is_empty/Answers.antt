use Rattle.std.proofs.Common.{ℕ, ap, ◌∙◌}
use Rattle.std.proofs.lemmas.Bool.{eqb-true, eq-eqb}
use Rattle.opset.specs.Digits.{bit}
use Rattle.opset.specs.Sets.{has}
use Rattle.opset.proofs.Digits.{bit_none, no_bits}
use Rattle.opset.proofs.OpSet.is_empty.Goals as goal

pub returns : goal.returns
unfolding has
returns c =
    let a = c.args.self.0 in
    (λ e k. ap (λ (x : ℕ). bit x k) (eqb-true a 0 e) ∙ bit_none k, λ h. eq-eqb a 0 (no_bits a h))
