use Rattle.std.proofs.Common.{◌≡◌, ℕ, ◌*◌, ◌%◌, ◌^◌, ◌<◌, ◌≤◌, Bool, true, false, not, ◌&&◌, eqb, refl, ap, ◌∙◌, arith}
use Rattle.std.proofs.lemmas.Bool.{eqb-true}
use Rattle.std.proofs.lemmas.Nat.{one_shl}
use Rattle.opset.specs.Digits.{bit}
use Rattle.opset.specs.Sets.{has}
use Rattle.opset.specs.declared.OpSet.{OpSet}
use Rattle.opset.proofs.Digits.{bit_of_and_not, bit_power}
use Rattle.opset.proofs.Sets.{has_past}
use Rattle.opset.proofs.OpSet.without.Goals as goal

pub returns-then-i-lt64 : goal.returns-then-i-lt64
unfolding has
returns-then-i-lt64 c =
    let a = c.args.self.0 in
    let i = c.args.i in
    let one : (1 * 2 ^ i) % 2 ^ 64 < 2 ^ 64 = omega arith in
    record {
      holds =
          λ k.
          bit_of_and_not 64 a ((1 * 2 ^ i) % 2 ^ 64) k (omega arith) one
          ∙ ap (λ (x : Bool). bit a k && not x) (ap (λ (x : ℕ). bit x k) (one_shl i 64 (omega arith)) ∙ bit_power i k);
      past = λ l. absurd (omega arith);
    }

-- an index that is in no set can be taken out of any set
past : (s : OpSet) (i k : ℕ) → s.0 < 2 ^ 64 → 64 ≤ i → has s k ≡ (has s k && not (eqb k i))
past s i k h l = go (has s k) (eqb k i) (λ e. ap (has s) (eqb-true k i e) ∙ has_past s i h l)
  where
    go : (x e : Bool) → (e ≡ true → x ≡ false) → x ≡ (x && not e)
    go true true d = d refl
    go true false d = refl
    go false e d = refl

pub returns-else-i-lt64 : goal.returns-else-i-lt64
returns-else-i-lt64 c = record { holds = λ k. past c.args.self c.args.i k (omega arith) (omega arith); past = λ l. refl }
