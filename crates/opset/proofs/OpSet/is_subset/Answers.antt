use Rattle.std.proofs.Common.{◌≡◌, ℕ, ◌-◌, ◌^◌, Bool, true, false, not, ◌&&◌, sym, refl, ap, ◌∙◌, arith}
use lib.Bits.{bit_and}
use Rattle.std.proofs.lemmas.Bool.{eqb-true, eq-eqb, false≢true}
use Rattle.opset.specs.Digits.{bit}
use Rattle.opset.specs.Sets.{has}
use Rattle.opset.proofs.Digits.{bit_none, no_bits, bit_of_and_not}
use Rattle.opset.proofs.OpSet.is_subset.Goals as goal

both : (x y : Bool) → (x && not y) ≡ false → x ≡ true → y ≡ true
both true true e f = refl
both true false e f = sym e
both false y e f = absurd (false≢true f)

none : (x y : Bool) → (x ≡ true → y ≡ true) → (x && not y) ≡ false
none true true h = refl
none true false h = sym (h refl)
none false y h = refl

pub returns : goal.returns
unfolding has
returns c =
    let a = c.args.self.0 in
    let b = c.args.other.0 in
    let rest = bit_and a ((2 ^ 64 - 1) - b) in
    let at : (k : ℕ) → bit rest k ≡ (bit a k && not (bit b k)) = λ k. bit_of_and_not 64 a b k (omega arith) (omega arith) in (
      λ e k. both (bit a k) (bit b k) (sym (at k) ∙ ap (λ (x : ℕ). bit x k) (eqb-true rest 0 e) ∙ bit_none k),
      λ h. eq-eqb rest 0 (no_bits rest (λ k. at k ∙ none (bit a k) (bit b k) (h k))),
    )
