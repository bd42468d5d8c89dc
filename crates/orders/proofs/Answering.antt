-- An inspection has one answer, and what the answer tells.
use Rattle.std.proofs.Common.{◌≡◌, ℕ, ◌+◌, ◌*◌, ◌<◌, ◌≤◌, eqb, List, Decides, sym, refl, ap, subst, arith}
use Rattle.std.proofs.lemmas.Bool.{eqb-true, eq-eqb}
use Rattle.trace.specs.Traces.{Trace, WellFormed, Complete}
use Rattle.trace.specs.Completeness.{completeness_answer}
use Rattle.models.specs.Meaning.{Meaning, Laws}
use Rattle.orders.specs.Inspecting.{Failure, Passes, Finds, Inspected, refused, found}
use Rattle.orders.proofs.Findings.{one_finding, passes_zero, zero_passes, number_fails}

module _ (m : Meaning) (laws : Laws m) (t : Trace) (formed : WellFormed t) (numbers : List ℕ) where
  module _ (answer : ℕ × ℕ) (told : Decides (eqb answer.0 0) (Complete t)) where
    pub answers_refused : answer ≡ completeness_answer t → (answer.0 ≡ 0 → ⊥) → Inspected m t numbers answer
    answers_refused is not = subst (Inspected m t numbers) (sym is) (refused (λ complete. not (eqb-true answer.0 0 (told.1 complete))))

    pub answers_found : (value : ℕ) → answer.0 ≡ 0 → Finds m t numbers value → Inspected m t numbers (0, value)
    answers_found value is f = found (told.0 (eq-eqb answer.0 0 is)) value f

  pub one_answer : (a b : ℕ × ℕ) → Inspected m t numbers a → Inspected m t numbers b → a ≡ b
  one_answer _ _ (refused _) (refused _) = refl
  one_answer _ _ (refused not) (found complete _ _) = absurd (not complete)
  one_answer _ _ (found complete _ _) (refused not) = absurd (not complete)
  one_answer _ _ (found _ v f) (found _ w h) = ap (λ z. (0, z)) (one_finding m t numbers v w f h)

  pub answer_passes : (a : ℕ × ℕ) → Inspected m t numbers a → Complete t → Decides (eqb a.1 0) (Passes m t numbers)
  answer_passes _ (refused not) complete = absurd (not complete)
  answer_passes _ (found _ v f) complete = (λ b. zero_passes m t numbers v (eqb-true v 0 b) f, λ p. eq-eqb v 0 (one_finding m t numbers v 0 f (passes_zero m t numbers p)))

  pub answer_fails : (a : ℕ × ℕ) → Inspected m t numbers a → Complete t → (clause k : ℕ) → 1 ≤ k → k < 100 → a.1 ≡ 100 * clause + k → Failure m t numbers clause k
  answer_fails _ (refused not) complete clause k low high e = absurd (not complete)
  answer_fails _ (found _ v f) complete clause k low high e =
      number_fails m t numbers v clause k (omega (arith, laws.few _ _ formed.processors formed.variables)) low high e f
