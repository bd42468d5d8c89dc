-- The number of a file, from the answers of a judge.
use Rattle.std.proofs.Common.{◌≡◌, ℕ, List, sym, ap, ◌∙◌, subst}
use Rattle.trace_file.specs.Reading.{read_file, load_answer, load_after}
use Rattle.models.specs.Meaning.{Meaning}
use Rattle.judge.specs.Answers.{Judged}
use Rattle.judge.specs.Seen.{Seen, moved}
use Rattle.judge.specs.States.{fresh, replaced, Judging}
use Rattle.judge.proofs.Going.{judging_right}
use Rattle.judge_c.specs.Numbers.{one_number, Answered, judged}

module _ {M : Type 0} (meaning : M → Meaning) (model : M) (file : List ℕ) (made loaded after : Seen M) (a b : ℕ × ℕ)
    (new : made ≡ record { model = model; state = fresh }) (answer : a ≡ load_answer (read_file file))
    (is : loaded ≡ moved made (replaced made.state a.0 (load_after made.state.trace (read_file file)))) where
  model_is : loaded.model ≡ model
  model_is = ap (λ j. j.model) is ∙ ap (λ j. j.model) new

  trace_is : loaded.state.trace ≡ load_after fresh.trace (read_file file)
  trace_is = ap (λ j. j.state.trace) is ∙ ap (λ j. load_after j.state.trace (read_file file)) new

  -- a file that is loaded has the number of the verdict on it
  pub answers_judged : a.0 ≡ 0 → Judging (meaning loaded.model) loaded.state b after.state → Answered (meaning model) file (one_number b)
  answers_judged good verdict =
      judged (ap (λ x. x.0) (sym answer) ∙ good) b
      (subst (λ t. Judged (meaning model) t b) trace_is
      (subst (λ x. Judged (meaning x) loaded.state.trace b) model_is (judging_right (meaning loaded.model) loaded.state b after.state verdict)))
