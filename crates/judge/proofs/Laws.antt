-- The whole law, from answers that are right one by one.
use Rattle.std.proofs.Common.{◌≡◌, ℕ, ◌+◌, ◌-◌, ◌<◌, false, List, [], take, Some, sym, refl, ap, ◌∙◌, subst, inl, inr, ⊎_elim, arith}
use Rattle.std.specs.List.{slice_get}
use Rattle.std.proofs.lemmas.Bool.{cases_eq, eq-eqb}
use Rattle.trace.specs.Traces.{Trace, Complete, Prefix}
use Rattle.trace.specs.Completeness.{completeness_answer}
use Rattle.trace.proofs.Sources.{decides_complete}
use Rattle.models.specs.Meaning.{Meaning, Laws}
use Rattle.orders.specs.Orders.{Legal}
use Rattle.orders.proofs.Cutting.{cut_meets}
use Rattle.judge.specs.declared.calls.Call.{Call}
use Rattle.judge.specs.declared.calls.Call.TheVariants as call
use Rattle.judge.specs.declared.calls.Played.{Played}
use Rattle.judge.specs.Answers.{Judged, refused, legal, illegal, told}
use Rattle.judge.specs.Runs.{trace_after, removes}
use Rattle.judge.specs.Law.{Verdict, Exactly, Law}
use Rattle.judge.proofs.Places.{same_some}
use Rattle.judge.proofs.Growing.{prefix_same, run_grows}
use Rattle.judge.proofs.Following.{Follows, follows_length, follows_at}

-- a refusal of judge is never 0
refused_not : (t : Trace) → (Complete t → ⊥) → (completeness_answer t).0 ≡ 0 → ⊥
refused_not t not e = not ((decides_complete t (completeness_answer t) refl).0 (eq-eqb (completeness_answer t).0 0 e))

module _ (m : Meaning) (t : Trace) where
  -- a verdict is on a complete trace
  judged_complete : (r : ℕ × ℕ) → Judged m t r → r.0 ≡ 0 → Complete t
  judged_complete _ (refused not) e = absurd (refused_not t not e)
  judged_complete _ (legal complete _) e = complete
  judged_complete _ (illegal complete _) e = complete

  judged_exact : (r : ℕ × ℕ) → Judged m t r → r.0 ≡ 0 → Exactly r.1 (Legal m t)
  judged_exact _ (refused not) e = absurd (refused_not t not e)
  judged_exact _ (legal _ l) e = inl (refl, l)
  judged_exact _ (illegal _ none) e = inr (refl, none)

module _ (m : Meaning) (laws : Laws m) (calls : List Call) (answers : List Played) (f : Follows m [] calls answers) where
  module _ (n verdict : ℕ) (v : Verdict calls answers n verdict) where
    judged_at : Judged m (trace_after (take n calls)) (told v.answer)
    judged_at = (follows_at m [] calls answers f n call.Judge v.answer v.asked v.answered).answers

    complete_at : Complete (trace_after (take n calls))
    complete_at = judged_complete m (trace_after (take n calls)) (told v.answer) judged_at (ap (λ x. x.0) v.says)

    exact_at : Exactly verdict (Legal m (trace_after (take n calls)))
    exact_at = subst (λ x. Exactly x (Legal m (trace_after (take n calls)))) (ap (λ x. x.1) v.says) (judged_exact m (trace_after (take n calls)) (told v.answer) judged_at (ap (λ x. x.0) v.says))

  final : (n k verdict : ℕ) → n < k → Verdict calls answers n 0
      → ((j : ℕ) (c : Call) → n < j → j < k → slice_get calls j ≡ Some c → removes (trace_after (take j calls)) c ≡ false)
      → Verdict calls answers k verdict → verdict ≡ 0
  final n k verdict lt first quiet later =
      let t = trace_after (take n calls) in
      let u = trace_after (take k calls) in
      let none : Legal m t → ⊥ = ⊎_elim (λ h. absurd (omega (arith, h.0))) (λ h. h.1) (exact_at n 0 first) in
      let judge : (j : ℕ) (c : Call) → j ≡ n → slice_get calls j ≡ Some c → removes (trace_after (take j calls)) c ≡ false =
      λ j c same e. subst (λ d. removes (trace_after (take j calls)) d ≡ false) (same_some call.Judge c (sym first.asked ∙ ap (slice_get calls) (sym same) ∙ e)) refl in
      let grown : Prefix t (trace_after (take (n + (k - n)) calls)) =
      run_grows m laws t none calls n (k - n) (prefix_same t)
      (λ j c ge up e. ⊎_elim (λ same. judge j c same e) (λ other. quiet j c (omega arith) (omega arith) e) (cases_eq j n)) in
      let back : n + (k - n) ≡ k = omega arith in
      let prefix : Prefix t u = subst (λ x. Prefix t (trace_after (take x calls))) back grown in
      ⊎_elim
      (λ h. absurd (none (cut_meets m laws t u (complete_at n 0 first) (complete_at k verdict later) prefix h.1)))
      (λ h. h.0)
      (exact_at k verdict later)

  pub law_of : Law m calls answers
  law_of = record { each = follows_length m [] calls answers f; right = follows_at m [] calls answers f; exact = exact_at; final = final }
