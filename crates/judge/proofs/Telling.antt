-- The verdict and the list of a view, from what the search has found.
use Rattle.std.proofs.Common.{◌≡◌, ℕ, eqb, List, ◌++◌, drop, Some, None, Err, Decides, Option, sym, subst, arith, MatchOption}
use Rattle.std.proofs.lemmas.Bool.{eqb-true, eq-eqb}
use Rattle.trace.specs.Traces.{Complete}
use Rattle.trace.specs.Completeness.{completeness_answer}
use Rattle.models.specs.Meaning.{Meaning}
use Rattle.orders.specs.Orders.{view_at, Legal, First}
use Rattle.search.specs.declared.found.Orders.{Orders}
use Rattle.search.specs.declared.found.NotShown.{NotShown}
use Rattle.search.specs.declared.found.NotShown.TheVariants.{NoView, FewSlots}
use Rattle.search.specs.Found.{Copied, Shown}
use Rattle.search.specs.Refusals.{not_shown_number}
use Rattle.judge.specs.Seen.{State}
use Rattle.judge.specs.States.{Judging, refused, legal, illegal, Showing, unjudged, unviewed, crowded, shown}

module _ (m : Meaning) (s : State) (answer : ℕ × ℕ) (told : Decides (eqb answer.0 0) (Complete s.trace)) where
  pub judging_refused : answer ≡ completeness_answer s.trace → (answer.0 ≡ 0 → ⊥) → Judging m s answer s
  judging_refused is not = subst (λ r. Judging m s r s) (sym is) (refused (λ complete. not (eqb-true answer.0 0 (told.1 complete))))

  module _ (none : answer.0 ≡ 0) (found : Option Orders) (cases : MatchOption found (Legal m s.trace → ⊥) (λ o. First m s.trace o)) where
    complete : Complete s.trace
    complete = told.0 (eq-eqb answer.0 0 none)

    pub judging_legal : (o : Orders) → found ≡ Some o → Judging m s (0, 1) (record { trace = s.trace; standing = found })
    judging_legal o e =
        subst (λ f. Judging m s (0, 1) (record { trace = s.trace; standing = f })) (sym e)
        (legal complete o (subst (λ f. MatchOption f (Legal m s.trace → ⊥) (λ o. First m s.trace o)) e cases))

    pub judging_illegal : found ≡ None → Judging m s (0, 0) (record { trace = s.trace; standing = found })
    judging_illegal e =
        subst (λ f. Judging m s (0, 0) (record { trace = s.trace; standing = f })) (sym e)
        (illegal complete (subst (λ f. MatchOption f (Legal m s.trace → ⊥) (λ o. First m s.trace o)) e cases))

module _ (found : Option Orders) (k : ℕ) (slots : List ℕ) where
  pub showing_none : found ≡ None → Showing found k slots (12, 0) slots
  showing_none e = unjudged e

  module _ (o : Orders) (is : found ≡ Some o) (after : List ℕ) where
    pub showing_refused : (why : NotShown) → Shown o k slots after (Err why) → Showing found k slots (not_shown_number why, 0) after
    showing_refused NoView u = subst (Showing found k slots (13, 0)) (sym u.left) (unviewed o is u.none)
    showing_refused FewSlots u = subst (Showing found k slots (14, 0)) (sym u.left) (crowded o is u.view u.few)

    pub showing_copied : (n : ℕ) → Copied o k n slots after → Showing found k slots (0, n) after
    showing_copied n u =
        let list = view_at o k in
        subst (Showing found k slots (0, n)) (sym u.is)
        (subst (λ n. Showing found k slots (0, n) (list ++ drop n slots)) (sym u.count)
        (shown o is u.view (omega (arith, u.room, u.count))))
