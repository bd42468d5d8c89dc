-- What the judge keeps of a verdict, call by call.
use Rattle.std.proofs.Common.{◌≡◌, ℕ, Bool, true, false, cond, List, [], ◌∷◌, ◌++◌, Some, None, Option, sym, refl, ap, ◌∙◌, subst}
use Rattle.std.proofs.lemmas.Bool.{both_ways}
use Rattle.trace.specs.Operations.{Within}
use Rattle.trace.specs.Traces.{Complete}
use Rattle.trace_file.specs.declared.changes.Change.{Change}
use Rattle.models.specs.Meaning.{Meaning}
use Rattle.orders.specs.Orders.{Legal, First}
use Rattle.judge.specs.declared.calls.Call.{Call}
use Rattle.judge.specs.declared.calls.Call.TheVariants as call
use Rattle.judge.specs.Answers as answers
use Rattle.judge.specs.Answers.{Viewed}
use Rattle.judge.specs.Runs.{trace_after, accepted, changes, Stands}
use Rattle.judge.specs.States as states
use Rattle.judge.specs.Seen.{State}
use Rattle.judge.specs.States.{Judging, Showing}
use Rattle.judge.proofs.Refusals.{unchanged}
use Rattle.judge.proofs.Standing.{after, trace_more, stands_new, Standing, judged, before, stands_keep, stands_last}

-- what the judge keeps is right: the first orders if a legal verdict stands, and none else
abbrev pub Keeps : Meaning → List Call → Option (List (List ℕ)) → Type 0
Keeps m calls None = Stands m calls → ⊥
Keeps m calls (Some orders) = Stands m calls × First m (trace_after calls) orders

abbrev pub is_judge : Call → Bool
is_judge (call.Change c) = false
is_judge call.Judge = true
is_judge (call.View k slots) = false
is_judge (call.Inspect numbers) = false
is_judge (call.Save bytes) = false

pub other : (c : Call) → is_judge c ≡ false → c ≡ call.Judge → ⊥
other c e is = both_ways (is_judge c) e (ap is_judge is)

module _ (m : Meaning) (calls : List Call) where
  -- where a verdict stands, the trace is legal
  keeps_legal : (orders : Option (List (List ℕ))) → Keeps m calls orders → Stands m calls → Legal m (trace_after calls)
  keeps_legal None k s = absurd (k s)
  keeps_legal (Some orders) k s = (orders, k.1.meets)

  -- a call that changes nothing, and is no verdict
  module _ (c : Call) (silent : c ≡ call.Judge → Complete (trace_after calls) → ⊥) (quiet : changes (trace_after calls) c ≡ false) (same : after (trace_after calls) c ≡ trace_after calls) where
    not_standing : (Stands m calls → ⊥) → Standing m calls c → ⊥
    not_standing none (judged e complete legal) = silent e complete
    not_standing none (before s e) = none s

    pub keeps_on : (orders : Option (List (List ℕ))) → Keeps m calls orders → Keeps m (calls ++ c ∷ []) orders
    keeps_on None k = λ s. not_standing k (stands_last m calls c s)
    keeps_on (Some orders) k = (stands_keep m calls c quiet k.0, subst (λ t. First m t orders) (sym (trace_more calls c ∙ same)) k.1)

  -- a change that is accepted
  ended : (c : Change) → accepted (trace_after calls) c ≡ true → Standing m calls (call.Change c) → ⊥
  ended c is (judged e complete legal) = other (call.Change c) refl e
  ended c is (before s e) = both_ways _ e is

  pub keeps_change : (c : Change) (b : Bool) → accepted (trace_after calls) c ≡ b → (orders : Option (List (List ℕ))) → Keeps m calls orders → Keeps m (calls ++ call.Change c ∷ []) (cond b None orders)
  keeps_change c true is orders k = λ s. ended c is (stands_last m calls (call.Change c) s)
  keeps_change c false is orders k = keeps_on (call.Change c) (λ e _. other (call.Change c) refl e) is (unchanged (trace_after calls) c is) orders k

  -- a verdict
  module _ (s : State) (e : s.trace ≡ trace_after calls) (k : Keeps m calls s.standing) where
    none_legal : (Legal m s.trace → ⊥) → Standing m calls call.Judge → ⊥
    none_legal none (judged _ complete legal) = none (subst (Legal m) (sym e) legal)
    none_legal none (before st _) = none (subst (Legal m) (sym e) (keeps_legal s.standing k st))

    pub keeps_judge : (r : ℕ × ℕ) (u : State) → Judging m s r u → Keeps m (calls ++ call.Judge ∷ []) u.standing
    keeps_judge _ _ (states.refused not) = keeps_on call.Judge (λ _ complete. not (subst Complete (sym e) complete)) refl refl s.standing k
    keeps_judge _ _ (states.legal complete orders first) = (
      stands_new m calls (subst Complete e complete) (orders, (subst (λ t. First m t orders) e first).meets),
      subst (λ t. First m t orders) (e ∙ sym (trace_more calls call.Judge)) first,
    )
    keeps_judge _ _ (states.illegal complete none) = λ h. none_legal none (stands_last m calls call.Judge h)

  -- a view
  pub viewed : (orders : Option (List (List ℕ))) → Keeps m calls orders → (k : ℕ) (slots : List ℕ) (r : ℕ × ℕ) (left : List ℕ)
      → Showing orders k slots r left → Viewed m (trace_after calls) (Stands m calls) k slots r left
  viewed given keeps k slots _ _ (states.unjudged e) = answers.unjudged (subst (Keeps m calls) e keeps)
  viewed given keeps k slots _ _ (states.unviewed orders e not) =
      let kept : Keeps m calls (Some orders) = subst (Keeps m calls) e keeps in
      answers.unviewed kept.0 (λ v. not (subst (λ n. Within 1 n k) (sym kept.1.meets.count) v))
  viewed given keeps k slots _ _ (states.crowded orders e view few) =
      let kept : Keeps m calls (Some orders) = subst (Keeps m calls) e keeps in
      answers.crowded kept.0 (subst (λ n. Within 1 n k) kept.1.meets.count view) orders kept.1 few
  viewed given keeps k slots _ _ (states.shown orders e view room) =
      let kept : Keeps m calls (Some orders) = subst (Keeps m calls) e keeps in
      answers.shown kept.0 (subst (λ n. Within 1 n k) kept.1.meets.count view) orders kept.1 room
