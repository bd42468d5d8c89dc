-- What holds of the answers and of the judge after the calls so far, from one call to the next.
use Rattle.std.proofs.Common.{◌≡◌, ℕ, false, cond, eqb, List, [], ◌∷◌, ◌++◌, None, vec_items, sym, refl, ap, ◌∙◌, subst}
use Rattle.trace_file.specs.declared.changes.Change.{Change}
use Rattle.trace_file.specs.Made.{change_answer, changed}
use Rattle.models.specs.Meaning.{Meaning}
use Rattle.orders.specs.Inspecting.{Inspected}
use Rattle.judge.specs.declared.calls.Call.{Call}
use Rattle.judge.specs.declared.calls.Call.TheVariants as call
use Rattle.judge.specs.declared.calls.Played.{Played}
use Rattle.judge.specs.Answers as answers
use Rattle.judge.specs.Answers.{Judged, Saved, told, Untouched}
use Rattle.judge.specs.Runs.{trace_after, accepted, changes}
use Rattle.judge.specs.Law.{Right}
use Rattle.judge.specs.States as states
use Rattle.judge.specs.Seen.{State}
use Rattle.judge.specs.States.{fresh, Judging, Changing, Plays}
use Rattle.judge.proofs.Standing.{after, trace_more, stands_none}
use Rattle.judge.proofs.Following.{Follows, follows_more}
use Rattle.judge.proofs.Keeping.{Keeps, is_judge, other, keeps_on, keeps_change, keeps_judge, viewed}

-- what holds after the calls so far
pub record Going (m : Meaning) (calls : List Call) (answers : List Played) (s : State) : Type 0 where
  pub follows : Follows m [] calls answers
  pub trace : s.trace ≡ trace_after calls
  pub keeps : Keeps m calls s.standing

pub going_none : (m : Meaning) → Going m [] [] fresh
going_none m = record { follows = tt; trace = refl; keeps = stands_none m }

pub judging_right : (m : Meaning) (s : State) (r : ℕ × ℕ) (u : State) → Judging m s r u → Judged m s.trace r
judging_right m s _ _ (states.refused not) = answers.refused not
judging_right m s _ _ (states.legal complete orders first) = answers.legal complete (orders, first.meets)
judging_right m s _ _ (states.illegal complete none) = answers.illegal complete none

judging_trace : (m : Meaning) (s : State) (r : ℕ × ℕ) (u : State) → Judging m s r u → u.trace ≡ s.trace
judging_trace m s _ _ (states.refused not) = refl
judging_trace m s _ _ (states.legal complete orders first) = refl
judging_trace m s _ _ (states.illegal complete none) = refl

-- one call more
module _ (m : Meaning) (calls : List Call) (answers : List Played) (s : State) (g : Going m calls answers s) (a : Played) where
  going_more : (c : Call) (u : State) → Right m calls c a → u.trace ≡ after (trace_after calls) c → Keeps m (calls ++ c ∷ []) u.standing
      → Going m (calls ++ c ∷ []) (answers ++ a ∷ []) u
  going_more c u right trace keeps =
      record { follows = follows_more m [] calls answers c a g.follows right; trace = trace ∙ sym (trace_more calls c); keeps = keeps }

  -- a call that changes nothing of the judge
  going_told : (c : Call) (u : State) → u ≡ s → is_judge c ≡ false → changes (trace_after calls) c ≡ false → after (trace_after calls) c ≡ trace_after calls
      → Right m calls c a → Going m (calls ++ c ∷ []) (answers ++ a ∷ []) u
  going_told c u e not_judge quiet same right =
      going_more c u right (ap (λ x. x.trace) e ∙ g.trace ∙ sym same)
      (subst (λ x. Keeps m (calls ++ c ∷ []) x.standing) (sym e) (keeps_on m calls c (λ j _. other c not_judge j) quiet same s.standing g.keeps))

  change_more : (c : Change) (u : State) → Changing s c a u → Going m (calls ++ call.Change c ∷ []) (answers ++ a ∷ []) u
  change_more c u h =
      let answer : told a ≡ change_answer (trace_after calls) c = h.answer.answers ∙ ap (λ t. change_answer t c) g.trace in
      let b = accepted (trace_after calls) c in
      let standing : u.standing ≡ cond b None s.standing = ap (λ x. x.standing) h.after ∙ ap (λ r. cond (eqb r.0 0) None s.standing) answer in
      going_more (call.Change c) u (record { answers = answer; leaves = h.answer.leaves })
      (ap (λ x. x.trace) h.after ∙ ap (λ t. changed t c) g.trace)
      (subst (Keeps m (calls ++ call.Change c ∷ [])) (sym standing) (keeps_change m calls c b refl s.standing g.keeps))

  judge_more : (u : State) → Untouched (λ r. Judging m s r u) call.Judge a → Going m (calls ++ call.Judge ∷ []) (answers ++ a ∷ []) u
  judge_more u h =
      let right = subst (λ t. Judged m t (told a)) g.trace (judging_right m s (told a) u h.answers) in
      going_more call.Judge u (record { answers = right; leaves = h.leaves }) (judging_trace m s (told a) u h.answers ∙ g.trace)
      (keeps_judge m calls s g.trace g.keeps (told a) u h.answers)

  pub going_on : (c : Call) (u : State) → Plays m s c a u → Going m (calls ++ c ∷ []) (answers ++ a ∷ []) u
  going_on (call.Change c) u h = change_more c u h
  going_on call.Judge u h = judge_more u h
  going_on (call.View k slots) u h =
      let b = h.answered in
      let right = viewed m calls s.standing g.keeps k (vec_items slots) (told a) (vec_items b.buffer) b.answers in
      going_told (call.View k slots) u h.after refl refl refl (record { buffer = b.buffer; answers = right; leaves = b.leaves })
  going_on (call.Inspect numbers) u h =
      let right = subst (λ t. Inspected m t (vec_items numbers) (told a)) g.trace h.answered.answers in
      going_told (call.Inspect numbers) u h.after refl refl refl (record { answers = right; leaves = h.answered.leaves })
  going_on (call.Save bytes) u h =
      let b = h.answered in
      let right = subst (λ t. Saved t (vec_items bytes) (told a) (vec_items b.buffer)) g.trace b.answers in
      going_told (call.Save bytes) u h.after refl refl refl (record { buffer = b.buffer; answers = right; leaves = b.leaves })
