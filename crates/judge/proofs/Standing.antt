-- What a call more makes of the trace, and of a verdict that stands.
use Rattle.std.proofs.Common.{◌≡◌, ℕ, ◌≤◌, false, List, [], ◌∷◌, ◌++◌, length, take, sym, refl, ap, ◌∙◌, subst, ⊎_elim, arith}
use Rattle.std.proofs.lemmas.List.{take-append-le, take_at}
use Rattle.trace.specs.Traces.{Trace, Complete}
use Rattle.trace_file.specs.Made.{changed, made_from}
use Rattle.models.specs.Meaning.{Meaning}
use Rattle.orders.specs.Orders.{Legal}
use Rattle.judge.specs.declared.calls.Call.{Call}
use Rattle.judge.specs.declared.calls.Call.TheVariants as call
use Rattle.judge.specs.Runs.{changes_in, trace_after, changes, Stands}
use Rattle.judge.proofs.Places.{none_some, nth_within, nth_left, nth_last, place}

-- what a call leaves of a trace
abbrev pub after : Trace → Call → Trace
after t (call.Change c) = changed t c
after t call.Judge = t
after t (call.View k slots) = t
after t (call.Inspect numbers) = t
after t (call.Save bytes) = t

made_more : (t : Trace) (cs : List Call) (c : Call) → made_from t (changes_in (cs ++ c ∷ [])) ≡ after (made_from t (changes_in cs)) c
made_more t [] (call.Change d) = refl
made_more t [] call.Judge = refl
made_more t [] (call.View k slots) = refl
made_more t [] (call.Inspect numbers) = refl
made_more t [] (call.Save bytes) = refl
made_more t (call.Change d ∷ cs) c = made_more (changed t d) cs c
made_more t (call.Judge ∷ cs) c = made_more t cs c
made_more t (call.View k slots ∷ cs) c = made_more t cs c
made_more t (call.Inspect numbers ∷ cs) c = made_more t cs c
made_more t (call.Save bytes ∷ cs) c = made_more t cs c

pub trace_more : (cs : List Call) (c : Call) → trace_after (cs ++ c ∷ []) ≡ after (trace_after cs) c
trace_more cs c = made_more _ cs c

module _ (cs : List Call) (c : Call) where
  -- the trace at an earlier place is that without the last call
  trace_front : (k : ℕ) → k ≤ length cs → trace_after (take k (cs ++ c ∷ [])) ≡ trace_after (take k cs)
  trace_front k h = ap trace_after (take-append-le k cs (c ∷ []) h)

  trace_last : (k : ℕ) → k ≡ length cs → trace_after (take k (cs ++ c ∷ [])) ≡ trace_after cs
  trace_last k e = ap trace_after (take_at cs (c ∷ []) k (sym e))

pub stands_none : (m : Meaning) → Stands m [] → ⊥
stands_none m s = none_some call.Judge s.asked

-- judge, on a trace that is complete and legal
pub stands_new : (m : Meaning) (cs : List Call) → Complete (trace_after cs) → Legal m (trace_after cs) → Stands m (cs ++ call.Judge ∷ [])
stands_new m cs complete legal =
    record {
      since = length cs;
      asked = nth_last cs call.Judge;
      complete = subst Complete (sym (trace_last cs call.Judge (length cs) refl)) complete;
      legal = subst (Legal m) (sym (trace_last cs call.Judge (length cs) refl)) legal;
      kept =
          λ j d lt e. ⊎_elim (λ h. absurd (omega (arith, h.0, lt))) (λ h. absurd (omega (arith, h.0, lt))) (place cs call.Judge j d e);
    }

-- the last call judged such a trace, or a verdict stood before it and it changed nothing
pub data Standing (m : Meaning) (cs : List Call) (c : Call) : Type 0 where
  judged : c ≡ call.Judge → Complete (trace_after cs) → Legal m (trace_after cs) → Standing m cs c
  before : Stands m cs → changes (trace_after cs) c ≡ false → Standing m cs c

module _ (m : Meaning) (cs : List Call) (c : Call) where
  -- a call that changes nothing
  pub stands_keep : changes (trace_after cs) c ≡ false → Stands m cs → Stands m (cs ++ c ∷ [])
  stands_keep quiet s =
      let at = s.since in
      let within = nth_within cs at call.Judge s.asked in
      let front = trace_front cs c at (omega arith) in
      record {
        since = at;
        asked = nth_left cs (c ∷ []) at within ∙ s.asked;
        complete = subst Complete (sym front) s.complete;
        legal = subst (Legal m) (sym front) s.legal;
        kept =
            λ j d lt e.
            ⊎_elim
            (λ h. subst (λ t. changes t d ≡ false) (sym (trace_front cs c j (omega (arith, h.0)))) (s.kept j d lt h.1))
            (λ h. subst (λ t. changes t d ≡ false) (sym (trace_last cs c j h.0)) (subst (λ x. changes (trace_after cs) x ≡ false) h.1 quiet))
            (place cs c j d e);
      }

  pub stands_last : Stands m (cs ++ c ∷ []) → Standing m cs c
  stands_last s =
      let at = s.since in
      ⊎_elim
      (λ h.
      let front = trace_front cs c at (omega (arith, h.0)) in
      before
      (record {
        since = at;
        asked = h.1;
        complete = subst Complete front s.complete;
        legal = subst (Legal m) front s.legal;
        kept =
            λ j d lt e.
            let within = nth_within cs j d e in
            subst (λ t. changes t d ≡ false) (trace_front cs c j (omega (arith, within))) (s.kept j d lt (nth_left cs (c ∷ []) j within ∙ e));
      })
      (subst (λ t. changes t c ≡ false) (trace_last cs c (length cs) refl) (s.kept (length cs) c h.0 (nth_last cs c))))
      (λ h. judged h.1 (subst Complete (trace_last cs c at h.0) s.complete) (subst (Legal m) (trace_last cs c at h.0) s.legal))
      (place cs c at call.Judge s.asked)
