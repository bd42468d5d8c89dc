-- A trace that calls have made is a prefix of what later calls make of it, while nothing is taken away.
use Rattle.std.proofs.Common.{◌≡◌, ℕ, zero, suc, ◌+◌, ◌-◌, ◌<◌, ◌≤◌, false, eqb, List, [], ◌∷◌, ◌++◌, length, get_or, take, replicate, is_some, Some, None, sym, refl, ap, ◌∙◌, subst, ⊎_elim, add-zero, add-suc, arith}
use Rattle.std.specs.List.{slice_get}
use Rattle.std.proofs.lemmas.List.{append-nil, append_assoc, length-append, length-set, length-replicate, get_or-replicate, get_or-set_same, get_or-set_other, get_or_past, nil_from_length}
use Rattle.std.proofs.lemmas.List.Sums.{get_or-le-sum_by}
use Rattle.std.proofs.lemmas.Bool.{false≢true, cond_both, cases_lt, cases_eq}
use Rattle.trace.specs.declared.operation.Operation.{Operation}
use Rattle.trace.specs.Operations.{processor_of, position_of}
use Rattle.trace.specs.Traces.{Trace, processor_count, operation_count, lane_at, positioned, There, Prefix, empty_trace}
use Rattle.trace.specs.Calls.{operation, appended, size_refusal, record_refusal}
use Rattle.trace_file.specs.declared.changes.Change.{Change}
use Rattle.trace_file.specs.declared.changes.Change.TheVariants.{Size, Record, Strike, Load}
use Rattle.trace_file.specs.Made.{changed}
use Rattle.models.specs.Meaning.{Meaning, Laws}
use Rattle.orders.specs.Orders.{view_at, Explains, Legal}
use Rattle.judge.specs.declared.calls.Call.{Call}
use Rattle.judge.specs.declared.calls.Call.TheVariants as call
use Rattle.judge.specs.Runs.{trace_after, removes}
use Rattle.judge.proofs.Places.{take_next}
use Rattle.judge.proofs.Refusals.{unchanged, size_empty, record_there}
use Rattle.judge.proofs.Standing.{after, trace_more}

-- prefixes

pub prefix_same : (t : Trace) → Prefix t t
prefix_same t = record { variables = refl; processors = refl; lanes = λ p. ([], sym (append-nil (lane_at t p))) }

prefix_trans : (t u v : Trace) → Prefix t u → Prefix u v → Prefix t v
prefix_trans t u v p q =
    record {
      variables = p.variables ∙ q.variables;
      processors = p.processors ∙ q.processors;
      lanes =
          λ k. (
            (p.lanes k).0 ++ (q.lanes k).0,
            (q.lanes k).1 ∙ ap (λ l. l ++ (q.lanes k).0) (p.lanes k).1 ∙ append_assoc (lane_at t k) (p.lanes k).0 (q.lanes k).0,
          );
    }

-- one operation more at the end of a lane that is there

module _ (t : Trace) (p : ℕ) (o : Operation) (low : 1 ≤ p) (there : p - 1 < length t.lanes) where
  lane_appended : (q : ℕ) → (rest : List Operation) × (lane_at (appended t p o) q ≡ lane_at t q ++ rest)
  lane_appended zero = ([], refl)
  lane_appended (suc q) =
      ⊎_elim
      (λ e.
      let same : suc q ≡ p = omega (arith, e, low) in
      (o ∷ [], ap (λ k. get_or (appended t p o).lanes k []) e ∙ get_or-set_same t.lanes (p - 1) _ [] there ∙ ap (λ k. lane_at t k ++ o ∷ []) (sym same)))
      (λ ne. ([], get_or-set_other t.lanes (p - 1) q _ [] ne ∙ sym (append-nil (get_or t.lanes q []))))
      (cases_eq q (p - 1))

  prefix_appended : Prefix t (appended t p o)
  prefix_appended = record { variables = refl; processors = sym (length-set t.lanes (p - 1) _); lanes = lane_appended }

-- a trace with no operations is legal

module _ {X : Type 0} where
  nil_parts : (before after : List X) (x : X) → [] ≡ before ++ x ∷ after → ⊥
  nil_parts [] after x e = let h : 0 ≡ suc (length after) = ap length e in omega (arith, h)
  nil_parts (y ∷ before) after x e = let h : 0 ≡ suc (length (before ++ x ∷ after)) = ap length e in omega (arith, h)

nothing_there : (t : Trace) → ((p : ℕ) → lane_at t p ≡ []) → (i : ℕ) → There t i → ⊥
nothing_there t none i there =
    false≢true (sym (ap is_some (by (position_of i))) ∙ ap (λ l. is_some (positioned l (position_of i))) (sym (none (processor_of i))) ∙ there)
  where
    by : (q : ℕ) → positioned [] q ≡ None
    by zero = refl
    by (suc q) = refl

module _ (m : Meaning) (laws : Laws m) (t : Trace) (none : (p : ℕ) → lane_at t p ≡ []) where
  nothing_explains : (k : ℕ) → Explains m t k []
  nothing_explains k =
      record {
        exact =
            record {
              only = λ i s. absurd (nil_parts s.before s.after i s.is);
              every = λ i h. absurd (nothing_there t none i (laws.held t k i h).1);
              once = λ before after i e s. absurd (nil_parts before after i e);
            };
        ordered = λ before after j e i b h. absurd (nil_parts before after j e);
        seeing = λ before after j e r is reads. absurd (nil_parts before after j e);
      }

  no_lists : (n k : ℕ) → view_at (replicate n []) k ≡ []
  no_lists n zero = refl
  no_lists n (suc k) =
      ⊎_elim
      (λ lt. get_or-replicate n k [] [] lt)
      (λ ge. get_or_past (replicate n []) k [] (let h = length-replicate {A = List ℕ} n [] in omega (arith, h, ge)))
      (cases_lt k n)

  legal_empty : Legal m t
  legal_empty =
      let n = m.views (processor_count t) t.variables in (
        replicate n [],
        record {
          count = length-replicate n [];
          each = λ k v. subst (Explains m t k) (sym (no_lists n k)) (nothing_explains k);
          agree = λ a b va vb i j alike hi hj e. absurd (nothing_there t none i (laws.held t b i hi).1);
        },
      )

-- a trace without operations has only prefixes without operations
lanes_empty : (t : Trace) → operation_count t ≡ 0 → (p : ℕ) → lane_at t p ≡ []
lanes_empty t e zero = refl
lanes_empty t e (suc p) =
    ⊎_elim
    (λ lt. let h = get_or-le-sum_by length t.lanes p [] lt in nil_from_length _ (omega (arith, h, e)))
    (λ ge. get_or_past t.lanes p [] ge)
    (cases_lt p (length t.lanes))

prefix_empty : (t u : Trace) → Prefix t u → ((p : ℕ) → lane_at u p ≡ []) → (p : ℕ) → lane_at t p ≡ []
prefix_empty t u pre none p =
    let e : 0 ≡ length (lane_at t p ++ (pre.lanes p).0) = ap length (sym (none p) ∙ (pre.lanes p).1) in
    nil_from_length _ (omega (arith, e, length-append (lane_at t p) (pre.lanes p).0))

-- an illegal trace stays a prefix, call by call
module _ (m : Meaning) (laws : Laws m) (t : Trace) (illegal : Legal m t → ⊥) where
  change_grows : (u : Trace) → Prefix t u → (c : Change) → removes u (call.Change c) ≡ false → Prefix t (changed u c)
  change_grows u pre (Size p v) e =
      cond_both (eqb (size_refusal u p v) 0) (empty_trace p v) u (Prefix t)
      (λ y. absurd (illegal (legal_empty m laws t (prefix_empty t u pre (lanes_empty u (size_empty u p v y))))))
      (λ _. pre)
  change_grows u pre (Record p k v s x) e =
      cond_both (eqb (record_refusal u p k v s) 0) (appended u p (operation k v s x)) u (Prefix t)
      (λ y.
      let there = record_there u p k v s y in
      prefix_trans t u _ pre (prefix_appended u p (operation k v s x) there.0 (omega (arith, there.0, there.1))))
      (λ _. pre)
  change_grows u pre (Strike p) e = subst (Prefix t) (sym (unchanged u (Strike p) e)) pre
  change_grows u pre (Load bytes) e = subst (Prefix t) (sym (unchanged u (Load bytes) e)) pre

  call_grows : (u : Trace) → Prefix t u → (c : Call) → removes u c ≡ false → Prefix t (after u c)
  call_grows u pre (call.Change c) e = change_grows u pre c e
  call_grows u pre call.Judge e = pre
  call_grows u pre (call.View k slots) e = pre
  call_grows u pre (call.Inspect numbers) e = pre
  call_grows u pre (call.Save bytes) e = pre

  -- and over a run of them
  pub run_grows : (calls : List Call) (n d : ℕ) → Prefix t (trace_after (take n calls))
      → ((j : ℕ) (c : Call) → n ≤ j → j < n + d → slice_get calls j ≡ Some c → removes (trace_after (take j calls)) c ≡ false)
      → Prefix t (trace_after (take (n + d) calls))
  run_grows calls n zero pre quiet = subst (λ k. Prefix t (trace_after (take k calls))) (sym (add-zero n)) pre
  run_grows calls n (suc d) pre quiet =
      let before = run_grows calls n d pre (λ j c ge lt e. quiet j c ge (omega arith) e) in
      subst (λ k. Prefix t (trace_after (take k calls))) (sym (add-suc n d))
      (⊎_elim
      (λ h.
      subst (Prefix t) (sym (ap trace_after h.2 ∙ trace_more (take (n + d) calls) h.0))
      (call_grows (trace_after (take (n + d) calls)) before h.0 (quiet (n + d) h.0 (omega arith) (omega arith) h.1)))
      (λ e. subst (λ l. Prefix t (trace_after l)) (sym e) before)
      (take_next calls (n + d)))
