-- What a table keeps true stays true when a lane is changed.
use Rattle.std.proofs.Common.{◌≡◌, ℕ, zero, suc, ◌+◌, ◌-◌, ◌<◌, ◌≤◌, List, [], ◌∷◌, ◌++◌, length, take, replicate, is_some, true, cond, nat_lt, sym, ap, ◌∙◌, subst, arith}
use Rattle.std.specs.List.{AllByRecursion, slice_get}
use Rattle.std.proofs.ByRecursion.{All-get_or, All-set, All-push, All-take}
use Rattle.std.proofs.lemmas.List.{length-set, length-take, length_push, length-replicate}
use Rattle.std.proofs.lemmas.Bool.{false≢true, lt-ltb, cond-true}
use Rattle.std.proofs.lemmas.List.Sums.{sum_by-set, get_or-le-sum_by}
use Rattle.trace.specs.declared.operation.Operation.{Operation}
use Rattle.trace.specs.Operations.{Within, Fitting}
use Rattle.trace.specs.Tables.{Kept}
use Rattle.trace.specs.Traces.{Trace, processor_count, operation_count, lane_at, empty_trace}
use Rattle.trace.specs.Calls.{with_lane, appended, shortened}
use Rattle.trace.proofs.Lanes.{lane_at_place, empty_count}

no_operations : (p v n : ℕ) → AllByRecursion (AllByRecursion (Fitting p v)) (replicate n [])
no_operations p v zero = tt
no_operations p v (suc n) = (tt, no_operations p v n)

pub kept_empty : (p v : ℕ) → Within 1 8 p → Within 1 16 v → Kept 0 (empty_trace p v)
kept_empty p v some wide =
    let count = empty_count p v in
    record {
      formed = record {
        processors = subst (Within 1 8) (sym (length-replicate p [])) some;
        variables = wide;
        few = omega (arith, count);
        operations = no_operations (processor_count (empty_trace p v)) v p;
      };
      counted = sym count;
    }

pub some_last : {A : Type 0} (xs : List A) → is_some (slice_get xs (length xs - 1)) ≡ true → 0 < length xs
some_last [] e = absurd (false≢true e)
some_last (x ∷ xs) e = omega arith

module _ (n : ℕ) (t : Trace) (kept : Kept n t) (p : ℕ) (there : Within 1 (processor_count t) p) where
  Fit : List Operation → Type 0
  Fit = AllByRecursion (Fitting (processor_count t) t.variables)

  place : p - 1 < length t.lanes
  place = omega (arith, there.0, there.1)

  lane_few : length (lane_at t p) ≤ n
  lane_few = omega (arith, ap length (lane_at_place t p there.0), kept.counted, get_or-le-sum_by length t.lanes (p - 1) [] place)

  -- a lane has room while the table has
  pub pushed_lane : (lane more : List Operation) (o : Operation) → n < 64 → lane ≡ lane_at t p
      → more ≡ cond (nat_lt (length lane) 64) (lane ++ o ∷ []) lane → more ≡ lane_at t p ++ o ∷ []
  pushed_lane lane more o room same e =
      e ∙ cond-true _ _ _ (lt-ltb (length lane) 64 (omega (arith, ap length same, lane_few))) ∙ ap (λ l. l ++ o ∷ []) same

  lane_fit : Fit (lane_at t p)
  unfolding Fit
  lane_fit = subst Fit (sym (lane_at_place t p there.0)) (All-get_or Fit t.lanes (p - 1) [] place kept.formed.operations)

  kept_lane : (lane : List Operation) (m : ℕ) → Fit lane → m ≤ 64 → m + length (lane_at t p) ≡ n + length lane → Kept m (with_lane t p lane)
  unfolding Fit
  kept_lane lane m fit few counted =
      let same : processor_count (with_lane t p lane) ≡ processor_count t = length-set t.lanes (p - 1) lane in
      let sum = sum_by-set length t.lanes (p - 1) lane [] place in
      let total : m ≡ operation_count (with_lane t p lane) = omega (arith, sum, ap length (lane_at_place t p there.0), kept.counted, counted) in
      record {
        formed = record {
          processors = subst (Within 1 8) (sym same) kept.formed.processors;
          variables = kept.formed.variables;
          few = omega (arith, total, few);
          operations = subst (λ k. AllByRecursion (AllByRecursion (Fitting k t.variables)) (with_lane t p lane).lanes) (sym same)
              (All-set Fit t.lanes (p - 1) lane fit kept.formed.operations);
        };
        counted = total;
      }

  pub kept_push : (o : Operation) → n < 64 → Fitting (processor_count t) t.variables o → Kept (n + 1) (appended t p o)
  unfolding Fit
  kept_push o room fit =
      kept_lane (lane_at t p ++ o ∷ []) (n + 1) (All-push (Fitting (processor_count t) t.variables) (lane_at t p) o lane_fit fit) (omega arith)
      (omega (arith, length_push (lane_at t p) o))

  pub kept_pop : 0 < length (lane_at t p) → Kept (n - 1) (shortened t p)
  unfolding Fit
  kept_pop some =
      kept_lane (take (length (lane_at t p) - 1) (lane_at t p)) (n - 1) (All-take (Fitting (processor_count t) t.variables) (length (lane_at t p) - 1) (lane_at t p) lane_fit)
      (omega (arith, kept.formed.few, kept.counted))
      (omega (arith, length-take (length (lane_at t p) - 1) (lane_at t p), lane_few))
