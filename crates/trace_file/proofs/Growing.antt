-- The trace that has been told, and how it grows by one operation.
use Rattle.std.proofs.Common.{◌≡◌, ℕ, ◌+◌, ◌-◌, ◌^◌, ◌<◌, ◌≤◌, true, ltb, List, [], ◌∷◌, ◌++◌, length, get_or, set, replicate, is_some, sum_by, sym, refl, ap, ◌∙◌, subst, arith}
use Rattle.std.specs.List.{AllByRecursion}
use Rattle.std.proofs.lemmas.List.{length-set, length_push, length-append, get_or_at, set_at}
use Rattle.std.proofs.lemmas.List.Sums.{sum_by-set}
use Rattle.std.proofs.lemmas.Bool.{ltb-true, lt-ltb, and_from}
use Rattle.trace.specs.declared.operation.Operation.{Operation}
use Rattle.trace.specs.declared.operation.Kind.TheVariants.{Read}
use Rattle.trace.specs.Operations.{kind_of, Within, within, source_fits, capacity, Fitting, fitting}
use Rattle.trace.specs.Traces.{Trace, processor_count, operation_count, lane_at, WellFormed, lane_fits, lanes_fit}
use Rattle.trace.specs.Calls.{operation, appended, record_refusal}
use Rattle.trace.proofs.Accepting.{unfailed, none_failed}
use Rattle.trace.proofs.Fits.{fits_push, fits_set, fits_at}
use Rattle.trace.proofs.Forming.{decides_lanes, decides_within}
use Rattle.trace.proofs.Lanes.{lane_at_place}
use Rattle.trace.proofs.Numbers.{number_back}
use Rattle.trace_file.specs.FirstFaults.{told}

-- lanes that make a well-formed trace of p processors and v variables
pub record Good (p v : ℕ) (lanes : List (List Operation)) : Type 0 where
  pub count : length lanes ≡ p
  pub fit : lanes_fit p v lanes ≡ true
  pub few : sum_by length lanes ≤ capacity

pub good_formed : (p v : ℕ) (lanes : List (List Operation)) → Within 1 8 p → Within 1 16 v → Good p v lanes → WellFormed (record { variables = v; lanes = lanes })
good_formed p v lanes wp wv g =
    record {
      processors = subst (Within 1 8) (sym g.count) wp;
      variables = wv;
      few = g.few;
      operations = subst (λ n. AllByRecursion (AllByRecursion (Fitting n v)) lanes) (sym g.count) ((decides_lanes p v lanes).0 g.fit);
    }

pub formed_good : (t : Trace) → WellFormed t → Good (processor_count t) t.variables t.lanes
formed_good t w = record { count = refl; fit = (decides_lanes (processor_count t) t.variables t.lanes).1 w.operations; few = w.few }

-- the lane that is begun
module _ (v : ℕ) (whole : List (List Operation)) (lane : List Operation) (empty : ℕ) where
  pub begun_lane : lane_at (told v whole lane empty) (length whole + 1) ≡ lane
  begun_lane =
      let e : length whole + 1 - 1 ≡ length whole = omega arith in
      lane_at_place (told v whole lane empty) (length whole + 1) (omega arith)
      ∙ ap (λ i. get_or (whole ++ lane ∷ replicate empty []) i []) e
      ∙ get_or_at whole lane (replicate empty []) [] (length whole) refl

  pub begun_set : (l : List Operation) → set (whole ++ lane ∷ replicate empty []) (length whole) l ≡ whole ++ l ∷ replicate empty []
  begun_set l = set_at whole lane (replicate empty []) l (length whole) refl

  pub told_more : (o : Operation) → appended (told v whole lane empty) (length whole + 1) o ≡ told v whole (lane ++ o ∷ []) empty
  told_more o =
      let e : length whole + 1 - 1 ≡ length whole = omega arith in
      (λ i. record { variables = v; lanes = set (whole ++ lane ∷ replicate empty []) (e i) (begun_lane i ++ o ∷ []) })
      ∙ ap (λ ls. record { variables = v; lanes = ls }) (begun_set (lane ++ o ∷ []))

  module _ (p : ℕ) (g : Good p v (whole ++ lane ∷ replicate empty [])) where
    lanes : List (List Operation)
    lanes = whole ++ lane ∷ replicate empty []

    inside : length whole < length (whole ++ lane ∷ replicate empty [])
    inside = omega (arith, length-append whole (lane ∷ replicate empty []))

    pub begun_fits : lane_fits p v lane ≡ true
    begun_fits =
        sym (ap (lane_fits p v) (get_or_at whole lane (replicate empty []) [] (length whole) refl))
        ∙ fits_at p v (whole ++ lane ∷ replicate empty []) (length whole) inside g.fit

    pub good_more : (o : Operation) → fitting p v o ≡ true → sum_by length (whole ++ lane ∷ replicate empty []) < capacity → Good p v (whole ++ (lane ++ o ∷ []) ∷ replicate empty [])
    good_more o f room =
        subst (Good p v) (begun_set (lane ++ o ∷ []))
        (record {
          count = length-set (whole ++ lane ∷ replicate empty []) (length whole) (lane ++ o ∷ []) ∙ g.count;
          fit = fits_set p v (whole ++ lane ∷ replicate empty []) (length whole) (lane ++ o ∷ []) g.fit (fits_push p v lane o begun_fits f);
          few = omega (
            arith,
            sum_by-set length (whole ++ lane ∷ replicate empty []) (length whole) (lane ++ o ∷ []) [] inside,
            ap length (get_or_at whole lane (replicate empty []) [] (length whole) refl),
            length_push lane o,
          );
        })

-- what it says of an operation that the call to record it is accepted, and the other way

pub record Accepted (t : Trace) (k v s : ℕ) : Type 0 where
  pub kind : is_some (kind_of k) ≡ true
  pub variable : within 1 t.variables v ≡ true
  pub source : source_fits (processor_count t) k s ≡ true
  pub room : operation_count t < capacity

module _ (t : Trace) (p k v s : ℕ) where
  passed : record_refusal t p k v s ≡ 0 → (within 1 (processor_count t) p ≡ true) × ((is_some (kind_of k) ≡ true) × ((within 1 t.variables v ≡ true) × ((source_fits (processor_count t) k s ≡ true) × ((ltb (operation_count t) capacity ≡ true) × Unit {0}))))
  passed z =
      unfailed ((within 1 (processor_count t) p, 1) ∷ (is_some (kind_of k), 2) ∷ (within 1 t.variables v, 3) ∷ (source_fits (processor_count t) k s, 4) ∷ (ltb (operation_count t) capacity, 5) ∷ [])
      (λ n. omega arith, (λ n. omega arith, (λ n. omega arith, (λ n. omega arith, (λ n. omega arith, tt))))) z

  pub tests_processor : record_refusal t p k v s ≡ 0 → Within 1 (processor_count t) p
  tests_processor z = (decides_within 1 (processor_count t) p).0 (passed z).0

  pub tests_passed : record_refusal t p k v s ≡ 0 → Accepted t k v s
  tests_passed z =
      let w = (passed z).1 in
      record { kind = w.0; variable = w.1.0; source = w.1.1.0; room = ltb-true (operation_count t) capacity w.1.1.1.0 }

  pub tests_pass : Within 1 (processor_count t) p → Accepted t k v s → record_refusal t p k v s ≡ 0
  tests_pass w a =
      none_failed ((within 1 (processor_count t) p, 1) ∷ (is_some (kind_of k), 2) ∷ (within 1 t.variables v, 3) ∷ (source_fits (processor_count t) k s, 4) ∷ (ltb (operation_count t) capacity, 5) ∷ [])
      ((decides_within 1 (processor_count t) p).1 w, (a.kind, (a.variable, (a.source, (lt-ltb (operation_count t) capacity a.room, tt)))))

  pub accepted_fits : (x : ℕ) → Accepted t k v s → x < 2 ^ 32 → fitting (processor_count t) t.variables (operation k v s x) ≡ true
  accepted_fits x a h =
      and_from _ _ a.variable
      (and_from _ _ (ap (λ n. source_fits (processor_count t) n s) (number_back k Read a.kind) ∙ a.source) (lt-ltb x (2 ^ 32) h))
