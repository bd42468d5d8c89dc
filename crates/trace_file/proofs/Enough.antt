-- No byte past the 530th matters: a file that is right ends before, and any other has its first fault before.
use Rattle.std.proofs.Common.{◌≡◌, ℕ, zero, suc, ◌+◌, ◌-◌, ◌*◌, ◌<◌, ◌≤◌, cond, ◌&&◌, ltb, leb, List, [], ◌∷◌, ◌++◌, length, get_or, take, drop, sym, refl, ap, ◌∙◌, subst, ⊎_elim, arith}
use Rattle.std.proofs.lemmas.List.{length-take, length_push, get_or-take, drop-take}
use Rattle.std.proofs.lemmas.List.Sums.{sum_by-set}
use Rattle.std.proofs.lemmas.Bool.{cases_eq, cases_lt, cases_Bool, cond-true, cond-false, eq-eqb, ne_eqb, lt-ltb, le-ltb, leb-true, and_parts}
use Rattle.trace.specs.declared.operation.Operation.{Operation}
use Rattle.trace.specs.Operations.{number, Within, within, capacity}
use Rattle.trace.specs.Traces.{Trace, processor_count, operation_count, lane_at, empty_trace}
use Rattle.trace.specs.Calls.{operation, appended, record_refusal}
use Rattle.trace.proofs.Lanes.{lane_at_place, empty_count}
use Rattle.trace_file.specs.Reading.{Progress, going, stopped, record_fault, record_of, entered, read_records, read_sections, read_file, and_then, kind_field, variable_field, source_field, value_field}
use Rattle.trace_file.proofs.Entering.{long_fault}
use Rattle.trace_file.proofs.Growing.{tests_passed, tests_processor}
use Rattle.trace_file.proofs.Steps.{good_long}

-- one operation more
count_more : (t : Trace) (s : ℕ) (o : Operation) → Within 1 (processor_count t) s → operation_count (appended t s o) ≡ operation_count t + 1
count_more t s o w =
    omega (
      arith,
      sum_by-set length t.lanes (s - 1) (lane_at t s ++ o ∷ []) [] (omega (arith, w.0, w.1)),
      ap length (lane_at_place t s w.0),
      length_push (lane_at t s) o,
    )

accepted_room : (t : Trace) (s : ℕ) (bytes : List ℕ) → record_fault t s bytes ≡ 0 → Within 1 (processor_count t) s × (operation_count t < capacity)
accepted_room t s bytes z =
    let refusal = sym (long_fault t s bytes (good_long t s bytes z)) ∙ z in
    (tests_processor t s (kind_field bytes) (variable_field bytes) (source_field bytes) refusal, (tests_passed t s (kind_field bytes) (variable_field bytes) (source_field bytes) refusal).room)

-- the record at the front is the same, if eight bytes are left
module _ (m : ℕ) (bytes : List ℕ) (h : 8 ≤ m) where
  same_at : (i : ℕ) → i < 8 → get_or (take m bytes) i 0 ≡ get_or bytes i 0
  same_at i l = get_or-take m bytes i 0 (omega arith)

  kind_same : kind_field (take m bytes) ≡ kind_field bytes
  kind_same = same_at 0 (omega arith)

  variable_same : variable_field (take m bytes) ≡ variable_field bytes
  variable_same = same_at 1 (omega arith)

  source_same : source_field (take m bytes) ≡ source_field bytes
  source_same = λ i. same_at 2 (omega arith) i * 256 + same_at 3 (omega arith) i

  value_same : value_field (take m bytes) ≡ value_field bytes
  value_same = λ i. same_at 4 (omega arith) i * 16777216 + same_at 5 (omega arith) i * 65536 + same_at 6 (omega arith) i * 256 + same_at 7 (omega arith) i

  record_same : record_of (take m bytes) ≡ record_of bytes
  record_same = λ i. operation (kind_same i) (variable_same i) (source_same i) (value_same i)

  short_same : ltb (length (take m bytes)) 8 ≡ ltb (length bytes) 8
  short_same =
      ⊎_elim
      (λ l. lt-ltb (length (take m bytes)) 8 (omega (arith, length-take m bytes)) ∙ sym (lt-ltb (length bytes) 8 l))
      (λ l. le-ltb (length (take m bytes)) 8 (omega (arith, length-take m bytes)) ∙ sym (le-ltb (length bytes) 8 l))
      (cases_lt (length bytes) 8)

  fault_same : (t : Trace) (s : ℕ) → record_fault t s (take m bytes) ≡ record_fault t s bytes
  fault_same t s = λ i. cond (short_same i) 15 (record_refusal t s (kind_same i) (variable_same i) (source_same i))

-- the same outcome, with at least so many bytes left of the cut ones, for later sections and for what may still be recorded
pub data Same (later : ℕ) : Progress → Progress → Type 0 where
  goes : (t : Trace) (rest : List ℕ) (m : ℕ) → operation_count t ≤ 64 → later + 8 * (65 - operation_count t) ≤ m → Same later (going t (take m rest)) (going t rest)
  stops : (n place : ℕ) → Same later (stopped n place) (stopped n place)

module _ (s later : ℕ) where
  records_same : (n : ℕ) (t : Trace) (r m : ℕ) (bytes : List ℕ) → operation_count t ≤ 64 → later + 8 * (65 - operation_count t) ≤ m → Same later (read_records t s r n (take m bytes)) (read_records t s r n bytes)
  records_same zero t r m bytes few h = goes t bytes m few h
  records_same (suc n) t r m bytes few h =
      let eight : 8 ≤ m = omega arith in
      let f = fault_same m bytes eight t s in
      ⊎_elim
      (λ z.
      let a = accepted_room t s bytes z in
      let one = count_more t s (record_of bytes) a.0 in
      let split : 8 + (m - 8) ≡ m = omega arith in
      let tail : drop 8 (take m bytes) ≡ take (m - 8) (drop 8 bytes) = ap (λ k. drop 8 (take k bytes)) (sym split) ∙ drop-take 8 (m - 8) bytes in
      let cut : read_records t s r (suc n) (take m bytes) ≡ read_records (entered t s bytes) s (r + 1) n (take (m - 8) (drop 8 bytes)) =
      cond-true _ _ _ (eq-eqb _ 0 (f ∙ z)) ∙ (λ i. read_records (appended t s (record_same m bytes eight i)) s (r + 1) n (tail i)) in
      let whole : read_records t s r (suc n) bytes ≡ read_records (entered t s bytes) s (r + 1) n (drop 8 bytes) = cond-true _ _ _ (eq-eqb _ 0 z) in
      subst (λ p. Same later p (read_records t s r (suc n) bytes)) (sym cut)
      (subst (Same later (read_records (entered t s bytes) s (r + 1) n (take (m - 8) (drop 8 bytes)))) (sym whole)
      (records_same n (entered t s bytes) (r + 1) (m - 8) (drop 8 bytes) (omega (arith, one, a.1)) (omega (arith, one, a.1, h)))))
      (λ ne.
      let cut : read_records t s r (suc n) (take m bytes) ≡ stopped (record_fault t s bytes) (number s (r + 1)) =
      cond-false _ _ _ (ne_eqb _ 0 (λ z. ne (sym f ∙ z))) ∙ ap (λ k. stopped k (number s (r + 1))) f in
      let whole : read_records t s r (suc n) bytes ≡ stopped (record_fault t s bytes) (number s (r + 1)) = cond-false _ _ _ (ne_eqb _ 0 ne) in
      subst (λ p. Same later p (read_records t s r (suc n) bytes)) (sym cut)
      (subst (Same later (stopped (record_fault t s bytes) (number s (r + 1)))) (sym whole) (stops (record_fault t s bytes) (number s (r + 1)))))
      (cases_eq (record_fault t s bytes) 0)

-- what follows is the same, if the sections that follow are
module _ (n s : ℕ) (follow : (t : Trace) (m : ℕ) (rest : List ℕ) → operation_count t ≤ 64 → n + 8 * (65 - operation_count t) ≤ m → read_sections t s n (take m rest) ≡ read_sections t s n rest) where
  then_same : (p q : Progress) → Same n p q → and_then p (λ u rest. read_sections u s n rest) ≡ and_then q (λ u rest. read_sections u s n rest)
  then_same p q (goes t rest m few h) = follow t m rest few h
  then_same p q (stops k place) = refl

sections_same : (n : ℕ) (t : Trace) (s m : ℕ) (bytes : List ℕ) → operation_count t ≤ 64 → n + 8 * (65 - operation_count t) ≤ m → read_sections t s n (take m bytes) ≡ read_sections t s n bytes
sections_same zero t s zero bytes few h = absurd (omega arith)
sections_same zero t s (suc m) [] few h = refl
sections_same zero t s (suc m) (b ∷ bytes) few h = refl
sections_same (suc n) t s zero bytes few h = absurd (omega arith)
sections_same (suc n) t s (suc m) [] few h = refl
sections_same (suc n) t s (suc m) (k ∷ bytes) few h =
    then_same n (s + 1) (λ u i rest. sections_same n u (s + 1) i rest) _ _ (records_same (s + 1) n k t 0 m bytes few (omega arith))

-- the first 530 bytes decide
pub enough : (bytes : List ℕ) → read_file (take 530 bytes) ≡ read_file bytes
enough [] = refl
enough (b ∷ []) = refl
enough (p ∷ v ∷ rest) =
    let sized = within 1 8 p && within 1 16 v in
    let long : 2 ≤ length (p ∷ v ∷ rest) = omega arith in
    let cut : 2 ≤ length (p ∷ v ∷ take 528 rest) = omega arith in
    cond-false _ _ _ (le-ltb (length (p ∷ v ∷ take 528 rest)) 2 cut)
    ∙ ⊎_elim
    (λ w.
    let high = leb-true p 8 (and_parts (leb 1 p) (leb p 8) (and_parts (within 1 8 p) (within 1 16 v) w).0).1 in
    cond-true _ _ _ w ∙ sections_same p (empty_trace p v) 0 528 rest (omega (arith, empty_count p v)) (omega (arith, empty_count p v, high)) ∙ sym (cond-true _ _ _ w))
    (λ w. cond-false _ _ _ w ∙ sym (cond-false _ _ _ w))
    (cases_Bool sized)
    ∙ sym (cond-false _ _ _ (le-ltb (length (p ∷ v ∷ rest)) 2 long))
