-- One record: what the call that records its operation says of it.
use Rattle.std.proofs.Common.{◌≡◌, ℕ, ◌≤◌, Bool, true, false, cond, ◌&&◌, eqb, ltb, List, [], ◌∷◌, length, is_some, sym, ap, ◌∙◌, arith}
use Rattle.std.proofs.lemmas.Bool.{cond-true, cond-false, le-ltb}
use Rattle.trace.specs.Operations.{Within, within, kind_of, source_fits, capacity}
use Rattle.trace.specs.Traces.{Trace, processor_count, operation_count, empty_trace}
use Rattle.trace.specs.Calls.{record_refusal, record_answer, record_after, size_refusal, size_answer, size_after}
use Rattle.trace.proofs.Accepting.{refusal_told, changes, unfailed}
use Rattle.trace.proofs.Forming.{decides_within}
use Rattle.trace_file.specs.Reading.{record_fault, entered, kind_field, variable_field, source_field, value_field}

module _ (t : Trace) (s : ℕ) (bytes : List ℕ) where
  pub long_fault : 8 ≤ length bytes → record_fault t s bytes ≡ record_refusal t s (kind_field bytes) (variable_field bytes) (source_field bytes)
  long_fault h = cond-false _ _ _ (le-ltb (length bytes) 8 h)

  pub fault_told : 8 ≤ length bytes → (a : ℕ × ℕ) → a ≡ record_answer t s (kind_field bytes) (variable_field bytes) (source_field bytes) → record_fault t s bytes ≡ a.0
  fault_told h a e = long_fault h ∙ sym (refusal_told _ _) ∙ sym (ap (λ (x : ℕ × ℕ). x.0) e)

  pub entered_after : (u : Trace) → 8 ≤ length bytes → record_fault t s bytes ≡ 0 → u ≡ record_after t s (kind_field bytes) (variable_field bytes) (source_field bytes) (value_field bytes) → u ≡ entered t s bytes
  entered_after u h z e = e ∙ sym (changes (entered t s bytes) t (sym (long_fault h) ∙ z))

numbers : (k v s f : Bool) → (r : ℕ) → r ≡ cond k (cond v (cond s (cond f 0 5) 4) 3) 2 → (r ≡ 0 → ⊥) → (r ≡ 2 → ⊥) → (r ≡ 3 → ⊥) → (r ≡ 4 → ⊥) → r ≡ 5
numbers true true true true r e a b d g = absurd (a e)
numbers true true true false r e a b d g = e
numbers true true false f r e a b d g = absurd (g e)
numbers true false s f r e a b d g = absurd (d e)
numbers false v s f r e a b d g = absurd (b e)

pub full_else : (t : Trace) (s : ℕ) (k v q : ℕ) → Within 1 (processor_count t) s → (r : ℕ) → r ≡ record_refusal t s k v q → (r ≡ 0 → ⊥) → (r ≡ 2 → ⊥) → (r ≡ 3 → ⊥) → (r ≡ 4 → ⊥) → r ≡ 5
full_else t s k v q w r e =
    numbers (is_some (kind_of k)) (within 1 t.variables v) (source_fits (processor_count t) k q) (ltb (operation_count t) capacity) r
    (e ∙ cond-true _ _ _ ((decides_within 1 (processor_count t) s).1 w))

-- the size: what the call that sets it says of it
pub size_accepted : (t u : Trace) (p v : ℕ) (a : ℕ × ℕ) → a ≡ size_answer t p v → u ≡ size_after t p v → a.0 ≡ 0 → ((within 1 8 p && within 1 16 v) ≡ true) × (u ≡ empty_trace p v)
size_accepted t u p v a e f z =
    let r : size_refusal t p v ≡ 0 = sym (refusal_told _ _) ∙ sym (ap (λ (x : ℕ × ℕ). x.0) e) ∙ z in
    let w = unfailed ((within 1 8 p && within 1 16 v, 7) ∷ (eqb (operation_count t) 0, 6) ∷ []) (λ n. omega arith, (λ n. omega arith, tt)) r in
    (w.0, f ∙ sym (changes (empty_trace p v) t r))
