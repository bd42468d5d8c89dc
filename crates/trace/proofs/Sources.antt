-- The completeness answer decides completeness, and names the first read at fault.
use Rattle.std.proofs.Common.{◌≡◌, ℕ, zero, suc, ◌+◌, ◌-◌, ◌*◌, ◌<◌, ◌≤◌, Bool, true, false, cond, eqb, [], ◌∷◌, Some, None, Decides, Option, sym, refl, ap, ◌∙◌, subst, inl, inr, ⊎_elim, arith}
use Rattle.std.proofs.lemmas.Bool.{eqb-true, eq-eqb, cases_eq, cases_lt, cases_Bool, cond-true, cond-false, ne_eqb}
use Rattle.trace.specs.declared.operation.Operation.{Operation}
use Rattle.trace.specs.Operations.{is_read, is_write}
use Rattle.trace.specs.Traces.{Trace, processor_count, operation_at, Saw, Sourced, Complete}
use Rattle.trace.specs.Calls.{first_failed}
use Rattle.trace.specs.Completeness.{against_write, source_refusal, read_refusal, refusal_at, first_refusal, completeness_answer, FirstUnfit}
use Rattle.trace.proofs.Accepting.{unfailed}
use Rattle.trace.proofs.Lanes.{nowhere_below, nowhere_past}

-- a run of numbers, scanned for its first refusal
pub data Scanned (t : Trace) (low high : ℕ) : ℕ × ℕ → Type 0 where
  nothing : ((j : ℕ) → low ≤ j → j < high → refusal_at t j ≡ 0) → Scanned t low high (0, 0)
  first : {n i : ℕ} → (n ≡ 0 → ⊥) → refusal_at t i ≡ n → ((j : ℕ) → low ≤ j → j < i → refusal_at t j ≡ 0) → Scanned t low high (n, i)

later : (t : Trace) (low high : ℕ) (a : ℕ × ℕ) → refusal_at t low ≡ 0 → Scanned t (low + 1) high a → Scanned t low high a
later t low high a z (nothing f) = nothing (λ j l h. ⊎_elim (λ e. subst (λ k. refusal_at t k ≡ 0) (sym e) z) (λ ne. f j (omega arith) h) (cases_eq j low))
later t low high a z (first ne e f) = first ne e (λ j l h. ⊎_elim (λ s. subst (λ k. refusal_at t k ≡ 0) (sym s) z) (λ s. f j (omega arith) h) (cases_eq j low))

here : (t : Trace) (low high : ℕ) → (refusal_at t low ≡ 0 → ⊥) → Scanned t low high (refusal_at t low, low)
here t low high ne = first ne refl (λ j l h. absurd (omega arith))

scanned : (t : Trace) (low n : ℕ) → Scanned t low (low + n) (first_refusal t low n)
scanned t low zero = nothing (λ j l h. absurd (omega arith))
scanned t low (suc n) =
    ⊎_elim
    (λ e. subst (Scanned t low (low + suc n)) (sym (cond-true _ _ _ (eq-eqb _ 0 e)))
    (later t low (low + suc n) _ e (subst (λ k. Scanned t (low + 1) k (first_refusal t (low + 1) n)) (omega arith) (scanned t (low + 1) n))))
    (λ ne. subst (Scanned t low (low + suc n)) (sym (cond-false _ _ _ (ne_eqb _ 0 ne))) (here t low (low + suc n) ne))
    (cases_eq (refusal_at t low) 0)

-- the steps of a loop that scans up to an end

module _ (t : Trace) (i end : ℕ) where
  one_less : i < end → end - i ≡ suc (end - (i + 1))
  one_less h = omega arith

  pub first_skip : i < end → refusal_at t i ≡ 0 → first_refusal t i (end - i) ≡ first_refusal t (i + 1) (end - (i + 1))
  first_skip h z = ap (first_refusal t i) (one_less h) ∙ cond-true _ _ _ (eq-eqb _ 0 z)

  pub first_stop : i < end → (refusal_at t i ≡ 0 → ⊥) → first_refusal t i (end - i) ≡ (refusal_at t i, i)
  first_stop h ne = ap (first_refusal t i) (one_less h) ∙ cond-false _ _ _ (ne_eqb _ 0 ne)

  pub first_end : end ≤ i → first_refusal t i (end - i) ≡ (0, 0)
  first_end h = let z : end - i ≡ 0 = omega arith in ap (first_refusal t i) z

none_below : (t : Trace) (i : ℕ) → i < 101 → refusal_at t i ≡ 0
none_below t i h = ap (read_refusal t) (nowhere_below t i h)

none_past : (t : Trace) (i : ℕ) → 101 + 100 * processor_count t ≤ i → refusal_at t i ≡ 0
none_past t i h = ap (read_refusal t) (nowhere_past t i h)

-- a read without a refusal is sourced, and the other way

none_and_some : {o : Operation} → None ≡ Some o → ⊥
none_and_some e = let z : ◌≡◌ {A = ℕ} 0 1 = cc in omega arith

passed : (a b d : Bool) → first_failed ((a, 9) ∷ (b, 10) ∷ (d, 11) ∷ []) ≡ 0 → (a ≡ true) × ((b ≡ true) × ((d ≡ true) × Unit {0}))
passed a b d e = unfailed ((a, 9) ∷ (b, 10) ∷ (d, 11) ∷ []) (λ z. omega arith, (λ z. omega arith, (λ z. omega arith, tt))) e

module _ (t : Trace) (r : Operation) where
  saw : (o : Option Operation) → operation_at t r.source ≡ o → against_write r o ≡ 0 → (w : Operation) × Saw t r w
  saw None e z = absurd (omega (arith, z))
  saw (Some w) e z =
      let p = passed (is_write w) (eqb w.variable r.variable) (eqb w.value r.value) z in
      (w, record { there = e; write = p.0; variable = eqb-true _ _ p.1.0; value = eqb-true _ _ p.1.1.0 })

  started : (b : Bool) → ◌≡◌ {A = ℕ} (cond b 0 11) 0 → b ≡ true
  started true e = refl
  started false e = absurd (omega (arith, e))

  pub sourced : source_refusal t r ≡ 0 → Sourced t r
  sourced z =
      ⊎_elim
      (λ e. inl (e, eqb-true _ _ (started _ (sym (cond-true _ _ _ (eq-eqb _ 0 e)) ∙ z))))
      (λ ne. inr (saw (operation_at t r.source) refl (sym (cond-false _ _ _ (ne_eqb _ 0 ne)) ∙ z)))
      (cases_eq r.source 0)

  pub unrefused : Sourced t r → source_refusal t r ≡ 0
  unrefused (inl (e, v)) = cond-true _ _ _ (eq-eqb _ 0 e) ∙ cond-true _ _ _ (eq-eqb _ _ v)
  unrefused (inr (w, s)) =
      let ne : r.source ≡ 0 → ⊥ = λ z. none_and_some (sym (ap (operation_at t) z) ∙ s.there) in
      cond-false _ _ _ (ne_eqb _ 0 ne)
      ∙ ap (against_write r) s.there
      ∙ cond-true _ _ _ s.write
      ∙ cond-true _ _ _ (eq-eqb _ _ s.variable)
      ∙ cond-true _ _ _ (eq-eqb _ _ s.value)

-- the answer for the whole trace

module _ (t : Trace) where
  everywhere : ((j : ℕ) → 101 ≤ j → j < 101 + 100 * processor_count t → refusal_at t j ≡ 0) → (j : ℕ) → refusal_at t j ≡ 0
  everywhere f j =
      ⊎_elim (none_below t j)
      (λ low. ⊎_elim (f j low) (none_past t j) (cases_lt j (101 + 100 * processor_count t)))
      (cases_lt j 101)

  complete : ((j : ℕ) → refusal_at t j ≡ 0) → Complete t
  complete f i r e k = sourced t r (sym (ap (read_refusal t) e ∙ cond-true _ _ _ k) ∙ f i)

  silent : Complete t → (i : ℕ) (o : Option Operation) → operation_at t i ≡ o → read_refusal t o ≡ 0
  silent h i None e = refl
  silent h i (Some o) e = ⊎_elim (λ k. cond-true _ _ _ k ∙ unrefused t o (h i o e k)) (λ k. cond-false _ _ _ k) (cases_Bool (is_read o))

  decided : (a : ℕ × ℕ) → Scanned t 101 (101 + 100 * processor_count t) a → Decides (eqb a.0 0) (Complete t)
  decided a (nothing f) = (λ _. complete (everywhere f), λ _. refl)
  decided a (first {n} {i} ne e f) =
      (λ b. absurd (ne (eqb-true n 0 b)), λ h. absurd (ne (sym e ∙ silent h i (operation_at t i) refl)))

  lowest : (a : ℕ × ℕ) → Scanned t 101 (101 + 100 * processor_count t) a → (a.0 ≡ 0 → ⊥) → FirstUnfit t a.0 a.1
  lowest a (nothing f) ne = absurd (ne refl)
  lowest a (first {n} {i} _ e f) ne =
      record { unfit = e; before = λ j h. ⊎_elim (none_below t j) (λ low. f j low h) (cases_lt j 101) }

  pub decides_complete : (a : ℕ × ℕ) → a ≡ completeness_answer t → Decides (eqb a.0 0) (Complete t)
  decides_complete a e = decided a (subst (Scanned t 101 (101 + 100 * processor_count t)) (sym e) (scanned t 101 (100 * processor_count t)))

  pub first_unfit : (a : ℕ × ℕ) → a ≡ completeness_answer t → (a.0 ≡ 0 → ⊥) → FirstUnfit t a.0 a.1
  first_unfit a e = lowest a (subst (Scanned t 101 (101 + 100 * processor_count t)) (sym e) (scanned t 101 (100 * processor_count t)))
