-- The three base models keep the laws.
use Rattle.std.specs.Prelude.{◌≡◌, ℕ, Bool, true, false, ◌&&◌, ◌||◌, ◌⊎◌, is_some, Some, None, Decides, Option, ◌==◌, ◌≢◌, nat_eq, refl}
use Rattle.std.proofs.Common.{sym, ap, subst, ◌∙◌, inr, ⊎_elim, arith}
use Rattle.std.proofs.lemmas.Bool.{false≢true}
use Rattle.std.proofs.lemmas.Bool.Decides.{Decides-like, Decides-and, Decides-or, Decides-eqb}
use Rattle.trace.proofs.Forming.{decides_within}
use Rattle.trace.specs.declared.operation.Operation.{Operation}
use Rattle.trace.specs.Operations.{is_read, is_write, processor_of, Within, within}
use Rattle.trace.specs.Traces.{Trace, processor_count, operation_at, Complete, Saw}
use Rattle.models.specs.Meaning.{Laws, Is}
use Rattle.models.specs.Bases.{sequential, coherent, pram, HeldByAll, HeldByVariable, HeldByProcessor}
use Rattle.models.specs.Growth.{is_grows, is_there, there_grows, order_grows, same_operation}

-- a read of a complete trace whose source is not 0 saw a write
pub saw : (t : Trace) → Complete t → (i : ℕ) (r : Operation) → Is t i r → is_read r ≡ true → (r.source ≢ 0) → (w : Operation) × Saw t r w
saw t whole i r e k ne = ⊎_elim (λ z. absurd (ne z.0)) (λ s. s) (whole i r e k)

-- whether the operation of a number, where there is one, passes a test
passes : (Operation → Bool) → Option Operation → Bool
passes test None = false
passes test (Some o) = test o

decides_passes : (test : Operation → Bool) (P : Operation → Type 0) → ((o : Operation) → Decides (test o) (P o)) → (x : Option Operation) → Decides (passes test x) ((o : Operation) × (x ≡ Some o) × P o)
unfolding passes
decides_passes test P d None = (λ e. absurd (false≢true e), λ h. absurd (no_some h.0 h.1))
  where
    no_some : (o : Operation) → None ≢ Some o
    no_some o e = let z : ◌≡◌ {A = ℕ} 0 1 = cc in omega arith
decides_passes test P d (Some o) =
    (λ e. (o, refl, (d o).0 e), λ h. (d o).1 (subst P (sym (same h.0 h.1)) h.2))
  where
    same : (x : Operation) → Some o ≡ Some x → o ≡ x
    same x e = cc

sequential_told : (t : Trace) (k i : ℕ) → (b : Bool) × Decides b (HeldByAll t k i)
sequential_told t k i = (
  (k == 1) && is_some (operation_at t i),
  Decides-like _ (λ h. record { view = h.0; there = h.1 }) (λ h. (h.view, h.there)) (Decides-and (k == 1) (is_some (operation_at t i)) (Decides-eqb k 1) (λ e. e, λ e. e)),
)

coherent_told : (t : Trace) (k i : ℕ) → (b : Bool) × Decides b (HeldByVariable t k i)
coherent_told t k i = (
  within 1 t.variables k && passes (λ o. nat_eq o.variable k) (operation_at t i),
  Decides-like _ (λ h. record { view = h.0; operation = h.1.0; there = h.1.1; variable = h.1.2 }) (λ h. (h.view, (h.operation, h.there, h.variable)))
      (Decides-and (within 1 t.variables k) (passes (λ o. nat_eq o.variable k) (operation_at t i)) (decides_within 1 t.variables k)
      (decides_passes (λ o. nat_eq o.variable k) (λ o. o.variable ≡ k) (λ o. Decides-eqb o.variable k) (operation_at t i))),
)

pram_told : (t : Trace) (k i : ℕ) → (b : Bool) × Decides b (HeldByProcessor t k i)
pram_told t k i = (
  within 1 (processor_count t) k && passes (λ o. (processor_of i == k) || is_write o) (operation_at t i),
  Decides-like _ (λ h. record { view = h.0; operation = h.1.0; there = h.1.1; seen = h.1.2 }) (λ h. (h.view, (h.operation, h.there, h.seen)))
      (Decides-and (within 1 (processor_count t) k) (passes (λ o. (processor_of i == k) || is_write o) (operation_at t i)) (decides_within 1 (processor_count t) k)
      (decides_passes (λ o. (processor_of i == k) || is_write o) (λ o. (processor_of i ≡ k) ⊎ (is_write o ≡ true)) (λ o. Decides-or (processor_of i == k) (is_write o) (Decides-eqb (processor_of i) k) (λ e. e, λ e. e)) (operation_at t i))),
)

pub sequential_laws : Laws sequential
sequential_laws =
    record {
      few = λ p v wp wv. omega arith;
      told = sequential_told;
      held = λ t k i h. ((omega (arith, h.view), omega (arith, h.view)), h.there);
      ordered = λ t i j o. (o.first, o.second);
      agreed = λ t i j a. absurd a;
      either = λ t i j a. a;
      sources = λ t whole k i r h e read ne. let s = saw t whole i r e read ne in record { view = h.view; there = is_there t r.source s.0 s.1.there };
      grows = λ t u ct cu p. record { holds = λ k i h. record { view = h.view; there = there_grows t u p i h.there }; before = order_grows t u p; alike = λ i j a. a };
    }

pub coherent_laws : Laws coherent
coherent_laws =
    record {
      few = λ p v wp wv. wv.1;
      told = coherent_told;
      held = λ t k i h. (h.view, is_there t i h.operation h.there);
      ordered = λ t i j o. (o.first, o.second);
      agreed = λ t i j a. absurd a;
      either = λ t i j a. a;
      sources = λ t whole k i r h e read ne.
          let s = saw t whole i r e read ne in
          record { view = h.view; operation = s.0; there = s.1.there; variable = s.1.variable ∙ ap (λ o. o.variable) (same_operation t i (r) h.operation e h.there) ∙ h.variable };
      grows = λ t u ct cu p.
          record {
            holds = λ k i h. record { view = subst (λ v. Within 1 v k) p.variables h.view; operation = h.operation; there = is_grows t u p i h.operation h.there; variable = h.variable };
            before = order_grows t u p;
            alike = λ i j a. a;
          };
    }

pub pram_laws : Laws pram
pram_laws =
    record {
      few = λ p v wp wv. omega (arith, wp.1);
      told = pram_told;
      held = λ t k i h. (h.view, is_there t i h.operation h.there);
      ordered = λ t i j o. (o.first, o.second);
      agreed = λ t i j a. absurd a;
      either = λ t i j a. a;
      sources = λ t whole k i r h e read ne. let s = saw t whole i r e read ne in record { view = h.view; operation = s.0; there = s.1.there; seen = inr s.1.write };
      grows = λ t u ct cu p.
          record {
            holds = λ k i h. record { view = subst (λ n. Within 1 n k) p.processors h.view; operation = h.operation; there = is_grows t u p i h.operation h.there; seen = h.seen };
            before = order_grows t u p;
            alike = λ i j a. a;
          };
    }
