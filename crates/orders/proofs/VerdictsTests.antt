-- Tests that tell what a base model says of a trace. On a trace that is written out they compute.
use Rattle.std.proofs.Common.{◌≡◌, ℕ, Bool, true, false, ◌&&◌, ◌||◌, eqb, ltb, is_some, Some, None, Decides, Option, unwrap_or, sym, refl, subst}
use Rattle.std.specs.Option.{option_map}
use Rattle.std.proofs.lemmas.Bool.{false≢true}
use Rattle.std.proofs.lemmas.Bool.Decides.{Decides-like, Decides-and, Decides-or, Decides-eqb, Decides-ltb}
use Rattle.trace.specs.declared.operation.Operation.{Operation}
use Rattle.trace.specs.Operations.{is_read, is_write, processor_of, position_of, within}
use Rattle.trace.specs.Traces.{Trace, processor_count, operation_at, There, ProgramOrder}
use Rattle.trace.proofs.Forming.{decides_within}
use Rattle.trace.proofs.Fits.{itself}
use Rattle.models.specs.Meaning.{Meaning}
use Rattle.models.specs.Growth.{is_there}
use Rattle.models.specs.Bases.{sequential, coherent, pram}
use Rattle.models.specs.Layers.{agreement, Names}
use Rattle.orders.specs.Orders.{WriteTo}
use Rattle.orders.proofs.Nothing.{none_and_some}

-- whether the operation of number i is there and passes a test
abbrev pub passes : Trace → (Operation → Bool) → ℕ → Bool
passes t test i = unwrap_or (option_map test (operation_at t i)) false

-- such a test decides whether there is an operation that is P, if it decides that of each operation
pub decides_some : (test : Operation → Bool) (P : Operation → Type 0) → ((o : Operation) → Decides (test o) (P o)) → (x : Option Operation) → Decides (unwrap_or (option_map test x) false) ((o : Operation) × (x ≡ Some o) × P o)
decides_some test P d None = (λ e. absurd (false≢true e), λ h. absurd (none_and_some h.1))
decides_some test P d (Some o) = (λ e. (o, refl, (d o).0 e), λ h. (d o).1 (subst P (sym (same h.0 h.1)) h.2))
  where
    same : (x : Operation) → Some o ≡ Some x → o ≡ x
    same x e = cc

-- whether i stands before j in program order
abbrev pub precedes : Trace → ℕ → ℕ → Bool
precedes t i j = is_some (operation_at t i) && (is_some (operation_at t j) && (eqb (processor_of i) (processor_of j) && ltb (position_of i) (position_of j)))

-- whether operation i is a write to variable v
abbrev pub writes_to : Trace → ℕ → ℕ → Bool
writes_to t v = passes t (λ o. is_write o && eqb o.variable v)

-- whether operation r is a read that names w
abbrev pub names : Trace → ℕ → ℕ → Bool
names t w = passes t (λ o. is_read o && eqb o.source w)

module _ (t : Trace) where
  pub decides_precedes : (i j : ℕ) → Decides (precedes t i j) (ProgramOrder t i j)
  decides_precedes i j =
      Decides-like _
      (λ h. record { first = h.0; second = h.1.0; processor = h.1.1.0; earlier = h.1.1.1 })
      (λ o. (o.first, (o.second, (o.processor, o.earlier))))
      (Decides-and _ _ (itself (is_some (operation_at t i))) (Decides-and _ _ (itself (is_some (operation_at t j)))
      (Decides-and _ _ (Decides-eqb (processor_of i) (processor_of j)) (Decides-ltb (position_of i) (position_of j)))))

  pub decides_writes : (v i : ℕ) → Decides (writes_to t v i) (WriteTo t v i)
  decides_writes v i =
      Decides-like _
      (λ h. record { operation = h.0; there = h.1; writes = h.2.0; variable = h.2.1 })
      (λ w. (w.operation, w.there, (w.writes, w.variable)))
      (decides_some _ _ (λ o. Decides-and _ _ (itself (is_write o)) (Decides-eqb o.variable v)) (operation_at t i))

  pub names_tested : (w r : ℕ) → Names t w r → names t w r ≡ true
  names_tested w r n =
      (decides_some _ _ (λ o. Decides-and _ _ (itself (is_read o)) (Decides-eqb o.source w)) (operation_at t r)).1
      (n.read, n.is, (n.reads, n.source))

-- a model that requires program order, with a test of what it holds in each view of a trace
pub record Tested (m : Meaning) (t : Trace) : Type 0 where
  pub test : ℕ → ℕ → Bool
  pub held : (k i : ℕ) → Decides (test k i) (m.holds t k i)
  pub there : (k i : ℕ) → m.holds t k i → There t i
  pub before : (i j : ℕ) → Decides (precedes t i j) (m.before t i j)

module _ (t : Trace) where
  abbrev pub sequential_tested : Tested sequential t
  sequential_tested =
      record {
        test = λ k i. eqb k 1 && is_some (operation_at t i);
        held = λ k i.
            Decides-like _ (λ h. record { view = h.0; there = h.1 }) (λ h. (h.view, h.there))
            (Decides-and _ _ (Decides-eqb k 1) (itself (is_some (operation_at t i))));
        there = λ k i h. h.there;
        before = decides_precedes t;
      }

  abbrev pub coherent_tested : Tested coherent t
  coherent_tested =
      record {
        test = λ k i. within 1 t.variables k && passes t (λ o. eqb o.variable k) i;
        held = λ k i.
            Decides-like _
            (λ h. record { view = h.0; operation = h.1.0; there = h.1.1; variable = h.1.2 })
            (λ h. (h.view, (h.operation, h.there, h.variable)))
            (Decides-and _ _ (decides_within 1 t.variables k) (decides_some _ _ (λ o. Decides-eqb o.variable k) (operation_at t i)));
        there = λ k i h. is_there t i h.operation h.there;
        before = decides_precedes t;
      }

  abbrev pub pram_tested : Tested pram t
  pram_tested =
      record {
        test = λ k i. within 1 (processor_count t) k && passes t (λ o. eqb (processor_of i) k || is_write o) i;
        held = λ k i.
            Decides-like _
            (λ h. record { view = h.0; operation = h.1.0; there = h.1.1; seen = h.1.2 })
            (λ h. (h.view, (h.operation, h.there, h.seen)))
            (Decides-and _ _ (decides_within 1 (processor_count t) k)
            (decides_some _ _ (λ o. Decides-or _ _ (Decides-eqb (processor_of i) k) (itself (is_write o))) (operation_at t i)));
        there = λ k i h. is_there t i h.operation h.there;
        before = decides_precedes t;
      }

-- agreement holds and requires what the model below does
abbrev pub agreement_tested : (m : Meaning) (t : Trace) → Tested m t → Tested (agreement m) t
agreement_tested m t b = record { test = b.test; held = b.held; there = b.there; before = b.before }
