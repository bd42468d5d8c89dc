-- A model with as many views as a model can have, each of all operations in program order; and that it keeps the laws.
use Rattle.std.specs.Prelude.{ℕ, Bool, ◌&&◌, is_some, Decides}
use Rattle.std.proofs.Common.{arith}
use Rattle.std.proofs.lemmas.Bool.Decides.{Decides-like, Decides-and}
use Rattle.trace.proofs.Forming.{decides_within}
use Rattle.trace.specs.Operations.{Within, within}
use Rattle.trace.specs.Traces.{Trace, operation_at, There, ProgramOrder}
use Rattle.models.specs.Meaning.{Meaning, Laws}
use Rattle.models.specs.Growth.{is_there, there_grows, order_grows}
use Rattle.models.specs.BaseLaws.{saw}

-- each of 16 views holds every operation
pub record HeldEverywhere (t : Trace) (k i : ℕ) : Type 0 where
  pub view : Within 1 16 k
  pub there : There t i

abbrev pub everywhere : Meaning
everywhere = record { views = λ p v. 16; holds = HeldEverywhere; before = ProgramOrder; alike = λ t i j. ⊥ }

everywhere_told : (t : Trace) (k i : ℕ) → (b : Bool) × Decides b (HeldEverywhere t k i)
everywhere_told t k i = (
  within 1 16 k && is_some (operation_at t i),
  Decides-like _ (λ h. record { view = h.0; there = h.1 }) (λ h. (h.view, h.there)) (Decides-and (within 1 16 k) (is_some (operation_at t i)) (decides_within 1 16 k) (λ e. e, λ e. e)),
)

pub everywhere_laws : Laws everywhere
everywhere_laws =
    record {
      few = λ p v wp wv. omega arith;
      told = everywhere_told;
      held = λ t k i h. (h.view, h.there);
      ordered = λ t i j o. (o.first, o.second);
      agreed = λ t i j a. absurd a;
      either = λ t i j a. a;
      sources = λ t whole k i r h e read ne. let s = saw t whole i r e read ne in record { view = h.view; there = is_there t r.source s.0 s.1.there };
      grows = λ t u ct cu p. record { holds = λ k i h. record { view = h.view; there = there_grows t u p i h.there }; before = order_grows t u p; alike = λ i j a. a };
    }
