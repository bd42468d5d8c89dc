-- The model without views, and that it keeps the laws.
use Rattle.std.proofs.Common.{arith}
use Rattle.std.specs.Prelude.{false}
use Rattle.std.proofs.lemmas.Bool.{false≢true}
use Rattle.models.specs.Meaning.{Meaning, Laws}

-- nothing is held, and nothing required
abbrev pub no_views : Meaning
no_views = record { views = λ p v. 0; holds = λ t k i. ⊥; before = λ t i j. ⊥; alike = λ t i j. ⊥ }

pub no_views_laws : Laws no_views
no_views_laws =
    record {
      few = λ p v wp wv. omega arith;
      told = λ t k i. (false, (λ e. absurd (false≢true e), λ h. absurd h));
      held = λ t k i h. absurd h;
      ordered = λ t i j h. absurd h;
      agreed = λ t i j h. absurd h;
      either = λ t i j h. h;
      sources = λ t whole k i r h e read ne. h;
      grows = λ t u ct cu p. record { holds = λ k i h. h; before = λ i j h. h; alike = λ i j h. h };
    }
