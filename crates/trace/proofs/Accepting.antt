-- What an answer says of its refusal, and what an accepted call answers and leaves.
use Rattle.std.proofs.Common.{◌≡◌, ℕ, Bool, true, false, cond, List, [], ◌∷◌, Result, Ok, Err, is_ok, sym, refl, ap, ◌∙◌, ⊎_elim}
use Rattle.std.specs.List.{AllByRecursion}
use Rattle.std.proofs.lemmas.Bool.{false≢true, cases_eq, cases_Bool, eq-eqb, ne_eqb, cond-true, cond-false}
use Rattle.trace.specs.Traces.{Trace}
use Rattle.trace.specs.Calls.{first_failed, answer, after}

pub accepts : {refusal : ℕ} (x y : ℕ) → refusal ≡ 0 → x ≡ y → (0, x) ≡ answer refusal y
accepts x y e same = ap (λ v. (0, v)) same ∙ sym (ap (λ r. answer r y) e)

pub changes : {refusal : ℕ} (changed t : Trace) → refusal ≡ 0 → changed ≡ after refusal changed t
changes changed t e = sym (ap (λ r. after r changed t) e)

pub refusal_told : (r x : ℕ) → (answer r x).0 ≡ r
refusal_told r x = ⊎_elim (λ e. ap (λ (a : ℕ × ℕ). a.0) (cond-true _ _ _ (eq-eqb r 0 e)) ∙ sym e) (λ ne. ap (λ (a : ℕ × ℕ). a.0) (cond-false _ _ _ (ne_eqb r 0 ne))) (cases_eq r 0)

-- a call with no refusal has passed every test, and the other way

pub unfailed : (tests : List (Bool × ℕ)) → AllByRecursion (λ (c : Bool × ℕ). c.1 ≡ 0 → ⊥) tests → first_failed tests ≡ 0 → AllByRecursion (λ (c : Bool × ℕ). c.0 ≡ true) tests
unfailed [] ne e = tt
unfailed (c ∷ tests) ne e =
    ⊎_elim
    (λ b. (b, unfailed tests ne.1 (sym (cond-true c.0 _ _ b) ∙ e)))
    (λ b. absurd (ne.0 (sym (cond-false c.0 _ _ b) ∙ e)))
    (cases_Bool c.0)

pub none_failed : (tests : List (Bool × ℕ)) → AllByRecursion (λ (c : Bool × ℕ). c.0 ≡ true) tests → first_failed tests ≡ 0
none_failed [] p = refl
none_failed (c ∷ tests) p = cond-true c.0 _ _ p.0 ∙ none_failed tests p.1

-- what is there under a condition

abbrev pub value : {A E : Type 0} → A → Result A E → A
value d (Ok x) = x
value d (Err e) = d

pub found : {A E : Type 0} (b : Bool) (x y : A) (e : E) → ◌≡◌ {A = Result A E} (Ok x) (cond b (Ok y) (Err e)) → (b ≡ true) × (x ≡ y)
found true x y e h = (refl, ap (value x) h)
found false x y e h = absurd (false≢true (sym (ap is_ok h)))
