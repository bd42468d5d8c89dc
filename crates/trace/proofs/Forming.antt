-- Every table holds a well-formed trace: the tests that it keeps true are the relation.
use Rattle.std.proofs.Common.{◌≡◌, ℕ, ◌/◌, ◌%◌, ◌^◌, true, false, eqb, leb, List, Decides, refl, ap, ◌∙◌, inl, inr, ⊎_elim, arith}
use Rattle.std.specs.List.{AllByRecursion}
use Rattle.std.proofs.ByRecursion.{All-weaker}
use Rattle.std.proofs.lemmas.Bool.{eqb-true, eq-eqb, ltb-true, lt-ltb, leb-true, le-leb, and_parts, and_from, or_cases, or_left, or_right, false≢true}
use Rattle.std.proofs.lemmas.Bool.Decides.{Decides-and}
use Rattle.trace.specs.declared.operation.Kind.{Kind}
use Rattle.trace.specs.declared.operation.Kind.TheVariants.{Read, Write}
use Rattle.trace.specs.declared.operation.Operation.{Operation}
use Rattle.trace.specs.Operations.{kind_number, number, capacity, Within, within, Nameable, is_position, source_fits, Fitting, fitting}
use Rattle.trace.specs.Traces.{lane_fits, lanes_fit}
use Rattle.trace.proofs.Fits.{lane_fits_all, lanes_fit_all}

pub decides_within : (low high x : ℕ) → Decides (within low high x) (Within low high x)
decides_within low high x = Decides-and (leb low x) (leb x high) (leb-true low x, le-leb low x) (leb-true x high, le-leb x high)

position_named : (p s : ℕ) → is_position p s ≡ true → Nameable p s
position_named p s e =
    let h = and_parts (within 1 p (s / 100)) (within 1 capacity (s % 100)) e in
    inr (s / 100, s % 100, (decides_within 1 p (s / 100)).0 h.0, (decides_within 1 capacity (s % 100)).0 h.1, omega arith)

named_position : (p s i q : ℕ) → Within 1 p i → Within 1 capacity q → s ≡ number i q → is_position p s ≡ true
named_position p s i q w v e =
    let a : s / 100 ≡ i = omega arith in
    let b : s % 100 ≡ q = omega arith in
    and_from _ _ (ap (within 1 p) a ∙ (decides_within 1 p i).1 w) (ap (within 1 capacity) b ∙ (decides_within 1 capacity q).1 v)

module _ (p v : ℕ) where
  source_read : (s : ℕ) → Decides (source_fits p 1 s) (Nameable p s)
  source_read s = (
    λ e. ⊎_elim (λ z. inl (eqb-true s 0 z)) (position_named p s) (or_cases (eqb s 0) (is_position p s) e),
    λ n. ⊎_elim
        (λ z. or_left (eqb s 0) (is_position p s) (eq-eqb s 0 z))
        (λ w. or_right (eqb s 0) (is_position p s) (named_position p s w.0 w.1 w.2 w.3 w.4))
        n,
  )

  source_write : (s : ℕ) → Decides (source_fits p 2 s) (s ≡ 0)
  source_write s = (
    λ e. ⊎_elim (eqb-true s 0) (λ f. absurd (false≢true f)) (or_cases (eqb s 0) false e),
    λ z. or_left (eqb s 0) false (eq-eqb s 0 z),
  )

  Sources : Kind → ℕ → Type 0
  Sources k s = (eqb (kind_number k) 1 ≡ true → Nameable p s) × (eqb (kind_number k) 2 ≡ true → s ≡ 0)

  sources : (k : Kind) (s : ℕ) → Decides (source_fits p (kind_number k) s) (Sources k s)
  unfolding Sources
  sources Read s = (λ e. (λ _. (source_read s).0 e, λ f. absurd (false≢true f)), λ h. (source_read s).1 (h.0 refl))
  sources Write s = (λ e. (λ f. absurd (false≢true f), λ _. (source_write s).0 e), λ h. (source_write s).1 (h.1 refl))

  pub decides_fitting : (o : Operation) → Decides (fitting p v o) (Fitting p v o)
  unfolding Sources
  decides_fitting o =
      let d = Decides-and _ _ (decides_within 1 v o.variable) (Decides-and _ _ (sources o.kind o.source) (ltb-true o.value (2 ^ 32), lt-ltb o.value (2 ^ 32))) in (
        λ e. let h = d.0 e in record { variable = h.0; reads = h.1.0.0; writes = h.1.0.1; value = h.1.1 },
        λ f. d.1 (f.variable, ((f.reads, f.writes), f.value)),
      )

  pub decides_lanes : (ls : List (List Operation)) → Decides (lanes_fit p v ls) (AllByRecursion (AllByRecursion (Fitting p v)) ls)
  decides_lanes ls = (
    λ e. All-weaker (λ l. lane_fits p v l ≡ true) (AllByRecursion (Fitting p v)) (λ l h. All-weaker (λ o. fitting p v o ≡ true) (Fitting p v) (λ o. (decides_fitting o).0) l ((lane_fits_all p v l).0 h)) ls ((lanes_fit_all p v ls).0 e),
    λ a. (lanes_fit_all p v ls).1 (All-weaker (AllByRecursion (Fitting p v)) (λ l. lane_fits p v l ≡ true) (λ l h. (lane_fits_all p v l).1 (All-weaker (Fitting p v) (λ o. fitting p v o ≡ true) (λ o. (decides_fitting o).1) l h)) ls a),
  )
