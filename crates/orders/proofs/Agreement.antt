-- Where each view agrees with the earlier ones, each agrees with all.
use Rattle.std.proofs.Common.{◌≡◌, ℕ, ◌<◌, List, ◌∷◌, ◌++◌, sym, subst, ⊎_elim, arith}
use Rattle.std.proofs.lemmas.Bool.{cases_lt}
use Rattle.trace.specs.Traces.{Trace}
use Rattle.models.specs.Meaning.{Meaning, Laws, View}
use Rattle.orders.specs.Lists.{Stands, Earlier}
use Rattle.orders.specs.Orders.{view_at, Exact, Agrees}
use Rattle.orders.proofs.Places.{later_stands, one_way, either_way}

module _ (m : Meaning) (laws : Laws m) (t : Trace) (orders : List (List ℕ)) (exact : (k : ℕ) → View m t k → Exact m t k (view_at orders k)) (follows : (a b : ℕ) → View m t a → View m t b → a < b → Agrees m t b (view_at orders a) (view_at orders b)) where
  -- an earlier view agrees with a later one
  leads : (a b : ℕ) → View m t a → View m t b → b < a → Agrees m t b (view_at orders a) (view_at orders b)
  leads a b va vb l i j alike hi hj first =
      let ea = exact a va in
      let si : Stands (view_at orders a) i = record { before = first.before; after = first.between ++ j ∷ first.after; is = first.is } in
      let once = ea.once in
      ⊎_elim
      (λ same. absurd (one_way (view_at orders a) i j once first (subst (λ x. Earlier (view_at orders a) x i) same (subst (λ x. Earlier (view_at orders a) i x) (sym same) first))))
      (⊎_elim
      (λ good. good)
      (λ bad. absurd (one_way (view_at orders a) i j once first (follows b a vb va l j i (laws.either t i j alike) (ea.only j (later_stands (view_at orders a) i j first)) (ea.only i si) bad))))
      (either_way (view_at orders b) i j ((exact b vb).every i hi) ((exact b vb).every j hj))

  pub agrees_both : (a b : ℕ) → View m t a → View m t b → Agrees m t b (view_at orders a) (view_at orders b)
  agrees_both a b va vb =
      ⊎_elim
      (follows a b va vb)
      (λ ge. ⊎_elim (leads a b va vb) (λ le i j alike hi hj first. let same : a ≡ b = omega arith in subst (λ x. Earlier (view_at orders x) i j) same first) (cases_lt b a))
      (cases_lt a b)
