-- The first orders are one.
use Rattle.std.proofs.Common.{◌≡◌, ℕ, ◌<◌, List, ◌∷◌, ◌++◌, length, get_or, sym, refl, ap, ◌∙◌, ⊎_elim, arith}
use Rattle.std.proofs.lemmas.List.{get_or_at, get_or_append_left}
use Rattle.trace.specs.Traces.{Trace}
use Rattle.models.specs.Meaning.{Meaning}
use Rattle.orders.specs.Orders.{view_at, Precedes, First}
use Rattle.orders.proofs.Places.{compare, same_place}

-- the number behind a shorter front stands in the longer one
in_front : (start rest front back : List ℕ) (x y : ℕ) → start ++ x ∷ rest ≡ front ++ y ∷ back → length start < length front → x ≡ get_or front (length start) 0
in_front start rest front back x y e lt =
    sym (get_or_at start x rest 0 (length start) refl) ∙ ap (λ l. get_or l (length start) 0) e ∙ get_or_append_left front (y ∷ back) 0 (length start) lt

-- two lists do not each have the lower number at the first place that differs
lower_once : (list other start rest other_rest front back other_back : List ℕ) (lower higher low high : ℕ)
    → list ≡ start ++ lower ∷ rest → other ≡ start ++ higher ∷ other_rest → lower < higher
    → other ≡ front ++ low ∷ other_back → list ≡ front ++ high ∷ back → low < high → ⊥
lower_once list other start rest other_rest front back other_back lower higher low high l o lt o' l' lt' =
    ⊎_elim
    (λ shorter.
    let a = in_front start rest front back lower high (sym l ∙ l') shorter in
    let b = in_front start other_rest front other_back higher low (sym o ∙ o') shorter in
    omega (arith, lt, a ∙ sym b))
    (⊎_elim
    (λ same. omega (arith, lt, lt', same_place start rest front back lower high (sym l ∙ l') same, same_place start other_rest front other_back higher low (sym o ∙ o') same))
    (λ longer.
    let a = in_front front back start rest high lower (sym l' ∙ l) longer in
    let b = in_front front other_back start other_rest low higher (sym o' ∙ o) longer in
    omega (arith, lt', a ∙ sym b)))
    (compare (length start) (length front))

-- of two orders one at most comes before the other
module _ (orders others : List (List ℕ)) where
  same_view : (p : Precedes orders others) → view_at orders p.view ≡ view_at others p.view → ⊥
  same_view p e =
      let h = same_place p.start p.rest p.start p.other_rest p.lower p.higher (sym p.list ∙ e ∙ p.other) refl in
      omega (arith, h, p.differ)

precedes_once : (orders others : List (List ℕ)) → Precedes orders others → Precedes others orders → ⊥
precedes_once orders others p q =
    ⊎_elim
    (λ before. same_view orders others p (sym (q.views p.view before)))
    (⊎_elim
    (λ same.
    lower_once (view_at orders p.view) (view_at others p.view) p.start p.rest p.other_rest q.start q.other_rest q.rest p.lower p.higher q.lower q.higher
    p.list p.other p.differ (ap (view_at others) same ∙ q.list) (ap (view_at orders) same ∙ q.other) q.differ)
    (λ behind. same_view others orders q (sym (p.views q.view behind))))
    (compare p.view q.view)

pub first_unique : (m : Meaning) (t : Trace) (orders others : List (List ℕ)) → First m t orders → First m t others → orders ≡ others
first_unique m t orders others f g =
    ⊎_elim (λ e. sym e) (λ p. ⊎_elim (λ e. e) (λ q. absurd (precedes_once orders others p q)) (g.first orders f.meets)) (f.first others g.meets)
