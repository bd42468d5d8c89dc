-- Orders that do not come after others by their ranks do not by their numbers.
use Rattle.std.proofs.Common.{◌≡◌, ℕ, zero, suc, ◌<◌, ◌⊎◌, List, [], ◌∷◌, ◌++◌, map, get_or, sym, refl, ap, inl, inr, arith}
use Rattle.trace.specs.Traces.{Trace}
use Rattle.ranks.specs.Numbers.{numbers, number_at, Numbers}
use Rattle.orders.specs.Orders.{view_at, Precedes}
use Rattle.orders.proofs.Places.{not_parted}
use Rattle.search.specs.Steps.{Lower, NotAfter}
use Rattle.search.proofs.Numbering.{numbered, Ranked}

-- the first place where two lists differ, and the first has the lower number there
record Differs (xs ys : List ℕ) : Type 0 where
  start : List ℕ
  lower : ℕ
  higher : ℕ
  rest : List ℕ
  other_rest : List ℕ
  list : xs ≡ start ++ lower ∷ rest
  other : ys ≡ start ++ higher ∷ other_rest
  differ : lower < higher

-- lists that differ, as the first of orders
precedes_first : (x y : List ℕ) (xs ys : List (List ℕ)) → Differs x y → Precedes (x ∷ xs) (y ∷ ys)
precedes_first x y xs ys d = record { view = 1; views = same; start = d.start; lower = d.lower; higher = d.higher; rest = d.rest; other_rest = d.other_rest; list = d.list; other = d.other; differ = d.differ }
  where
    same : (k : ℕ) → k < 1 → view_at (x ∷ xs) k ≡ view_at (y ∷ ys) k
    same zero l = refl
    same (suc k) l = absurd (omega arith)

-- the same list in front of both
precedes_later : (x y : List ℕ) (xs ys : List (List ℕ)) → x ≡ y → Precedes xs ys → Precedes (x ∷ xs) (y ∷ ys)
precedes_later x y xs ys e p = at p.view p.views p.list p.other
  where
    same : (v : ℕ) → ((k : ℕ) → k < suc v → view_at xs k ≡ view_at ys k) → (k : ℕ) → k < suc (suc v) → view_at (x ∷ xs) k ≡ view_at (y ∷ ys) k
    same v views zero l = refl
    same v views (suc zero) l = e
    same v views (suc (suc k)) l = views (suc k) (omega arith)

    at : (v : ℕ) → ((k : ℕ) → k < v → view_at xs k ≡ view_at ys k) → view_at xs v ≡ p.start ++ p.lower ∷ p.rest → view_at ys v ≡ p.start ++ p.higher ∷ p.other_rest → Precedes (x ∷ xs) (y ∷ ys)
    at zero views list other = absurd (not_parted p.start p.rest p.lower list)
    at (suc v) views list other = record { view = suc (suc v); views = same v views; start = p.start; lower = p.lower; higher = p.higher; rest = p.rest; other_rest = p.other_rest; list = list; other = other; differ = p.differ }

module _ (t : Trace) (facts : Numbers t) where
  lower_differs : (xs ys : List ℕ) → Ranked t ys → Lower xs ys → Differs (map (number_at (numbers t)) xs) (map (number_at (numbers t)) ys)
  lower_differs [] ys ranked l = absurd l
  lower_differs (x ∷ xs) [] ranked l = absurd l
  lower_differs (x ∷ xs) (y ∷ ys) ranked (inl l) = record { start = []; lower = number_at (numbers t) x; higher = number_at (numbers t) y; rest = map (number_at (numbers t)) xs; other_rest = map (number_at (numbers t)) ys; list = refl; other = refl; differ = facts.rising x y l (ranked y (record { before = []; after = ys; is = refl })) }
  lower_differs (x ∷ xs) (y ∷ ys) ranked (inr (e, l)) = more (lower_differs xs ys (λ i s. ranked i (record { before = y ∷ s.before; after = s.after; is = ap (λ z. y ∷ z) s.is })) l)
    where
      more : Differs (map (number_at (numbers t)) xs) (map (number_at (numbers t)) ys) → Differs (map (number_at (numbers t)) (x ∷ xs)) (map (number_at (numbers t)) (y ∷ ys))
      more d = record { start = number_at (numbers t) x ∷ d.start; lower = d.lower; higher = d.higher; rest = d.rest; other_rest = d.other_rest; list = ap (λ z. number_at (numbers t) x ∷ z) d.list; other = λ i. number_at (numbers t) (sym e i) ∷ d.other i; differ = d.differ }

  pub not_after : (lists others : List (List ℕ)) → ((k : ℕ) → Ranked t (get_or others k [])) → NotAfter lists others → (numbered t others ≡ numbered t lists) ⊎ Precedes (numbered t lists) (numbered t others)
  not_after [] [] ranked w = inl refl
  not_after [] (u ∷ others) ranked w = absurd w
  not_after (o ∷ lists) [] ranked w = absurd w
  not_after (o ∷ lists) (u ∷ others) ranked (inl l) = inr (precedes_first _ _ _ _ (lower_differs o u (ranked 0) l))
  not_after (o ∷ lists) (u ∷ others) ranked (inr (e, w)) = more (not_after lists others (λ k. ranked (suc k)) w)
    where
      more : (numbered t others ≡ numbered t lists) ⊎ Precedes (numbered t lists) (numbered t others) → (numbered t (u ∷ others) ≡ numbered t (o ∷ lists)) ⊎ Precedes (numbered t (o ∷ lists)) (numbered t (u ∷ others))
      more (inl same) = inl (λ i. map (number_at (numbers t)) (sym e i) ∷ same i)
      more (inr p) = inr (precedes_later _ _ _ _ (ap (map (number_at (numbers t))) e) p)
