-- Where numbers stand in a list, by its partings.
use Rattle.std.proofs.Common.{◌≡◌, ℕ, ◌<◌, ◌⊎◌, List, [], ◌∷◌, ◌++◌, length, sym, ap, ◌∙◌, subst, inl, inr, ⊎_elim, arith}
use Rattle.std.specs.List.{AllByRecursion}
use Rattle.std.proofs.lemmas.List.{length-append, append_assoc}
use Rattle.std.proofs.lemmas.Bool.{cases_lt}
use Rattle.orders.specs.Lists.{Stands, Earlier, Once}

pub compare : (a b : ℕ) → (a < b) ⊎ ((a ≡ b) ⊎ (b < a))
compare a b = ⊎_elim inl (λ le. inr (⊎_elim inr (λ ge. inl (omega arith)) (cases_lt b a))) (cases_lt a b)

-- an empty list is not parted
pub not_parted : (front back : List ℕ) (i : ℕ) → [] ≡ front ++ i ∷ back → ⊥
not_parted front back i e = omega (arith, ap length e, length-append front (i ∷ back))

-- a list parted at i, and at j further on: i stands in the front of the second parting
pub front_stands : (front back front' back' : List ℕ) (i j : ℕ) → front ++ i ∷ back ≡ front' ++ j ∷ back' → length front < length front' → Stands front' i
front_stands front back [] back' i j e l = absurd (omega arith)
front_stands [] back (y ∷ front') back' i j e l =
    let head : i ≡ y = cc in
    record { before = []; after = front'; is = ap (λ x. x ∷ front') (sym head) }
front_stands (x ∷ front) back (y ∷ front') back' i j e l =
    let tail : front ++ i ∷ back ≡ front' ++ j ∷ back' = cc in
    further (front_stands front back front' back' i j tail (omega arith))
  where
    further : Stands front' i → Stands (y ∷ front') i
    further s = record { before = y ∷ s.before; after = s.after; is = ap (λ r. y ∷ r) s.is }

-- parted at one place, it is parted at one number
pub same_place : (front back front' back' : List ℕ) (i j : ℕ) → front ++ i ∷ back ≡ front' ++ j ∷ back' → length front ≡ length front' → i ≡ j
same_place [] back [] back' i j e l = cc
same_place [] back (y ∷ front') back' i j e l = absurd (omega arith)
same_place (x ∷ front) back [] back' i j e l = absurd (omega arith)
same_place (x ∷ front) back (y ∷ front') back' i j e l =
    let tail : front ++ i ∷ back ≡ front' ++ j ∷ back' = cc in
    same_place front back front' back' i j tail (omega arith)

-- what stands in front of j stands earlier
pub stands_earlier : (list front back : List ℕ) (i j : ℕ) → list ≡ front ++ j ∷ back → Stands front i → Earlier list i j
stands_earlier list front back i j e s =
    record {
      before = s.before;
      between = s.after;
      after = back;
      is = e ∙ ap (λ l. l ++ j ∷ back) s.is ∙ append_assoc s.before (i ∷ s.after) (j ∷ back);
    }

-- the parting at the later of two numbers
parted_later : (list : List ℕ) (i j : ℕ) (e : Earlier list i j) → list ≡ (e.before ++ i ∷ e.between) ++ j ∷ e.after
parted_later list i j e = e.is ∙ sym (append_assoc e.before (i ∷ e.between) (j ∷ e.after))

pub later_stands : (list : List ℕ) (i j : ℕ) → Earlier list i j → Stands list j
later_stands list i j e = record { before = e.before ++ i ∷ e.between; after = e.after; is = parted_later list i j e }

-- what stands earlier in the front of a list stands earlier in the list
pub earlier_front : (list front back : List ℕ) (i j : ℕ) → list ≡ front ++ back → Earlier front i j → Earlier list i j
earlier_front list front back i j e f =
    record {
      before = f.before;
      between = f.between;
      after = f.after ++ back;
      is =
          e
          ∙ ap (λ l. l ++ back) f.is
          ∙ append_assoc f.before (i ∷ (f.between ++ j ∷ f.after)) back
          ∙ ap (λ l. f.before ++ i ∷ l) (append_assoc f.between (j ∷ f.after) back);
    }

-- where no number stands twice, each has one place
pub one_place : (list front back front' back' : List ℕ) (i : ℕ) → Once list → list ≡ front ++ i ∷ back → list ≡ front' ++ i ∷ back' → length front ≡ length front'
one_place list front back front' back' i once e f =
    ⊎_elim
    (λ l. absurd (once front' back' i f (front_stands front back front' back' i i (sym e ∙ f) l)))
    (⊎_elim
    (λ l. l)
    (λ l. absurd (once front back i e (front_stands front' back' front back i i (sym f ∙ e) l))))
    (compare (length front) (length front'))

-- so what stands earlier than j stands in front of it
pub earlier_stands : (list front back : List ℕ) (i j : ℕ) → Once list → list ≡ front ++ j ∷ back → Earlier list i j → Stands front i
earlier_stands list front back i j once e f =
    let same = one_place list front back (f.before ++ i ∷ f.between) f.after j once e (parted_later list i j f) in
    front_stands f.before (f.between ++ j ∷ f.after) front back i j (sym f.is ∙ e) (omega (arith, same, length-append f.before (i ∷ f.between)))

-- and of two numbers only one stands earlier
pub one_way : (list : List ℕ) (i j : ℕ) → Once list → Earlier list i j → Earlier list j i → ⊥
one_way list i j once e f =
    let s = earlier_stands list e.before (e.between ++ j ∷ e.after) j i once e.is f in
    once (e.before ++ i ∷ e.between) e.after j (parted_later list i j e)
    (record { before = s.before; after = s.after ++ i ∷ e.between; is = ap (λ l. l ++ i ∷ e.between) s.is ∙ append_assoc s.before (j ∷ s.after) (i ∷ e.between) })

-- two numbers that stand in a list are one, or one of them stands earlier
pub either_way : (list : List ℕ) (i j : ℕ) → Stands list i → Stands list j → (i ≡ j) ⊎ (Earlier list i j ⊎ Earlier list j i)
either_way list i j s r =
    ⊎_elim
    (λ l. inr (inl (stands_earlier list r.before r.after i j r.is (front_stands s.before s.after r.before r.after i j (sym s.is ∙ r.is) l))))
    (⊎_elim
    (λ l. inl (same_place s.before s.after r.before r.after i j (sym s.is ∙ r.is) l))
    (λ l. inr (inr (stands_earlier list s.before s.after j i s.is (front_stands r.before r.after s.before s.after j i (sym r.is ∙ s.is) l)))))
    (compare (length s.before) (length r.before))

-- what is so of all numbers of a list is so of one that stands in it
pub all_parted : (P : ℕ → Type 0) (list before after : List ℕ) (i : ℕ) → list ≡ before ++ i ∷ after → AllByRecursion P list → P i
all_parted P list before after i e all = at before (subst (AllByRecursion P) e all)
  where
    at : (before : List ℕ) → AllByRecursion P (before ++ i ∷ after) → P i
    at [] h = h.0
    at (x ∷ before) h = at before h.1

-- a list parted at i, and at j further on: what is so of all behind i is so of j
pub behind_parted : (P : ℕ → Type 0) (front back front' back' : List ℕ) (i j : ℕ) → front ++ i ∷ back ≡ front' ++ j ∷ back' → length front < length front' → AllByRecursion P back → P j
behind_parted P front back [] back' i j e l all = absurd (omega arith)
behind_parted P [] back (y ∷ front') back' i j e l all =
    let tail : back ≡ front' ++ j ∷ back' = cc in
    all_parted P back front' back' j tail all
behind_parted P (x ∷ front) back (y ∷ front') back' i j e l all =
    let tail : front ++ i ∷ back ≡ front' ++ j ∷ back' = cc in
    behind_parted P front back front' back' i j tail (omega arith) all
