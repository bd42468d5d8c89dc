-- Lists of numbers: the place of a number, and tests of where it stands.
use Rattle.std.proofs.Common.{◌≡◌, ℕ, suc, ◌<◌, Bool, true, false, cond, ◌&&◌, ◌||◌, eqb, ◌⊎◌, List, [], ◌∷◌, ◌++◌, length, Decides, sym, refl, ap, ◌∙◌, inl, inr, ⊎_elim, arith}
use Rattle.std.specs.List.{AllByRecursion}
use Rattle.std.proofs.lemmas.List.{length-append, append_assoc, append-nil}
use Rattle.std.proofs.lemmas.Bool.{false≢true, and_parts, or_cases, or_left, or_right, cond-true, cond-false, eqb-true, eq-eqb, ne_eqb}
use Rattle.orders.specs.Lists.{Stands, Earlier, Once}
use Rattle.orders.proofs.Places.{compare, not_parted, front_stands, same_place, behind_parted, either_way}

-- a list with one number more in front
pub stands_here : (x i : ℕ) (list : List ℕ) → x ≡ i → Stands (x ∷ list) i
stands_here x i list e = record { before = []; after = list; is = ap (λ y. y ∷ list) e }

pub stands_next : (x i : ℕ) (list : List ℕ) → Stands list i → Stands (x ∷ list) i
stands_next x i list s = record { before = x ∷ s.before; after = s.after; is = ap (λ l. x ∷ l) s.is }

-- how many numbers of a list stand before the first i
abbrev pub place : List ℕ → ℕ → ℕ
place [] i = 0
place (x ∷ list) i = cond (eqb x i) 0 (suc (place list i))

place_behind : (front back : List ℕ) (i : ℕ) → (Stands front i → ⊥) → place (front ++ i ∷ back) i ≡ length front
place_behind [] back i new = cond-true _ _ _ (eq-eqb i i refl)
place_behind (x ∷ front) back i new =
    cond-false _ _ _ (ne_eqb x i (λ e. new (stands_here x i front e)))
    ∙ ap suc (place_behind front back i (λ s. new (stands_next x i front s)))

-- where no number stands twice, earlier is at a lower place
module _ (list : List ℕ) (once : Once list) where
  place_parted : (front back : List ℕ) (i : ℕ) → list ≡ front ++ i ∷ back → place list i ≡ length front
  place_parted front back i e = ap (λ l. place l i) e ∙ place_behind front back i (once front back i e)

  pub earlier_lower : (i j : ℕ) → Earlier list i j → place list i < place list j
  earlier_lower i j e =
      omega (
        arith,
        place_parted e.before (e.between ++ j ∷ e.after) i e.is,
        place_parted (e.before ++ i ∷ e.between) e.after j (e.is ∙ sym (append_assoc e.before (i ∷ e.between) (j ∷ e.after))),
        length-append e.before (i ∷ e.between),
      )

  pub lower_earlier : (i j : ℕ) → Stands list i → Stands list j → place list i < place list j → Earlier list i j
  lower_earlier i j s r l =
      ⊎_elim
      (λ same. absurd (omega (arith, l, ap (place list) same)))
      (⊎_elim (λ e. e) (λ e. absurd (omega (arith, l, earlier_lower j i e))))
      (either_way list i j s r)

-- a number that stands in a list, and is P, is s or stands before it, where nothing behind s is P
pub not_behind : (P : ℕ → Type 0) (front back front' back' : List ℕ) (s i : ℕ) → front ++ s ∷ back ≡ front' ++ i ∷ back' → AllByRecursion (λ j. P j → ⊥) back → P i → (i ≡ s) ⊎ Stands front i
not_behind P front back front' back' s i e all p =
    ⊎_elim
    (λ l. absurd (behind_parted (λ j. P j → ⊥) front back front' back' s i e l all p))
    (⊎_elim
    (λ l. inl (sym (same_place front back front' back' s i e l)))
    (λ l. inr (front_stands front' back' front back i s (sym e) l)))
    (compare (length front) (length front'))

-- whether i stands in a list
abbrev pub stands : List ℕ → ℕ → Bool
stands [] i = false
stands (x ∷ list) i = eqb x i || stands list i

pub decides_stands : (list : List ℕ) (i : ℕ) → Decides (stands list i) (Stands list i)
decides_stands [] i = (λ e. absurd (false≢true e), λ s. absurd (not_parted s.before s.after i s.is))
decides_stands (x ∷ list) i = (
  λ e. ⊎_elim (λ h. stands_here x i list (eqb-true x i h)) (λ h. stands_next x i list ((decides_stands list i).0 h)) (or_cases (eqb x i) (stands list i) e),
  λ s. found s.before s.after s.is (decides_stands list i).1,
)
  where
    found : (front back : List ℕ) → x ∷ list ≡ front ++ i ∷ back → (Stands list i → stands list i ≡ true) → (eqb x i || stands list i) ≡ true
    found [] back e rest =
        let head : x ≡ i = cc in
        or_left (eqb x i) (stands list i) (eq-eqb x i head)
    found (y ∷ front) back e rest =
        let tail : list ≡ front ++ i ∷ back = cc in
        or_right (eqb x i) (stands list i) (rest (record { before = front; after = back; is = tail }))

-- whether each number of a list passes a test with all that stands before it: what is in front of the list, and what is in it
abbrev pub along : (List ℕ → ℕ → Bool) → List ℕ → List ℕ → Bool
along test front [] = true
along test front (x ∷ list) = test front x && along test (front ++ x ∷ []) list

pub along_parted : (test : List ℕ → ℕ → Bool) (front list before after : List ℕ) (i : ℕ) → along test front list ≡ true → list ≡ before ++ i ∷ after → test (front ++ before) i ≡ true
along_parted test front [] before after i all e = absurd (not_parted before after i e)
along_parted test front (x ∷ list) [] after i all e =
    let head : x ≡ i = cc in
    (λ k. test (append-nil front k) (sym head k)) ∙ (and_parts _ _ all).0
along_parted test front (x ∷ list) (y ∷ before) after i all e =
    let head : x ≡ y = cc in
    let tail : list ≡ before ++ i ∷ after = cc in
    ap (λ l. test l i) (ap (λ z. front ++ z ∷ before) (sym head) ∙ sym (append_assoc front (x ∷ []) before))
    ∙ along_parted test (front ++ x ∷ []) list before after i (and_parts _ _ all).1 tail
