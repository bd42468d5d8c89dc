-- Ranks that stand in a list, and the numbers that stand in its image.
use Rattle.std.proofs.Common.{◌≡◌, ℕ, true, ◌&&◌, eqb, ◌⊎◌, List, [], ◌∷◌, ◌++◌, map, refl, ap, ◌∙◌, inl, inr}
use Rattle.std.proofs.lemmas.List.{map-append}
use Rattle.std.proofs.lemmas.Bool.{false≢true, eqb-true, eq-eqb, or_cases, or_left, or_right, and_parts, and_from}
use Rattle.orders.specs.Lists.{Stands, Earlier}
use Rattle.orders.proofs.Places.{not_parted}
use Rattle.search.specs.Steps.{is_in, precedes}

-- ---- the tests and the places

in_parted : (before after : List ℕ) (i : ℕ) → is_in i (before ++ i ∷ after) ≡ true
in_parted [] after i = or_left (eqb i i) (is_in i after) (eq-eqb i i refl)
in_parted (x ∷ before) after i = or_right (eqb x i) (is_in i (before ++ i ∷ after)) (in_parted before after i)

pub stands_in : (s : List ℕ) (i : ℕ) → Stands s i → is_in i s ≡ true
stands_in s i w = ap (is_in i) w.is ∙ in_parted w.before w.after i

pub in_stands : (s : List ℕ) (i : ℕ) → is_in i s ≡ true → Stands s i
in_stands [] i e = absurd (false≢true e)
in_stands (x ∷ s) i e = at (or_cases (eqb x i) (is_in i s) e) (in_stands s i)
  where
    at : (eqb x i ≡ true) ⊎ (is_in i s ≡ true) → (is_in i s ≡ true → Stands s i) → Stands (x ∷ s) i
    at (inl h) later = record { before = []; after = s; is = ap (λ y. y ∷ s) (eqb-true x i h) }
    at (inr h) later = let w = later h in record { before = x ∷ w.before; after = w.after; is = ap (λ l. x ∷ l) w.is }

precedes_parted : (before between after : List ℕ) (j i : ℕ) → precedes (before ++ j ∷ (between ++ i ∷ after)) j i ≡ true
precedes_parted [] between after j i = or_left (eqb j j && is_in i (between ++ i ∷ after)) _ (and_from _ _ (eq-eqb j j refl) (in_parted between after i))
precedes_parted (x ∷ before) between after j i = or_right (eqb x j && is_in i (before ++ j ∷ (between ++ i ∷ after))) _ (precedes_parted before between after j i)

pub earlier_precedes : (s : List ℕ) (j i : ℕ) → Earlier s j i → precedes s j i ≡ true
earlier_precedes s j i w = ap (λ l. precedes l j i) w.is ∙ precedes_parted w.before w.between w.after j i

pub precedes_earlier : (s : List ℕ) (j i : ℕ) → precedes s j i ≡ true → Earlier s j i
precedes_earlier [] j i e = absurd (false≢true e)
precedes_earlier (x ∷ s) j i e = at (or_cases (eqb x j && is_in i s) (precedes s j i) e) (precedes_earlier s j i)
  where
    at : ((eqb x j && is_in i s) ≡ true) ⊎ (precedes s j i ≡ true) → (precedes s j i ≡ true → Earlier s j i) → Earlier (x ∷ s) j i
    at (inl h) later =
        let both = and_parts (eqb x j) (is_in i s) h in
        let w = in_stands s i both.1 in
        record { before = []; between = w.before; after = w.after; is = λ k. eqb-true x j both.0 k ∷ w.is k }
    at (inr h) later = let w = later h in record { before = x ∷ w.before; between = w.between; after = w.after; is = ap (λ l. x ∷ l) w.is }

-- ---- the image of a list

module _ (f : ℕ → ℕ) where
  -- a list whose image is parted, parted there
  pub record Unmapped (s before after : List ℕ) (x : ℕ) : Type 0 where
    pub first : List ℕ
    pub rank : ℕ
    pub second : List ℕ
    pub is : s ≡ first ++ rank ∷ second
    pub left : map f first ≡ before
    pub at : f rank ≡ x
    pub right : map f second ≡ after

  pub unmapped : (s before after : List ℕ) (x : ℕ) → map f s ≡ before ++ x ∷ after → Unmapped s before after x
  unmapped [] before after x e = absurd (not_parted before after x e)
  unmapped (y ∷ s) [] after x e =
      let head : f y ≡ x = cc in
      let tail : map f s ≡ after = cc in
      record { first = []; rank = y; second = s; is = refl; left = refl; at = head; right = tail }
  unmapped (y ∷ s) (z ∷ before) after x e =
      let head : f y ≡ z = cc in
      let tail : map f s ≡ before ++ x ∷ after = cc in
      further head (unmapped s before after x tail)
    where
      further : f y ≡ z → Unmapped s before after x → Unmapped (y ∷ s) (z ∷ before) after x
      further head r = record { first = y ∷ r.first; rank = r.rank; second = r.second; is = ap (λ l. y ∷ l) r.is; left = λ k. head k ∷ r.left k; at = r.at; right = r.right }

  pub stands_map : (s : List ℕ) (i : ℕ) → Stands s i → Stands (map f s) (f i)
  stands_map s i w = record { before = map f w.before; after = map f w.after; is = ap (map f) w.is ∙ map-append f w.before (i ∷ w.after) }

  pub earlier_map : (s : List ℕ) (j i : ℕ) → Earlier s j i → Earlier (map f s) (f j) (f i)
  earlier_map s j i w =
      record {
        before = map f w.before;
        between = map f w.between;
        after = map f w.after;
        is = ap (map f) w.is ∙ map-append f w.before (j ∷ (w.between ++ i ∷ w.after)) ∙ ap (λ l. map f w.before ++ f j ∷ l) (map-append f w.between (i ∷ w.after));
      }

  -- a number that stands in the image is that of a rank that stands in the list
  pub record StandsAs (s : List ℕ) (x : ℕ) : Type 0 where
    pub rank : ℕ
    pub stands : Stands s rank
    pub at : f rank ≡ x

  pub map_stands : (s : List ℕ) (x : ℕ) → Stands (map f s) x → StandsAs s x
  map_stands s x w =
      let r = unmapped s w.before w.after x w.is in
      record { rank = r.rank; stands = record { before = r.first; after = r.second; is = r.is }; at = r.at }

  -- and so of two numbers
  pub record EarlierAs (s : List ℕ) (x y : ℕ) : Type 0 where
    pub rank : ℕ
    pub other : ℕ
    pub earlier : Earlier s rank other
    pub at : f rank ≡ x
    pub other_at : f other ≡ y

  pub map_earlier : (s : List ℕ) (x y : ℕ) → Earlier (map f s) x y → EarlierAs s x y
  map_earlier s x y w =
      let r = unmapped s w.before (w.between ++ y ∷ w.after) x w.is in
      let q = unmapped r.second w.between w.after y r.right in
      record {
        rank = r.rank;
        other = q.rank;
        earlier = record { before = r.first; between = q.first; after = q.second; is = r.is ∙ ap (λ l. r.first ++ r.rank ∷ l) q.is };
        at = r.at;
        other_at = q.at;
      }
