-- What is asked of a view, told by the lists before it; all views, told one by one.
use Rattle.std.proofs.Common.{◌≡◌, ℕ, zero, suc, ◌<◌, Bool, true, ◌&&◌, ◌⊎◌, List, [], ◌∷◌, ◌++◌, length, get_or, take, sym, refl, ap, ◌∙◌, subst, inl, inr, ⊎_elim, arith}
use Rattle.std.proofs.lemmas.List.{append-nil, append_assoc}
use Rattle.std.proofs.lemmas.Bool.{or_cases, or_left, or_right, and_parts, and_from}
use Rattle.opset.specs.declared.OpSet.{OpSet}
use Rattle.models.specs.Rows.{row_at}
use Rattle.orders.proofs.Places.{not_parted}
use Rattle.search.specs.declared.tables.Tables.{Tables}
use Rattle.search.specs.Steps.{precedes, asks, asks_more, Placeable, GoesOn, Full, FillsAll}

-- what is asked once these lists are finished
abbrev pub asks_after : Tables → (ℕ → ℕ → Bool) → List (List ℕ) → ℕ → ℕ → Bool
asks_after tables needs [] = needs
asks_after tables needs (o ∷ lists) = asks_after tables (asks_more tables needs o) lists

-- the list at some place has alike ranks in this order
pub record AskedBy (tables : Tables) (lists : List (List ℕ)) (i j : ℕ) : Type 0 where
  pub place : ℕ
  pub within : place < length lists
  pub alike : asks tables.alike i j ≡ true
  pub order : precedes (get_or lists place []) j i ≡ true

module _ (tables : Tables) where
  -- it is what was asked before, or one of the lists asks it
  pub asked_by : (needs : ℕ → ℕ → Bool) (lists : List (List ℕ)) (i j : ℕ) → asks_after tables needs lists i j ≡ true → (needs i j ≡ true) ⊎ AskedBy tables lists i j
  asked_by needs [] i j e = inl e
  asked_by needs (o ∷ lists) i j e = at (asked_by (asks_more tables needs o) lists i j e)
    where
      first : (asks tables.alike i j && precedes o j i) ≡ true → AskedBy tables (o ∷ lists) i j
      first h = let both = and_parts (asks tables.alike i j) (precedes o j i) h in record { place = 0; within = omega arith; alike = both.0; order = both.1 }

      at : (asks_more tables needs o i j ≡ true) ⊎ AskedBy tables lists i j → (needs i j ≡ true) ⊎ AskedBy tables (o ∷ lists) i j
      at (inl h) = ⊎_elim inl (λ g. inr (first g)) (or_cases (needs i j) (asks tables.alike i j && precedes o j i) h)
      at (inr w) = inr (record { place = suc w.place; within = omega (arith, w.within); alike = w.alike; order = w.order })

  pub asks_still : (needs : ℕ → ℕ → Bool) (lists : List (List ℕ)) (i j : ℕ) → needs i j ≡ true → asks_after tables needs lists i j ≡ true
  asks_still needs [] i j e = e
  asks_still needs (o ∷ lists) i j e = asks_still (asks_more tables needs o) lists i j (or_left (needs i j) _ e)

  pub asks_since : (needs : ℕ → ℕ → Bool) (lists : List (List ℕ)) (place i j : ℕ) → place < length lists → asks tables.alike i j ≡ true → precedes (get_or lists place []) j i ≡ true → asks_after tables needs lists i j ≡ true
  asks_since needs [] place i j l a p = absurd (omega arith)
  asks_since needs (o ∷ lists) zero i j l a p = asks_still (asks_more tables needs o) lists i j (or_right (needs i j) _ (and_from _ _ a p))
  asks_since needs (o ∷ lists) (suc place) i j l a p = asks_since (asks_more tables needs o) lists place i j (omega arith) a p

  -- ---- all views, one by one

  -- the lists are as many as the views, and each is full, by what those before it ask
  pub record FillsEach (needs : ℕ → ℕ → Bool) (views : List OpSet) (lists : List (List ℕ)) : Type 0 where
    pub count : length lists ≡ length views
    pub goes : (k : ℕ) → k < length views → GoesOn tables (asks_after tables needs (take k lists)) (row_at views k) [] (get_or lists k [])
    pub full : (k : ℕ) → k < length views → Full (row_at views k) (get_or lists k [])

  pub fills_each : (needs : ℕ → ℕ → Bool) (views : List OpSet) (lists : List (List ℕ)) → FillsAll tables needs views lists → FillsEach needs views lists
  fills_each needs [] [] w = record { count = refl; goes = λ k l. absurd (omega arith); full = λ k l. absurd (omega arith) }
  fills_each needs [] (o ∷ lists) w = absurd w
  fills_each needs (v ∷ views) [] w = absurd w
  fills_each needs (v ∷ views) (o ∷ lists) w = more (fills_each (asks_more tables needs o) views lists w.2)
    where
      goes : FillsEach (asks_more tables needs o) views lists → (k : ℕ) → k < suc (length views) → GoesOn tables (asks_after tables needs (take k (o ∷ lists))) (row_at (v ∷ views) k) [] (get_or (o ∷ lists) k [])
      goes later zero l = w.0
      goes later (suc k) l = later.goes k (omega arith)

      full : FillsEach (asks_more tables needs o) views lists → (k : ℕ) → k < suc (length views) → Full (row_at (v ∷ views) k) (get_or (o ∷ lists) k [])
      full later zero l = w.1
      full later (suc k) l = later.full k (omega arith)

      more : FillsEach (asks_more tables needs o) views lists → FillsEach needs (v ∷ views) (o ∷ lists)
      more later = record { count = ap suc later.count; goes = goes later; full = full later }

  pub each_fills : (needs : ℕ → ℕ → Bool) (views : List OpSet) (lists : List (List ℕ)) → FillsEach needs views lists → FillsAll tables needs views lists
  each_fills needs [] [] w = tt
  each_fills needs [] (o ∷ lists) w = absurd (omega (arith, w.count))
  each_fills needs (v ∷ views) [] w = absurd (omega (arith, w.count))
  each_fills needs (v ∷ views) (o ∷ lists) w = (
    w.goes 0 (omega arith),
    w.full 0 (omega arith),
    each_fills (asks_more tables needs o) views lists (record { count = omega (arith, w.count); goes = λ k l. w.goes (suc k) (omega arith); full = λ k l. w.full (suc k) (omega arith) }),
  )

  -- ---- one view, place by place

  module _ (needs : ℕ → ℕ → Bool) (view : OpSet) where
    pub goes_placeable : (s list before after : List ℕ) (j : ℕ) → GoesOn tables needs view s list → list ≡ before ++ j ∷ after → Placeable tables needs view (s ++ before) j
    goes_placeable s [] before after j g e = absurd (not_parted before after j e)
    goes_placeable s (x ∷ list) [] after j g e =
        let head : x ≡ j = cc in
        subst (λ l. Placeable tables needs view l j) (sym (append-nil s)) (subst (Placeable tables needs view s) head g.0)
    goes_placeable s (x ∷ list) (y ∷ before) after j g e =
        let head : x ≡ y = cc in
        let tail : list ≡ before ++ j ∷ after = cc in
        subst (λ l. Placeable tables needs view l j) (append_assoc s (x ∷ []) before ∙ ap (λ z. s ++ z ∷ before) head) (goes_placeable (s ++ x ∷ []) list before after j g.1 tail)

    pub placeable_goes : (s list : List ℕ) → ((before after : List ℕ) (j : ℕ) → list ≡ before ++ j ∷ after → Placeable tables needs view (s ++ before) j) → GoesOn tables needs view s list
    placeable_goes s [] all = tt
    placeable_goes s (x ∷ list) all = (
      subst (λ l. Placeable tables needs view l x) (append-nil s) (all [] list x refl),
      placeable_goes (s ++ x ∷ []) list (λ before after j e. subst (λ l. Placeable tables needs view l j) (sym (append_assoc s (x ∷ []) before)) (all (x ∷ before) after j (ap (λ l. x ∷ l) e))),
    )
