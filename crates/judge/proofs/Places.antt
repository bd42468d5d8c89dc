-- Places in a list, and one item more at its end.
use Rattle.std.proofs.Common.{◌≡◌, ℕ, zero, suc, ◌<◌, ◌⊎◌, List, [], ◌∷◌, ◌++◌, length, take, Some, None, sym, refl, ap, ◌∙◌, inl, inr, ⊎_elim, arith}
use Rattle.std.specs.List.{slice_get}
use Rattle.std.proofs.lemmas.List.{length_push}
use Rattle.std.proofs.lemmas.Bool.{cases_lt}

module _ {X : Type 0} where
  pub none_some : (x : X) → None ≡ Some x → ⊥
  none_some x e = let z : ◌≡◌ {A = ℕ} 0 1 = cc in omega arith

  pub same_some : (x y : X) → Some x ≡ Some y → x ≡ y
  same_some x y e = cc

  pub nth_within : (xs : List X) (k : ℕ) (x : X) → slice_get xs k ≡ Some x → k < length xs
  nth_within [] k x e = absurd (none_some x e)
  nth_within (y ∷ xs) zero x e = omega arith
  nth_within (y ∷ xs) (suc k) x e = let h = nth_within xs k x e in omega arith

  pub nth_left : (xs ys : List X) (k : ℕ) → k < length xs → slice_get (xs ++ ys) k ≡ slice_get xs k
  nth_left [] ys k h = absurd (omega arith)
  nth_left (x ∷ xs) ys zero h = refl
  nth_left (x ∷ xs) ys (suc k) h = nth_left xs ys k (omega arith)

  pub nth_last : (xs : List X) (x : X) → slice_get (xs ++ x ∷ []) (length xs) ≡ Some x
  nth_last [] x = refl
  nth_last (y ∷ xs) x = nth_last xs x

  -- a place among one more: an earlier one, or the last
  pub place : (xs : List X) (x : X) (k : ℕ) (y : X) → slice_get (xs ++ x ∷ []) k ≡ Some y → ((k < length xs) × (slice_get xs k ≡ Some y)) ⊎ ((k ≡ length xs) × (x ≡ y))
  place xs x k y e =
      let within = nth_within (xs ++ x ∷ []) k y e in
      let longer = length_push xs x in
      ⊎_elim
      (λ lt. inl (lt, sym (nth_left xs (x ∷ []) k lt) ∙ e))
      (λ ge. let is : k ≡ length xs = omega (arith, within, longer, ge) in inr (is, same_some x y (sym (nth_last xs x) ∙ ap (slice_get (xs ++ x ∷ [])) (sym is) ∙ e)))
      (cases_lt k (length xs))

  -- the first k + 1 items: one more than the first k, or the same where there are no more
  pub take_next : (xs : List X) (k : ℕ) → ((x : X) × (slice_get xs k ≡ Some x) × (take (suc k) xs ≡ take k xs ++ x ∷ [])) ⊎ (take (suc k) xs ≡ take k xs)
  take_next [] zero = inr refl
  take_next [] (suc k) = inr refl
  take_next (x ∷ xs) zero = inl (x, refl, refl)
  take_next (x ∷ xs) (suc k) = ⊎_elim (λ h. inl (h.0, h.1, ap (λ l. x ∷ l) h.2)) (λ e. inr (ap (λ l. x ∷ l) e)) (take_next xs k)
