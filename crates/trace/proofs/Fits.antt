-- The tests on fields say what they should, operation by operation and lane by lane.
use Rattle.std.proofs.Common.{◌≡◌, ℕ, zero, suc, ◌<◌, Bool, true, List, [], ◌∷◌, ◌++◌, length, get_or, set, replicate, Decides, refl}
use Rattle.std.specs.List.{AllByRecursion}
use Rattle.std.proofs.ByRecursion.{All-get_or, All-set, All-push, Decides-by_and}
use Rattle.trace.specs.declared.operation.Operation.{Operation}
use Rattle.trace.specs.Operations.{fitting}
use Rattle.trace.specs.Traces.{lane_fits, lanes_fit}

pub itself : (b : Bool) → Decides b (b ≡ true)
itself b = (λ e. e, λ e. e)

module _ (p v : ℕ) where
  pub lane_fits_all : (l : List Operation) → Decides (lane_fits p v l) (AllByRecursion (λ o. fitting p v o ≡ true) l)
  lane_fits_all = Decides-by_and (fitting p v) (λ o. fitting p v o ≡ true) (lane_fits p v) (λ o. itself (fitting p v o)) refl (λ _ _. refl)

  pub lanes_fit_all : (ls : List (List Operation)) → Decides (lanes_fit p v ls) (AllByRecursion (λ l. lane_fits p v l ≡ true) ls)
  lanes_fit_all = Decides-by_and (lane_fits p v) (λ l. lane_fits p v l ≡ true) (lanes_fit p v) (λ l. itself (lane_fits p v l)) refl (λ _ _. refl)

  pub fits_push : (l : List Operation) (o : Operation) → lane_fits p v l ≡ true → fitting p v o ≡ true → lane_fits p v (l ++ o ∷ []) ≡ true
  fits_push l o e f = (lane_fits_all (l ++ o ∷ [])).1 (All-push (λ x. fitting p v x ≡ true) l o ((lane_fits_all l).0 e) f)

  pub fits_set : (ls : List (List Operation)) (i : ℕ) (l : List Operation) → lanes_fit p v ls ≡ true → lane_fits p v l ≡ true → lanes_fit p v (set ls i l) ≡ true
  fits_set ls i l e f = (lanes_fit_all (set ls i l)).1 (All-set (λ x. lane_fits p v x ≡ true) ls i l f ((lanes_fit_all ls).0 e))

  pub fits_none : (n : ℕ) → lanes_fit p v (replicate n []) ≡ true
  fits_none zero = refl
  fits_none (suc n) = fits_none n

  pub fits_at : (ls : List (List Operation)) (i : ℕ) → i < length ls → lanes_fit p v ls ≡ true → lane_fits p v (get_or ls i []) ≡ true
  fits_at ls i h e = All-get_or (λ x. lane_fits p v x ≡ true) ls i [] h ((lanes_fit_all ls).0 e)
