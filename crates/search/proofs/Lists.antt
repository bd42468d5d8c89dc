-- Ranks in a list: `is_in` and `precedes` of a list that grows, and where such ranks stand.
use Rattle.std.proofs.Common.{◌≡◌, ℕ, zero, suc, ◌<◌, Bool, true, false, ◌&&◌, ◌||◌, eqb, List, [], ◌∷◌, ◌++◌, length, get_or, sym, refl, ap, ◌∙◌, ⊎_elim, arith}
use Rattle.std.proofs.lemmas.Bool.{cases_Bool, eqb-true, eqb-false, eq-eqb, ne_eqb, or_left, or_right}
use Rattle.search.specs.Steps.{is_in, precedes}

pub eqb_comm : (a b : ℕ) → eqb a b ≡ eqb b a
eqb_comm a b = ⊎_elim {C = eqb a b ≡ eqb b a} (λ e. e ∙ sym (eq-eqb b a (sym (eqb-true a b e)))) (λ e. e ∙ sym (ne_eqb b a (λ p. eqb-false a b e (sym p)))) (cases_Bool (eqb a b))

or_none : (x : Bool) → (x || false) ≡ x
or_none true = refl
or_none false = refl

or_assoc : (x y z : Bool) → (x || (y || z)) ≡ ((x || y) || z)
or_assoc true y z = refl
or_assoc false y z = refl

-- one more at the end
pub in_push : (i k : ℕ) (s : List ℕ) → is_in i (s ++ k ∷ []) ≡ (is_in i s || eqb k i)
in_push i k [] = or_none (eqb k i)
in_push i k (x ∷ s) = ap (λ b. eqb x i || b) (in_push i k s) ∙ or_assoc (eqb x i) (is_in i s) (eqb k i)

none_yet : (x : Bool) → ((x && false) || false) ≡ false
none_yet true = refl
none_yet false = refl

shuffle : (a m e p n : Bool) → ((a && (m || e)) || (p || (n && e))) ≡ (((a && m) || p) || ((a || n) && e))
shuffle true true e p n = refl
shuffle true false true true n = refl
shuffle true false true false n = refl
shuffle true false false true n = refl
shuffle true false false false true = refl
shuffle true false false false false = refl
shuffle false m e p n = refl

pub precedes_push : (j i x : ℕ) (o : List ℕ) → precedes (o ++ x ∷ []) j i ≡ (precedes o j i || (is_in j o && eqb x i))
precedes_push j i x [] = none_yet (eqb x j)
precedes_push j i x (y ∷ o) =
    ap (λ b. (eqb y j && b) || precedes (o ++ x ∷ []) j i) (in_push i x o) ∙ ap (λ b. (eqb y j && (is_in i o || eqb x i)) || b) (precedes_push j i x o)
    ∙ shuffle (eqb y j) (is_in i o) (eqb x i) (precedes o j i) (is_in j o)

-- what stands at a place is in the list
pub in_at : (s : List ℕ) (p : ℕ) → p < length s → is_in (get_or s p 0) s ≡ true
in_at [] p l = absurd (omega arith)
in_at (x ∷ s) zero l = or_left (eqb x x) (is_in x s) (eq-eqb x x refl)
in_at (x ∷ s) (suc p) l = or_right (eqb x (get_or s p 0)) (is_in (get_or s p 0) s) (in_at s p (omega arith))
