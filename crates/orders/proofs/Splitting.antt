-- Numbers parted after the list that they begin with.
use Rattle.std.proofs.Common.{◌≡◌, ℕ, ◌-◌, ◌<◌, ◌≤◌, List, [], ◌∷◌, ◌++◌, length, get_or, take, drop, sym, refl, ap, ◌∙◌, subst, arith}
use Rattle.std.proofs.lemmas.List.{length-append, length-take-le, take-append-drop, take_rest}
use Rattle.orders.specs.Inspecting.{EndsEarly, nothing, short, Parts}

-- all but the first number
abbrev pub behind : List ℕ → List ℕ
behind numbers = take (length numbers - 1) (drop 1 numbers)

pub ends_nothing : (numbers : List ℕ) → length numbers < 1 → EndsEarly numbers
ends_nothing [] l = nothing
ends_nothing (x ∷ xs) l = absurd (omega arith)

pub ends_short : (numbers : List ℕ) → 1 ≤ length numbers → length (behind numbers) < get_or numbers 0 0 → EndsEarly numbers
ends_short [] l s = absurd (omega arith)
ends_short (count ∷ rest) l s = short count rest (subst (λ z. length z < count) (take_rest (count ∷ rest) 1) s)

-- a list of that many numbers, and the rest
cut : (count : ℕ) (rest : List ℕ) → count ≤ length rest → Parts (count ∷ rest) (take count rest) (take (length rest - count) (drop count rest))
cut count rest l =
    let all = sym (take-append-drop count rest) ∙ ap (λ z. take count rest ++ z) (sym (take_rest rest count)) in
    λ i. sym (length-take-le count rest l) i ∷ all i

pub parts_here : (numbers : List ℕ) → 1 ≤ length numbers → get_or numbers 0 0 ≤ length (behind numbers) → Parts numbers (take (get_or numbers 0 0) (behind numbers)) (take (length (behind numbers) - get_or numbers 0 0) (drop (get_or numbers 0 0) (behind numbers)))
parts_here [] l s = absurd (omega arith)
parts_here (count ∷ rest) l s = ap (λ z. count ∷ z) (sym (take_rest (count ∷ rest) 1)) ∙ cut count (behind (count ∷ rest)) s

-- lists that go on to be the same, and are as long, are the same
halves : (xs ys r s : List ℕ) → xs ++ r ≡ ys ++ s → length xs ≡ length ys → (xs ≡ ys) × (r ≡ s)
halves [] [] r s e l = (refl, e)
halves [] (y ∷ ys) r s e l = absurd (omega arith)
halves (x ∷ xs) [] r s e l = absurd (omega arith)
halves (x ∷ xs) (y ∷ ys) r s e l =
    let head : x ≡ y = cc in
    let tail : xs ++ r ≡ ys ++ s = cc in
    let h = halves xs ys r s tail (omega arith) in
    (λ i. head i ∷ h.0 i, h.1)

-- the list that numbers begin with is settled by them
pub one_list : (xs ys r s : List ℕ) → length xs ∷ (xs ++ r) ≡ length ys ∷ (ys ++ s) → (xs ≡ ys) × (r ≡ s)
one_list xs ys r s e =
    let count : length xs ≡ length ys = cc in
    let rest : xs ++ r ≡ ys ++ s = cc in
    halves xs ys r s rest count

-- numbers that begin with a list do not end early
pub goes_on : (list rest numbers : List ℕ) → EndsEarly numbers → Parts numbers list rest → ⊥
goes_on list rest _ nothing e = omega (arith, ap length e)
goes_on list rest _ (short count numbers l) e =
    let head : count ≡ length list = cc in
    let tail : numbers ≡ list ++ rest = cc in
    omega (arith, l, head, ap length tail, length-append list rest)
