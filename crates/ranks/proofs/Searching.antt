-- What is not found in a list that rises stands at no rank of it.
use Rattle.std.proofs.Common.{ℕ, ◌<◌, ◌≤◌, List, Err, length, get_or, ap, ⊎_elim, arith}
use Rattle.std.specs.List.Sorted.{IsBinarySearchResult}
use Rattle.std.specs.Ordering.{nat_cmp}
use Rattle.std.proofs.lemmas.Bool.{cases_eq, cases_lt}
use Rattle.std.proofs.lemmas.List.Sorted.{searched}
use Rattle.ranks.specs.Numbers.{Rising, Unlisted}

pub missed : (list : List ℕ) (x i : ℕ) → Rising list → IsBinarySearchResult (λ y. nat_cmp y x) list (Err i) → Unlisted list x
missed list x i rises e =
    let ordered : (j k : ℕ) → j ≤ k → k < length list → get_or list j 0 ≤ get_or list k 0 =
    λ j k le in'. ⊎_elim (λ same. omega (arith, ap (λ n. get_or list n 0) same)) (λ ne. omega (arith, rises j k (omega arith) in')) (cases_eq j k) in
    let m = searched list x (Err i) e ordered in
    λ rank h.
    ⊎_elim
    (λ low. omega (arith, m.1 rank low, h.at))
    (λ high. omega (arith, m.2 rank high h.within, h.at))
    (cases_lt rank i)
