-- What a set holds: which indexes are in it, in rising order, and how many.
-- Rests on binary digits: index i is in a set where digit i of its word is 1.
-- Above this crate a set is only its members: `has`, `members` and `size` stay shut.
use Rattle.std.specs.Prelude.{◌≡◌, ℕ, zero, suc, ◌<◌, Bool, true, false, List, [], ◌∷◌, length, filter, ◌≢◌, count_ones, slice_index}
use Rattle.opset.specs.Digits.{bit}
use Rattle.opset.specs.declared.OpSet.{OpSet}

-- index i is in the set
unfoldable pub has : OpSet → ℕ → Bool
has s i = bit s.0 i

-- the numbers from `first` on, rising, as many as `count`
abbrev pub consecutive : ℕ → ℕ → List ℕ
consecutive first zero = []
consecutive first (suc count) = first ∷ consecutive (suc first) count

-- what is in the set, rising
unfoldable pub members : OpSet → List ℕ
members s = filter (has s) (consecutive 0 64)

-- how many indexes are in the set
unfoldable pub size : OpSet → ℕ
size s = count_ones s.0

-- nothing is in the set
abbrev pub Empty : OpSet → Type 0
Empty s = (k : ℕ) → has s k ≡ false

-- all that is in s is in t
abbrev pub Subset : OpSet → OpSet → Type 0
Subset s t = (k : ℕ) → has s k ≡ true → has t k ≡ true

-- i is the lowest index in the set
pub record Least (s : OpSet) (i : ℕ) : Type 0 where
  pub member : has s i ≡ true
  pub first : (k : ℕ) → k < i → has s k ≡ false
  pub index : i < 64

-- the list has what is in the set, each index once, in any order
pub record Listed (s : OpSet) (list : List ℕ) : Type 0 where
  pub once : (p q : ℕ) → p < q → q < length list → slice_index list p ≢ slice_index list q
  pub only : (p : ℕ) → p < length list → has s (slice_index list p) ≡ true
  pub every : (i : ℕ) → has s i ≡ true → (p : ℕ) × (p < length list) × (slice_index list p ≡ i)
