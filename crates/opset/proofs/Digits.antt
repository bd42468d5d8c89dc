-- Binary digits: under `&`, `|`, `^`, `!` and `1 << k`, the lowest that is 1, and how many are 1.
-- Each law reads a number as its lowest digit and its half, and goes on with the half.
use Rattle.std.proofs.Common.{◌≡◌, ℕ, zero, suc, ◌+◌, ◌-◌, ◌/◌, ◌%◌, ◌^◌, ◌<◌, ◌≤◌, min, max, Bool, true, false, cond, not, ◌&&◌, ◌||◌, eqb, ltb, ◌⊎◌, ◌∷◌, length, filter, sym, refl, ap, ◌∙◌, subst, ap₂, inl, inr, ⊎_elim, pow-suc, div-one, one-add, arith, pow_pos, shr-shr}
use lib.Arith.{bin_ind, lt-one}
use lib.Bits.{bit_and, bit_or, bit_xor, differ, and_step, or_step, xor_step, and_shr, or_shr, xor_shr}
use lib.Count.{ones, ones_step, count_trailing_zeros, under}
use lib.Dec.{eqb-zero-suc, eqb-suc-zero, eqb-suc-suc, leb-zero, leb-suc-zero, leb-suc-suc}
use Rattle.std.proofs.lemmas.Bool.{cases_lt, eqb-true, eqb-false}
use Rattle.std.proofs.lemmas.Bool.Decides.{nat_tests}
use Rattle.opset.specs.Digits.{bit}
use Rattle.opset.specs.Sets.{consecutive}

-- ---- one digit

pub bit_zero : (n : ℕ) → bit n 0 ≡ eqb (n % 2) 1
unfolding bit
bit_zero n = ap (λ (x : ℕ). eqb (x % 2) 1) (div-one n)

pub bit_suc : (n i : ℕ) → bit n (suc i) ≡ bit (n / 2) i
unfolding bit
bit_suc n i = ap (λ (x : ℕ). eqb (x % 2) 1) (ap (λ (x : ℕ). n / 2 ^ x) (sym (one-add i)) ∙ sym (shr-shr n 1 i))

pub bit_none : (i : ℕ) → bit 0 i ≡ false
bit_none zero = bit_zero 0
bit_none (suc i) = bit_suc 0 i ∙ bit_none i

-- a number of k digits has no digit 1 above them
pub bit_past : (k a i : ℕ) → a < 2 ^ k → k ≤ i → bit a i ≡ false
bit_past zero a i h l = ap (λ (x : ℕ). bit x i) (lt-one h) ∙ bit_none i
bit_past (suc k) a zero h l = absurd (omega arith)
bit_past (suc k) a (suc i) h l = bit_suc a i ∙ bit_past k (a / 2) i (omega (arith, pow-suc 2 k)) (omega arith)

two_digits : (x : ℕ) → x < 2 → (x ≡ 0) ⊎ (x ≡ 1)
two_digits x h = ⊎_elim (λ l. inl (omega arith)) (λ l. inr (omega arith)) (cases_lt x 1)

digit_same : (x y : ℕ) → x < 2 → y < 2 → eqb x 1 ≡ eqb y 1 → x ≡ y
digit_same x y p q e = grind (arith, nat_tests)

-- ---- the operations on words

digit_and : (x y : ℕ) → x < 2 → y < 2 → eqb (min x y) 1 ≡ (eqb x 1 && eqb y 1)
digit_and x y p q = grind (arith, nat_tests)

pub bit_of_and : (a b i : ℕ) → bit (bit_and a b) i ≡ (bit a i && bit b i)
bit_of_and a b zero =
    let low : bit_and a b % 2 ≡ min (a % 2) (b % 2) = omega (arith, and_step a b) in
    bit_zero (bit_and a b) ∙ ap (λ (x : ℕ). eqb x 1) low ∙ digit_and (a % 2) (b % 2) (omega arith) (omega arith) ∙ sym (ap₂ ◌&&◌ (bit_zero a) (bit_zero b))
bit_of_and a b (suc i) =
    bit_suc (bit_and a b) i ∙ ap (λ (x : ℕ). bit x i) (and_shr a b 1) ∙ bit_of_and (a / 2) (b / 2) i ∙ sym (ap₂ ◌&&◌ (bit_suc a i) (bit_suc b i))

digit_or : (x y : ℕ) → x < 2 → y < 2 → eqb (max x y) 1 ≡ (eqb x 1 || eqb y 1)
digit_or x y p q = grind (arith, nat_tests)

pub bit_of_or : (a b i : ℕ) → bit (bit_or a b) i ≡ (bit a i || bit b i)
bit_of_or a b zero =
    let low : bit_or a b % 2 ≡ max (a % 2) (b % 2) = omega (arith, or_step a b) in
    bit_zero (bit_or a b) ∙ ap (λ (x : ℕ). eqb x 1) low ∙ digit_or (a % 2) (b % 2) (omega arith) (omega arith) ∙ sym (ap₂ ◌||◌ (bit_zero a) (bit_zero b))
bit_of_or a b (suc i) =
    bit_suc (bit_or a b) i ∙ ap (λ (x : ℕ). bit x i) (or_shr a b 1) ∙ bit_of_or (a / 2) (b / 2) i ∙ sym (ap₂ ◌||◌ (bit_suc a i) (bit_suc b i))

digit_xor : (x y : ℕ) → (x ≡ 0) ⊎ (x ≡ 1) → (y ≡ 0) ⊎ (y ≡ 1) → (differ x y < 2) × (eqb (differ x y) 1 ≡ cond (eqb x 1) (not (eqb y 1)) (eqb y 1))
digit_xor x y (inl p) (inl q) = rw (p, q) (omega arith, refl)
digit_xor x y (inl p) (inr q) = rw (p, q) (omega arith, refl)
digit_xor x y (inr p) (inl q) = rw (p, q) (omega arith, refl)
digit_xor x y (inr p) (inr q) = rw (p, q) (omega arith, refl)

pub bit_of_xor : (a b i : ℕ) → bit (bit_xor a b) i ≡ cond (bit a i) (not (bit b i)) (bit b i)
bit_of_xor a b zero =
    let digit = digit_xor (a % 2) (b % 2) (two_digits (a % 2) (omega arith)) (two_digits (b % 2) (omega arith)) in
    let low : bit_xor a b % 2 ≡ differ (a % 2) (b % 2) = omega (arith, xor_step a b, digit.0) in
    bit_zero (bit_xor a b) ∙ ap (λ (x : ℕ). eqb x 1) low ∙ digit.1 ∙ sym (ap₂ (λ (x y : Bool). cond x (not y) y) (bit_zero a) (bit_zero b))
bit_of_xor a b (suc i) =
    bit_suc (bit_xor a b) i ∙ ap (λ (x : ℕ). bit x i) (xor_shr a b 1) ∙ bit_of_xor (a / 2) (b / 2) i ∙ sym (ap₂ (λ (x y : Bool). cond x (not y) y) (bit_suc a i) (bit_suc b i))

-- `!a`, in a word of k digits
pub bit_not : (k a i : ℕ) → a < 2 ^ k → i < k → bit ((2 ^ k - 1) - a) i ≡ not (bit a i)
bit_not zero a i h l = absurd (omega arith)
bit_not (suc k) a zero h l =
    let low : (2 ^ suc k - 1 - a) % 2 ≡ 1 - a % 2 = omega (arith, pow-suc 2 k) in
    let turned : eqb (1 - a % 2) 1 ≡ not (eqb (a % 2) 1) = ⊎_elim {C = eqb (1 - a % 2) 1 ≡ not (eqb (a % 2) 1)} (λ e. rw e refl) (λ e. rw e refl) (two_digits (a % 2) (omega arith)) in
    bit_zero (2 ^ suc k - 1 - a) ∙ ap (λ (x : ℕ). eqb x 1) low ∙ turned ∙ sym (ap not (bit_zero a))
bit_not (suc k) a (suc i) h l =
    let half : (2 ^ suc k - 1 - a) / 2 ≡ 2 ^ k - 1 - a / 2 = omega (arith, pow-suc 2 k) in
    bit_suc (2 ^ suc k - 1 - a) i ∙ ap (λ (x : ℕ). bit x i) half ∙ bit_not k (a / 2) i (omega (arith, pow-suc 2 k)) (omega arith) ∙ sym (ap not (bit_suc a i))

-- `a & !b`, in a word of k digits
pub bit_of_and_not : (k a b i : ℕ) → a < 2 ^ k → b < 2 ^ k → bit (bit_and a ((2 ^ k - 1) - b)) i ≡ (bit a i && not (bit b i))
bit_of_and_not k a b i p q =
    bit_of_and a ((2 ^ k - 1) - b) i
    ∙ ⊎_elim {C = (bit a i && bit ((2 ^ k - 1) - b) i) ≡ (bit a i && not (bit b i))}
    (λ l. ap (λ x. bit a i && x) (bit_not k b i q l))
    (λ l. let off = bit_past k a i p l in rw off refl)
    (cases_lt i k)

-- `1 << k`
pub bit_power : (k i : ℕ) → bit (2 ^ k) i ≡ eqb i k
bit_power zero zero = bit_zero 1
bit_power zero (suc i) = bit_suc 1 i ∙ bit_none i ∙ sym (eqb-suc-zero i)
bit_power (suc k) zero =
    let low : 2 ^ suc k % 2 ≡ 0 = omega (arith, pow-suc 2 k) in
    bit_zero (2 ^ suc k) ∙ ap (λ (x : ℕ). eqb x 1) low ∙ sym (eqb-zero-suc k)
bit_power (suc k) (suc i) =
    let half : 2 ^ suc k / 2 ≡ 2 ^ k = omega (arith, pow-suc 2 k) in
    bit_suc (2 ^ suc k) i ∙ ap (λ (x : ℕ). bit x i) half ∙ bit_power k i ∙ sym (eqb-suc-suc i k)

-- `(1 << k) - 1`, whose k lowest digits are 1
pub bit_lowest : (k i : ℕ) → bit (2 ^ k - 1) i ≡ ltb i k
bit_lowest zero i = bit_none i ∙ sym (leb-suc-zero i)
bit_lowest (suc k) zero =
    let low : (2 ^ suc k - 1) % 2 ≡ 1 = omega (arith, pow-suc 2 k, pow_pos k) in
    bit_zero (2 ^ suc k - 1) ∙ ap (λ (x : ℕ). eqb x 1) low ∙ sym (leb-suc-suc 0 k ∙ leb-zero k)
bit_lowest (suc k) (suc i) =
    let half : (2 ^ suc k - 1) / 2 ≡ 2 ^ k - 1 = omega (arith, pow-suc 2 k, pow_pos k) in
    bit_suc (2 ^ suc k - 1) i ∙ ap (λ (x : ℕ). bit x i) half ∙ bit_lowest k i ∙ sym (leb-suc-suc (suc i) k)

-- ---- numbers with the same digits are the same

pub no_bits : (n : ℕ) → ((i : ℕ) → bit n i ≡ false) → n ≡ 0
no_bits =
    bin_ind (λ n. ((i : ℕ) → bit n i ≡ false) → n ≡ 0) (λ h. refl)
    (λ n ih h.
    let high : n / 2 ≡ 0 = ih (λ i. sym (bit_suc n i) ∙ h (suc i)) in
    omega (arith, eqb-false (n % 2) 1 (sym (bit_zero n) ∙ h 0)))

pub same_bits : (a b : ℕ) → ((i : ℕ) → bit a i ≡ bit b i) → a ≡ b
same_bits =
    bin_ind (λ a. (b : ℕ) → ((i : ℕ) → bit a i ≡ bit b i) → a ≡ b) (λ b h. sym (no_bits b (λ i. sym (h i) ∙ bit_none i)))
    (λ a ih b h.
    let high : a / 2 ≡ b / 2 = ih (b / 2) (λ i. sym (bit_suc a i) ∙ h (suc i) ∙ bit_suc b i) in
    let low : a % 2 ≡ b % 2 = digit_same (a % 2) (b % 2) (omega arith) (omega arith) (sym (bit_zero a) ∙ h 0 ∙ bit_zero b) in
    omega arith)

-- ---- trailing zeros: the lowest digit that is 1

pub bit_trailing : (k a : ℕ) → 0 < a → a < 2 ^ k → bit a (count_trailing_zeros k a) ≡ true
unfolding count_trailing_zeros
bit_trailing zero a p h = absurd (omega arith)
bit_trailing (suc k) a p h = go (λ q. bit_trailing k (a / 2) q (omega (arith, pow-suc 2 k))) (two_digits (a % 2) (omega arith))
  where
    go : (0 < a / 2 → bit (a / 2) (count_trailing_zeros k (a / 2)) ≡ true) → (a % 2 ≡ 0) ⊎ (a % 2 ≡ 1) → bit a (under (a % 2) (count_trailing_zeros k (a / 2))) ≡ true
    go rest (inl e) = rw e (bit_suc a (count_trailing_zeros k (a / 2)) ∙ rest (omega arith))
    go rest (inr e) = rw e (bit_zero a ∙ ap (λ (x : ℕ). eqb x 1) e)

pub bit_under_trailing : (k a i : ℕ) → i < count_trailing_zeros k a → bit a i ≡ false
unfolding count_trailing_zeros
bit_under_trailing zero a i h = absurd (omega arith)
bit_under_trailing (suc k) a zero h = go (two_digits (a % 2) (omega arith))
  where
    go : (a % 2 ≡ 0) ⊎ (a % 2 ≡ 1) → bit a 0 ≡ false
    go (inl e) = bit_zero a ∙ ap (λ (x : ℕ). eqb x 1) e
    go (inr e) = absurd (omega (arith, subst (λ (x : ℕ). 0 < under x (count_trailing_zeros k (a / 2))) e h))
bit_under_trailing (suc k) a (suc i) h = go (two_digits (a % 2) (omega arith)) (bit_under_trailing k (a / 2) i)
  where
    go : (a % 2 ≡ 0) ⊎ (a % 2 ≡ 1) → (i < count_trailing_zeros k (a / 2) → bit (a / 2) i ≡ false) → bit a (suc i) ≡ false
    go (inl e) rest = bit_suc a i ∙ rest (omega (arith, subst (λ (x : ℕ). suc i < under x (count_trailing_zeros k (a / 2))) e h))
    go (inr e) rest = absurd (omega (arith, subst (λ (x : ℕ). suc i < under x (count_trailing_zeros k (a / 2))) e h))

-- ---- counted ones: how many digits are 1

pub ones_of_zero : ones 0 ≡ 0
unfolding ones
ones_of_zero = refl

pub ones_none : (n : ℕ) → ones n ≡ 0 → n ≡ 0
ones_none =
    bin_ind (λ n. ones n ≡ 0 → n ≡ 0) (λ h. refl)
    (λ n ih h. let high : n / 2 ≡ 0 = ih (omega (arith, ones_step n)) in omega (arith, ones_step n))

-- the digits of n from `suc first` on are those of its half from `first` on
shifted_count : (n first count : ℕ) → length (filter (bit n) (consecutive (suc first) count)) ≡ length (filter (bit (n / 2)) (consecutive first count))
shifted_count n first zero = refl
shifted_count n first (suc count) = rw (bit_suc n first) (go (bit (n / 2) first) (shifted_count n (suc first) count))
  where
    go : (b : Bool) → length (filter (bit n) (consecutive (suc (suc first)) count)) ≡ length (filter (bit (n / 2)) (consecutive (suc first) count)) → length (cond b (suc first ∷ filter (bit n) (consecutive (suc (suc first)) count)) (filter (bit n) (consecutive (suc (suc first)) count))) ≡ length (cond b (first ∷ filter (bit (n / 2)) (consecutive (suc first) count)) (filter (bit (n / 2)) (consecutive (suc first) count)))
    go true e = ap suc e
    go false e = e

-- the places of the digits that are 1 are as many as the counted ones
pub ones_listed : (k n : ℕ) → n < 2 ^ k → ones n ≡ length (filter (bit n) (consecutive 0 k))
ones_listed zero n h = ap ones (lt-one h) ∙ ones_of_zero
ones_listed (suc k) n h =
    ones_step n ∙ ap (λ (x : ℕ). n % 2 + x) (ones_listed k (n / 2) (omega (arith, pow-suc 2 k)) ∙ sym (shifted_count n 0 k)) ∙ go (two_digits (n % 2) (omega arith))
  where
    go : (n % 2 ≡ 0) ⊎ (n % 2 ≡ 1) → n % 2 + length (filter (bit n) (consecutive 1 k)) ≡ length (cond (bit n 0) (0 ∷ filter (bit n) (consecutive 1 k)) (filter (bit n) (consecutive 1 k)))
    go (inl e) = let b : bit n 0 ≡ false = bit_zero n ∙ ap (λ (x : ℕ). eqb x 1) e in rw b (omega arith)
    go (inr e) = let b : bit n 0 ≡ true = bit_zero n ∙ ap (λ (x : ℕ). eqb x 1) e in rw b (omega arith)

-- where m differs from n only in digit i, which is 1 in n, it has one less
pub ones_less : (i n m : ℕ) → bit n i ≡ true → bit m i ≡ false → ((j : ℕ) → (j ≡ i → ⊥) → bit m j ≡ bit n j) → ones m + 1 ≡ ones n
ones_less zero n m p q r =
    let same : m / 2 ≡ n / 2 = same_bits (m / 2) (n / 2) (λ j. sym (bit_suc m j) ∙ r (suc j) (λ e. omega arith) ∙ bit_suc n j) in
    omega (arith, ones_step n, ones_step m, ap ones same, eqb-true (n % 2) 1 (sym (bit_zero n) ∙ p), eqb-false (m % 2) 1 (sym (bit_zero m) ∙ q))
ones_less (suc i) n m p q r =
    let rest : ones (m / 2) + 1 ≡ ones (n / 2) = ones_less i (n / 2) (m / 2) (sym (bit_suc n i) ∙ p) (sym (bit_suc m i) ∙ q) (λ j d. sym (bit_suc m j) ∙ r (suc j) (λ e. d (omega arith)) ∙ bit_suc n j) in
    let low : m % 2 ≡ n % 2 = digit_same (m % 2) (n % 2) (omega arith) (omega arith) (sym (bit_zero m) ∙ r 0 (λ e. omega arith) ∙ bit_zero n) in
    omega (arith, ones_step n, ones_step m)
