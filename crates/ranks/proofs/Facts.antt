-- The list of numbers has every operation's number once, rising.
use Rattle.std.proofs.Common.{◌≡◌, ℕ, zero, suc, ◌+◌, ◌-◌, ◌*◌, ◌<◌, ◌≤◌, false, List, [], ◌∷◌, length, get_or, drop, is_some, Some, None, sum_by, sym, refl, ap, ◌∙◌, subst, ⊎_elim, zero-add, arith}
use Rattle.std.specs.List.{AllByRecursion}
use Rattle.std.proofs.ByRecursion.{All-get_or, All-weaker}
use Rattle.std.proofs.lemmas.List.{drop_all}
use Rattle.std.proofs.lemmas.List.Sums.{get_or-le-sum_by, sum_by-drop_more}
use Rattle.std.proofs.lemmas.Bool.{cases_Bool, cases_eq, cases_lt, cond-true, cond-false, both_ways}
use Rattle.trace.specs.declared.operation.Kind.TheVariants.{Read}
use Rattle.trace.specs.declared.operation.Operation.{Operation}
use Rattle.trace.specs.Operations.{processor_of, position_of}
use Rattle.trace.specs.Traces.{Trace, processor_count, operation_count, operation_at, lane_at, positioned, There}
use Rattle.trace.proofs.Lanes.{lane_at_place, nowhere_below, nowhere_past, positioned_in, positioned_out}
use Rattle.ranks.specs.Numbers.{numbers_from, numbers, Numbers}

unused : Operation
unused = record { kind = Read; variable = 0; source = 0; value = 0 }

module _ (t : Trace) where
  -- each is an operation's, and from i on
  members : (n i : ℕ) → AllByRecursion (λ k. (i ≤ k) × There t k) (numbers_from t i n)
  members zero i = tt
  members (suc n) i =
      let later : AllByRecursion (λ k. (i ≤ k) × There t k) (numbers_from t (i + 1) n) = All-weaker (λ k. (i + 1 ≤ k) × There t k) (λ k. (i ≤ k) × There t k) (λ k h. (omega (arith, h.0), h.1)) (numbers_from t (i + 1) n) (members n (i + 1)) in
      ⊎_elim
      (λ b. subst (AllByRecursion (λ k. (i ≤ k) × There t k)) (sym (cond-true _ _ _ b)) ((omega arith, b), later))
      (λ b. subst (AllByRecursion (λ k. (i ≤ k) × There t k)) (sym (cond-false _ _ _ b)) later)
      (cases_Bool (is_some (operation_at t i)))

  -- each number is below those after it
  Sorted : List ℕ → Type 0
  Sorted [] = Unit {0}
  Sorted (x ∷ xs) = AllByRecursion (λ y. x < y) xs × Sorted xs

  sorted : (n i : ℕ) → Sorted (numbers_from t i n)
  unfolding Sorted
  sorted zero i = tt
  sorted (suc n) i =
      ⊎_elim
      (λ b. subst Sorted (sym (cond-true _ _ _ b)) (All-weaker (λ k. (i + 1 ≤ k) × There t k) (λ k. i < k) (λ k h. omega (arith, h.0)) (numbers_from t (i + 1) n) (members n (i + 1)), sorted n (i + 1)))
      (λ b. subst Sorted (sym (cond-false _ _ _ b)) (sorted n (i + 1)))
      (cases_Bool (is_some (operation_at t i)))

  sorted_at : (xs : List ℕ) (r s : ℕ) → Sorted xs → r < s → s < length xs → get_or xs r 0 < get_or xs s 0
  unfolding Sorted
  sorted_at [] r s h l m = absurd (omega arith)
  sorted_at (x ∷ xs) zero zero h l m = absurd (omega arith)
  sorted_at (x ∷ xs) zero (suc s) h l m = All-get_or (λ y. x < y) xs s 0 (omega arith) h.0
  sorted_at (x ∷ xs) (suc r) zero h l m = absurd (omega arith)
  sorted_at (x ∷ xs) (suc r) (suc s) h l m = sorted_at xs r s h.1 (omega arith) (omega arith)

  -- k stands somewhere in the list
  Found : List ℕ → ℕ → Type 0
  Found xs k = (r : ℕ) × (r < length xs) × (get_or xs r 0 ≡ k)

  found : (n i k : ℕ) → i ≤ k → k < i + n → There t k → Found (numbers_from t i n) k
  unfolding Found
  found zero i k l h e = absurd (omega arith)
  found (suc n) i k l h e =
      ⊎_elim
      (λ b. subst (λ xs. Found xs k) (sym (cond-true _ _ _ b))
      (⊎_elim
      (λ same. (0, omega arith, sym same))
      (λ other. let f = found n (i + 1) k (omega arith) (omega arith) e in (suc f.0, omega (arith, f.1), f.2))
      (cases_eq k i)))
      (λ b. subst (λ xs. Found xs k) (sym (cond-false _ _ _ b))
      (found n (i + 1) k (other_than i k l b e) (omega arith) e))
      (cases_Bool (is_some (operation_at t i)))
    where
      other_than : (a c : ℕ) → a ≤ c → is_some (operation_at t a) ≡ false → There t c → a + 1 ≤ c
      other_than a c le b there = ⊎_elim (λ same. absurd (both_ways _ (subst (λ x. is_some (operation_at t x) ≡ false) (sym same) b) there)) (λ ne. omega arith) (cases_eq c a)

  -- no operation has another number
  outside : (i : ℕ) → There t i → (101 ≤ i) × (i < 101 + 100 * processor_count t)
  outside i e = (
    ⊎_elim (λ l. absurd (no_there i (nowhere_below t i l) e)) (λ l. l) (cases_lt i 101),
    ⊎_elim (λ l. l) (λ l. absurd (no_there i (nowhere_past t i l) e)) (cases_lt i (101 + 100 * processor_count t)),
  )
    where
      no_there : (k : ℕ) → operation_at t k ≡ None → There t k → ⊥
      no_there k n h = both_ways _ (ap is_some n) h

  -- two runs of numbers, one after the other
  split : (n m k i : ℕ) → k ≡ n + m → length (numbers_from t i k) ≡ length (numbers_from t i n) + length (numbers_from t (i + n) m)
  split zero m k i e =
      let z : k ≡ m = omega arith in
      let y : i ≡ i + 0 = omega arith in
      (λ j. length (numbers_from t (y j) (z j))) ∙ sym (zero-add (length (numbers_from t (i + 0) m)))
  split (suc n) m zero i e = absurd (omega arith)
  split (suc n) m (suc k) i e =
      let r : length (numbers_from t (i + 1) k) ≡ length (numbers_from t (i + 1) n) + length (numbers_from t (i + suc n) m) =
      split n m k (i + 1) (omega arith) ∙ ap (λ j. length (numbers_from t (i + 1) n) + length (numbers_from t j m)) (omega arith) in
      ⊎_elim
      (λ b. ap length (cond-true _ _ _ b) ∙ ap suc r ∙ (omega arith) ∙ sym (ap (λ xs. length xs + length (numbers_from t (i + suc n) m)) (cond-true _ _ _ b)))
      (λ b. ap length (cond-false _ _ _ b) ∙ r ∙ sym (ap (λ xs. length xs + length (numbers_from t (i + suc n) m)) (cond-false _ _ _ b)))
      (cases_Bool (is_some (operation_at t i)))

  -- the numbers of one processor stand at its positions, and no others
  at : (a c : ℕ) → c < 99 → operation_at t (100 * a + 1 + c) ≡ positioned (lane_at t a) (c + 1)
  at a c l =
      let x : processor_of (100 * a + 1 + c) ≡ a = omega arith in
      let y : position_of (100 * a + 1 + c) ≡ c + 1 = omega arith in
      λ j. positioned (lane_at t (x j)) (y j)

  here : (a c : ℕ) → c < length (lane_at t a) → length (lane_at t a) ≤ 64 → operation_at t (100 * a + 1 + c) ≡ Some (get_or (lane_at t a) (c + 1 - 1) unused)
  here a c l h = at a c (omega arith) ∙ positioned_in (lane_at t a) (c + 1) unused (omega arith) (omega arith)

  gone : (a c : ℕ) → length (lane_at t a) ≤ c → c < 100 → operation_at t (100 * a + 1 + c) ≡ None
  gone a c l h =
      ⊎_elim
      (λ k. at a c k ∙ positioned_out (lane_at t a) (c + 1) (omega arith))
      (λ k. let y : position_of (100 * a + 1 + c) ≡ 0 = omega arith in ap (positioned (lane_at t (processor_of (100 * a + 1 + c)))) y)
      (cases_lt c 99)

  -- the numbers of one processor, from its position q + 1 on
  block : (p : ℕ) → length (lane_at t p) ≤ 64 → (n q : ℕ) → q + n ≡ 100 → length (numbers_from t (100 * p + 1 + q) n) ≡ length (lane_at t p) - q
  block p short zero q e = omega arith
  block p short (suc n) q e =
      let i = 100 * p + 1 + q in
      let next : 100 * p + 1 + q + 1 ≡ 100 * p + 1 + (q + 1) = omega arith in
      let rest : length (numbers_from t (100 * p + 1 + q + 1) n) ≡ length (lane_at t p) - (q + 1) = ap (λ k. length (numbers_from t k n)) next ∙ block p short n (q + 1) (omega arith) in
      ⊎_elim
      (λ l. ap length (cond-true _ _ _ (ap is_some (here p q l (omega arith)))) ∙ ap suc rest ∙ omega arith)
      (λ l. ap length (cond-false _ _ _ (ap is_some (gone p q l (omega arith)))) ∙ rest ∙ omega arith)
      (cases_lt q (length (lane_at t p)))

  -- a lane is no longer than all together
  pub short : operation_count t ≤ 64 → (p : ℕ) → 1 ≤ p → p - 1 < processor_count t → length (lane_at t p) ≤ 64
  short few p low within = omega (arith, ap length (lane_at_place t p low), get_or-le-sum_by length t.lanes (p - 1) [] within)

  -- the numbers of the processors from p on; w is 100, and not written out, so that nothing computes a hundred steps
  blocks : (w : ℕ) → w ≡ 100 → operation_count t ≤ 64 → (k p : ℕ) → 1 ≤ p → p + k ≡ processor_count t + 1 → length (numbers_from t (100 * p + 1) (100 * k)) ≡ sum_by length (drop (p - 1) t.lanes)
  blocks w hundred few zero p low e = sym (ap (sum_by length) (drop_all (p - 1) t.lanes (omega arith)))
  blocks w hundred few (suc k) p low e =
      let within : p - 1 < length t.lanes = omega arith in
      let same = ap length (lane_at_place t p low) in
      let few_here = short few p low within in
      let start : 100 * p + 1 ≡ 100 * p + 1 + 0 = omega arith in
      let first : length (numbers_from t (100 * p + 1) w) ≡ length (lane_at t p) - 0 = ap (λ i. length (numbers_from t i w)) start ∙ block p few_here w 0 (omega arith) in
      let next : 100 * p + 1 + w ≡ 100 * (p + 1) + 1 = omega arith in
      let after : p + 1 - 1 ≡ p - 1 + 1 = omega arith in
      let later : length (numbers_from t (100 * p + 1 + w) (100 * k)) ≡ sum_by length (drop (p - 1 + 1) t.lanes) =
      ap (λ i. length (numbers_from t i (100 * k))) next ∙ blocks w hundred few k (p + 1) (omega arith) (omega arith) ∙ ap (λ i. sum_by length (drop i t.lanes)) after in
      let sum = sum_by-drop_more length t.lanes (p - 1) [] within in
      let whole = split w (100 * k) (100 * suc k) (100 * p + 1) (omega arith) in
      omega (arith, whole, first, later, sum, same)

  pub facts : operation_count t ≤ 64 → Numbers t
  unfolding Found
  facts few =
      let all = members (100 * processor_count t) 101 in
      record {
        few = few;
        count = blocks 100 refl few (processor_count t) 1 (omega arith) (omega arith);
        there = λ r h. (All-get_or (λ k. (101 ≤ k) × There t k) (numbers t) r 0 h all).1;
        every = λ i e. let f = found (100 * processor_count t) 101 i (outside i e).0 (outside i e).1 e in (f.0, record { within = f.1; at = f.2 });
        rising = λ r s l h. sorted_at (numbers t) r s (sorted (100 * processor_count t) 101) l h;
      }

  -- the step of a loop that goes through the numbers up to an end
  module _ (i end : ℕ) (h : i < end) where
    one_less : end - i ≡ suc (end - (i + 1))
    one_less = omega arith

    pub here_next : There t i → numbers_from t i (end - i) ≡ i ∷ numbers_from t (i + 1) (end - (i + 1))
    here_next e = ap (numbers_from t i) one_less ∙ cond-true _ _ _ e

    pub none_next : is_some (operation_at t i) ≡ false → numbers_from t i (end - i) ≡ numbers_from t (i + 1) (end - (i + 1))
    none_next e = ap (numbers_from t i) one_less ∙ cond-false _ _ _ e

  -- numbers at which there is none are passed over
  pub past : (k i end : ℕ) → i + k ≤ end → ((j : ℕ) → i ≤ j → j < i + k → is_some (operation_at t j) ≡ false) → numbers_from t i (end - i) ≡ numbers_from t (i + k) (end - (i + k))
  past zero i end l none = ap (λ j. numbers_from t j (end - j)) (omega arith)
  past (suc k) i end l none =
      none_next i end (omega arith) (none i (omega arith) (omega arith))
      ∙ past k (i + 1) end (omega arith) (λ j low high. none j (omega arith) (omega arith))
      ∙ ap (λ j. numbers_from t j (end - j)) (omega arith)

  -- after the last number of one processor stand those of the next
  pub next_block : operation_count t ≤ 64 → (p end : ℕ) → 1 ≤ p → p - 1 < processor_count t → 100 * p + 101 ≤ end
      → numbers_from t (100 * p + 1 + length (lane_at t p)) (end - (100 * p + 1 + length (lane_at t p))) ≡ numbers_from t (100 * p + 101) (end - (100 * p + 101))
  next_block few p end low within room =
      let h = short few p low within in
      let n = length (lane_at t p) in
      let whole : 100 * p + 1 + n + (100 - n) ≡ 100 * p + 101 = omega (arith, h) in
      past (100 - n) (100 * p + 1 + n) end (omega (arith, whole)) (λ j l m. none_at p h j (omega (arith, l)) (omega (arith, m, whole)))
      ∙ ap (λ j. numbers_from t j (end - j)) whole
    where
      none_at : (a : ℕ) → length (lane_at t a) ≤ 64 → (j : ℕ) → 100 * a + 1 + length (lane_at t a) ≤ j → j < 100 * a + 101 → is_some (operation_at t j) ≡ false
      none_at a h j l m =
          let c = j - (100 * a + 1) in
          let e : j ≡ 100 * a + 1 + c = omega arith in
          ap (λ i. is_some (operation_at t i)) e ∙ ap is_some (gone a c (omega arith) (omega arith))

  -- there is an operation at each number of a lane
  pub there_at : operation_count t ≤ 64 → (p i : ℕ) → 1 ≤ p → p - 1 < processor_count t → 100 * p + 1 ≤ i → i < 100 * p + 1 + length (lane_at t p) → There t i
  there_at few p i low within l m =
      let c = i - (100 * p + 1) in
      let e : i ≡ 100 * p + 1 + c = omega arith in
      ap (λ k. is_some (operation_at t k)) e ∙ ap is_some (here p c (omega arith) (short few p low within))
