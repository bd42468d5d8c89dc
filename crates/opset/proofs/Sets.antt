-- Laws of sets, in terms of their members and sizes alone, for the crates above.
-- Where a law asks that the word is below 2 ^ 64, that holds of every set that the code has.
use Rattle.std.proofs.Common.{◌≡◌, ℕ, zero, suc, ◌+◌, ◌^◌, ◌<◌, ◌≤◌, Bool, true, false, cond, not, ◌&&◌, ◌||◌, eqb, ltb, List, [], ◌∷◌, length, get_or, sym, refl, ap, ◌∙◌, ⊎_elim, arith}
use lib.Bits.{bit_xor}
use lib.Count.{ones, ones-le}
use Rattle.std.proofs.lemmas.Bool.{eq-eqb, ne_eqb, eqb-true, lt-ltb, cases_lt, cases_Bool, true≢false, and_from, and_parts, not-true}
use Rattle.opset.specs.Digits.{bit}
use Rattle.opset.specs.Sets.{has, members, size, Empty, Listed}
use Rattle.opset.specs.declared.OpSet.{OpSet}
use Rattle.opset.proofs.Digits.{bit_none, bit_past, bit_of_xor, bit_power, no_bits, ones_of_zero, ones_none, ones_listed, ones_less}

-- ---- members

-- the word 0 is the empty set
pub has_none : Empty (record { 0 = 0 })
unfolding has
has_none k = bit_none k

-- an index of 64 or more is in no set
pub has_past : (s : OpSet) (i : ℕ) → s.0 < 2 ^ 64 → 64 ≤ i → has s i ≡ false
unfolding has
has_past s i h l = bit_past 64 s.0 i h l

-- a member is an index below 64
pub has_below : (s : OpSet) (i : ℕ) → s.0 < 2 ^ 64 → has s i ≡ true → i < 64
has_below s i h t = ⊎_elim (λ l. l) (λ l. absurd (true≢false (sym t ∙ has_past s i h l))) (cases_lt i 64)

-- what `with` says of its members, where its index is below 64
pub with_below : (i k : ℕ) (b : Bool) → i < 64 → (b || (eqb k i && ltb i 64)) ≡ (b || eqb k i)
with_below i k b l = let e = lt-ltb i 64 l in rw e (go b (eqb k i))
  where
    go : (x y : Bool) → (x || (y && true)) ≡ (x || y)
    go true y = refl
    go false true = refl
    go false false = refl

-- ---- sizes

-- an empty set has size 0
pub size_none : (s : OpSet) → Empty s → size s ≡ 0
unfolding has size
size_none s h = ap ones (no_bits s.0 h) ∙ ones_of_zero

-- a set with a member has a size above 0
pub size_some : (s : OpSet) (i : ℕ) → has s i ≡ true → 0 < size s
unfolding has size
size_some s i h = ⊎_elim {C = 0 < ones s.0} (λ l. l) (λ l. absurd (true≢false (sym h ∙ ap (λ (x : ℕ). bit x i) (ones_none s.0 (omega arith)) ∙ bit_none i))) (cases_lt 0 (ones s.0))

-- no set is larger than 64
pub size_le : (s : OpSet) → s.0 < 2 ^ 64 → size s ≤ 64
unfolding size
size_le s h = ones-le 64 s.0 h

-- the size is the length of the list of members
pub size_members : (s : OpSet) → s.0 < 2 ^ 64 → size s ≡ length (members s)
unfolding has members size
size_members s h = ones_listed 64 s.0 h

-- a member taken out leaves one less
pub size_without : (s t : OpSet) (i : ℕ) → has s i ≡ true → ((k : ℕ) → has t k ≡ (has s k && not (eqb k i))) → size t + 1 ≡ size s
unfolding has size
size_without s t i e h = ones_less i s.0 t.0 e (h i ∙ gone (has s i)) (λ j d. h j ∙ kept (has s j) j d)
  where
    gone : (x : Bool) → (x && not (eqb i i)) ≡ false
    gone true = ap not (eq-eqb i i refl)
    gone false = refl

    kept : (x : Bool) (j : ℕ) → (j ≡ i → ⊥) → (x && not (eqb j i)) ≡ x
    kept true j d = ap not (ne_eqb j i d)
    kept false j d = refl

-- ---- lists of the members

-- the set with member i taken out
but : OpSet → ℕ → OpSet
but s i = record { 0 = bit_xor s.0 (2 ^ i) }

but_has : (s : OpSet) (i : ℕ) → has s i ≡ true → (k : ℕ) → has (but s i) k ≡ (has s k && not (eqb k i))
unfolding has but
but_has s i h k = bit_of_xor s.0 (2 ^ i) k ∙ ap (λ (b : Bool). cond (bit s.0 k) (not b) b) (bit_power i k) ∙ go (bit s.0 k) (eqb k i) (λ e. ap (bit s.0) (eqb-true k i e) ∙ h)
  where
    go : (x e : Bool) → (e ≡ true → x ≡ true) → cond x (not e) e ≡ (x && not e)
    go true e d = refl
    go false true d = sym (d refl)
    go false false d = refl

-- without its first element, a list of the members of s is one of t, which is s without that element
listed_rest : (s t : OpSet) (x : ℕ) (list : List ℕ) → ((k : ℕ) → has t k ≡ (has s k && not (eqb k x))) → Listed s (x ∷ list) → Listed t list
listed_rest s t x list told h =
    record {
      once = λ p q l m. h.once (suc p) (suc q) (omega arith) (omega arith);
      only = λ p l. told (get_or list p 0) ∙ and_from _ _ (h.only (suc p) (omega arith)) (ap not (ne_eqb (get_or list p 0) x (λ e. h.once 0 (suc p) (omega arith) (omega arith) (sym e))));
      every = λ i e. let parts = and_parts (has s i) (not (eqb i x)) (sym (told i) ∙ e) in later i (not-true (eqb i x) parts.1) (h.every i parts.0);
    }
  where
    later : (i : ℕ) → eqb i x ≡ false → (p : ℕ) × (p < suc (length list)) × (get_or (x ∷ list) p 0 ≡ i) → (p : ℕ) × (p < length list) × (get_or list p 0 ≡ i)
    later i d (zero, l, e) = absurd (true≢false (sym (eq-eqb i x (sym e)) ∙ d))
    later i d (suc p, l, e) = (p, omega arith, e)

-- a list that has each member once is as long as the set is large
pub size_listed : (s : OpSet) (list : List ℕ) → Listed s list → length list ≡ size s
size_listed s [] h = sym (size_none s (λ i. ⊎_elim {C = has s i ≡ false} (λ e. absurd (omega (arith, (h.every i e).1))) (λ e. e) (cases_Bool (has s i))))
size_listed s (x ∷ list) h =
    let here = h.only 0 (omega arith) in
    let told = but_has s x here in
    omega (arith, size_listed (but s x) list (listed_rest s (but s x) x list told h), size_without s (but s x) x here told)
