-- Lists that are gone through from the beginning: what is so of every number and what stands before it.
use Rattle.std.proofs.Common.{◌≡◌, ℕ, suc, ◌+◌, ◌<◌, ◌≤◌, Bool, true, ◌&&◌, ◌||◌, eqb, ltb, ◌⊎◌, List, [], ◌∷◌, ◌++◌, length, get_or, take, drop, Decides, sym, refl, ap, ◌∙◌, subst, inl, inr, ⊎_elim, arith}
use lib.ListN.{get_or-eq_default}
use lib.Seq.{split_at}
use Rattle.std.proofs.lemmas.List.{length-append, append_assoc, take_more, take_all}
use Rattle.std.proofs.lemmas.Bool.{false≢true, both_ways, cases_lt, eqb-true, eq-eqb, lt-ltb, or_cases, or_left, or_right, and_parts, and_from}
use Rattle.opset.specs.declared.OpSet.{OpSet}
use Rattle.opset.specs.Sets.{has, Empty}
use Rattle.trace.specs.Traces.{Trace, There}
use Rattle.ranks.specs.Numbers.{numbers, number_at, RankOf, Unlisted, Numbers}
use Rattle.models.specs.Rows.{Row}
use Rattle.orders.specs.Lists.{Stands}
use Rattle.orders.proofs.Places.{not_parted}

-- every number of the list is P of what stands before it
abbrev pub Each : (List ℕ → ℕ → Type 0) → List ℕ → Type 0
Each P list = (before after : List ℕ) (j : ℕ) → list ≡ before ++ j ∷ after → P before j

-- a list with one number more, parted at a number: at the last, or before it
pub snoc_parted : (xs before after : List ℕ) (x j : ℕ) → xs ++ x ∷ [] ≡ before ++ j ∷ after → ((before ≡ xs) × (j ≡ x)) ⊎ ((rest : List ℕ) × (xs ≡ before ++ j ∷ rest))
snoc_parted [] [] after x j e = let head : j ≡ x = cc in inl (refl, head)
snoc_parted [] (y ∷ before) after x j e = absurd (omega (arith, ap length e, length-append before (j ∷ after)))
snoc_parted (z ∷ xs) [] after x j e = let head : z ≡ j = cc in inr (xs, ap (λ y. y ∷ xs) head)
snoc_parted (z ∷ xs) (y ∷ before) after x j e =
    let head : z ≡ y = cc in
    let tail : xs ++ x ∷ [] ≡ before ++ j ∷ after = cc in
    ⊎_elim
    (λ h. inl ((λ i. sym head i ∷ h.0 i), h.1))
    (λ h. inr (h.0, λ i. head i ∷ h.1 i))
    (snoc_parted xs before after x j tail)

module _ (P : List ℕ → ℕ → Type 0) where
  pub each_none : Each P []
  each_none before after j e = absurd (not_parted before after j e)

  pub each_more : (list : List ℕ) (i : ℕ) → i < length list → Each P (take i list) → P (take i list) (get_or list i 0) → Each P (take (i + 1) list)
  each_more list i l all p before after j e =
      ⊎_elim
      (λ h. subst (λ front. P front j) (sym h.0) (subst (P (take i list)) (sym h.1) p))
      (λ h. all before h.0 j h.1)
      (snoc_parted (take i list) before after (get_or list i 0) j (sym (take_more list i 0 l) ∙ e))

  pub each_all : (list : List ℕ) (i : ℕ) → length list ≤ i → Each P (take i list) → Each P list
  each_all list i l all = subst (Each P) (take_all i list l) all

  pub each_here : (list : List ℕ) (i : ℕ) → i < length list → Each P list → P (take i list) (get_or list i 0)
  each_here list i l all = all (take i list) (drop (suc i) list) (get_or list i 0) (split_at list i 0 l)

pub stands_snoc : (xs : List ℕ) (x i : ℕ) → Stands (xs ++ x ∷ []) i → Stands xs i ⊎ (i ≡ x)
stands_snoc xs x i s =
    ⊎_elim
    (λ h. inr h.1)
    (λ h. inl (record { before = s.before; after = h.0; is = h.1 }))
    (snoc_parted xs s.before s.after x i s.is)

pub stands_front : (xs ys : List ℕ) (i : ℕ) → Stands xs i → Stands (xs ++ ys) i
stands_front xs ys i s = record { before = s.before; after = s.after ++ ys; is = ap (λ l. l ++ ys) s.is ∙ append_assoc s.before (i ∷ s.after) ys }

pub stands_last : (xs : List ℕ) (x : ℕ) → Stands (xs ++ x ∷ []) x
stands_last xs x = record { before = xs; after = []; is = refl }

-- a set of ranks has exactly those whose operations stand in the list
pub record Seen (t : Trace) (list : List ℕ) (seen : OpSet) : Type 0 where
  pub each : (r : ℕ) → r < length (numbers t) → Decides (has seen r) (Stands list (number_at (numbers t) r))

module _ (t : Trace) (facts : Numbers t) where
  -- a number has one rank
  pub one_rank : (r s : ℕ) → r < length (numbers t) → s < length (numbers t) → number_at (numbers t) r ≡ number_at (numbers t) s → r ≡ s
  one_rank r s lr ls e =
      ⊎_elim
      (λ l. absurd (omega (arith, facts.rising r s l ls, e)))
      (λ ge. ⊎_elim (λ l. absurd (omega (arith, facts.rising s r l lr, e))) (λ le. omega arith) (cases_lt s r))
      (cases_lt r s)

  pub seen_none : (seen : OpSet) → Empty seen → Seen t [] seen
  seen_none seen e = record { each = λ r l. (λ b. absurd (both_ways (has seen r) (e r) b), λ s. absurd (not_parted s.before s.after (number_at (numbers t) r) s.is)) }

  pub seen_more : (list : List ℕ) (seen next : OpSet) (number rank : ℕ) → rank < 64 → Seen t list seen → RankOf (numbers t) number rank → ((k : ℕ) → has next k ≡ (has seen k || (eqb k rank && ltb rank 64))) → Seen t (list ++ number ∷ []) next
  seen_more list seen next number rank l s at e =
      record {
        each = λ r lr. (
          λ b.
              ⊎_elim
              (λ h. stands_front list (number ∷ []) (number_at (numbers t) r) ((s.each r lr).0 h))
              (λ h.
              let same = eqb-true r rank (and_parts (eqb r rank) (ltb rank 64) h).0 in
              subst (λ k. Stands (list ++ number ∷ []) k) (sym at.at ∙ ap (number_at (numbers t)) (sym same)) (stands_last list number))
              (or_cases (has seen r) (eqb r rank && ltb rank 64) (sym (e r) ∙ b)),
          λ h.
              e r ∙
              ⊎_elim
              (λ w. or_left (has seen r) (eqb r rank && ltb rank 64) ((s.each r lr).1 w))
              (λ w. or_right (has seen r) (eqb r rank && ltb rank 64) (and_from (eqb r rank) (ltb rank 64) (eq-eqb r rank (one_rank r rank lr at.within (w ∙ sym at.at))) (lt-ltb rank 64 l)))
              (stands_snoc list number (number_at (numbers t) r) h),
        );
      }

-- a number of no operation has no rank to mark
pub seen_skips : (t : Trace) (list : List ℕ) (seen : OpSet) (number : ℕ) → Seen t list seen → Unlisted (numbers t) number → Seen t (list ++ number ∷ []) seen
seen_skips t list seen number s none =
    record {
      each = λ r lr. (
        λ b. stands_front list (number ∷ []) (number_at (numbers t) r) ((s.each r lr).0 b),
        λ h. ⊎_elim (s.each r lr).1 (λ e. absurd (none r (record { within = lr; at = e }))) (stands_snoc list number (number_at (numbers t) r) h),
      );
    }

-- no trace has more operations than a set can
pub few_numbers : (t : Trace) → Numbers t → length (numbers t) ≤ 64
few_numbers t facts = omega (arith, facts.count, facts.few)

-- the first i numbers are P of what stands before them, and the set has their ranks
pub record UpTo (P : List ℕ → ℕ → Type 0) (t : Trace) (list : List ℕ) (i : ℕ) (seen : OpSet) : Type 0 where
  pub each : Each P (take i list)
  pub marked : Seen t (take i list) seen

module _ (P : List ℕ → ℕ → Type 0) (t : Trace) (facts : Numbers t) (list : List ℕ) where
  pub upto_none : (seen : OpSet) → Empty seen → UpTo P t list 0 seen
  upto_none seen e = record { each = each_none P; marked = seen_none t facts seen e }

  module _ (i : ℕ) (seen : OpSet) (l : i < length list) (sofar : UpTo P t list i seen) (here : P (take i list) (get_or list i 0)) where
    pub upto_marks : (next : OpSet) (rank : ℕ) → rank < 64 → RankOf (numbers t) (get_or list i 0) rank → ((k : ℕ) → has next k ≡ (has seen k || (eqb k rank && ltb rank 64))) → UpTo P t list (i + 1) next
    upto_marks next rank low at e =
        record {
          each = each_more P list i l sofar.each here;
          marked = subst (λ z. Seen t z next) (sym (take_more list i 0 l)) (seen_more t facts (take i list) seen next (get_or list i 0) rank low sofar.marked at e);
        }

    pub upto_skips : Unlisted (numbers t) (get_or list i 0) → UpTo P t list (i + 1) seen
    upto_skips none =
        record {
          each = each_more P list i l sofar.each here;
          marked = subst (λ z. Seen t z seen) (sym (take_more list i 0 l)) (seen_skips t (take i list) seen (get_or list i 0) sofar.marked none);
        }

-- past the last rank there is only 0, the number of no operation
pub has_rank : (t : Trace) (r : ℕ) → There t (number_at (numbers t) r) → r < length (numbers t)
has_rank t r there = ⊎_elim (λ l. l) (λ ge. absurd (none (subst (There t) (get_or-eq_default (numbers t) 0 ge) there))) (cases_lt r (length (numbers t)))
  where
    none : There t 0 → ⊥
    none h = false≢true h

-- all operations that are wanted stand in a list: the sets of their ranks tell
pub wanted_decides : (t : Trace) (facts : Numbers t) (few : length (numbers t) ≤ 64) (W : ℕ → Type 0) (there : (i : ℕ) → W i → There t i) (list : List ℕ) (seen wanted : OpSet) (answer : Bool) → Seen t list seen → Row W (numbers t) wanted → Decides answer ((r : ℕ) → r < 64 → has wanted r ≡ true → has seen r ≡ true) → Decides answer ((i : ℕ) → W i → Stands list i)
wanted_decides t facts few W there list seen wanted answer marked row d = (λ b. all (d.0 b), λ h. d.1 (back h))
  where
    all : ((r : ℕ) → r < 64 → has wanted r ≡ true → has seen r ≡ true) → (i : ℕ) → W i → Stands list i
    all h i w =
        let r = facts.every i (there i w) in
        let l = r.1.within in
        subst (Stands list) r.1.at ((marked.each r.0 l).0 (h r.0 (omega (arith, few, l)) ((row r.0 (omega (arith, few, l))).1 (subst W (sym r.1.at) w))))

    back : ((i : ℕ) → W i → Stands list i) → (r : ℕ) → r < 64 → has wanted r ≡ true → has seen r ≡ true
    back h r l b =
        let w = (row r l).0 b in
        (marked.each r (has_rank t r (there (number_at (numbers t) r) w))).1 (h (number_at (numbers t) r) w)
