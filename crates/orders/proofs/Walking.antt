-- Numbers gone through list by list, and views that agree or do not.
use Rattle.std.proofs.Common.{◌≡◌, ℕ, suc, ◌+◌, ◌<◌, ◌≤◌, Bool, true, false, List, ◌∷◌, ◌++◌, length, drop, is_some, Some, None, Decides, Option, sym, refl, ap, ◌∙◌, subst, ⊎_elim, arith, MatchOption}
use Rattle.std.proofs.lemmas.Bool.{both_ways, true≢false, false≢true, cases_lt}
use Rattle.std.proofs.lemmas.List.{append_assoc, drop_more}
use Rattle.trace.specs.Traces.{Trace, processor_count}
use Rattle.models.specs.Meaning.{Meaning}
use Rattle.orders.specs.Orders.{view_at, Agrees}
use Rattle.orders.specs.Inspecting.{written, EndsEarly, Parts, DisagreesWith, AgreesWithEarlier, AgreeBefore, Disagrees}
use Rattle.orders.proofs.Splitting.{one_list, goes_on}

-- the lists of the views before view k are gone through; `left` is what follows them
pub record Walked (orders : List (List ℕ)) (rest : List ℕ) (k : ℕ) (left : List ℕ) : Type 0 where
  pub done : ℕ
  pub at : k ≡ suc done
  pub is : left ≡ written (drop done orders) ++ rest

-- one list further on
pub record Next (orders : List (List ℕ)) (rest : List ℕ) (k : ℕ) (list after : List ℕ) : Type 0 where
  pub here : list ≡ view_at orders k
  pub walked : Walked orders rest (k + 1) after

module _ (orders : List (List ℕ)) (rest : List ℕ) where
  pub walk_start : (numbers : List ℕ) → numbers ≡ written orders ++ rest → Walked orders rest 1 numbers
  walk_start numbers e = record { done = 0; at = refl; is = e }

  module _ (k : ℕ) (left : List ℕ) (w : Walked orders rest k left) (there : k ≤ length orders) where
    parts : Parts left (view_at orders (suc w.done)) (written (drop (w.done + 1) orders) ++ rest)
    parts =
        let list = view_at orders (suc w.done) in
        let more = written (drop (w.done + 1) orders) in
        w.is ∙ ap (λ z. written z ++ rest) (drop_more orders w.done _ (omega (arith, w.at, there))) ∙ ap (λ z. length list ∷ z) (append_assoc list more rest)

    pub walk_ends : EndsEarly left → ⊥
    walk_ends early = goes_on (view_at orders (suc w.done)) (written (drop (w.done + 1) orders) ++ rest) left early parts

    pub walk_on : (list after : List ℕ) → Parts left list after → Next orders rest k list after
    walk_on list after p =
        let same = one_list list (view_at orders (suc w.done)) after (written (drop (w.done + 1) orders) ++ rest) (sym p ∙ parts) in
        record {
          here = same.0 ∙ ap (view_at orders) (sym w.at);
          walked = record { done = w.done + 1; at = omega (arith, w.at); is = same.1 };
        }

-- the list of view k agrees with those of the views before view n, which are gone through
pub record Compared (m : Meaning) (t : Trace) (orders : List (List ℕ)) (rest : List ℕ) (k : ℕ) (list : List ℕ) (n : ℕ) (left : List ℕ) : Type 0 where
  pub walked : Walked orders rest n left
  pub agrees : (a : ℕ) → 1 ≤ a → a < n → Agrees m t k (view_at orders a) list

-- so it is for all orders that the numbers are the written form of
abbrev pub Comparing : Meaning → Trace → List ℕ → ℕ → List ℕ → ℕ → List ℕ → Type 0
Comparing m t numbers k list n left = (orders : List (List ℕ)) (rest : List ℕ) → numbers ≡ written orders ++ rest → k ≤ length orders → Compared m t orders rest k list n left

module _ (m : Meaning) (t : Trace) (numbers : List ℕ) (k : ℕ) (list : List ℕ) where
  pub compare_start : Comparing m t numbers k list 1 numbers
  compare_start orders rest e le = record { walked = walk_start orders rest numbers e; agrees = λ a low high. absurd (omega arith) }

  pub compare_ends : (n : ℕ) (left : List ℕ) → k ≤ n → Comparing m t numbers k list n left → (orders : List (List ℕ)) (rest : List ℕ) → numbers ≡ written orders ++ rest → k ≤ length orders → AgreesWithEarlier m t orders k list
  compare_ends n left l c orders rest e le a low high = (c orders rest e le).agrees a low (omega arith)

  module _ (n : ℕ) (left : List ℕ) (c : Comparing m t numbers k list n left) (l : n < k) where
    pub compare_stops : EndsEarly left → (orders : List (List ℕ)) (rest : List ℕ) → numbers ≡ written orders ++ rest → k ≤ length orders → ⊥
    compare_stops early orders rest e le = walk_ends orders rest n left (c orders rest e le).walked (omega arith) early

    module _ (earlier after : List ℕ) (p : Parts left earlier after) (answer : Bool) (told : Decides answer (Agrees m t k earlier list)) where
      pub compare_on : answer ≡ true → Comparing m t numbers k list (n + 1) after
      compare_on is orders rest e le =
          let next = walk_on orders rest n left (c orders rest e le).walked (omega arith) earlier after p in
          record {
            walked = next.walked;
            agrees = λ a low high.
                ⊎_elim
                ((c orders rest e le).agrees a low)
                (λ ge. let same : n ≡ a = omega arith in subst (λ z. Agrees m t k (view_at orders z) list) same (subst (λ z. Agrees m t k z list) next.here (told.0 is)))
                (cases_lt a n);
          }

      pub compare_fails : answer ≡ false → (orders : List (List ℕ)) (rest : List ℕ) → numbers ≡ written orders ++ rest → k ≤ length orders → DisagreesWith m t orders k list n
      compare_fails not orders rest e le =
          let w = (c orders rest e le).walked in
          let next = walk_on orders rest n left w (omega arith) earlier after p in
          record {
            low = omega (arith, w.at);
            earlier = l;
            disagrees = λ a. both_ways answer not (told.1 (subst (λ z. Agrees m t k z list) (sym next.here) a));
          }

-- the views before view k are gone through, and agree with those before them
pub record Checked (m : Meaning) (t : Trace) (orders : List (List ℕ)) (rest : List ℕ) (k : ℕ) (left : List ℕ) : Type 0 where
  pub walked : Walked orders rest k left
  pub agree : AgreeBefore m t orders k

abbrev pub Checking : Meaning → Trace → List ℕ → ℕ → List ℕ → Type 0
Checking m t numbers k left = (orders : List (List ℕ)) (rest : List ℕ) → numbers ≡ written orders ++ rest → length orders ≡ m.views (processor_count t) t.variables → Checked m t orders rest k left

module _ (m : Meaning) (t : Trace) (numbers : List ℕ) where
  pub check_start : Checking m t numbers 1 numbers
  check_start orders rest e count = record { walked = walk_start orders rest numbers e; agree = λ b l a low high. absurd (omega arith) }

  pub check_ends : (end k : ℕ) (left : List ℕ) → end ≡ m.views (processor_count t) t.variables → end < k → Checking m t numbers k left → (orders : List (List ℕ)) (rest : List ℕ) → numbers ≡ written orders ++ rest → length orders ≡ m.views (processor_count t) t.variables → AgreeBefore m t orders (suc (length orders))
  check_ends end k left is l c orders rest e count b lb = (c orders rest e count).agree b (omega (arith, is, count, l, lb))

  module _ (end k : ℕ) (left : List ℕ) (is : end ≡ m.views (processor_count t) t.variables) (c : Checking m t numbers k left) (l : k ≤ end) (orders : List (List ℕ)) (rest : List ℕ) (e : numbers ≡ written orders ++ rest) (count : length orders ≡ m.views (processor_count t) t.variables) where
    there : k ≤ length orders
    there = omega (arith, is, count, l)

    pub check_stops : EndsEarly left → ⊥
    check_stops early = walk_ends orders rest k left (c orders rest e count).walked there early

    module _ (list after : List ℕ) (p : Parts left list after) where
      next : Next orders rest k list after
      next = walk_on orders rest k left (c orders rest e count).walked there list after p

      pub check_on : (found : Option ℕ) → is_some found ≡ false → ((os : List (List ℕ)) (r : List ℕ) → numbers ≡ written os ++ r → k ≤ length os → MatchOption found (AgreesWithEarlier m t os k list) (DisagreesWith m t os k list)) → Checked m t orders rest (k + 1) after
      check_on (Some a) not told = absurd (true≢false not)
      check_on None not told =
          record {
            walked = next.walked;
            agree = λ b lb.
                ⊎_elim
                ((c orders rest e count).agree b)
                (λ ge. let same : k ≡ b = omega arith in subst (λ z. AgreesWithEarlier m t orders z (view_at orders z)) same (subst (AgreesWithEarlier m t orders k) next.here (told orders rest e there)))
                (cases_lt b k);
          }

      pub check_fails : (found : Option ℕ) → is_some found ≡ true → ((os : List (List ℕ)) (r : List ℕ) → numbers ≡ written os ++ r → k ≤ length os → MatchOption found (AgreesWithEarlier m t os k list) (DisagreesWith m t os k list)) → Disagrees m t orders k
      check_fails None some told = absurd (false≢true some)
      check_fails (Some a) some told =
          record {
            view = (omega (arith, with.low, with.earlier), omega (arith, there, count));
            other = a;
            low = with.low;
            earlier = with.earlier;
            disagrees = with.disagrees;
            first = λ other b low lt lb. (c orders rest e count).agree b lb other low lt;
          }
        where
          with : DisagreesWith m t orders k (view_at orders k) a
          with = subst (λ z. DisagreesWith m t orders k z a) next.here (told orders rest e there)
