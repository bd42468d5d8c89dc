-- Views passed one after the other, and what is found at the end.
use Rattle.std.proofs.Common.{◌≡◌, ℕ, zero, suc, ◌+◌, ◌*◌, ◌<◌, ◌≤◌, true, false, eqb, List, [], ◌∷◌, ◌++◌, length, Some, None, Option, sym, refl, ap, ◌∙◌, subst, ⊎_elim, arith, MatchOption}
use Rattle.std.proofs.lemmas.List.{append-nil, append_assoc, length_push, nil_from_length, get_or_append_left, get_or_push}
use Rattle.std.proofs.lemmas.Bool.{cases_lt, eqb-true, eqb-false}
use Rattle.trace.specs.Traces.{Trace, processor_count}
use Rattle.models.specs.Meaning.{Meaning, Laws, View}
use Rattle.orders.specs.Orders.{view_at, Explains, Meets}
use Rattle.orders.specs.Inspecting.{Whole, written, Kept, Breaks, AgreeBefore, Disagrees, Begins, disagrees, left_over, meets, Finds, breaks, whole}
use Rattle.orders.proofs.Agreement.{agrees_both}

-- one list more in writing
written_snoc : (orders : List (List ℕ)) (list after : List ℕ) → written (orders ++ list ∷ []) ++ after ≡ written orders ++ length list ∷ (list ++ after)
written_snoc [] list after = ap (λ z. length list ∷ (z ++ after)) (append-nil list)
written_snoc (first ∷ orders) list after =
    ap (λ z. length first ∷ z)
    (append_assoc first (written (orders ++ list ∷ [])) after ∙ ap (λ z. first ++ z) (written_snoc orders list after) ∙ sym (append_assoc first (written orders) (length list ∷ (list ++ after))))

-- the views of orders with one list more
view_before : (orders : List (List ℕ)) (list : List ℕ) (k : ℕ) → k ≤ length orders → view_at (orders ++ list ∷ []) k ≡ view_at orders k
view_before orders list zero l = refl
view_before orders list (suc k) l = get_or_append_left orders (list ∷ []) [] k (omega arith)

-- the views before view k are passed
pub record Passed (m : Meaning) (t : Trace) (numbers : List ℕ) (k : ℕ) (left : List ℕ) : Type 0 where
  pub orders : List (List ℕ)
  pub begins : Begins m t numbers orders left
  pub count : length orders + 1 ≡ k
  pub few : k ≤ m.views (processor_count t) t.variables + 1

module _ (m : Meaning) (laws : Laws m) (t : Trace) (numbers : List ℕ) where
  pub passed_none : Passed m t numbers 1 numbers
  passed_none = record { orders = []; begins = record { is = refl; each = λ k w. absurd (omega (arith, w.0, w.1)) }; count = refl; few = omega arith }

  module _ (end k : ℕ) (left : List ℕ) (is : end ≡ m.views (processor_count t) t.variables) (sofar : Passed m t numbers k left) where
    module _ (l : k ≤ end) where
      pub passed_more : (after : List ℕ) → Kept m t k left after → Passed m t numbers (k + 1) after
      passed_more after kept =
          let orders = sofar.orders in
          let list = kept.list in
          let long = length_push orders list in
          record {
            orders = orders ++ list ∷ [];
            begins =
                record {
                  is = sofar.begins.is ∙ ap (λ z. written orders ++ z) kept.parts ∙ sym (written_snoc orders list after);
                  each = λ j w.
                      ⊎_elim
                      (λ old. subst (Explains m t j) (sym (view_before orders list j (omega arith))) (sofar.begins.each j (w.0, omega arith)))
                      (λ new.
                      let same : k ≡ j = omega (arith, new, w.1, long, sofar.count) in
                      let here : view_at (orders ++ list ∷ []) (suc (length orders)) ≡ list = get_or_push orders list [] (length orders) refl in
                      let on : suc (length orders) ≡ k = omega (arith, sofar.count) in
                      subst (λ z. Explains m t z (view_at (orders ++ list ∷ []) z)) same
                      (subst (Explains m t k) (sym here ∙ ap (view_at (orders ++ list ∷ [])) on) kept.explains))
                      (cases_lt j (length orders + 1));
                };
            count = omega (arith, long, sofar.count);
            few = omega (arith, l, is);
          }

      pub finds_break : (clause : ℕ) → Breaks m t k left clause → Finds m t numbers (100 * clause + k)
      finds_break clause b =
          let on : k ≡ suc (length sofar.orders) = omega (arith, sofar.count) in
          subst (λ z. Finds m t numbers (100 * clause + z)) (sym on)
          (breaks sofar.orders left clause sofar.begins (omega (arith, sofar.count, l, is)) (subst (λ z. Breaks m t z left clause) on b))

    pub passed_all : end < k → Whole m t numbers left
    passed_all l = record { orders = sofar.orders; begins = sofar.begins; count = omega (arith, l, is, sofar.count, sofar.few) }

  module _ (left : List ℕ) (whole_lists : Whole m t numbers left) where
    explains : (j : ℕ) → View m t j → Explains m t j (view_at whole_lists.orders j)
    explains j v = whole_lists.begins.each j (v.0, omega (arith, v.1, whole_lists.count))

    module _ (found : Option ℕ) (told : (os : List (List ℕ)) (r : List ℕ) → numbers ≡ written os ++ r → length os ≡ m.views (processor_count t) t.variables → MatchOption found (AgreeBefore m t os (suc (length os))) (Disagrees m t os)) where
      pub finds_disagreement : (view : ℕ) → found ≡ Some view → Finds m t numbers (400 + view)
      finds_disagreement view some =
          whole whole_lists.orders left (400 + view) whole_lists.begins whole_lists.count
          (disagrees view (subst (λ z. MatchOption z (AgreeBefore m t whole_lists.orders (suc (length whole_lists.orders))) (Disagrees m t whole_lists.orders)) some (told whole_lists.orders left whole_lists.begins.is whole_lists.count)))

      module _ (none : found ≡ None) where
        agree : AgreeBefore m t whole_lists.orders (suc (length whole_lists.orders))
        agree = subst (λ z. MatchOption z (AgreeBefore m t whole_lists.orders (suc (length whole_lists.orders))) (Disagrees m t whole_lists.orders)) none (told whole_lists.orders left whole_lists.begins.is whole_lists.count)

        good : Meets m t whole_lists.orders
        good =
            record {
              count = whole_lists.count;
              each = explains;
              agree = agrees_both m laws t whole_lists.orders (λ k v. (explains k v).exact) (λ a b va vb lt. agree b (omega (arith, vb.1, whole_lists.count)) a va.0 lt);
            }

        pub finds_left_over : eqb (length left) 0 ≡ false → Finds m t numbers 500
        finds_left_over some = whole whole_lists.orders left 500 whole_lists.begins whole_lists.count (left_over good (λ e. eqb-false (length left) 0 some (ap length e)))

        pub finds_nothing : eqb (length left) 0 ≡ true → Finds m t numbers 0
        finds_nothing empty = whole whole_lists.orders left 0 whole_lists.begins whole_lists.count (meets good (nil_from_length left (eqb-true (length left) 0 empty)))
