-- Starts of orders that meet a model stand; a start that stands and is full meets it.
use Rattle.std.proofs.Common.{◌≡◌, ℕ, zero, suc, ◌<◌, ◌≤◌, List, [], ◌∷◌, ◌++◌, length, get_or, sym, ◌∙◌, subst, arith}
use Rattle.std.proofs.lemmas.List.{append_assoc}
use Rattle.trace.specs.Operations.{Within}
use Rattle.trace.specs.Traces.{Trace, processor_count}
use Rattle.models.specs.Meaning.{Meaning, Laws, View}
use Rattle.orders.specs.Lists.{Stands, Earlier}
use Rattle.orders.specs.Orders.{view_at, Explains, Agrees, Meets}
use Rattle.orders.specs.Starts.{Placed, Standing, StartOf}
use Rattle.orders.proofs.Places.{not_parted, stands_earlier, earlier_stands}
use Rattle.orders.proofs.Agreement.{agrees_both}

-- a view with something in it is one of those that there are
get_or_there : (lists : List (List ℕ)) (n : ℕ) (front back : List ℕ) (j : ℕ) → get_or lists n [] ≡ front ++ j ∷ back → n < length lists
get_or_there [] n front back j e = absurd (not_parted front back j e)
get_or_there (list ∷ lists) zero front back j e = omega arith
get_or_there (list ∷ lists) (suc n) front back j e = let g = get_or_there lists n front back j e in omega arith

module _ (m : Meaning) (laws : Laws m) (t : Trace) where
  -- a start of orders that meet the model
  module _ (whole orders : List (List ℕ)) (part : List ℕ) (meets : Meets m t whole) (start : StartOf whole orders part) where
    -- whatever stands in them at a place may be placed there
    placed : (k : ℕ) → k ≤ suc (length orders) → (front back : List ℕ) (j : ℕ) → view_at whole k ≡ front ++ j ∷ back → Placed m t orders k front j
    placed zero le front back j e = absurd (not_parted front back j e)
    placed (suc k) le front back j e =
        let there = get_or_there whole k front back j e in
        let view : View m t (suc k) = (omega arith, omega (arith, there, meets.count)) in
        let good = meets.each (suc k) view in
        let here = good.exact.only j (record { before = front; after = back; is = e }) in
        record {
          held = here;
          new = good.exact.once front back j e;
          ordered = good.ordered front back j e;
          sees = good.seeing front back j e;
          agrees = λ a i low high alike held first.
              earlier_stands (view_at whole (suc k)) front back i j good.exact.once e
              (meets.agree a (suc k) (low, omega (arith, high, view.1)) view i j alike held here
              (subst (λ l. Earlier l i j) (start.lists a (low, omega (arith, high, le))) first));
        }

    pub start_stands : Standing m t orders part
    start_stands =
        record {
          done = λ k w front back j e. placed k (omega (arith, w.1)) front back j (sym (start.lists k w) ∙ e);
          full = λ k i w h. subst (λ l. Stands l i) (sym (start.lists k w)) ((meets.each k (w.0, omega (arith, w.1, start.short, meets.count))).exact.every i h);
          next = λ front back j e.
              placed (suc (length orders)) (omega arith) front (back ++ start.rest) j
              (start.parted ∙ (λ x. e x ++ start.rest) ∙ append_assoc front (j ∷ back) start.rest);
        }

  -- a start with a list for every view
  module _ (orders : List (List ℕ)) (part : List ℕ) (count : length orders ≡ m.views (processor_count t) t.variables) (standing : Standing m t orders part) where
    within : (k : ℕ) → View m t k → Within 1 (length orders) k
    within k v = (v.0, omega (arith, v.1, count))

    explains : (k : ℕ) → View m t k → Explains m t k (view_at orders k)
    explains k v =
        let good = standing.done k (within k v) in
        record {
          exact =
              record {
                only = λ i s. (good s.before s.after i s.is).held;
                every = λ i. standing.full k i (within k v);
                once = λ front back i e. (good front back i e).new;
              };
          ordered = λ front back j e. (good front back j e).ordered;
          seeing = λ front back j e. (good front back j e).sees;
        }

    -- a later view agrees with an earlier one
    follows : (a b : ℕ) → View m t a → View m t b → a < b → Agrees m t b (view_at orders a) (view_at orders b)
    follows a b va vb l i j alike hi hj first =
        let s = standing.full b j (within b vb) hj in
        stands_earlier (view_at orders b) s.before s.after i j s.is ((standing.done b (within b vb) s.before s.after j s.is).agrees a i va.0 l alike hi first)

    pub full_meets : Meets m t orders
    full_meets = record { count = count; each = explains; agree = agrees_both m laws t orders (λ k v. (explains k v).exact) follows }
