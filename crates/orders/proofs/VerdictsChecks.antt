-- Orders that pass a test meet a model with the write-into order. On a trace and orders that are written out the test computes.
-- The order that is required, a closure, is told by an order of all operations for each view, in which every step goes forward.
use Rattle.std.proofs.Common.{◌≡◌, ℕ, zero, suc, ◌<◌, ◌≤◌, Bool, true, false, cond, not, ◌&&◌, ◌||◌, eqb, ltb, List, [], ◌∷◌, ◌++◌, length, unwrap_or, sym, refl, ap, ◌∙◌, subst, inl, inr, ⊎_elim, arith}
use Rattle.std.specs.Option.{option_map}
use Rattle.std.specs.List.{AllByRecursion}
use Rattle.std.proofs.ByRecursion.{All-get_or, Decides-by_and}
use Rattle.std.proofs.lemmas.Bool.{cases_Bool, cond-true, cond-false, and_parts, and_from, or_left, or_right, both_ways, not-true, eqb-true, ne_eqb, ltb-true, lt-ltb}
use Rattle.std.proofs.lemmas.Bool.Decides.{Decides-below_and, not_from_Decides}
use Rattle.trace.specs.declared.operation.Operation.{Operation}
use Rattle.trace.specs.Operations.{is_read}
use Rattle.trace.specs.Traces.{Trace, processor_count, operation_count, operation_at, There}
use Rattle.trace.proofs.Fits.{itself}
use Rattle.ranks.specs.Numbers.{numbers}
use Rattle.ranks.proofs.Facts.{facts}
use Rattle.models.specs.Meaning.{Meaning, Is, View}
use Rattle.models.specs.Chains.{Chain, one, more}
use Rattle.models.specs.Growth.{is_there}
use Rattle.models.specs.Layers.{Step, write_into}
use Rattle.orders.specs.Orders.{view_at, LastWrite, none, last, Explains, Legal}
use Rattle.orders.proofs.Nothing.{none_and_some}
use Rattle.orders.proofs.VerdictsTests.{precedes, writes_to, names, decides_precedes, decides_writes, names_tested, Tested}
use Rattle.orders.proofs.VerdictsLists.{place, stands, decides_stands, along, along_parted}

-- the last write to variable v in a list; 0 where there is none
abbrev pub last_write : Trace → ℕ → List ℕ → ℕ
last_write t v [] = 0
last_write t v (x ∷ list) = cond (eqb (last_write t v list) 0) (cond (writes_to t v x) x 0) (last_write t v list)

module _ (t : Trace) (v : ℕ) where
  -- a list with one number more in front
  with_front : (x : ℕ) (list : List ℕ) (s : ℕ) → LastWrite t v list s → LastWrite t v (x ∷ list) (cond (eqb s 0) (cond (writes_to t v x) x 0) s)
  with_front x list _ (none all) =
      ⊎_elim
      (λ y. subst (LastWrite t v (x ∷ list)) (sym (cond-true _ _ _ y)) (last [] list x refl ((decides_writes t v x).0 y) all))
      (λ n. subst (LastWrite t v (x ∷ list)) (sym (cond-false _ _ _ n)) (none (not_from_Decides (writes_to t v x) (decides_writes t v x) n, all)))
      (cases_Bool (writes_to t v x))
  with_front x list s (last before after _ e w all) =
      subst (LastWrite t v (x ∷ list)) (sym (cond-false _ _ _ (ne_eqb s 0 (λ z. none_and_some (subst (λ i. Is t i w.operation) z w.there)))))
      (last (x ∷ before) after s (ap (λ l. x ∷ l) e) w all)

  last_write_is : (list : List ℕ) → LastWrite t v list (last_write t v list)
  last_write_is [] = none tt
  last_write_is (x ∷ list) = with_front x list (last_write t v list) (last_write_is list)

-- whether all numbers of a list pass a test
abbrev pub every : (ℕ → Bool) → List ℕ → Bool
every test [] = true
every test (x ∷ list) = test x && every test list

every_all : (test : ℕ → Bool) (list : List ℕ) → every test list ≡ true → AllByRecursion (λ i. test i ≡ true) list
every_all test list e = (Decides-by_and test (λ i. test i ≡ true) (every test) (λ i. itself (test i)) refl (λ _ _. refl) list).0 e

-- whether all numbers below n pass a test
abbrev pub below : (ℕ → Bool) → ℕ → Bool
below test zero = true
below test (suc n) = test n && below test n

-- whether y is so if x is
abbrev pub implies : Bool → Bool → Bool
implies x y = cond x y true

implied : (x y : Bool) → implies x y ≡ true → x ≡ true → y ≡ true
implied x y e h = sym (cond-true x y true h) ∙ e

-- whether i stands at a lower place of an order than j
abbrev pub lower : List ℕ → ℕ → ℕ → Bool
lower whole i j = ltb (place whole i) (place whole j)

-- whether a read sees its source behind `front`
abbrev pub sees_source : Trace → List ℕ → Operation → Bool
sees_source t front r = implies (is_read r) (eqb (last_write t r.variable front) r.source)

-- for the numbers of a trace, and an order of all its operations
module _ (t : Trace) (ns whole : List ℕ) where
  -- whether every step goes forward in the order
  abbrev pub forward : Bool
  forward = every (λ i. every (λ j. implies (precedes t i j || names t i j) (lower whole i j)) ns) ns

  -- whether j may stand behind `front` in a view that holds what passes a test
  abbrev pub may_stand : (ℕ → Bool) → List ℕ → ℕ → Bool
  may_stand test front j =
      test j
      && (not (stands front j)
      && (every (λ i. implies (test i && lower whole i j) (stands front i)) ns
      && unwrap_or (option_map (sees_source t front) (operation_at t j)) true))

  -- whether a list explains such a view
  abbrev pub explains : (ℕ → Bool) → List ℕ → Bool
  explains test list = every (λ i. implies (test i) (stands list i)) ns && along (may_stand test) [] list

-- the numbers of the trace are written out
module _ (m : Meaning) (t : Trace) (b : Tested m t) (few : operation_count t ≤ 64) (ns : List ℕ) (all : numbers t ≡ ns) where
  -- a test that all numbers pass is passed by every operation that is there
  everywhere : (test : ℕ → Bool) → every test ns ≡ true → (i : ℕ) → There t i → test i ≡ true
  everywhere test e i there =
      let r = (facts t few).every i there in
      subst (λ j. test j ≡ true) r.1.at
      (All-get_or (λ j. test j ≡ true) (numbers t) r.0 0 r.1.within (subst (AllByRecursion (λ j. test j ≡ true)) (sym all) (every_all test ns e)))

  -- a view, and an order of all operations in which every step goes forward
  module _ (k : ℕ) (whole list : List ℕ) (goes : forward t ns whole ≡ true) (told : explains t ns whole (b.test k) list ≡ true) where
    forward_lower : (i j : ℕ) → There t i → There t j → (precedes t i j || names t i j) ≡ true → lower whole i j ≡ true
    forward_lower i j ti tj e =
        implied _ _ (everywhere (λ y. implies (precedes t i y || names t i y) (lower whole i y))
        (everywhere (λ x. every (λ y. implies (precedes t x y || names t x y) (lower whole x y)) ns) goes i ti) j tj) e

    step_lower : (i j : ℕ) → Step m t i j → lower whole i j ≡ true
    step_lower i j (inl o) =
        let p = (b.before i j).1 o in
        let there = (decides_precedes t i j).0 p in
        forward_lower i j there.first there.second (or_left (precedes t i j) (names t i j) p)
    step_lower i j (inr n) =
        forward_lower i j (is_there t i n.write.0 n.write.1) (is_there t j n.read n.is) (or_right (precedes t i j) (names t i j) (names_tested t i j n))

    chain_lower : {i j : ℕ} → Chain (Step m t) i j → place whole i < place whole j
    chain_lower {i} {j} (one s) = ltb-true _ _ (step_lower i j s)
    chain_lower {i} {j} (more {k = x} s c) = omega (arith, ltb-true _ _ (step_lower i x s), chain_lower c)

    -- what the test says of an operation j of the list, and of what stands before it
    record Passed (before : List ℕ) (j : ℕ) : Type 0 where
      held : b.test k j ≡ true
      new : stands before j ≡ false
      ordered : every (λ i. implies (b.test k i && lower whole i j) (stands before i)) ns ≡ true
      sees : unwrap_or (option_map (sees_source t before) (operation_at t j)) true ≡ true

    module _ (before after : List ℕ) (j : ℕ) (e : list ≡ before ++ j ∷ after) where
      passed : Passed before j
      passed =
          let h = and_parts _ _ (along_parted (may_stand t ns whole (b.test k)) [] list before after j (and_parts _ _ told).1 e) in
          let g = and_parts _ _ h.1 in
          let f = and_parts _ _ g.1 in
          record { held = h.0; new = not-true _ g.0; ordered = f.0; sees = f.1 }

      read_sees : (r : Operation) → Is t j r → is_read r ≡ true → LastWrite t r.variable before r.source
      read_sees r is reads =
          let found = implied _ _ (ap (λ o. unwrap_or (option_map (sees_source t before) o) true) (sym is) ∙ passed.sees) reads in
          subst (LastWrite t r.variable before) (eqb-true _ _ found) (last_write_is t r.variable before)

    view_explained : Explains (write_into m) t k list
    view_explained =
        record {
          exact =
              record {
                only = λ i s. (b.held k i).0 (passed s.before s.after i s.is).held;
                every = λ i h. (decides_stands list i).0 (implied _ _ (everywhere (λ x. implies (b.test k x) (stands list x)) (and_parts _ _ told).0 i (b.there k i h)) ((b.held k i).1 h));
                once = λ before after i e s. both_ways (stands before i) (passed before after i e).new ((decides_stands before i).1 s);
              };
          ordered = λ before after j e i c h.
              (decides_stands before i).0
              (implied _ _ (everywhere (λ x. implies (b.test k x && lower whole x j) (stands before x)) (passed before after j e).ordered i (b.there k i h))
              (and_from (b.test k i) (lower whole i j) ((b.held k i).1 h) (lt-ltb _ _ (chain_lower c))));
          seeing = read_sees;
        }

  -- whether the list of view k explains it, by the view's order of all operations
  abbrev pub explains_view : List (List ℕ) → List (List ℕ) → ℕ → Bool
  explains_view wholes orders k = forward t ns (view_at wholes k) && explains t ns (view_at wholes k) (b.test k) (view_at orders k)

  module _ (wholes orders : List (List ℕ)) (count : length orders ≡ m.views (processor_count t) t.variables) (told : below (λ k. explains_view wholes orders (suc k)) (length orders) ≡ true) where
    tells : (k : ℕ) → View m t k → explains_view wholes orders k ≡ true
    tells zero v = absurd (omega (arith, v.0))
    tells (suc k) v =
        (Decides-below_and (λ x. explains_view wholes orders (suc x)) (λ x. explains_view wholes orders (suc x) ≡ true) (below (λ x. explains_view wholes orders (suc x))) (λ x. itself _) refl (λ _. refl) (length orders)).0 told k (omega (arith, v.1, count))

    -- where nothing is required alike, the trace is legal
    pub checked_legal : ((i j : ℕ) → m.alike t i j → ⊥) → Legal (write_into m) t
    checked_legal apart = (
      orders,
      record {
        count = count;
        each = λ k v. let h = and_parts _ _ (tells k v) in view_explained k (view_at wholes k) (view_at orders k) h.0 h.1;
        agree = λ a c va vc i j alike. absurd (apart i j alike);
      },
    )

-- what is legal with the write-into order is legal without it
pub legal_below : (m : Meaning) (t : Trace) → Legal (write_into m) t → Legal m t
legal_below m t (orders, meets) = (
  orders,
  record {
    count = meets.count;
    each = λ k v.
        let e = meets.each k v in
        record {
          exact = record { only = e.exact.only; every = e.exact.every; once = e.exact.once };
          ordered = λ before after j is i o h. e.ordered before after j is i (one (inl o)) h;
          seeing = e.seeing;
        };
    agree = meets.agree;
  },
)
