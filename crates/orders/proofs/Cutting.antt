-- Orders of a whole trace, cut down to what a prefix of it holds, meet the model on the prefix.
use Rattle.std.proofs.Common.{◌≡◌, ℕ, zero, suc, ◌+◌, ◌≤◌, Bool, true, false, List, [], ◌∷◌, ◌++◌, length, get_or, filter, sym, refl, ap, ◌∙◌, subst, ⊎_elim, arith}
use Rattle.std.specs.List.{AllByRecursion}
use Rattle.std.proofs.lemmas.List.Elements.{filter-append}
use Rattle.std.proofs.ByRecursion.{all_kept_by, All-weaker}
use Rattle.std.proofs.lemmas.Bool.{cases_Bool, cond-true, cond-false}
use Rattle.trace.specs.Traces.{Trace, processor_count, Complete, Prefix}
use Rattle.models.specs.Meaning.{Meaning, Laws, Is, View}
use Rattle.models.specs.Growth.{is_grows}
use Rattle.models.specs.BaseLaws.{saw}
use Rattle.orders.specs.Lists.{Stands, Earlier}
use Rattle.orders.specs.Orders.{view_at, WriteTo, LastWrite, none, last, Explains, Legal}
use Rattle.orders.proofs.Places.{not_parted}
use Rattle.orders.proofs.Nothing.{none_and_some}

-- lists that are cut down by a test
module _ (test : ℕ → Bool) where
  -- what is left of a list, parted at i, by the list itself parted there
  record Unkept (list before after : List ℕ) (i : ℕ) : Type 0 where
    first : List ℕ
    second : List ℕ
    is : list ≡ first ++ i ∷ second
    left : filter test first ≡ before
    right : filter test second ≡ after
    passes : test i ≡ true

  kept_yes : (x : ℕ) (list : List ℕ) → test x ≡ true → filter test (x ∷ list) ≡ x ∷ filter test list
  kept_yes x list b = cond-true _ _ _ b

  kept_no : (x : ℕ) (list : List ℕ) → test x ≡ false → filter test (x ∷ list) ≡ filter test list
  kept_no x list b = cond-false _ _ _ b

  module _ (x : ℕ) (list after : List ℕ) (i : ℕ) (shorter : (before : List ℕ) → filter test list ≡ before ++ i ∷ after → Unkept list before after i) where
    dropped : (before : List ℕ) → test x ≡ false → filter test list ≡ before ++ i ∷ after → Unkept (x ∷ list) before after i
    dropped before b e =
        let r = shorter before e in
        record { first = x ∷ r.first; second = r.second; is = ap (λ l. x ∷ l) r.is; left = kept_no x r.first b ∙ r.left; right = r.right; passes = r.passes }

    taken : (before : List ℕ) → test x ≡ true → x ∷ filter test list ≡ before ++ i ∷ after → Unkept (x ∷ list) before after i
    taken [] b e =
        let head : x ≡ i = cc in
        let tail : filter test list ≡ after = cc in
        record { first = []; second = list; is = ap (λ y. y ∷ list) head; left = refl; right = tail; passes = subst (λ y. test y ≡ true) head b }
    taken (y ∷ before) b e =
        let head : x ≡ y = cc in
        let tail : filter test list ≡ before ++ i ∷ after = cc in
        let r = shorter before tail in
        record { first = x ∷ r.first; second = r.second; is = ap (λ l. x ∷ l) r.is; left = kept_yes x r.first b ∙ (λ k. head k ∷ r.left k); right = r.right; passes = r.passes }

  unkept : (list before after : List ℕ) (i : ℕ) → filter test list ≡ before ++ i ∷ after → Unkept list before after i
  unkept [] before after i e = absurd (not_parted before after i e)
  unkept (x ∷ list) before after i e =
      ⊎_elim
      (λ b. taken x list after i (λ front f. unkept list front after i f) before b (sym (kept_yes x list b) ∙ e))
      (λ b. dropped x list after i (λ front f. unkept list front after i f) before b (sym (kept_no x list b) ∙ e))
      (cases_Bool (test x))

  kept_parted : (before after : List ℕ) (i : ℕ) → test i ≡ true → filter test (before ++ i ∷ after) ≡ filter test before ++ i ∷ filter test after
  kept_parted before after i b = filter-append test before (i ∷ after) ∙ ap (λ l. filter test before ++ l) (kept_yes i after b)

  stands_kept : (list : List ℕ) (i : ℕ) → Stands list i → test i ≡ true → Stands (filter test list) i
  stands_kept list i s b = record { before = filter test s.before; after = filter test s.after; is = ap (filter test) s.is ∙ kept_parted s.before s.after i b }

  kept_stands : (list : List ℕ) (i : ℕ) → Stands (filter test list) i → Stands list i × (test i ≡ true)
  kept_stands list i s = let r = unkept list s.before s.after i s.is in (record { before = r.first; after = r.second; is = r.is }, r.passes)

  earlier_kept : (list : List ℕ) (i j : ℕ) → Earlier list i j → test i ≡ true → test j ≡ true → Earlier (filter test list) i j
  earlier_kept list i j e bi bj =
      record {
        before = filter test e.before;
        between = filter test e.between;
        after = filter test e.after;
        is = ap (filter test) e.is ∙ kept_parted e.before (e.between ++ j ∷ e.after) i bi ∙ ap (λ l. filter test e.before ++ i ∷ l) (kept_parted e.between e.after j bj);
      }

  kept_earlier : (list : List ℕ) (i j : ℕ) → Earlier (filter test list) i j → Earlier list i j
  kept_earlier list i j e =
      let r = unkept list e.before (e.between ++ j ∷ e.after) i e.is in
      let s = unkept r.second e.between e.after j r.right in
      record { before = r.first; between = s.first; after = s.second; is = r.is ∙ ap (λ l. r.first ++ i ∷ l) s.is }

module _ (m : Meaning) (laws : Laws m) (t u : Trace) (ct : Complete t) (cu : Complete u) (p : Prefix t u) where
  holds_test : ℕ → ℕ → Bool
  holds_test k i = (laws.told t k i).0

  write_grows : (v i : ℕ) → WriteTo t v i → WriteTo u v i
  write_grows v i w = record { operation = w.operation; there = is_grows t u p i w.operation w.there; writes = w.writes; variable = w.variable }

  none_kept : (k v : ℕ) (list : List ℕ) → AllByRecursion (λ i. WriteTo u v i → ⊥) list → AllByRecursion (λ i. WriteTo t v i → ⊥) (filter (holds_test k) list)
  none_kept k v list a = All-weaker (λ i. WriteTo u v i → ⊥) (λ i. WriteTo t v i → ⊥) (λ i f w. f (write_grows v i w)) (filter (holds_test k) list) (all_kept_by (holds_test k) (λ i. WriteTo u v i → ⊥) list a)

  not_zero : (v s : ℕ) → WriteTo u v s → s ≡ 0 → ⊥
  not_zero v s w e = none_and_some (subst (λ x. Is u x w.operation) e w.there)

  last_kept : (k v : ℕ) (list : List ℕ) (s : ℕ) → LastWrite u v list s → ((s ≡ 0 → ⊥) → (holds_test k s ≡ true) × WriteTo t v s) → LastWrite t v (filter (holds_test k) list) s
  last_kept k v list s (none a) h = none (none_kept k v list a)
  last_kept k v list s (last before after _ e w a) h =
      let g = h (not_zero v s w) in
      last (filter (holds_test k) before) (filter (holds_test k) after) s (ap (filter (holds_test k)) e ∙ kept_parted (holds_test k) before after s g.0) g.1 (none_kept k v after a)

  explains_cut : (k : ℕ) (list : List ℕ) → Explains m u k list → Explains m t k (filter (holds_test k) list)
  unfolding holds_test
  explains_cut k list e =
      let grown = laws.grows t u ct cu p in
      let test = holds_test k in
      let held : (i : ℕ) → Stands (filter (holds_test k) list) i → m.holds t k i = λ i s. (laws.told t k i).1.0 (kept_stands (holds_test k) list i s).1 in
      record {
        exact =
            record {
              only = held;
              every = λ i h. stands_kept test list i (e.exact.every i (grown.holds k i h)) ((laws.told t k i).1.1 h);
              once = λ before after i is s.
                  let r = unkept test list before after i is in
                  e.exact.once r.first r.second i r.is (kept_stands test r.first i (subst (λ l. Stands l i) (sym r.left) s)).0;
            };
        ordered = λ before after j is i b h.
            let r = unkept test list before after j is in
            subst (λ l. Stands l i) r.left (stands_kept test r.first i (e.ordered r.first r.second j r.is i (grown.before i j b) (grown.holds k i h)) ((laws.told t k i).1.1 h));
        seeing = λ before after j is o there read.
            let r = unkept test list before after j is in
            let here = held j (record { before = before; after = after; is = is }) in
            subst (λ l. LastWrite t o.variable l o.source) r.left
            (last_kept k o.variable r.first o.source (e.seeing r.first r.second j r.is o (is_grows t u p j o there) read)
            (λ ne.
            let w = saw t ct j o there read ne in
            ((laws.told t k o.source).1.1 (laws.sources t ct k j o here there read ne), record { operation = w.0; there = w.1.there; writes = w.1.write; variable = w.1.variable })));
      }

  -- all lists, cut down: the first belongs to view k + 1
  cut : ℕ → List (List ℕ) → List (List ℕ)
  cut k [] = []
  cut k (list ∷ lists) = filter (holds_test (suc k)) list ∷ cut (suc k) lists

  cut_length : (k : ℕ) (lists : List (List ℕ)) → length (cut k lists) ≡ length lists
  unfolding cut
  cut_length k [] = refl
  cut_length k (list ∷ lists) = ap suc (cut_length (suc k) lists)

  cut_at : (k n j : ℕ) (lists : List (List ℕ)) → j ≡ suc (k + n) → get_or (cut k lists) n [] ≡ filter (holds_test j) (get_or lists n [])
  unfolding cut
  cut_at k n j [] e = refl
  cut_at k zero j (list ∷ lists) e = let same : suc k ≡ j = omega arith in ap (λ x. filter (holds_test x) list) same
  cut_at k (suc n) j (list ∷ lists) e = cut_at (suc k) n j lists (omega arith)

  cut_view : (k : ℕ) (orders : List (List ℕ)) → 1 ≤ k → view_at (cut 0 orders) k ≡ filter (holds_test k) (view_at orders k)
  cut_view zero orders l = absurd (omega arith)
  cut_view (suc k) orders l = cut_at 0 k (suc k) orders (omega arith)

  sizes : m.views (processor_count t) t.variables ≡ m.views (processor_count u) u.variables
  sizes = λ i. m.views (p.processors i) (p.variables i)

  view_grows : (k : ℕ) → View m t k → View m u k
  view_grows k v = (v.0, subst (λ n. k ≤ n) sizes v.1)

  pub cut_meets : Legal m u → Legal m t
  unfolding holds_test
  cut_meets (orders, meets) =
      let grown = laws.grows t u ct cu p in (
        cut 0 orders,
        record {
          count = cut_length 0 orders ∙ meets.count ∙ sym sizes;
          each = λ k v. subst (Explains m t k) (sym (cut_view k orders v.0)) (explains_cut k (view_at orders k) (meets.each k (view_grows k v)));
          agree = λ a b va vb i j alike hi hj e.
              subst (λ l. Earlier l i j) (sym (cut_view b orders vb.0))
              (earlier_kept (holds_test b) (view_at orders b) i j
              (meets.agree a b (view_grows a va) (view_grows b vb) i j (grown.alike i j alike) (grown.holds b i hi) (grown.holds b j hj)
              (kept_earlier (holds_test a) (view_at orders a) i j (subst (λ l. Earlier l i j) (cut_view a orders va.0) e)))
              ((laws.told t b i).1.1 hi) ((laws.told t b j).1.1 hj));
        },
      )
