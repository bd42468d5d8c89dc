-- Lists of ranks by what the tables say are lists of numbers by what the model means.
use Rattle.std.proofs.Common.{◌≡◌, ℕ, zero, suc, ◌<◌, ◌≤◌, true, cond, ◌⊎◌, List, [], ◌∷◌, ◌++◌, map, length, get_or, take, Decides, sym, refl, ap, ◌∙◌, subst, inl, inr, ⊎_elim, arith}
use Rattle.std.proofs.lemmas.List.{append-nil, append_assoc, get_or_past, get_or-take, length-take-le}
use Rattle.std.proofs.lemmas.Bool.{false≢true, both_ways, cases_Bool, cases_lt, cond-true, cond-false, and_parts, and_from, eqb-true, eq-eqb}
use Rattle.trace.specs.declared.operation.Operation.{Operation}
use Rattle.trace.specs.Operations.{is_read, is_write}
use Rattle.trace.specs.Traces.{Trace, There}
use Rattle.opset.specs.Sets.{has}
use Rattle.ranks.specs.Numbers.{numbers, number_at, Numbers}
use Rattle.models.specs.Meaning.{Meaning, Laws, Is}
use Rattle.orders.specs.Lists.{Stands, Earlier}
use Rattle.orders.specs.Orders.{view_at, WriteTo, LastWrite, none}
use Rattle.orders.specs.Starts.{Placed}
use Rattle.orders.proofs.LastWrites.{more_write, more_other, one_last_write}
use Rattle.orders.proofs.Parting.{one_rank, few_numbers, stands_front}
use Rattle.orders.proofs.Places.{later_stands}
use Rattle.search.specs.declared.tables.Tables.{Tables}
use Rattle.search.specs.Filling.{operation_of}
use Rattle.search.specs.Tables.{Tabled}
use Rattle.search.specs.Steps.{is_in, view_of, number_of, writes, last_from, last_write, asks, Placeable}
use Rattle.search.proofs.Asking.{asks_after, AskedBy, asked_by, asks_still, asks_since}
use Rattle.search.proofs.Mapped.{stands_in, in_stands, earlier_precedes, precedes_earlier, stands_map, earlier_map, map_stands, map_earlier}

-- the orders with the numbers of their ranks
abbrev pub numbered : Trace → List (List ℕ) → List (List ℕ)
numbered t lists = map (map (number_at (numbers t))) lists

pub numbered_at : (t : Trace) (lists : List (List ℕ)) (a : ℕ) → get_or (numbered t lists) a [] ≡ map (number_at (numbers t)) (get_or lists a [])
numbered_at t [] a = refl
numbered_at t (o ∷ lists) zero = refl
numbered_at t (o ∷ lists) (suc a) = numbered_at t lists a

-- every rank of the list is that of an operation
abbrev pub Ranked : Trace → List ℕ → Type 0
Ranked t list = (i : ℕ) → Stands list i → i < length (numbers t)

pub ranked_front : (t : Trace) (list before after : List ℕ) (j : ℕ) → list ≡ before ++ j ∷ after → Ranked t list → Ranked t before
ranked_front t list before after j e ranked i s = ranked i (subst (λ l. Stands l i) (sym e) (stands_front before (j ∷ after) i s))

-- ---- ranks and numbers

module _ (t : Trace) (facts : Numbers t) where
  nothing_there : There t 0 → ⊥
  nothing_there h = false≢true h

  rank_there : (r : ℕ) → There t (number_at (numbers t) r) → r < length (numbers t)
  rank_there r h =
      ⊎_elim
      (λ l. l)
      (λ ge. absurd (nothing_there (subst (There t) (get_or_past (numbers t) r 0 ge) h)))
      (cases_lt r (length (numbers t)))

  -- a rank stands in a list where its number stands in the image
  pub rank_stands : (list : List ℕ) (r : ℕ) → Ranked t list → r < length (numbers t) → Stands (map (number_at (numbers t)) list) (number_at (numbers t) r) → Stands list r
  rank_stands list r ranked l s =
      let w = map_stands (number_at (numbers t)) list (number_at (numbers t) r) s in
      subst (Stands list) (one_rank t facts w.rank r (ranked w.rank w.stands) l w.at) w.stands

-- ---- what the tables say, and what the model means

module _ (m : Meaning) (laws : Laws m) (t : Trace) (facts : Numbers t) (tables : Tables) (good : Tabled m t tables) where
  few : length (numbers t) ≤ 64
  few = few_numbers t facts

  -- what a view holds
  module _ (k : ℕ) (l : k < length tables.held) where
    pub has_holds : (r : ℕ) → has (view_of tables k) r ≡ true → m.holds t (suc k) (number_at (numbers t) r)
    has_holds r h = (good.held k l r (tables.within k r h)).0 h

    pub has_rank : (r : ℕ) → has (view_of tables k) r ≡ true → r < length (numbers t)
    has_rank r h = rank_there t facts r (laws.held t (suc k) (number_at (numbers t) r) (has_holds r h)).1

    pub holds_has : (r : ℕ) → r < length (numbers t) → m.holds t (suc k) (number_at (numbers t) r) → has (view_of tables k) r ≡ true
    holds_has r lr h = (good.held k l r (omega (arith, few))).1 h

  -- what is required of two operations
  module _ (i j : ℕ) (li : i < length (numbers t)) (lj : j < length (numbers t)) where
    before_asked : Decides (asks tables.before j i) (m.before t (number_at (numbers t) i) (number_at (numbers t) j))
    before_asked = good.before j (omega (arith, few)) i (omega (arith, few))

    alike_asked : Decides (asks tables.alike j i) (m.alike t (number_at (numbers t) i) (number_at (numbers t) j))
    alike_asked = good.alike j (omega (arith, few)) i (omega (arith, few))

  -- an operation is what is there
  is_there : (i : ℕ) → i < length (numbers t) → (o : Operation) → Is t (number_at (numbers t) i) o → operation_of tables.operations i ≡ o
  is_there i l o e = let there = good.operations i l in cc

  write_asked : (v i : ℕ) → i < length (numbers t) → Decides (writes tables v i) (WriteTo t v (number_at (numbers t) i))
  unfolding writes
  write_asked v i l = (
    λ b.
        let both = and_parts _ _ b in
        record { operation = operation_of tables.operations i; there = good.operations i l; writes = both.0; variable = eqb-true _ v both.1 },
    λ w.
        let same = is_there i l w.operation w.there in
        and_from _ _ (ap is_write same ∙ w.writes) (eq-eqb _ v (ap (λ (o : Operation). o.variable) same ∙ w.variable)),
  )

  -- ---- last writes

  module _ (v : ℕ) where
    one_more : (done : List ℕ) (i s : ℕ) → i < length (numbers t) → LastWrite t v done s → LastWrite t v (done ++ number_at (numbers t) i ∷ []) (cond (writes tables v i) (number_of tables i) s)
    one_more done i s l w =
        ⊎_elim
        (λ b. subst (LastWrite t v (done ++ number_at (numbers t) i ∷ [])) (sym (cond-true _ _ _ b ∙ ap (λ list. number_at list i) good.ranks)) (more_write t v done (number_at (numbers t) i) ((write_asked v i l).0 b)))
        (λ b. subst (LastWrite t v (done ++ number_at (numbers t) i ∷ [])) (sym (cond-false _ _ _ b)) (more_other t v done (number_at (numbers t) i) s (λ x. both_ways _ b ((write_asked v i l).1 x)) w))
        (cases_Bool (writes tables v i))

    last_on : (done : List ℕ) (s : ℕ) (list : List ℕ) → Ranked t list → LastWrite t v done s → LastWrite t v (done ++ map (number_at (numbers t)) list) (last_from tables v s list)
    last_on done s [] ranked w = subst (λ l. LastWrite t v l s) (sym (append-nil done)) w
    last_on done s (i ∷ list) ranked w =
        subst (λ l. LastWrite t v l (last_from tables v s (i ∷ list))) (append_assoc done (number_at (numbers t) i ∷ []) (map (number_at (numbers t)) list))
        (last_on (done ++ number_at (numbers t) i ∷ []) _ list
        (λ j h. ranked j (record { before = i ∷ h.before; after = h.after; is = ap (λ l. i ∷ l) h.is }))
        (one_more done i s (ranked i (record { before = []; after = list; is = refl })) w))

    last_written : (list : List ℕ) → Ranked t list → LastWrite t v (map (number_at (numbers t)) list) (last_write tables v list)
    last_written list ranked = last_on [] 0 list ranked (none tt)

  -- ---- one place

  module _ (lists : List (List ℕ)) (ranked : (a : ℕ) → Ranked t (get_or lists a [])) (k : ℕ) (l : k < length tables.held) (kl : k ≤ length lists) (before : List ℕ) (j : ℕ) (front : Ranked t before) where
    -- the lists so far
    sofar : (a : ℕ) → a < k → get_or (take k lists) a [] ≡ get_or lists a []
    sofar a al = get_or-take k lists a [] al

    pub placeable_placed : Placeable tables (asks_after tables (asks tables.before) (take k lists)) (view_of tables k) before j → Placed m t (numbered t lists) (suc k) (map (number_at (numbers t)) before) (number_at (numbers t) j)
    placeable_placed p =
        let lj = has_rank k l j p.held in
        let placed : (r : ℕ) → r < length (numbers t) → has (view_of tables k) r ≡ true → asks_after tables (asks tables.before) (take k lists) j r ≡ true → Stands (map (number_at (numbers t)) before) (number_at (numbers t) r) = λ r lr h a. stands_map (number_at (numbers t)) before r (in_stands before r (p.after r h a)) in
        record {
          held = has_holds k l j p.held;
          new = λ s. both_ways _ p.new (stands_in before j (rank_stands t facts before j front lj s));
          ordered = λ i b h.
              let r = facts.every i (laws.held t (suc k) i h).1 in
              let lr = r.1.within in
              let at = r.1.at in
              subst (Stands (map (number_at (numbers t)) before)) at
              (placed r.0 lr (holds_has k l r.0 lr (subst (m.holds t (suc k)) (sym at) h))
              (asks_still tables (asks tables.before) (take k lists) j r.0 ((before_asked r.0 j lr lj).1 (subst (λ x. m.before t x (number_at (numbers t) j)) (sym at) b))));
          sees = λ o is read.
              let same = is_there j lj o is in
              subst (λ (x : Operation). LastWrite t x.variable (map (number_at (numbers t)) before) x.source) same
              (subst (LastWrite t (operation_of tables.operations j).variable (map (number_at (numbers t)) before)) (sym (p.reads (ap is_read same ∙ read))) (last_written (operation_of tables.operations j).variable before front));
          agrees = agrees lj placed;
        }
      where
        agrees : j < length (numbers t) → ((r : ℕ) → r < length (numbers t) → has (view_of tables k) r ≡ true → asks_after tables (asks tables.before) (take k lists) j r ≡ true → Stands (map (number_at (numbers t)) before) (number_at (numbers t) r))
            → (a i : ℕ) → 1 ≤ a → a < suc k → m.alike t i (number_at (numbers t) j) → m.holds t (suc k) i → Earlier (view_at (numbered t lists) a) i (number_at (numbers t) j) → Stands (map (number_at (numbers t)) before) i
        agrees lj placed zero i low high alike h e = absurd (omega arith)
        agrees lj placed (suc a) i low high alike h e =
            let w = map_earlier (number_at (numbers t)) (get_or lists a []) i (number_at (numbers t) j) (subst (λ z. Earlier z i (number_at (numbers t) j)) (numbered_at t lists a) e) in
            let lr = ranked a w.rank (record { before = w.earlier.before; after = w.earlier.between ++ w.other ∷ w.earlier.after; is = w.earlier.is }) in
            let same = one_rank t facts w.other j (ranked a w.other (later_stands (get_or lists a []) w.rank w.other w.earlier)) lj w.other_at in
            let order = earlier_precedes (get_or (take k lists) a []) w.rank j (subst (λ z. Earlier z w.rank j) (sym (sofar a (omega arith))) (subst (Earlier (get_or lists a []) w.rank) same w.earlier)) in
            subst (Stands (map (number_at (numbers t)) before)) w.at
            (placed w.rank lr (holds_has k l w.rank lr (subst (m.holds t (suc k)) (sym w.at) h))
            (asks_since tables (asks tables.before) (take k lists) a j w.rank (omega (arith, length-take-le k lists kl)) ((alike_asked w.rank j lr lj).1 (subst (λ x. m.alike t x (number_at (numbers t) j)) (sym w.at) alike)) order))

    pub placed_placeable : j < length (numbers t) → Placed m t (numbered t lists) (suc k) (map (number_at (numbers t)) before) (number_at (numbers t) j) → Placeable tables (asks_after tables (asks tables.before) (take k lists)) (view_of tables k) before j
    placed_placeable lj p =
        record {
          held = holds_has k l j lj p.held;
          new = ⊎_elim (λ b. absurd (p.new (stands_map (number_at (numbers t)) before j (in_stands before j b)))) (λ b. b) (cases_Bool (is_in j before));
          after = λ r h a. after r (has_rank k l r h) h (asked_by tables (asks tables.before) (take k lists) j r a);
          reads = λ read.
              one_last_write t (operation_of tables.operations j).variable (map (number_at (numbers t)) before) _ _
              (p.sees (operation_of tables.operations j) (good.operations j lj) read) (last_written (operation_of tables.operations j).variable before front);
        }
      where
        after : (r : ℕ) → r < length (numbers t) → has (view_of tables k) r ≡ true → (asks tables.before j r ≡ true) ⊎ AskedBy tables (take k lists) j r → is_in r before ≡ true
        after r lr h (inl b) = stands_in before r (rank_stands t facts before r front lr (p.ordered (number_at (numbers t) r) ((before_asked r j lr lj).0 b) (has_holds k l r h)))
        after r lr h (inr w) =
            let low : w.place < k = omega (arith, w.within, length-take-le k lists kl) in
            let e = subst (λ z. Earlier z r j) (sofar w.place low) (precedes_earlier (get_or (take k lists) w.place []) r j w.order) in
            stands_in before r (rank_stands t facts before r front lr
            (p.agrees (suc w.place) (number_at (numbers t) r) (omega arith) (omega arith) ((alike_asked r j lr lj).0 w.alike) (has_holds k l r h)
            (subst (λ z. Earlier z (number_at (numbers t) r) (number_at (numbers t) j)) (sym (numbered_at t lists w.place)) (earlier_map (number_at (numbers t)) (get_or lists w.place []) r j e))))
