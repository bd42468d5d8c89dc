-- Full lists of ranks, by what the tables say, are orders that meet the model; and the other way.
use Rattle.std.proofs.Common.{◌≡◌, ℕ, zero, suc, ◌<◌, true, eqb, List, [], ◌∷◌, ◌++◌, map, length, get_or, take, drop, sym, refl, ap, ◌∙◌, subst, subst₂, ⊎_elim, arith}
use Rattle.std.specs.List.{AllByRecursion}
use Rattle.std.proofs.ByRecursion.{All-from_get_or}
use Rattle.std.proofs.lemmas.List.{map-append, get_or_past, length-map}
use Rattle.std.proofs.lemmas.Bool.{cases_lt, eqb-true, or_cases}
use lib.Seq.{split_at}
use Rattle.trace.specs.Operations.{Within}
use Rattle.trace.specs.Traces.{Trace, There}
use Rattle.ranks.specs.Numbers.{numbers, number_at, RankOf, Numbers}
use Rattle.models.specs.Meaning.{Meaning, Laws}
use Rattle.orders.specs.Lists.{Stands}
use Rattle.orders.specs.Orders.{view_at, Meets}
use Rattle.orders.specs.Starts.{Placed, AllPlaced, Standing}
use Rattle.orders.proofs.Places.{not_parted}
use Rattle.orders.proofs.Standing.{start_stands, full_meets}
use Rattle.search.specs.declared.tables.Tables.{Tables}
use Rattle.search.specs.Tables.{Tabled}
use Rattle.search.specs.Steps.{is_in, views_of, view_of, asks, Placeable, FillsAll}
use Rattle.search.proofs.Asking.{asks_after, FillsEach, fills_each, each_fills, goes_placeable, placeable_goes}
use Rattle.search.proofs.Mapped.{stands_in, in_stands, unmapped, stands_map}
use Rattle.search.proofs.Numbering.{numbered, numbered_at, Ranked, ranked_front, rank_stands, has_holds, has_rank, holds_has, placeable_placed, placed_placeable}

module _ (m : Meaning) (laws : Laws m) (t : Trace) (facts : Numbers t) (tables : Tables) (good : Tabled m t tables) where
  -- ---- from ranks to numbers

  module _ (lists : List (List ℕ)) (fills : FillsEach tables (asks tables.before) (views_of tables) lists) where
    placeable_at : (k : ℕ) → k < length tables.held → (before after : List ℕ) (j : ℕ) → get_or lists k [] ≡ before ++ j ∷ after → Placeable tables (asks_after tables (asks tables.before) (take k lists)) (view_of tables k) before j
    placeable_at k l before after j e =
        goes_placeable tables (asks_after tables (asks tables.before) (take k lists)) (view_of tables k) [] (get_or lists k []) before after j (fills.goes k l) e

    ranked : (k : ℕ) → Ranked t (get_or lists k [])
    ranked k i s =
        ⊎_elim
        (λ l. has_rank m laws t facts tables good k l i (placeable_at k l s.before s.after i s.is).held)
        (λ ge. absurd (not_parted s.before s.after i (sym (get_or_past lists k [] (omega (arith, fills.count))) ∙ s.is)))
        (cases_lt k (length tables.held))

    count : length (numbered t lists) ≡ length tables.held
    count = length-map lists (map (number_at (numbers t))) ∙ fills.count

    fills_stand : Standing m t (numbered t lists) []
    fills_stand = record { done = done; full = full; next = λ before after j e. absurd (not_parted before after j e) }
      where
        done : (k : ℕ) → Within 1 (length (numbered t lists)) k → AllPlaced m t (numbered t lists) k (view_at (numbered t lists) k)
        done zero w before after j e = absurd (omega (arith, w.0))
        done (suc k) w before after j e =
            let l : k < length tables.held = omega (arith, w.1, count) in
            let u = unmapped (number_at (numbers t)) (get_or lists k []) before after j (sym (numbered_at t lists k) ∙ e) in
            let p = placeable_placed m laws t facts tables good lists ranked k l (omega (arith, l, fills.count)) u.first u.rank (ranked_front t (get_or lists k []) u.first u.second u.rank u.is (ranked k)) (placeable_at k l u.first u.second u.rank u.is) in
            subst₂ (λ (front : List ℕ) (x : ℕ). Placed m t (numbered t lists) (suc k) front x) u.left u.at p

        full : (k i : ℕ) → Within 1 (length (numbered t lists)) k → m.holds t k i → Stands (view_at (numbered t lists) k) i
        full zero i w h = absurd (omega (arith, w.0))
        full (suc k) i w h =
            let l : k < length tables.held = omega (arith, w.1, count) in
            let r = facts.every i (laws.held t (suc k) i h).1 in
            let has_it = holds_has m laws t facts tables good k l r.0 r.1.within (subst (m.holds t (suc k)) (sym r.1.at) h) in
            let in_it = fills.full k l r.0 has_it in
            subst (Stands (view_at (numbered t lists) (suc k))) r.1.at
            (subst (λ z. Stands z (number_at (numbers t) r.0)) (sym (numbered_at t lists k)) (stands_map (number_at (numbers t)) (get_or lists k []) r.0 (in_stands (get_or lists k []) r.0 in_it)))

  pub fills_meet : (lists : List (List ℕ)) → FillsAll tables (asks tables.before) (views_of tables) lists → Meets m t (numbered t lists)
  fills_meet lists w =
      let fills = fills_each tables (asks tables.before) (views_of tables) lists w in
      full_meets m laws t (numbered t lists) [] (count lists fills ∙ good.views) (fills_stand lists fills)

  -- ---- from numbers to ranks

  module _ (lists : List (List ℕ)) (ranked : (k : ℕ) → Ranked t (get_or lists k [])) (long : length lists ≡ length tables.held) (stands : Standing m t (numbered t lists) []) where
    within : (k : ℕ) → k < length tables.held → Within 1 (length (numbered t lists)) (suc k)
    within k l = (omega arith, omega (arith, l, long, length-map lists (map (number_at (numbers t)))))

    stand_fills : FillsEach tables (asks tables.before) (views_of tables) lists
    stand_fills =
        record {
          count = long;
          goes = λ k l.
              placeable_goes tables (asks_after tables (asks tables.before) (take k lists)) (view_of tables k) [] (get_or lists k [])
              (λ before after j e.
              placed_placeable m laws t facts tables good lists ranked k l (omega (arith, l, long)) before j (ranked_front t (get_or lists k []) before after j e (ranked k))
              (ranked k j (record { before = before; after = after; is = e }))
              (stands.done (suc k) (within k l) (map (number_at (numbers t)) before) (map (number_at (numbers t)) after) (number_at (numbers t) j)
              (numbered_at t lists k ∙ ap (map (number_at (numbers t))) e ∙ map-append (number_at (numbers t)) before (j ∷ after))));
          full = λ k l i has_it.
              stands_in (get_or lists k []) i
              (rank_stands t facts (get_or lists k []) i (ranked k) (has_rank m laws t facts tables good k l i has_it)
              (subst (λ z. Stands z (number_at (numbers t) i)) (numbered_at t lists k) (stands.full (suc k) (number_at (numbers t) i) (within k l) (has_holds m laws t facts tables good k l i has_it))));
        }

  -- ranks for numbers that are there
  pub record RankList (list : List ℕ) : Type 0 where
    pub ranks : List ℕ
    pub is : map (number_at (numbers t)) ranks ≡ list
    pub ranked : Ranked t ranks

  rank_list : (list : List ℕ) → AllByRecursion (There t) list → RankList list
  rank_list [] all = record { ranks = []; is = refl; ranked = λ i s. absurd (not_parted s.before s.after i s.is) }
  rank_list (x ∷ list) all = more (facts.every x all.0) (rank_list list all.1)
    where
      more : (r : ℕ) × RankOf (numbers t) x r → RankList list → RankList (x ∷ list)
      more r later = record { ranks = r.0 ∷ later.ranks; is = λ i. r.1.at i ∷ later.is i; ranked = λ i s. at i (stands_in (r.0 ∷ later.ranks) i s) }
        where
          at : (i : ℕ) → is_in i (r.0 ∷ later.ranks) ≡ true → i < length (numbers t)
          at i b =
              ⊎_elim
              (λ h. subst (λ z. z < length (numbers t)) (eqb-true r.0 i h) r.1.within)
              (λ h. later.ranked i (in_stands later.ranks i h))
              (or_cases (eqb r.0 i) (is_in i later.ranks) b)

  -- and for orders of them
  pub record RankLists (orders : List (List ℕ)) : Type 0 where
    pub lists : List (List ℕ)
    pub is : numbered t lists ≡ orders
    pub ranked : (k : ℕ) → Ranked t (get_or lists k [])

  rank_lists : (orders : List (List ℕ)) → AllByRecursion (AllByRecursion (There t)) orders → RankLists orders
  rank_lists [] all = record { lists = []; is = refl; ranked = λ k i s. absurd (not_parted s.before s.after i s.is) }
  rank_lists (list ∷ orders) all = more (rank_list list all.0) (rank_lists orders all.1)
    where
      more : RankList list → RankLists orders → RankLists (list ∷ orders)
      more here later = record { lists = here.ranks ∷ later.lists; is = λ i. here.is i ∷ later.is i; ranked = ranked }
        where
          ranked : (k : ℕ) → Ranked t (get_or (here.ranks ∷ later.lists) k [])
          ranked zero = here.ranked
          ranked (suc k) = later.ranked k

  -- orders that meet the model are there
  meets_there : (orders : List (List ℕ)) → Meets m t orders → AllByRecursion (AllByRecursion (There t)) orders
  meets_there orders meets =
      All-from_get_or (AllByRecursion (There t)) orders []
      (λ k l.
      All-from_get_or (There t) (get_or orders k []) 0
      (λ p lp. (laws.held t (suc k) _ ((meets.each (suc k) (omega arith, omega (arith, l, meets.count))).exact.only _ (record { before = take p (get_or orders k []); after = drop (suc p) (get_or orders k []); is = split_at (get_or orders k []) p 0 lp }))).1))

  -- orders that meet the model, as lists of ranks
  pub record Filled (orders : List (List ℕ)) : Type 0 where
    pub lists : List (List ℕ)
    pub is : numbered t lists ≡ orders
    pub ranked : (k : ℕ) → Ranked t (get_or lists k [])
    pub fills : FillsAll tables (asks tables.before) (views_of tables) lists

  pub meet_fills : (orders : List (List ℕ)) → Meets m t orders → Filled orders
  meet_fills orders meets =
      let r = rank_lists orders (meets_there orders meets) in
      let whole = subst (Meets m t) (sym r.is) meets in
      let long : length r.lists ≡ length tables.held = sym (length-map r.lists (map (number_at (numbers t)))) ∙ whole.count ∙ sym good.views in
      let start = start_stands m laws t (numbered t r.lists) (numbered t r.lists) [] whole (record { short = omega arith; lists = λ k w. refl; rest = view_at (numbered t r.lists) (suc (length (numbered t r.lists))); parted = refl }) in
      record {
        lists = r.lists;
        is = r.is;
        ranked = r.ranked;
        fills = each_fills tables (asks tables.before) (views_of tables) r.lists (stand_fills r.lists r.ranked long start);
      }
