-- What a deeper call of the search says, as its caller says it: the places of one flat list, parted into views.
use Rattle.std.proofs.Common.{◌≡◌, ℕ, suc, ◌+◌, ◌*◌, ◌<◌, ◌≤◌, Bool, true, false, List, [], ◌∷◌, ◌++◌, length, get_or, take, drop, MatchBool, sym, subst, subst₂, arith}
use Rattle.std.proofs.lemmas.List.{drop_all, drop_more}
use Rattle.opset.specs.declared.OpSet.{OpSet}
use Rattle.opset.specs.Sets.{has, size, Empty}
use Rattle.models.specs.Rows.{row_at}
use Rattle.search.specs.declared.tables.Tables.{Tables}
use Rattle.search.specs.Steps.{is_in, views_of, view_of, later_than, asks_more, Placeable, Foremost, Stuck, FirstFill, NoFill, FillsAll, NotAfter, asks, cut, total, Start}
use Rattle.search.proofs.Lists.{in_at}
use Rattle.search.proofs.Turns.{Tried, foremost_done, foremost_next, stuck_next, foremost_more}

-- ---- the views

module _ (tables : Tables) where
  module _ (k : ℕ) where
    -- the views from one on are it and those after it
    views_from : k < length tables.held → drop k (views_of tables) ≡ view_of tables k ∷ later_than tables k
    views_from l = drop_more (views_of tables) k (record { 0 = 0 }) l

    -- there are none after the last
    pub later_none : length tables.held ≤ k + 1 → later_than tables k ≡ []
    later_none l = drop_all (k + 1) (views_of tables) l

  -- the views after one are the next and those after that
  pub later_more : (k : ℕ) → k + 1 < length tables.held → later_than tables k ≡ view_of tables (k + 1) ∷ later_than tables (k + 1)
  later_more k l = views_from (k + 1) l

  -- all views are the first and those after it
  pub views_first : 0 < length tables.held → views_of tables ≡ view_of tables 0 ∷ later_than tables 0
  views_first l = views_from 0 l

-- views of at most 64 operations each have room
total_le : (views : List OpSet) → ((k : ℕ) → size (row_at views k) ≤ 64) → total views ≤ 64 * length views
total_le [] small = omega arith
total_le (v ∷ views) small = omega (arith, small 0, total_le views (λ k. small (suc k)))

pub room_for_all : (tables : Tables) → total (views_of tables) ≤ 1024
room_for_all tables = omega (arith, total_le tables.held tables.sized, tables.few)

-- ---- what is said of them

module _ (tables : Tables) (needs : ℕ → ℕ → Bool) (view : OpSet) (s : List ℕ) (rest : OpSet) (latest : List ℕ) (start : Start tables view s rest latest) where
  -- what is placed is below 64, if what the view holds is
  pub placed_within : ((i : ℕ) → has view i ≡ true → i < 64) → (o : List ℕ) → s ≡ o → (k : ℕ) → k < length o → get_or o k 0 < 64
  placed_within within o e k l = within (get_or o k 0) (start.inside (get_or o k 0) (subst (λ r. is_in (get_or o k 0) r ≡ true) (sym e) (in_at o k l)))

  module _ (none : Empty rest) (n : ℕ) (nothing_left : n ≡ 0) where
    pub says_done : (later : List OpSet) (xs : List ℕ) → later ≡ [] → Foremost tables needs view s later (take n xs) (cut later (drop n xs))
    says_done later xs e =
        subst₂ (λ (l : List OpSet) (m : ℕ). Foremost tables needs view s l (take m xs) (cut l (drop m xs))) (sym e) (sym nothing_left) (foremost_done tables needs view s rest latest start none)

    pub says_next : (later : List OpSet) (v : OpSet) (later' : List OpSet) (needs' : ℕ → ℕ → Bool) (s' xs : List ℕ) (r : Bool)
        → later ≡ v ∷ later' → needs' ≡ asks_more tables needs s → s' ≡ []
        → MatchBool r (Foremost tables needs' v s' later' (take (size v) xs) (cut later' (drop (size v) xs))) (Stuck tables needs' v s' later') → MatchBool r (Foremost tables needs view s later (take n xs) (cut later (drop n xs))) (Stuck tables needs view s later)
    says_next later v later' needs' s' xs r e n' e' h =
        subst₂ (λ (l : List OpSet) (m : ℕ). MatchBool r (Foremost tables needs view s l (take m xs) (cut l (drop m xs))) (Stuck tables needs view s l)) (sym e) (sym nothing_left)
        (go r (subst₂ (λ (f : ℕ → ℕ → Bool) (q : List ℕ). MatchBool r (Foremost tables f v q later' (take (size v) xs) (cut later' (drop (size v) xs))) (Stuck tables f v q later')) n' e' h))
      where
        go : (r : Bool) → MatchBool r (Foremost tables (asks_more tables needs s) v [] later' (take (size v) xs) (cut later' (drop (size v) xs))) (Stuck tables (asks_more tables needs s) v [] later') → MatchBool r (Foremost tables needs view s (v ∷ later') [] (cut (v ∷ later') xs)) (Stuck tables needs view s (v ∷ later'))
        go true w = foremost_next tables needs view s rest latest start none v later' (take (size v) xs) (cut later' (drop (size v) xs)) w
        go false w = stuck_next tables needs view s rest latest start none v later' w

  pub says_more : (later : List OpSet) (candidates : OpSet) (i : ℕ) (s' xs : List ℕ) (n m : ℕ) → Tried tables needs view s later rest candidates → has candidates i ≡ true → ((k : ℕ) → k < i → has candidates k ≡ false) → Placeable tables needs view s i
      → s' ≡ s ++ i ∷ [] → m + 1 ≡ n
      → Foremost tables needs view s' later (take m xs) (cut later (drop m xs)) → Foremost tables needs view s later (take n (i ∷ xs)) (cut later (drop n (i ∷ xs)))
  says_more later candidates i s' xs n m tried h low p e count foremost =
      let more : suc m ≡ n = omega (arith, count) in
      subst (λ (k : ℕ). Foremost tables needs view s later (take k (i ∷ xs)) (cut later (drop k (i ∷ xs)))) more
      (foremost_more tables needs view s rest latest start later candidates i (take m xs) (cut later (drop m xs)) tried h low p
      (subst (λ q. Foremost tables needs view q later (take m xs) (cut later (drop m xs))) e foremost))

-- what is said of the first view is said of all
pub says_all : (tables : Tables) (xs : List ℕ) (r : Bool) → 0 < length tables.held
    → MatchBool r (Foremost tables (asks tables.before) (view_of tables 0) [] (later_than tables 0) (take (size (view_of tables 0)) xs) (cut (later_than tables 0) (drop (size (view_of tables 0)) xs))) (Stuck tables (asks tables.before) (view_of tables 0) [] (later_than tables 0))
    → MatchBool r (FirstFill tables (cut (views_of tables) xs)) (NoFill tables)
says_all tables xs r l = go r
  where
    back : (lists : List (List ℕ)) → FillsAll tables (asks tables.before) (views_of tables) lists → FillsAll tables (asks tables.before) (view_of tables 0 ∷ later_than tables 0) lists
    back lists w = subst (λ v. FillsAll tables (asks tables.before) v lists) (views_first tables l) w

    no_others : Stuck tables (asks tables.before) (view_of tables 0) [] (later_than tables 0) → (lists : List (List ℕ)) → FillsAll tables (asks tables.before) (view_of tables 0 ∷ later_than tables 0) lists → ⊥
    no_others stuck [] w = w
    no_others stuck (o ∷ lists) w = stuck o lists (record { goes = w.0; full = w.1; rest = w.2 })

    first : (t : List ℕ) (orders : List (List ℕ)) → Foremost tables (asks tables.before) (view_of tables 0) [] (later_than tables 0) t orders → (others : List (List ℕ)) → FillsAll tables (asks tables.before) (view_of tables 0 ∷ later_than tables 0) others → NotAfter (t ∷ orders) others
    first t orders h [] w = absurd w
    first t orders h (o ∷ others) w = h.first o others (record { goes = w.0; full = w.1; rest = w.2 })

    all : (t : List ℕ) (orders : List (List ℕ)) → Foremost tables (asks tables.before) (view_of tables 0) [] (later_than tables 0) t orders → FirstFill tables (t ∷ orders)
    all t orders h =
        record {
          fills = subst (λ v. FillsAll tables (asks tables.before) v (t ∷ orders)) (sym (views_first tables l)) (h.completes.goes, h.completes.full, h.completes.rest);
          first = λ others w. first t orders h others (back others w);
        }

    go : (r : Bool) → MatchBool r (Foremost tables (asks tables.before) (view_of tables 0) [] (later_than tables 0) (take (size (view_of tables 0)) xs) (cut (later_than tables 0) (drop (size (view_of tables 0)) xs))) (Stuck tables (asks tables.before) (view_of tables 0) [] (later_than tables 0))
        → MatchBool r (FirstFill tables (cut (views_of tables) xs)) (NoFill tables)
    go true h = subst (λ v. FirstFill tables (cut v xs)) (sym (views_first tables l)) (all _ _ h)
    go false h = λ lists w. no_others h lists (back lists w)
