-- A view that is being filled, in the search's turns: it ends and the next begins, or one more of it is placed.
use Rattle.std.proofs.Common.{◌≡◌, ℕ, ◌+◌, ◌-◌, ◌<◌, ◌≤◌, Bool, true, false, not, ◌&&◌, eqb, cond, nat_lt, List, [], ◌∷◌, ◌++◌, length, get_or, take, drop, replicate, refl, sym, ap, ◌∙◌, subst, arith}
use Rattle.std.proofs.lemmas.Bool.{cond-true, lt-ltb}
use Rattle.std.proofs.lemmas.List.{append-nil, append_assoc, drop_all, drop-append-le, length_push, take_at}
use Rattle.opset.specs.declared.OpSet.{OpSet}
use Rattle.opset.specs.Sets.{has, size, Empty, Least}
use Rattle.opset.proofs.Sets.{size_none, size_some, size_without}
use Rattle.models.specs.Rows.{row_at}
use Rattle.search.specs.declared.building.View.{View}
use Rattle.search.specs.declared.tables.Tables.{Tables}
use Rattle.search.specs.Filling.{operation_of}
use Rattle.search.specs.Steps.{views_of, view_of, later_than, asks, Placeable, Stuck, FirstFill, NoFill, cut, total, Start, Clear}
use Rattle.search.specs.Views.{list_of, Ready, GoneOn, NoneOn, Says, Next, Noted, Filled}
use Rattle.search.proofs.Turns.{start_none, start_more, placeable_clear, clear_placeable, stuck_all, Tried, tried_more, completes_rest}
use Rattle.search.proofs.Ends.{later_more, later_none, views_first, room_for_all, placed_within, says_done, says_next, says_more, says_all}

-- the places that are left in all, and the views
abbrev pub left : Tables → View → OpSet → ℕ
left tables view rest = size rest + (total (later_than tables view.index) + length (later_than tables view.index))

-- every rank that is left and no more a candidate leads nowhere
abbrev pub TriedHere : Tables → View → OpSet → List ℕ → OpSet → Type 0
TriedHere tables view rest order candidates = Tried tables (asks view.before) (view_of tables view.index) (list_of view order) (later_than tables view.index) rest candidates

pub fewer_candidates : (candidates candidates' : OpSet) (i : ℕ) → Least candidates i → ((k : ℕ) → has candidates' k ≡ (has candidates k && not (eqb k i))) → size candidates' < size candidates
fewer_candidates candidates candidates' i least holds = omega (arith, size_without candidates candidates' i least.member holds)

-- the last of a list is taken off again
pub off_again : (order : List ℕ) (i : ℕ) → take (length (order ++ i ∷ []) - 1) (order ++ i ∷ []) ≡ order
off_again order i = take_at order (i ∷ []) (length (order ++ i ∷ []) - 1) (omega (arith, length_push order i))

module _ (tables : Tables) (view : View) (rest : OpSet) (latest order : List ℕ) (ready : Ready tables view rest latest order) where
  -- ---- the end of a view

  pub list_within : (k : ℕ) → k < length (list_of view order) → get_or (list_of view order) k 0 < 64
  list_within = placed_within tables (asks view.before) _ _ _ _ ready.start (tables.within view.index) (list_of view order) (λ i. list_of view order)

  module _ (none : Empty rest) where
    pub ends : length tables.held ≤ view.index + 1 → Says tables view rest order order true
    ends last =
        record {
          added = [];
          is = sym (append-nil order);
          count = omega (arith, size_none rest none, ap total (later_none tables view.index last));
          foremost = says_done _ _ _ _ _ _ ready.start none _ (size_none rest none) _ _ (later_none tables view.index last);
        }

    module _ (more : view.index + 1 < length tables.held) (next : View) (is : Next tables view order next) where
      opened : next ≡ record { index = view.index + 1; from = length order; before = next.before }
      opened i = record { index = is.index i; from = is.from i; before = next.before }

      views : later_than tables view.index ≡ view_of tables (view.index + 1) ∷ later_than tables (view.index + 1)
      views = later_more tables view.index more

      nothing : drop (length order) order ≡ []
      nothing = drop_all (length order) order (omega arith)

      pub next_ready : Ready tables next (view_of tables next.index) (replicate 17 0) order
      next_ready =
          subst (λ (v : View). Ready tables v (view_of tables v.index) (replicate 17 0) order) (sym opened)
          (record {
            index = more;
            start = subst (λ s. Start tables (view_of tables (view.index + 1)) s (view_of tables (view.index + 1)) (replicate 17 0)) (sym nothing) (start_none tables (view_of tables (view.index + 1)));
            forward = omega arith;
            room = omega (arith, ready.room, ap total views);
          })

      pub next_less : left tables next (view_of tables next.index) < left tables view rest
      next_less =
          subst (λ (v : View). left tables v (view_of tables v.index) < left tables view rest) (sym opened)
          (omega (arith, ap total views, ap length views))

      pub next_says : (exit : List ℕ) (answer : Bool) → Says tables next (view_of tables next.index) order exit answer → Says tables view rest order exit answer
      next_says exit answer h = go answer (subst (λ (v : View). Says tables v (view_of tables v.index) order exit answer) opened h)
        where
          here : View
          here = record { index = view.index + 1; from = length order; before = next.before }

          go : (answer : Bool) → Says tables here (view_of tables here.index) order exit answer → Says tables view rest order exit answer
          go true w =
              record {
                added = w.added;
                is = w.is;
                count = omega (arith, w.count, size_none rest none, ap total views);
                foremost = says_next _ _ _ _ _ _ ready.start none _ (size_none rest none) _ _ _ _ _ w.added true views (λ k i j. is.before i j k) nothing w.foremost;
              }
          go false w = record { left = w.left; stuck = says_next _ _ _ _ _ _ ready.start none _ (size_none rest none) _ _ _ _ _ [] false views (λ k i j. is.before i j k) nothing w.stuck }

  -- ---- the candidates

  pub no_candidates : (candidates : OpSet) → TriedHere tables view rest order candidates → Empty candidates → (Empty rest → ⊥) → Says tables view rest order order false
  no_candidates candidates tried none some = record { left = refl; stuck = stuck_all _ _ _ _ _ _ ready.start _ candidates tried none some }

  module _ (candidates : OpSet) (tried : TriedHere tables view rest order candidates) (i : ℕ) (least : Least candidates i) where
    is_left : has rest i ≡ true
    is_left = tried.among i least.member

    -- there is room for one more
    pub pushed : (order' : List ℕ) → order' ≡ cond (nat_lt (length order) 1024) (order ++ i ∷ []) order → order' ≡ order ++ i ∷ []
    pushed order' e = e ∙ cond-true _ _ _ (lt-ltb (length order) 1024 (omega (arith, ready.room, size_some rest i is_left)))

    clear_here : Clear (operation_of tables.operations i) (row_at view.before i) rest latest → Placeable tables (asks view.before) (view_of tables view.index) (list_of view order) i
    clear_here clear = placeable_clear _ (asks view.before) _ _ _ _ ready.start i _ is_left (tables.small i) (λ j k. asks view.before i j) clear

    -- a candidate that is not clear leads nowhere
    pub tried_not : (candidates' : OpSet) → ((k : ℕ) → has candidates' k ≡ (has candidates k && not (eqb k i))) → (Clear (operation_of tables.operations i) (row_at view.before i) rest latest → ⊥) → TriedHere tables view rest order candidates'
    tried_not candidates' holds no_clear = tried_more candidates' i tried holds (λ u others w. no_clear (clear_placeable _ (asks view.before) _ _ _ _ ready.start i _ (tables.small i) (λ j k. asks view.before i j) w.goes.0))

    -- the candidate is placed
    module _ (rest' : OpSet) (holds : (k : ℕ) → has rest' k ≡ (has rest k && not (eqb k i))) where
      fewer : size rest' + 1 ≡ size rest
      fewer = size_without rest rest' i is_left holds

      list_more : list_of view (order ++ i ∷ []) ≡ list_of view order ++ i ∷ []
      list_more = drop-append-le view.from order (i ∷ []) ready.forward

      pub further_less : left tables view rest' < left tables view rest
      further_less = omega (arith, fewer)

      pub further_ready : (last : ℕ) (after : List ℕ) → Noted tables i latest last after → Ready tables view rest' after (order ++ i ∷ [])
      further_ready last after noted =
          record {
            index = ready.index;
            start = subst (λ s. Start tables (view_of tables view.index) s rest' after) (sym list_more) (start_more _ _ _ _ _ ready.start i rest' after is_left holds noted.each);
            forward = omega (arith, ready.forward, length_push order i);
            room = omega (arith, ready.room, fewer, length_push order i);
          }

      pub further_says : (exit : List ℕ) → Clear (operation_of tables.operations i) (row_at view.before i) rest latest → Says tables view rest' (order ++ i ∷ []) exit true → Says tables view rest order exit true
      further_says exit clear w =
          record {
            added = i ∷ w.added;
            is = w.is ∙ append_assoc order (i ∷ []) w.added;
            count = omega (arith, w.count, fewer);
            foremost = says_more _ _ _ _ _ _ ready.start _ candidates i _ w.added _ _ tried least.member least.first (clear_here clear) list_more fewer w.foremost;
          }

      pub further_tried : (candidates' : OpSet) (exit : List ℕ) → ((k : ℕ) → has candidates' k ≡ (has candidates k && not (eqb k i))) → Says tables view rest' (order ++ i ∷ []) exit false → TriedHere tables view rest order candidates'
      further_tried candidates' exit less w =
          let stuck = subst (λ s. Stuck tables (asks view.before) (view_of tables view.index) s (later_than tables view.index)) list_more w.stuck in
          tried_more candidates' i tried less (λ u others w. stuck u others (completes_rest _ _ _ _ _ i u others w))

-- ---- the first view

-- what is said of it is said of all, where the order has nothing before it
module _ (tables : Tables) (some : 0 < length tables.held) where
  abbrev pub first : View
  first = record { index = 0; from = 0; before = tables.before }

  pub first_ready : Ready tables first (view_of tables 0) (replicate 17 0) []
  first_ready = record { index = some; start = start_none _ _; forward = omega arith; room = omega (arith, room_for_all tables, ap total (views_first tables some)) }

  pub filled : (exit : List ℕ) → GoneOn tables first (view_of tables 0) [] exit → Filled tables exit
  filled exit w =
      record {
        first = subst (λ xs. FirstFill tables (cut (views_of tables) xs)) (sym w.is) (says_all tables w.added true some w.foremost);
        count = omega (arith, ap length w.is, w.count, ap total (views_first tables some));
      }

  pub unfilled : (exit : List ℕ) → NoneOn tables first [] exit → NoFill tables
  unfilled exit w = says_all tables [] false some w.stuck
