-- What the search finds, by its tables, is what the model asks for.
use Rattle.std.proofs.Common.{◌≡◌, ℕ, ◌⊎◌, List, map, Some, None, Option, sym, ap, ◌∙◌, subst, MatchOption}
use Rattle.trace.specs.Traces.{Trace}
use Rattle.ranks.specs.Numbers.{number_at, Numbers}
use Rattle.models.specs.Meaning.{Meaning, Laws}
use Rattle.orders.specs.Orders.{Legal, Precedes, First}
use Rattle.search.specs.declared.tables.Tables.{Tables}
use Rattle.search.specs.Tables.{Tabled}
use Rattle.search.specs.Steps.{NoFill}
use Rattle.search.specs.declared.found.Orders.{Orders}
use Rattle.search.specs.Found.{FirstFound}
use Rattle.search.proofs.Numbering.{numbered}
use Rattle.search.proofs.Explaining.{fills_meet, meet_fills}
use Rattle.search.proofs.Comparing.{not_after}

-- ---- the answer

module _ (m : Meaning) (laws : Laws m) (t : Trace) (facts : Numbers t) (tables : Tables) (good : Tabled m t tables) where
  pub first_found : (orders : List (List ℕ)) → FirstFound tables orders → First m t orders
  first_found orders f =
      subst (First m t) (ap (λ list. map (map (number_at list)) f.lists) (sym good.ranks) ∙ sym f.is)
      (record {
        meets = fills_meet m laws t facts tables good f.lists f.first.fills;
        first = λ others meets.
            let w = meet_fills m laws t facts tables good others meets in
            subst (λ o. (o ≡ numbered t f.lists) ⊎ Precedes (numbered t f.lists) o) w.is (not_after t facts f.lists w.lists w.ranked (f.first.first w.lists w.fills));
      })

  pub none_found : NoFill tables → Legal m t → ⊥
  none_found none legal = let w = meet_fills m laws t facts tables good legal.0 legal.1 in none w.lists w.fills

  -- what the tables tell is so of the model and the trace
  pub found_or_none : (answer : Option Orders) → MatchOption answer (NoFill tables) (λ o. FirstFound tables o) → MatchOption answer (Legal m t → ⊥) (λ o. First m t o)
  found_or_none None none = none_found none
  found_or_none (Some o) f = first_found o f
