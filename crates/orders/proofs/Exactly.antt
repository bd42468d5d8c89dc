-- A list that is gone through for the first clause.
use Rattle.std.proofs.Common.{◌≡◌, ℕ, ◌+◌, ◌<◌, ◌≤◌, Bool, true, false, ◌&&◌, ◌||◌, eqb, ltb, List, length, get_or, take, Decides, sym, subst, arith}
use Rattle.std.proofs.lemmas.List.{take_all}
use Rattle.std.proofs.lemmas.Bool.{both_ways}
use Rattle.opset.specs.declared.OpSet.{OpSet}
use Rattle.opset.specs.Sets.{has}
use Rattle.trace.specs.Traces.{Trace}
use Rattle.ranks.specs.Numbers.{numbers, RankOf, Unlisted, Numbers}
use Rattle.ranks.specs.declared.listing.Ranks.{Ranks}
use Rattle.models.specs.Meaning.{Meaning, Laws}
use Rattle.models.specs.Rows.{Row}
use Rattle.orders.specs.Lists.{Stands}
use Rattle.orders.specs.Orders.{Exact}
use Rattle.orders.proofs.Parting.{each_all, each_here, Seen, UpTo, upto_marks, few_numbers, wanted_decides}

-- the view holds the operation, and it does not stand before itself
abbrev pub New : Meaning → Trace → ℕ → List ℕ → ℕ → Type 0
New m t k before j = m.holds t k j × (Stands before j → ⊥)

module _ (m : Meaning) (laws : Laws m) (t : Trace) (facts : Numbers t) (ranks : Ranks) (value : ranks ≡ numbers t) (k : ℕ) (list : List ℕ) where
  exact_here : (i : ℕ) → i < length list → Exact m t k list → New m t k (take i list) (get_or list i 0)
  exact_here i l e = each_here (New m t k) list i l (λ before after j is. (e.only j (record { before = before; after = after; is = is }), e.once before after j is))

  -- a number of no operation
  pub exact_unlisted : (i : ℕ) → i < length list → Unlisted ranks (get_or list i 0) → Exact m t k list → ⊥
  exact_unlisted i l none e =
      let r = facts.every (get_or list i 0) (laws.held t k (get_or list i 0) (exact_here i l e).0).1 in
      subst (λ z. Unlisted z (get_or list i 0)) value none r.0 r.1

  module _ (i : ℕ) (seen held : OpSet) (rank : ℕ) (l : i < length list) (sofar : UpTo (New m t k) t list i seen) (row : Row (m.holds t k) (numbers t) held) (there : RankOf ranks (get_or list i 0) rank) where
    at : RankOf (numbers t) (get_or list i 0) rank
    at = subst (λ z. RankOf z (get_or list i 0) rank) value there

    low : rank < 64
    low = omega (arith, few_numbers t facts, at.within)

    pub exact_unheld : false ≡ has held rank → Exact m t k list → ⊥
    exact_unheld b e = both_ways (has held rank) (sym b) ((row rank low).1 (subst (m.holds t k) (sym at.at) (exact_here i l e).0))

    pub exact_twice : true ≡ has seen rank → Exact m t k list → ⊥
    exact_twice b e = (exact_here i l e).1 (subst (Stands (take i list)) at.at ((sofar.marked.each rank at.within).0 (sym b)))

    pub exact_again : (next : OpSet) → true ≡ has held rank → false ≡ has seen rank → ((j : ℕ) → has next j ≡ (has seen j || (eqb j rank && ltb rank 64))) → UpTo (New m t k) t list (i + 1) next
    exact_again next h s e =
        upto_marks (New m t k) t facts list i seen l sofar
        (subst (m.holds t k) at.at ((row rank low).0 (sym h)), λ w. both_ways (has seen rank) (sym s) ((sofar.marked.each rank at.within).1 (subst (Stands (take i list)) (sym at.at) w)))
        next rank low at e

  -- all numbers gone through: only what is held and not seen is left to tell
  pub exact_decides : (i : ℕ) (seen held : OpSet) (answer : Bool) → length list ≤ i → UpTo (New m t k) t list i seen → Row (m.holds t k) (numbers t) held → Decides answer ((r : ℕ) → r < 64 → has held r ≡ true → has seen r ≡ true) → Decides answer (Exact m t k list)
  exact_decides i seen held answer l sofar row d =
      let all = each_all (New m t k) list i l sofar.each in
      let every = wanted_decides t facts (few_numbers t facts) (m.holds t k) (λ j h. (laws.held t k j h).1) list seen held answer (subst (λ z. Seen t z seen) (take_all i list l) sofar.marked) row d in (
        λ b.
            record {
              only = λ j s. (all s.before s.after j s.is).0;
              every = every.0 b;
              once = λ before after j is. (all before after j is).1;
            },
        λ e. every.1 e.every,
      )
