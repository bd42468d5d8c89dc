-- A list that is gone through for the second clause.
use Rattle.std.proofs.Common.{◌≡◌, ℕ, ◌+◌, ◌<◌, Bool, true, false, ◌&&◌, ◌||◌, eqb, ltb, List, length, get_or, take, Decides, sym, ◌∙◌, subst, arith}
use Rattle.std.proofs.lemmas.Bool.{both_ways, and_parts, and_from}
use Rattle.opset.specs.declared.OpSet.{OpSet}
use Rattle.opset.specs.Sets.{has}
use Rattle.trace.specs.Traces.{Trace}
use Rattle.ranks.specs.Numbers.{numbers, RankOf, Unlisted, Numbers}
use Rattle.ranks.specs.declared.listing.Ranks.{Ranks}
use Rattle.models.specs.Meaning.{Meaning, Laws}
use Rattle.models.specs.Rows.{Row, Rows, row_at}
use Rattle.orders.specs.Lists.{Stands}
use Rattle.orders.specs.Orders.{Ordered}
use Rattle.orders.proofs.Parting.{each_here, UpTo, upto_marks, upto_skips, few_numbers, wanted_decides}

-- what is required before the operation, and held, stands before it
abbrev pub Behind : Meaning → Trace → ℕ → List ℕ → ℕ → Type 0
Behind m t k before j = (i : ℕ) → m.before t i j → m.holds t k i → Stands before i

module _ (m : Meaning) (laws : Laws m) (t : Trace) (facts : Numbers t) (ranks : Ranks) (value : ranks ≡ numbers t) (k : ℕ) (list : List ℕ) (i : ℕ) (seen : OpSet) (l : i < length list) (sofar : UpTo (Behind m t k) t list i seen) where
  -- nothing is required before a number of no operation
  pub ordered_skips : Unlisted ranks (get_or list i 0) → UpTo (Behind m t k) t list (i + 1) seen
  ordered_skips unlisted =
      let none = subst (λ z. Unlisted z (get_or list i 0)) value unlisted in
      upto_skips (Behind m t k) t facts list i seen l sofar (λ j b h. let r = facts.every (get_or list i 0) (laws.ordered t j (get_or list i 0) b).1 in absurd (none r.0 r.1)) none

  module _ (held : OpSet) (rows : List OpSet) (wanted : OpSet) (rank : ℕ) (row : Row (m.holds t k) (numbers t) held) (before : Rows (m.before t) (numbers t) rows) (there : RankOf ranks (get_or list i 0) rank) (both : (j : ℕ) → has wanted j ≡ (has (row_at rows rank) j && has held j)) (answer : Bool) (told : Decides answer ((r : ℕ) → r < 64 → has wanted r ≡ true → has seen r ≡ true)) where
    at : RankOf (numbers t) (get_or list i 0) rank
    at = subst (λ z. RankOf z (get_or list i 0) rank) value there

    low : rank < 64
    low = omega (arith, few_numbers t facts, at.within)

    Wanted : ℕ → Type 0
    Wanted j = m.before t j (get_or list i 0) × m.holds t k j

    wanted_row : Row Wanted (numbers t) wanted
    unfolding Wanted
    wanted_row j lj = (
      λ b. let p = and_parts (has (row_at rows rank) j) (has held j) (sym (both j) ∙ b) in (subst (m.before t _) at.at ((before rank low j lj).0 p.0), (row j lj).0 p.1),
      λ w. both j ∙ and_from (has (row_at rows rank) j) (has held j) ((before rank low j lj).1 (subst (m.before t _) (sym at.at) w.0)) ((row j lj).1 w.1),
    )

    here : Decides answer (Behind m t k (take i list) (get_or list i 0))
    unfolding Wanted
    here =
        let d = wanted_decides t facts (few_numbers t facts) Wanted (λ j w. (laws.held t k j w.1).1) (take i list) seen wanted answer sofar.marked wanted_row told in
        (λ b j x h. d.0 b j (x, h), λ all. d.1 (λ j w. all j w.0 w.1))

    pub ordered_fails : answer ≡ false → Ordered m t k list → ⊥
    ordered_fails b e = both_ways answer b (here.1 (each_here (Behind m t k) list i l e))

    pub ordered_again : answer ≡ true → (next : OpSet) → ((j : ℕ) → has next j ≡ (has seen j || (eqb j rank && ltb rank 64))) → UpTo (Behind m t k) t list (i + 1) next
    ordered_again b next e = upto_marks (Behind m t k) t facts list i seen l sofar (here.0 b) next rank low at e
