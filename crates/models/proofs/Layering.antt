-- The closed table is the write-into order, rank by rank.
use Rattle.std.proofs.Common.{◌≡◌, ℕ, ◌<◌, Bool, false, List, Option, Some, None, MatchOption, Decides, sym, refl, subst, inl, inr, ⊎_elim, arith}
use Rattle.std.proofs.lemmas.Bool.{both_ways}
use Rattle.std.proofs.lemmas.Bool.Decides.{Decides-at}
use Rattle.opset.specs.declared.OpSet.{OpSet}
use Rattle.opset.specs.Sets.{has, Empty}
use Rattle.trace.specs.Traces.{Trace, There}
use Rattle.ranks.specs.Numbers.{numbers, number_at, Numbers, RankOf, Unlisted}
use Rattle.models.specs.Meaning.{Meaning, Laws}
use Rattle.models.specs.Chains.{Chain, one, more}
use Rattle.models.specs.Rows.{Row, Rows, Added, Edge, Closed}
use Rattle.models.specs.Layers.{Names, Step, write_into, step_there}

module _ (m : Meaning) (laws : Laws m) (t : Trace) (facts : Numbers t) where
  -- the rank of an operation that is there
  ranked : (k : ℕ) → There t k → (r : ℕ) × (r < 64) × (number_at (numbers t) r ≡ k)
  ranked k e = let r = facts.every k e in (r.0, omega (arith, r.1.within, facts.count, facts.few), r.1.at)

  module _ (rows added : List OpSet) (base : Rows (m.before t) (numbers t) rows) (a : Added (Names t) (numbers t) rows added) where
    step_of : (i j : ℕ) → Edge added i j → Step m t (number_at (numbers t) i) (number_at (numbers t) j)
    step_of i j e = ⊎_elim (λ b. inl ((base j e.to i e.from).0 b)) (λ n. inr n) ((a.each i j e.from e.to).0 e.is)

    edge_of : (i j : ℕ) → i < 64 → j < 64 → Step m t (number_at (numbers t) i) (number_at (numbers t) j) → Edge added i j
    edge_of i j li lj s = record { from = li; to = lj; is = (a.each i j li lj).1 (⊎_elim (λ b. inl ((base j lj i li).1 b)) (λ n. inr n) s) }

    steps_of : {i j : ℕ} → Chain (Edge added) i j → Chain (Step m t) (number_at (numbers t) i) (number_at (numbers t) j)
    steps_of {i} {j} (one e) = one (step_of i j e)
    steps_of {i} {j} (more {k = k} e c) = more (step_of i k e) (steps_of c)

    edges_of : {x y : ℕ} → Chain (Step m t) x y → (i j : ℕ) → i < 64 → j < 64 → number_at (numbers t) i ≡ x → number_at (numbers t) j ≡ y → Chain (Edge added) i j
    edges_of {x} {y} (one s) i j li lj ei ej = one (edge_of i j li lj (subst (Step m t (number_at (numbers t) i)) (sym ej) (subst (λ z. Step m t z y) (sym ei) s)))
    edges_of {x} {y} (more {k = k} s c) i j li lj ei ej =
        let r = ranked k (step_there m laws t x k s).1 in
        more (edge_of i r.0 li r.1 (subst (Step m t (number_at (numbers t) i)) (sym r.2) (subst (λ z. Step m t z k) (sym ei) s)))
        (edges_of c r.0 j r.1 lj r.2 ej)

    pub closed_rows : (closure : List OpSet) → Closed added closure → Rows ((write_into m).before t) (numbers t) closure
    closed_rows closure c j lj i li = (λ b. steps_of ((c i j li lj).0 b), λ s. (c i j li lj).1 (edges_of s i j li lj refl refl))

-- nothing is required of a number that is not listed

pub absent : (t : Trace) → Numbers t → (list : List ℕ) → list ≡ numbers t → (number : ℕ) → Unlisted list number → There t number → ⊥
absent t facts list same number u e = let r = facts.every number e in u r.0 (subst (λ xs. RankOf xs number r.0) (sym same) r.1)

pub row_none : (P : ℕ → Type 0) (list : List ℕ) (row : OpSet) → Empty row → ((i : ℕ) → P i → ⊥) → Row P list row
row_none P list row e never i l = (λ b. absurd (both_ways (has row i) (e i) b), λ p. absurd (never (number_at list i) p))

-- whether P holds of an operation is told by a row at its rank; it does not hold of what has none
pub by_rank : (t : Trace) → (facts : Numbers t) (list : List ℕ) → list ≡ numbers t → (number : ℕ) (P : ℕ → Type 0) → (P number → There t number) → (rank : Option ℕ) (answer : Bool) → MatchOption rank (Unlisted list number) (RankOf list number) → MatchOption rank (answer ≡ false) (λ r. (row : OpSet) × Row P (numbers t) row × (answer ≡ has row r)) → Decides answer (P number)
by_rank t facts list same number P there None answer unlisted no' = (λ b. absurd (both_ways answer no' b), λ p. absurd (absent t facts list same number unlisted (there p)))
by_rank t facts list same number P there (Some r) answer at found =
    let here = subst (λ xs. RankOf xs number r) same at in
    Decides-at answer (has found.0 r) found.2 (subst (λ i. Decides (has found.0 r) (P i)) here.at (found.1 r (omega (arith, here.within, facts.count, facts.few))))
