-- The loops that change a table row after row.
use Rattle.std.proofs.Common.{◌≡◌, ℕ, ◌+◌, ◌<◌, ◌≤◌, true, ◌&&◌, ◌||◌, ◌⊎◌, eqb, ltb, List, length, set, is_some, Some, None, Decides, Option, MatchOption, sym, ap, ◌∙◌, subst, arith}
use Rattle.std.proofs.lemmas.List.{get_or_past}
use Rattle.std.proofs.lemmas.Bool.{both_ways}
use Rattle.std.proofs.lemmas.Grind.{common_steps}
use Rattle.std.proofs.lemmas.Bool.Decides.{Decides-at, Decides-or}
use Rattle.opset.specs.declared.OpSet.{OpSet}
use Rattle.opset.specs.Sets.{has}
use Rattle.trace.specs.Traces.{Trace, There}
use Rattle.trace.proofs.Lanes.{nowhere_below}
use Rattle.ranks.specs.Numbers.{numbers, number_at, Numbers, RankOf, Unlisted}
use Rattle.models.specs.Growth.{is_there, same_operation}
use Rattle.models.specs.Rows.{row_at}
use Rattle.models.specs.Layers.{Names}

-- rows below n are as F makes them of the old ones, and the others are the old ones
pub record Changing (F : ℕ → OpSet → Type 0) (rows : List OpSet) (n : ℕ) (now : List OpSet) : Type 0 where
  pub long : length now ≡ length rows
  pub done : (j : ℕ) → j < n → F j (row_at now j)
  pub left : (j : ℕ) → n ≤ j → row_at now j ≡ row_at rows j

changing_set : (F : ℕ → OpSet → Type 0) (rows : List OpSet) (n : ℕ) (now : List OpSet) (row : OpSet) → n < length rows → Changing F rows n now → F n row → Changing F rows (n + 1) (set now n row)
changing_set F rows n now row h c f = grind (arith, common_steps)

-- a row that has `via` gains the row of `via`
pub record Gains (rows : List OpSet) (via : ℕ) (j : ℕ) (row : OpSet) : Type 0 where
  pub is : (i : ℕ) → i < 64 → has row i ≡ (has (row_at rows j) i || (has (row_at rows j) via && has (row_at rows via) i))

abbrev pub Passing : List OpSet → ℕ → ℕ → List OpSet → Type 0
Passing rows via n now = Changing (Gains rows via) rows n now

-- a row gains the ranks for which R holds
pub record Gained (R : ℕ → ℕ → Type 0) (list : List ℕ) (rows : List OpSet) (j : ℕ) (row : OpSet) : Type 0 where
  pub is : (i : ℕ) → i < 64 → Decides (has row i) ((has (row_at rows j) i ≡ true) ⊎ R (number_at list i) (number_at list j))

-- the rank of the write that an operation names, where it names one
abbrev pub NamedRank : Trace → ℕ → Option ℕ → Type 0
NamedRank t j rank = MatchOption rank ((w : ℕ) → Names t w j → ⊥) (λ r. (w : ℕ) × Names t w j × RankOf (numbers t) w r)

pub named_rank : (t : Trace) → Numbers t → (j : ℕ) (write rank : Option ℕ) → MatchOption write ((w : ℕ) → Names t w j → ⊥) (λ w. Names t w j) → MatchOption write (rank ≡ None) (λ w. MatchOption rank (Unlisted (numbers t) w) (RankOf (numbers t) w)) → NamedRank t j rank
named_rank t facts j None rank never none = subst (NamedRank t j) (sym none) never
named_rank t facts j (Some w) None n unlisted = let at = facts.every w (is_there t w n.write.0 n.write.1) in absurd (unlisted at.0 at.1)
named_rank t facts j (Some w) (Some r) n at = (w, n, at)

module _ (t : Trace) (facts : Numbers t) (w r : ℕ) (at : RankOf (numbers t) w r) where
  -- an operation stands at no rank but its own
  one_rank : There t w → (i : ℕ) → number_at (numbers t) i ≡ w → i ≡ r
  one_rank there i e =
      let low : w < 101 → ⊥ = λ l. both_ways _ (ap is_some (nowhere_below t w l)) there in
      grind (arith, common_steps, facts.rising i r, facts.rising r i, get_or_past (numbers t) i 0)

  -- so the write that a read names is named at that rank alone
  named_once : (j : ℕ) → Names t w j → (i : ℕ) → i < 64 → Decides (eqb i r && ltb r 64) (Names t (number_at (numbers t) i) j)
  named_once j n i l =
      let same : Names t (number_at (numbers t) i) j → number_at (numbers t) i ≡ w = λ m. sym m.source ∙ ap (λ o. o.source) (same_operation t j m.read n.read m.is n.is) ∙ n.source in
      let s = one_rank (is_there t w n.write.0 n.write.1) i in
      let here : i ≡ r → Names t (number_at (numbers t) i) j = λ e. subst (λ k. Names t k j) (sym (ap (number_at (numbers t)) e ∙ at.at)) n in
      grind (arith, common_steps)

-- one turn: the row of rank n, with the write that its operation names put in where there is one
module _ (t : Trace) (facts : Numbers t) (rows now : List OpSet) (n : ℕ) (next : OpSet) where
  abbrev pub Puts : Option ℕ → Type 0
  Puts rank = MatchOption rank (next ≡ row_at now n) (λ r. (k : ℕ) → has next k ≡ (has (row_at now n) k || (eqb k r && ltb r 64)))

  gained : row_at now n ≡ row_at rows n → (rank : Option ℕ) → NamedRank t (number_at (numbers t) n) rank → Puts rank → Gained (Names t) (numbers t) rows n next
  gained same None never e = record { is = λ i l. grind (arith, common_steps, never (number_at (numbers t) i)) }
  gained same (Some r) named e =
      record {
        is = λ i l.
            Decides-at (has next i) (has (row_at rows n) i || (eqb i r && ltb r 64)) (e i ∙ ap (λ s. has s i || (eqb i r && ltb r 64)) same)
            (Decides-or (has (row_at rows n) i) (eqb i r && ltb r 64) (λ b. b, λ b. b) (named_once t facts named.0 r named.2 (number_at (numbers t) n) named.1 i l));
      }

  pub named_turn : n < length rows → Changing (Gained (Names t) (numbers t) rows) rows n now → (rank : Option ℕ) → NamedRank t (number_at (numbers t) n) rank → Puts rank → Changing (Gained (Names t) (numbers t) rows) rows (n + 1) (set now n next)
  named_turn l c rank named e = changing_set _ rows n now next l c (gained (c.left n (omega arith)) rank named e)
