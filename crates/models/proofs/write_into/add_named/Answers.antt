use Rattle.std.proofs.Common.{◌≡◌, MatchOption, Some, None, refl, ap, ◌∙◌, subst, rules, arith}
use Rattle.ranks.specs.Numbers.{numbers, number_at, Unlisted, RankOf}
use Rattle.models.proofs.Passing.{NamedRank, named_rank, named_turn}
use Rattle.models.proofs.write_into.add_named.Goals as goal
use Rattle.models.proofs.write_into.add_named.Goals.{in-Some, in_default}

pub loop-rank-preserved : goal.loop-rank-preserved
loop-rank-preserved c =
    let t = c.args.table.now in
    let list = c.of-ranks.ensures.value in
    let facts = c.of-ranks.ensures.facts in
    let n = c.loop-rank.rank in
    let j = number_at (numbers t) n in
    let at : c.number.result ≡ j = c.number.ensures.value ∙ ap (λ xs. number_at xs n) list in
    let ranked : MatchOption c.named.result (c.and_then-write.result ≡ None) (λ w. MatchOption c.and_then-write.result (Unlisted c.of-ranks.result w) (RankOf c.of-ranks.result w)) = search rules in
    let rank = named_rank t facts j c.named.result c.and_then-write.result (rw (← at) c.named.ensures) (rw (← list) ranked) in
    elim c.match-write.branch [
      | in-Some w ↦ rw w.rows-is (named_turn t facts _ c.loop-rank.rows n w.with.result (omega arith) c.loop-rank.invariant (Some w.in-Some.write) (subst (NamedRank t j) w.in-Some.is rank) w.with.ensures.holds)
      | in_default w ↦ rw w.rows-is (named_turn t facts _ c.loop-rank.rows n _ (omega arith) c.loop-rank.invariant None (subst (NamedRank t j) w.in_default.is rank) refl)
    ]
