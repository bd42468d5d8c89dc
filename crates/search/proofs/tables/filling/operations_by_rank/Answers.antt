use Rattle.std.proofs.Common.{◌+◌, ◌<◌, length, is_some, sym, ap, ◌∙◌, subst, arith}
use Rattle.std.proofs.lemmas.Bool.{both_ways}
use Rattle.trace.specs.Traces.{operation_at}
use Rattle.ranks.specs.Numbers.{numbers, number_at}
use Rattle.ranks.proofs.Facts.{facts}
use Rattle.search.specs.Filling.{Listing}
use Rattle.search.proofs.Filling.{listing_none, listing_more}
use Rattle.search.proofs.tables.filling.operations_by_rank.Goals as goal
use Rattle.search.proofs.tables.filling.operations_by_rank.Goals.{in-Some, in_default}

pub loop-rank-init : goal.loop-rank-init
loop-rank-init c = rw c.blank-operations.ensures (listing_none c.args.table.now _)

pub loop-rank-preserved : goal.loop-rank-preserved
loop-rank-preserved c =
    let table = c.args.table.now in
    let t = table in
    let good = c.requires.formed in
    let n = c.loop-rank.rank in
    let listed = c.as_slice-number-items.ensures.value in
    let below : n < length (numbers t) = omega (arith, c.loop-rank-test.true, ap length listed, ap length c.requires.ranks) in
    let found = c.operation.ensures.value ∙ ap (λ list. operation_at t (number_at list n)) listed in
    elim c.match-operation.branch [
      | in-Some w ↦
          subst (Listing t _ (n + 1)) (sym w.operations-is)
          (listing_more t _ n c.loop-rank.operations w.in-Some.operation (omega (arith, c.loop-rank-test.true, c.as_slice-number-items.ensures.bound)) good c.loop-rank.invariant (sym found ∙ w.in-Some.is))
      | in_default w ↦ absurd (both_ways _ (ap is_some (ap (operation_at t) (ap (λ list. number_at list n) (sym c.requires.ranks)) ∙ sym found ∙ w.in_default.is)) ((facts t good.few).there n below))
    ]
