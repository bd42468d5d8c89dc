use Rattle.std.proofs.Common.{ℕ, ◌<◌, Bool, ◌||◌, List, get_or, take, sym, ap, ◌∙◌, ap₂, arith}
use Rattle.std.proofs.lemmas.List.{take_more, length-set}
use Rattle.opset.specs.Sets.{has}
use Rattle.opset.proofs.Sets.{with_below}
use Rattle.search.specs.Steps.{is_in, asks, asks_more}
use Rattle.search.proofs.Lists.{eqb_comm, in_push}
use Rattle.search.proofs.Enlarging.{enlarged_more}
use Rattle.search.proofs.tables.Tables.enlarged.Goals as goal

pub loop-rank-preserved : goal.loop-rank-preserved
loop-rank-preserved c =
    let tables = c.args.self.now in
    let list = c.args.list.now in
    let k = c.loop-rank.rank-index in
    let x = get_or list k 0 in
    let o = take k list in
    let grown = take_more list k 0 c.loop-rank-test.true in
    let low : x < 64 = c.requires k c.loop-rank-test.true in
    let long = c.loop-rank.invariant.0 in
    let saw = c.loop-rank.invariant.1 in (
      length-set c.loop-rank.next x c.union.result ∙ long,
      λ j. c.with-seen.ensures.holds j ∙ with_below x j (has c.loop-rank.seen j) low ∙ ap₂ ◌||◌ (saw j) (eqb_comm j x) ∙ sym (ap (is_in j) grown ∙ in_push j x o),
      λ i j.
          enlarged_more tables (asks c.args.before.now) o c.loop-rank.next c.loop-rank.seen c.union.result x
          (omega (arith, long, low)) saw c.loop-rank.invariant.2
          (λ j. c.union.ensures j ∙ ap (λ (b : Bool). asks c.loop-rank.next x j || b) (c.intersection.ensures j)) i j
          ∙ ap (λ (l : List ℕ). asks_more tables (asks c.args.before.now) l i j) (sym grown),
    )
