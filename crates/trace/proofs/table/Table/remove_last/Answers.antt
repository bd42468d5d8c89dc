use Rattle.std.proofs.Common.{◌<◌, length, is_some, sym, ap, ◌∙◌, subst}
use Rattle.trace.specs.Operations.{Within}
use Rattle.trace.specs.Tables.{Kept}
use Rattle.trace.specs.Traces.{processor_count, lane_at}
use Rattle.trace.proofs.Accepting.{found}
use Rattle.trace.proofs.Forming.{decides_within}
use Rattle.trace.proofs.Keeping.{kept_pop, some_last}
use Rattle.trace.proofs.table.Table.remove_last.Goals as goal

pub put-requires-clause-kept : goal.put-requires-clause-kept
put-requires-clause-kept c =
    let t = c.args.self.now in
    let p = c.args.processor in
    let n = c.put.inside.total in
    let kept : Kept n t = subst (Kept n) c.put.view_is c.put.invariant in
    let lane = found _ _ _ _ c.in_ok-lane.ensures in
    let there : Within 1 (processor_count t) p = (decides_within 1 (processor_count t) p).0 lane.0 in
    let some : 0 < length (lane_at t p) = subst (λ l. 0 < length l) lane.1 (some_last c.in_ok-lane.lane (sym (ap is_some c.pop.ensures.item) ∙ c.if-is_none.ensures)) in
    rw (c.pop.ensures.after, lane.1) (kept_pop n t kept p there some)
