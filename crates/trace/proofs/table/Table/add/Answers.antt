use Rattle.std.proofs.Common.{◌≡◌, ◌<◌, true, ap, ◌∙◌, subst, arith}
use Rattle.std.proofs.lemmas.Bool.Decides.{nat_tests}
use Rattle.trace.specs.declared.operation.Kind.TheVariants.{Read}
use Rattle.trace.specs.declared.operation.Operation.{Operation}
use Rattle.trace.specs.Operations.{Within, fitting}
use Rattle.trace.specs.Tables.{Kept}
use Rattle.trace.specs.Traces.{processor_count, operation_count}
use Rattle.trace.specs.Calls.{record_refusal, with_lane, appended}
use Rattle.trace.proofs.Accepting.{found, changes}
use Rattle.trace.proofs.Forming.{decides_within, decides_fitting}
use Rattle.trace.proofs.Keeping.{pushed_lane, kept_push}
use Rattle.trace.proofs.Numbers.{decoded}
use Rattle.trace.proofs.table.Table.add.Goals as goal

pub put-requires-clause-kept : goal.put-requires-clause-kept
put-requires-clause-kept c =
    let t = c.args.self.now in
    let p = c.args.processor in
    let n = c.put.inside.total in
    let kept : Kept n t = subst (Kept n) c.put.view_is c.put.invariant in
    let lane = found _ _ _ _ c.in_ok-lane.ensures in
    let there : Within 1 (processor_count t) p = (decides_within 1 (processor_count t) p).0 lane.0 in
    let o : Operation = record { kind = c.in_ok-kind.kind; variable = c.args.variable; source = c.args.source; value = c.args.value } in
    let room : n < 64 = omega (arith, c.self.invariant.counted, ap operation_count c.self.view_is, kept.counted) in
    let fit : fitting (processor_count t) t.variables o ≡ true = grind (arith, nat_tests) in
    rw (pushed_lane n t kept p there _ _ o room lane.1 c.push.ensures.after)
    (kept_push n t kept p there o room ((decides_fitting (processor_count t) t.variables o).0 fit))

pub returns-clause-after : goal.returns-clause-after
returns-clause-after c =
    let t = c.args.self.now in
    let p = c.args.processor in
    let n = c.put.inside.total in
    let kept : Kept n t = subst (Kept n) c.put.view_is c.put.invariant in
    let lane = found _ _ _ _ c.in_ok-lane.ensures in
    let there : Within 1 (processor_count t) p = (decides_within 1 (processor_count t) p).0 lane.0 in
    let o : Operation = record { kind = c.in_ok-kind.kind; variable = c.args.variable; source = c.args.source; value = c.args.value } in
    let room : n < 64 = omega (arith, c.self.invariant.counted, ap operation_count c.self.view_is, kept.counted) in
    let free : record_refusal t p c.args.kind c.args.variable c.args.source ≡ 0 = grind (arith, nat_tests) in
    c.put-2.ensures
    ∙ ap (with_lane t p) (pushed_lane n t kept p there _ _ o room lane.1 c.push.ensures.after)
    ∙ ap (λ k. appended t p (record { kind = k; variable = c.args.variable; source = c.args.source; value = c.args.value })) (decoded _ _ _ Read c.in_ok-kind.ensures)
    ∙ changes _ t free
