use Rattle.std.proofs.Common.{◌+◌, sym, ◌∙◌, arith}
use Rattle.orders.proofs.Walking.{check_ends, check_stops, check_on, check_fails}
use Rattle.orders.proofs.clauses.Clauses.find_disagreeing.Goals as goal

pub returns-in_err-list : goal.returns-in_err-list
returns-in_err-list g c orders rest e count = absurd (check_stops _ _ _ _ _ _ c.views-view-end.ensures c.loop-view.invariant c.loop-view-test.true orders rest e count c.in_err-list.ensures)

pub returns-then-is_some : goal.returns-then-is_some
returns-then-is_some g c orders rest e count = check_fails _ _ _ _ _ _ c.views-view-end.ensures c.loop-view.invariant c.loop-view-test.true orders rest e count _ _ c.in_ok-list.ensures _ (sym c.is_some.ensures ∙ c.if-is_some.true) c.find_other.ensures

pub loop-view-preserved : goal.loop-view-preserved
loop-view-preserved g c orders rest e count = check_on _ _ _ _ _ _ c.views-view-end.ensures c.loop-view.invariant c.loop-view-test.true orders rest e count _ _ c.in_ok-list.ensures _ (sym c.is_some.ensures ∙ c.if-is_some.false) c.find_other.ensures

pub returns-else-is_some : goal.returns-else-is_some
returns-else-is_some g c =
    check_ends _ _ _ _ (c.loop-view.view + 1) _ c.views-view-end.ensures (omega (arith, c.loop-view-test.true))
    (λ orders rest e count. check_on _ _ _ _ _ _ c.views-view-end.ensures c.loop-view.invariant c.loop-view-test.true orders rest e count _ _ c.in_ok-list.ensures _ (sym c.is_some.ensures ∙ c.if-is_some.false) c.find_other.ensures)
