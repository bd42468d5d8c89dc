use Rattle.std.proofs.Common.{arith}
use Rattle.orders.proofs.Passing.{passed_more, passed_all, finds_break}
use Rattle.orders.proofs.clauses.Clauses.pass_lists.Goals as goal
use Rattle.orders.proofs.clauses.Clauses.pass_lists.Goals.{else-loop-view-test, then-loop-view-test+in-Ok+else-view-view-end}

pub returns-in-Err : goal.returns-in-Err
returns-in-Err g c = finds_break _ (g.M.MemoryModel.laws c.args.self.now.model.now) _ _ _ _ _ c.views-view-end.ensures c.loop-view.invariant c.loop-view-test.true _ c.in-Err.ensures

pub loop-view-preserved : goal.loop-view-preserved
loop-view-preserved g c = passed_more _ (g.M.MemoryModel.laws c.args.self.now.model.now) _ _ _ _ _ c.views-view-end.ensures c.loop-view.invariant c.loop-view-test.true _ c.in-Ok.ensures

pub returns : goal.returns
returns g c =
    let laws = g.M.MemoryModel.laws c.args.self.now.model.now in
    elim c.loop-view-test.branch [
      | else-loop-view-test w ↦ rw w.rest-is (passed_all _ laws _ _ _ _ _ c.views-view-end.ensures c.loop-view.invariant w.loop-view-test.false)
      | then-loop-view-test+in-Ok+else-view-view-end w ↦
          rw w.rest-is
          (passed_all _ laws _ _ _ _ _ c.views-view-end.ensures
          (passed_more _ laws _ _ _ _ _ c.views-view-end.ensures c.loop-view.invariant w.loop-view-test.true _ w.in-Ok.ensures)
          (omega (arith, w.loop-view-test.true)))
    ]
