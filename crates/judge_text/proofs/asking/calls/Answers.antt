use Rattle.std.proofs.Common.{vec_items, subst, arith}
use Rattle.judge_text.specs.Asked.{Asked}
use Rattle.judge_text.proofs.Calling.{asked_more}
use Rattle.judge_text.proofs.asking.calls.Goals as goal

pub loop-view-preserved : goal.loop-view-preserved
loop-view-preserved c = asked_more c.args.file.now _ _ _ _ _ _ c.loop-view.invariant c.in_ok-view_call.ensures (omega arith) (omega arith) c.in_ok-push.ensures.items

pub returns : goal.returns
returns c = subst (λ n. Asked c.args.file.now n (vec_items c.loop-view.calls)) (omega (arith, c.loop-view-test.false, c.loop-view.auto.view-end)) c.loop-view.invariant
