use Rattle.orders.proofs.Walking.{compare_stops, compare_on, compare_fails}
use Rattle.orders.proofs.clauses.Clauses.find_other.Goals as goal

pub returns-in_err-earlier : goal.returns-in_err-earlier
returns-in_err-earlier g c orders rest e le = absurd (compare_stops _ _ _ _ _ _ _ c.loop-other.invariant c.loop-other-test.true c.in_err-earlier.ensures orders rest e le)

pub returns-then-not-is_agreeing : goal.returns-then-not-is_agreeing
returns-then-not-is_agreeing g c = compare_fails _ _ _ _ _ _ _ c.loop-other.invariant c.loop-other-test.true _ _ c.in_ok-earlier.ensures _ c.is_agreeing.ensures.answer c.if-not-is_agreeing.true

pub loop-other-preserved : goal.loop-other-preserved
loop-other-preserved g c = compare_on _ _ _ _ _ _ _ c.loop-other.invariant c.loop-other-test.true _ _ c.in_ok-earlier.ensures _ c.is_agreeing.ensures.answer c.if-not-is_agreeing.false
