use Rattle.std.proofs.Common.{sym, ◌∙◌}
use Rattle.std.proofs.lemmas.Bool.{false≢true}
use Rattle.orders.proofs.Parting.{each_none}
use Rattle.orders.proofs.LastWrites.{kind_is_read, kind_is_not_read, seeing_fails, seeing_read, seeing_write, seeing_nothing}
use Rattle.orders.proofs.clauses.is_seeing.Goals as goal
use Rattle.orders.proofs.clauses.is_seeing.Goals.{in-Some+else-eq, else-eq-via-then-eq+else-operation-last_write, else-eq-via-else-eq, in_default}

pub loop-place-init : goal.loop-place-init
loop-place-init c = each_none _

pub returns-then-operation-last_write-clause-answer : goal.returns-then-operation-last_write-clause-answer
returns-then-operation-last_write-clause-answer c = (
  λ b. absurd (false≢true b),
  λ e. absurd (seeing_fails _ c.args.list.now _ c.loop-place-test.true c.in-Some.operation c.last_write.result (sym c.operation.ensures.value ∙ c.in-Some.is) (kind_is_read _ c.if-eq.ensures) c.last_write.ensures.last c.if-operation-last_write.true e),
)

pub loop-place-preserved : goal.loop-place-preserved
loop-place-preserved c =
    elim c.match-operation.branch [
      | in-Some+else-eq w ↦
          elim w.else-eq.branch [
            | else-eq-via-then-eq+else-operation-last_write v ↦ seeing_read _ c.args.list.now _ c.loop-place-test.true c.loop-place.invariant w.in-Some.operation v.last_write.result (sym c.operation.ensures.value ∙ w.in-Some.is) v.last_write.ensures.last v.if-operation-last_write.false
            | else-eq-via-else-eq v ↦ seeing_write _ c.args.list.now _ c.loop-place-test.true c.loop-place.invariant w.in-Some.operation (sym c.operation.ensures.value ∙ w.in-Some.is) (kind_is_not_read _ v.if-eq.ensures)
          ]
      | in_default w ↦ seeing_nothing _ c.args.list.now _ c.loop-place-test.true c.loop-place.invariant (sym c.operation.ensures.value ∙ w.in_default.is)
    ]
