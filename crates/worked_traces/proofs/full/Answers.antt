use Rattle.std.proofs.Common.{◌≡◌, ℕ, zero, suc, ◌+◌, ◌-◌, ◌≤◌, sym, ap, ◌∙◌, subst, arith}
use Rattle.trace.specs.Traces.{Trace, empty_trace}
use Rattle.worked_traces.specs.Full.{written, written_by}
use Rattle.worked_traces.proofs.full.Goals as goal

one_more : (p next : ℕ) (t : Trace) → 1 ≤ p → next ≡ p → written_by next t ≡ written p 8 (written_by (p - 1) t)
one_more zero next t l e = absurd (omega arith)
one_more (suc p) next t l e =
    let before : p ≡ suc p - 1 = omega arith in
    ap (λ n. written_by n t) e ∙ ap (λ n. written (suc p) 8 (written_by n t)) before

pub loop-processor-preserved : goal.loop-processor-preserved
loop-processor-preserved c =
    c.write_eight.ensures
    ∙ ap (written c.loop-processor.processor 8) c.loop-processor.invariant
    ∙ sym (one_more c.loop-processor.processor (c.loop-processor.processor + 1 - 1) (empty_trace 8 1) (omega arith) (omega arith))

pub returns : goal.returns
returns c =
    let all : c.loop-processor.processor - 1 ≡ 8 = omega arith in
    subst (λ n. c.loop-processor.table ≡ written_by n (empty_trace 8 1)) all c.loop-processor.invariant
