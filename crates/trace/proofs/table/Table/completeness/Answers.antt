use Rattle.std.proofs.Common.{◌≡◌, sym, ap, ◌∙◌, arith}
use Rattle.trace.specs.declared.refusal.SourceFault.{SourceFault}
use Rattle.trace.specs.declared.refusal.SourceFault.TheVariants.{NoWrite, Variable, Value}
use Rattle.trace.specs.Refusals.{fault_number}
use Rattle.trace.proofs.Sources.{first_skip, first_stop, first_end, decides_complete, first_unfit}
use Rattle.trace.proofs.table.Table.completeness.Goals as goal

faulty : (f : SourceFault) → fault_number f ≡ 0 → ⊥
faulty NoWrite e = absurd (omega (arith, e))
faulty Variable e = absurd (omega (arith, e))
faulty Value e = absurd (omega (arith, e))

pub returns-in-Some-clause-first : goal.returns-in-Some-clause-first
returns-in-Some-clause-first c =
    let t = c.args.self.now in
    let i = c.loop-number.number in
    first_unfit t _ (ap (λ n. (n, i)) (c.from-in-Some.ensures ∙ c.in-Some.ensures) ∙ sym (first_stop t i _ c.loop-number-test.true (λ z. faulty c.in-Some.fault (c.in-Some.ensures ∙ z))) ∙ c.loop-number.invariant)

pub loop-number-preserved : goal.loop-number-preserved
loop-number-preserved c =
    sym (first_skip c.args.self.now c.loop-number.number _ c.loop-number-test.true (sym c.in_default.ensures))
    ∙ c.loop-number.invariant

pub returns-clause-complete : goal.returns-clause-complete
returns-clause-complete c = decides_complete c.args.self.now (0, 0) (sym (first_end c.args.self.now c.loop-number.number _ c.loop-number-test.false) ∙ c.loop-number.invariant)
