use Rattle.std.proofs.Common.{◌≡◌, ◌+◌, ◌-◌, ◌*◌, ◌<◌, ◌++◌, length, sym, ap, ◌∙◌, subst, arith}
use Rattle.std.proofs.lemmas.List.{append-nil}
use Rattle.trace.specs.Traces.{processor_count, lane_at}
use Rattle.ranks.specs.Numbers.{Rising, numbers_from, numbers}
use Rattle.ranks.proofs.Facts.{facts, short, there_at, next_block}
use Rattle.ranks.proofs.Going.{more}
use Rattle.ranks.proofs.listing.Ranks.of.Goals as goal

pub loop-number-preserved : goal.loop-number-preserved
loop-number-preserved c =
    let t = c.args.table.now in
    let few = c.processors-processor-end.ensures.formed.few in
    let p = c.loop-processor.processor in
    let i = c.loop-number.number in
    let all = c.processors-processor-end.ensures.value in
    let long = ap length c.lane.ensures.value in
    let within : p - 1 < processor_count t = omega (arith, all, c.loop-processor-test.true, c.loop-processor.auto.processor) in
    let past : i < 100 * p + 1 + length (lane_at t p) = omega (arith, long, c.from.ensures, c.loop-number-test.true) in
    let few_here = short t few p c.loop-processor.auto.processor within in
    more t few c.loop-number.numbers i (101 + 100 * processor_count t) (omega (arith, past, few_here, within)) c.loop-number.invariant
    (there_at t few p i c.loop-processor.auto.processor within (omega (arith, c.from.ensures, c.loop-number.auto.number)) past)
    c.push.new.self c.push.ensures.after

pub loop-processor-preserved : goal.loop-processor-preserved
loop-processor-preserved c =
    let t = c.args.table.now in
    let few = c.processors-processor-end.ensures.formed.few in
    let p = c.loop-processor.processor in
    let last = 101 + 100 * processor_count t in
    let list = c.loop-number.numbers in
    let all = c.processors-processor-end.ensures.value in
    let within : p - 1 < processor_count t = omega (arith, all, c.loop-processor-test.true, c.loop-processor.auto.processor) in
    let ended : c.loop-number.number ≡ 100 * p + 1 + length (lane_at t p) = omega (arith, ap length c.lane.ensures.value, c.from.ensures, c.loop-number-test.false, c.loop-number.auto) in
    let after : 100 * p + 101 ≡ 100 * (p + 1) + 1 = omega arith in
    sym (ap (λ i. list ++ numbers_from t i (last - i)) ended
    ∙ ap (λ xs. list ++ xs) (next_block t few p last c.loop-processor.auto.processor within (omega (arith, within)))
    ∙ ap (λ i. list ++ numbers_from t i (last - i)) after)
    ∙ c.loop-number.invariant

pub invariant_of-result : goal.invariant_of-result
invariant_of-result c =
    let t = c.args.table.now in
    let list = c.loop-processor.numbers in
    let first = 100 * c.loop-processor.processor + 1 in
    let done : 101 + 100 * processor_count t - first ≡ 0 = omega (arith, c.processors-processor-end.ensures.value, c.loop-processor-test.false) in
    let whole : list ≡ numbers t = sym (append-nil list) ∙ sym (ap (λ n. list ++ numbers_from t first n) done) ∙ c.loop-processor.invariant in
    subst Rising (sym whole) (facts t c.processors-processor-end.ensures.formed.few).rising

pub returns-clause-facts : goal.returns-clause-facts
returns-clause-facts c = facts c.args.table.now c.processors-processor-end.ensures.formed.few
