use Rattle.std.proofs.Common.{◌≡◌, ◌+◌, ◌-◌, ◌<◌, length, sym, ap, ◌∙◌, get_or, subst, arith, rules}
use Rattle.std.specs.List.{between}
use Rattle.std.proofs.lemmas.Result.{err_from_is_err_and}
use Rattle.trace_file.specs.Outcomes.{RecordRead, SectionRead}
use Rattle.trace_file.proofs.Steps.{Recording, placed_err, record_next, section_stops}
use Rattle.trace_file.proofs.reader.read_section.Goals as goal

pub returns-in_err-rest : goal.returns-in_err-rest
returns-in_err-rest c =
    let h : 0 < length c.args.bytes.now = search rules in
    let p = err_from_is_err_and c.from_residual.result c.from_residual.ensures.1 in
    let k = c.loop-position.position in
    let q = placed_err k c.read_record.result c.in_err-rest.field-0.0 c.in_err-rest.ensures in
    let before : k ≡ k - 1 + 1 = omega (arith, c.loop-position.auto.position) in
    let e = subst (λ r. RecordRead c.loop-position.table c.args.section c.loop-position.rest.now r c.read_record.new.table) q.1 c.read_record.ensures in
    subst (λ r. SectionRead c.args.table.now c.args.section c.args.bytes.now r c.read_record.new.table) (sym p.1)
    (section_stops _ _ _ _ _ _ p.0 c.in_err-rest.field-0.0 q.0 h (omega (arith, before, c.loop-position-test.true)) c.loop-position.invariant e p.2 (q.2 ∙ ap (λ n. record { position = n; fault = q.0 }) before))

pub loop-position-preserved : goal.loop-position-preserved
loop-position-preserved c =
    let bytes = c.args.bytes.now in
    let k = c.loop-position.position in
    let m = get_or bytes 0 0 in
    let records = between 1 (length bytes) bytes in
    let next : k ≡ k + 1 - 1 = omega (arith, c.loop-position.auto.position) in
    subst (λ r. Recording c.args.table.now c.args.section m records c.read_record.new.table r c.in_ok-rest.rest.now) next
    (record_next _ _ m records _ _ k _ _ _ c.loop-position.auto.position c.loop-position-test.true c.loop-position.invariant c.in_ok-rest.ensures c.read_record.ensures)
