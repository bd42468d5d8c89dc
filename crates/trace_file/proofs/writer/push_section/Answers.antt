use Rattle.std.proofs.Common.{◌+◌, ◌≤◌, ◌++◌, length, sym, ap, ◌∙◌, subst, arith}
use Rattle.std.proofs.lemmas.List.{length_push}
use Rattle.trace.specs.Operations.{unused}
use Rattle.trace_file.specs.Files.{record_bytes}
use Rattle.trace_file.proofs.Lengths.{section_length, putting_room, putting_again, put_in, put_one}
use Rattle.trace_file.proofs.writer.push_section.Goals as goal

pub overflow_cast-lane : goal.overflow_cast-lane
overflow_cast-lane c = omega (arith, section_length c.args.lane.now, c.requires)

pub loop-operation-preserved : goal.loop-operation-preserved
loop-operation-preserved c =
    let lane = c.args.lane.now in
    let list = c.loop-operation.file in
    let v = c.loop-operation.invariant in
    let counted = put_one 522 c.args.file.now (length lane) c.push.new.self (omega (arith, c.requires)) c.push.ensures.after in
    let size = length_push c.args.file.now (length lane) in
    let room : length list + length c.record_bytes.result ≤ 522 =
    subst (λ p. length list + length p ≤ 522) (sym c.record_bytes.ensures)
    (omega (arith, c.requires, ap length counted, size, putting_room record_bytes lane _ _ _ v unused c.loop-operation-test.true)) in
    putting_again record_bytes lane _ _ _ v unused c.loop-operation-test.true c.extend_from_slice.new.self
    (put_in 522 _ _ _ room c.extend_from_slice.ensures.after ∙ ap (λ p. list ++ p) c.record_bytes.ensures)
