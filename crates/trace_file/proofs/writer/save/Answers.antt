use Rattle.std.proofs.Common.{◌+◌, ◌*◌, length, ap, ◌∙◌, arith}
use Rattle.std.proofs.lemmas.List.{length-take-le}
use Rattle.trace_file.proofs.Back.{read_back}
use Rattle.trace_file.proofs.Lengths.{file_length}
use Rattle.trace_file.proofs.writer.save.Goals as goal

pub returns-then-bytes-size-clause-back : goal.returns-then-bytes-size-clause-back
returns-then-bytes-size-clause-back c = read_back c.args.table.now c.processors.ensures.formed

pub copy_from_slice-requires : goal.copy_from_slice-requires
copy_from_slice-requires c =
    length-take-le (2 + c.from.result + 8 * c.total.result) c.args.bytes.now c.if-bytes-size.false
    ∙ omega (arith, ap length (c.as_slice.ensures.value ∙ c.push_file.ensures.value), file_length c.args.table.now, c.from.ensures, c.processors.ensures.value, c.total.ensures.value)

pub returns-clause-back : goal.returns-clause-back
returns-clause-back c = read_back c.args.table.now c.processors.ensures.formed
