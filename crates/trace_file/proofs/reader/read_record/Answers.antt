use Rattle.std.proofs.Common.{◌≡◌, ◌≤◌, length, ap, ◌∙◌, arith, rules}
use Rattle.std.proofs.lemmas.List.{take_rest}
use Rattle.trace.specs.Calls.{record_answer, record_after}
use Rattle.trace_file.specs.Reading.{kind_field, variable_field, source_field}
use Rattle.trace_file.proofs.Entering.{fault_told, entered_after}
use Rattle.trace_file.proofs.reader.read_record.Goals as goal

pub returns-in-0-default : goal.returns-in-0-default
returns-in-0-default c =
    let b = c.args.bytes.now in
    let t = c.args.table.now in
    let s = c.args.section in
    let long : 8 ≤ length b = search rules in
    let zero : c.record.result.0 ≡ 0 = omega arith in
    let answer : c.record.result ≡ record_answer t s (kind_field b) (variable_field b) (source_field b) =
    c.record.ensures.answer ∙ ap (record_answer t s (kind_field b) (variable_field b)) c.from_be_bytes-source.ensures in
    let fault = fault_told t s b long c.record.result answer ∙ zero in
    record {
      fault = fault;
      left = take_rest b 8;
      trace = entered_after t s b c.record.new.self long fault
          (c.record.ensures.after ∙ (λ i. record_after t s (kind_field b) (variable_field b) (c.from_be_bytes-source.ensures i) (c.from_be_bytes-value.ensures i)));
    }
