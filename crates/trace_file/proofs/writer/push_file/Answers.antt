use Rattle.std.proofs.Common.{◌≡◌, ◌+◌, ◌-◌, ◌<◌, ◌≤◌, [], ◌∷◌, ◌++◌, length, sym, ap, ◌∙◌, subst, arith}
use Rattle.std.specs.List.{flat_map}
use Rattle.trace.specs.Traces.{processor_count}
use Rattle.trace.proofs.Lanes.{lane_at_place}
use Rattle.trace_file.specs.Files.{section_bytes}
use Rattle.trace_file.proofs.Lengths.{Putting, file_length, putting_room, putting_again, putting_ends, put_in}
use Rattle.trace_file.proofs.writer.push_file.Goals as goal

pub push_section-requires : goal.push_section-requires
push_section-requires c =
    let t = c.args.table.now in
    let k = c.loop-processor.processor in
    let low = c.loop-processor.auto.processor in
    let here : k - 1 < processor_count t = omega (arith, low, c.loop-processor-test.true, c.processors-processor-end.ensures.value) in
    let room = putting_room section_bytes t.lanes _ _ _ c.loop-processor.invariant [] here in
    let formed = c.processors.ensures.formed in
    let started = put_in 522 c.args.file.now _ _ (omega (arith, ap length c.requires)) c.extend_from_slice.ensures.after ∙ ap (λ l. l ++ c.processors.result ∷ c.variables.result ∷ []) c.requires in
    subst (λ l. length c.loop-processor.file + length (section_bytes l) ≤ 522) (sym (c.lane.ensures.value ∙ lane_at_place t k low))
    (omega (arith, room, ap length started, file_length t, formed.processors.1, formed.few))

pub loop-processor-preserved : goal.loop-processor-preserved
loop-processor-preserved c =
    let t = c.args.table.now in
    let k = c.loop-processor.processor in
    let low = c.loop-processor.auto.processor in
    let here : k - 1 < processor_count t = omega (arith, low, c.loop-processor-test.true, c.processors-processor-end.ensures.value) in
    let next : k - 1 + 1 ≡ k + 1 - 1 = omega (arith, low) in
    subst (λ i. Putting section_bytes t.lanes c.extend_from_slice.new.self i c.push_section.new.file) next
    (putting_again section_bytes t.lanes _ _ _ c.loop-processor.invariant [] here _
    (c.push_section.ensures ∙ ap (λ l. c.loop-processor.file ++ section_bytes l) (c.lane.ensures.value ∙ lane_at_place t k low)))

pub returns-2 : goal.returns-2
returns-2 c =
    let t = c.args.table.now in
    let k = c.loop-processor.processor in
    let low = c.loop-processor.auto.processor in
    let here : k - 1 < processor_count t = omega (arith, low, c.loop-processor-test.true, c.processors-processor-end.ensures.value) in
    let last : processor_count t ≤ k - 1 + 1 = omega (arith, c.processors-processor-end.ensures.value) in
    let started = put_in 522 c.args.file.now _ _ (omega (arith, ap length c.requires)) c.extend_from_slice.ensures.after ∙ ap (λ l. l ++ c.processors.result ∷ c.variables.result ∷ []) c.requires in
    let all = putting_again section_bytes t.lanes _ _ _ c.loop-processor.invariant [] here _
    (c.push_section.ensures ∙ ap (λ l. c.loop-processor.file ++ section_bytes l) (c.lane.ensures.value ∙ lane_at_place t k low)) in
    record {
      value = putting_ends section_bytes t.lanes _ _ _ all last
          ∙ ap (λ l. l ++ flat_map section_bytes t.lanes) started
          ∙ (λ i. c.processors.ensures.value i ∷ c.variables.ensures.value i ∷ flat_map section_bytes t.lanes);
      formed = c.processors.ensures.formed;
    }
