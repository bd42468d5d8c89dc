use Rattle.std.proofs.Common.{length, vec_items, sym, ap, ◌∙◌, subst}
use Rattle.std.specs.Vec.{with_items}
use Rattle.std.proofs.lemmas.List.{with_items_is}
use Rattle.orders.specs.Inspecting.{Inspected}
use Rattle.trace_file.specs.Made.{changed}
use Rattle.trace_file.specs.Writing.{save_answer, save_after}
use Rattle.judge.specs.States.{replaced, Judging, Showing}
use Rattle.judge.proofs.Plays.{plays_change, plays_judge, plays_view, plays_inspect, plays_save}
use Rattle.judge.proofs.judging.Judge.play.Goals as goal
use Rattle.judge.proofs.judging.Judge.play.Goals.{in-Change, in-Judge, in-View, in-Inspect, in-Save}

pub returns-clause-played : goal.returns-clause-played
returns-clause-played g c =
    let judge = c.args.self.now in
    let m = g.M.MemoryModel.meaning judge.model in
    let s = judge.state in
    let u = c.match-call.self.state in
    let given = c.args.call in
    let left = c.match-call.call in
    let r = c.match-call.refusal in
    elim c.match-call.branch [
      | in-Change w ↦
          plays_change m s u given left r w.in-Change.change w.in-Change.is w.call-is (w.refusal-is ∙ w.change.ensures.answer)
          (ap (λ j. j.state) (w.self-is ∙ w.change.ensures.after) ∙ ap (λ x. replaced s x.0 (changed s.trace w.in-Change.change)) (sym w.refusal-is))
      | in-Judge w ↦
          plays_judge m s u given left r w.in-Judge.is w.call-is
          (subst (λ x. Judging m s x u) (sym w.refusal-is) (subst (λ j. Judging m s w.judge.result j.state) (sym w.self-is) w.judge.ensures.verdict))
      | in-View w ↦
          let slots = w.in-View.slots in
          let after = w.view.new.slots in
          let items = with_items_is slots after (w.view.auto.slots ∙ w.as_mut_slice.ensures.len) in
          plays_view m s u given left r w.in-View.view slots (with_items slots after) w.in-View.is w.call-is (ap (λ j. j.state) w.self-is)
          (subst (λ x. Showing s.standing w.in-View.view (vec_items slots) x (vec_items (with_items slots after))) (sym w.refusal-is)
          (subst (Showing s.standing w.in-View.view (vec_items slots) w.view.result) (sym items)
          (subst (λ l. Showing s.standing w.in-View.view l w.view.result after) w.as_mut_slice.ensures.value w.view.ensures.shown)))
      | in-Inspect w ↦
          plays_inspect m s u given left r w.in-Inspect.numbers w.in-Inspect.is w.call-is (ap (λ j. j.state) w.self-is)
          (subst (Inspected m s.trace (vec_items w.in-Inspect.numbers)) (sym w.refusal-is)
          (subst (λ l. Inspected m s.trace l w.inspect.result) w.as_slice.ensures.value w.inspect.ensures.answer))
      | in-Save w ↦
          let bytes = w.in-Save.bytes in
          let after = w.save.new.bytes in
          let lent = w.as_mut_slice-in-Save.ensures in
          let items = with_items_is bytes after (w.save.auto.bytes ∙ lent.len) in
          plays_save m s u given left r bytes (with_items bytes after) w.in-Save.is w.call-is (ap (λ j. j.state) w.self-is)
          (record {
            answers = w.refusal-is ∙ w.save.ensures.answer ∙ ap (λ l. save_answer s.trace (length l)) lent.value;
            leaves = items ∙ w.save.ensures.after ∙ ap (save_after s.trace) lent.value;
          })
    ]
