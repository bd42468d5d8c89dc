use Rattle.judge.specs.Seen.{State}
use Rattle.judge.proofs.Telling.{judging_refused, judging_legal, judging_illegal}
use Rattle.judge.proofs.judging.Judge.judge.Goals as goal
use Rattle.judge.proofs.judging.Judge.judge.Goals.{in-Some, in-None}

pub returns-then-refusal-ne0-clause-verdict : goal.returns-then-refusal-ne0-clause-verdict
returns-then-refusal-ne0-clause-verdict g c =
    let complete = c.completeness-refusal in
    rw (← c.self.view_is)
    (judging_refused (g.M.MemoryModel.meaning c.self.inside.model) (record { trace = c.self.inside.table; standing = c.self.inside.first }) complete.result complete.ensures.complete complete.ensures.answer c.if-refusal-ne0.true)

pub returns-clause-verdict : goal.returns-clause-verdict
returns-clause-verdict g c =
    let m = g.M.MemoryModel.meaning c.self.inside.model in
    let complete = c.completeness-refusal in
    let found = c.first_orders-self-inside in
    let s : State = record { trace = c.self.inside.table; standing = c.self.inside.first } in
    elim c.match-self.branch [
      | in-Some w ↦ rw (← c.self.view_is, w.result-is) (judging_legal m s complete.result complete.ensures.complete c.if-refusal-ne0.false found.result found.ensures.first w.in-Some.field-0 w.in-Some.is)
      | in-None w ↦ rw (← c.self.view_is, w.result-is) (judging_illegal m s complete.result complete.ensures.complete c.if-refusal-ne0.false found.result found.ensures.first w.in-None.is)
    ]
