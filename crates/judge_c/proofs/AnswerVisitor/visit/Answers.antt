use Rattle.judge_c.proofs.Answering.{answers_judged}
use Rattle.judge_c.proofs.AnswerVisitor.visit.Goals as goal

pub returns : goal.returns
returns g c =
    rw c.one_number-2.ensures
    (answers_judged g.M.MemoryModel.meaning c.args.model c.args.self.file.now _ c.load-refusal.new.self c.judge-refusal.new.self _ _
    c.new-judge.ensures.value c.load-refusal.ensures.answer c.load-refusal.ensures.after c.if-refusal-ne0.false c.judge-refusal.ensures.verdict)
