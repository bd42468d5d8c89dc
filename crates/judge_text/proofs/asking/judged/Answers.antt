use Rattle.std.proofs.Common.{rules}
use Rattle.judge_text.proofs.Answered.{answers_told}
use Rattle.judge_text.proofs.asking.judged.Goals as goal

pub returns : goal.returns
returns g c =
    let told = answers_told _ (g.M.MemoryModel.laws c.args.model) _ (λ k. (c.type_inv.file k).fits) _ _ c.in_ok-calls.ensures c.in_ok-answers.ensures in
    search rules
