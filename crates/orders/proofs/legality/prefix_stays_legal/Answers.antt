use Rattle.orders.proofs.Cutting.{cut_meets}
use Rattle.orders.proofs.legality.prefix_stays_legal.Goals as goal

pub returns : goal.returns
returns g c =
    let model = c.args.model.now in
    λ t u ct cu p. cut_meets (g.M.MemoryModel.meaning model) (g.M.MemoryModel.laws model) t u ct cu p
