use Rattle.orders.proofs.Standing.{full_meets}
use Rattle.orders.proofs.legality.full_starts_meet.Goals as goal

pub returns : goal.returns
returns g c t orders part = full_meets _ (g.M.MemoryModel.laws c.args.model.now) t orders part
