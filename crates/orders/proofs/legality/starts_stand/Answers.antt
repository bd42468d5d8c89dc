use Rattle.orders.proofs.Standing.{start_stands}
use Rattle.orders.proofs.legality.starts_stand.Goals as goal

pub returns : goal.returns
returns g c t whole orders part = start_stands _ (g.M.MemoryModel.laws c.args.model.now) t whole orders part
