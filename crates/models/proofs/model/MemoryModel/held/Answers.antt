use Rattle.std.proofs.Common.{rules}
use Rattle.models.proofs.model.MemoryModel.held.Goals as goal

pub returns : goal.returns
returns g c i l = let answer = c.ranks_where.ensures i l in search rules
