use Rattle.std.proofs.Common.{rules}
use Rattle.models.proofs.model.MemoryModel.before_rows.Goals as goal

pub returns : goal.returns
returns g c j l = let row = c.rows_of.ensures j l in search rules
