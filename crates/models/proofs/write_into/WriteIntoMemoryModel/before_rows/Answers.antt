use Rattle.models.proofs.Layering.{closed_rows}
use Rattle.models.proofs.write_into.WriteIntoMemoryModel.before_rows.Goals as goal

pub returns : goal.returns
returns g c =
    let below = c.args.self.now.below in
    let named = c.add_named.ensures in
    closed_rows (g.M.MemoryModel.meaning below) (g.M.MemoryModel.laws below) c.args.table.now named.facts _ _ c.before_rows-rows.ensures named.added _ c.close.ensures
