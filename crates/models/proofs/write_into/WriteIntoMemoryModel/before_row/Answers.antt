use Rattle.models.specs.Layers.{write_into, write_into_laws}
use Rattle.models.proofs.Layering.{absent, row_none}
use Rattle.models.proofs.write_into.WriteIntoMemoryModel.before_row.Goals as goal

pub returns-in-None : goal.returns-in-None
returns-in-None g c =
    let t = c.args.table.now in
    let m = g.M.MemoryModel.meaning c.args.self.now.below in
    let laws = write_into_laws m (g.M.MemoryModel.laws c.args.self.now.below) in
    row_none (λ i. (write_into m).before t i c.args.number) _ c.empty.result c.empty.ensures
    (λ i b. absent t c.of.ensures.facts _ c.of.ensures.value c.args.number c.in-None.ensures.place (laws.ordered t i c.args.number b).1)
