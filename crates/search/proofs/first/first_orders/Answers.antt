use Rattle.search.proofs.Finding.{found_or_none}
use Rattle.search.proofs.first.first_orders.Goals as goal

pub returns-clause-first : goal.returns-clause-first
returns-clause-first g c =
    let model = c.args.model.now in
    let table = c.args.table.now in
    found_or_none (g.M.MemoryModel.meaning model) (g.M.MemoryModel.laws model) table c.of.ensures.facts c.of.result c.of.ensures.tabled c.first_orders.result c.first_orders.ensures
