use Rattle.std.proofs.Common.{◌≡◌, false, rules, MatchOption}
use Rattle.opset.specs.declared.OpSet.{OpSet}
use Rattle.opset.specs.Sets.{has}
use Rattle.ranks.specs.Numbers.{numbers}
use Rattle.models.specs.Rows.{Row}
use Rattle.models.specs.Layers.{write_into, write_into_laws}
use Rattle.models.proofs.Layering.{by_rank}
use Rattle.models.proofs.write_into.WriteIntoMemoryModel.before.Goals as goal

pub returns : goal.returns
returns g c =
    let t = c.args.table.now in
    let m = g.M.MemoryModel.meaning c.args.self.now.below in
    let laws = write_into_laws m (g.M.MemoryModel.laws c.args.self.now.below) in
    let second = c.args.second in
    let found : MatchOption c.rank.result (c.is_some_and.result ≡ false) (λ r. (row : OpSet) × Row (λ i. (write_into m).before t i second) (numbers t) row × (c.is_some_and.result ≡ has row r)) = search rules in
    by_rank t c.of.ensures.facts _ c.of.ensures.value c.args.first (λ i. (write_into m).before t i second) (λ b. (laws.ordered t c.args.first second b).0) _ _ c.rank.ensures.place found
