use Rattle.std.proofs.Common.{rules}
use Rattle.ranks.specs.Numbers.{number_at}
use Rattle.models.proofs.Filling.{filled_all}
use Rattle.models.proofs.ranked.ranks_where.Goals as goal

pub returns : goal.returns
returns g c = rw (← c.of-ranks.ensures.value) (filled_all _ _ (λ i. goal.F-post g c.args.test (number_at c.of-ranks.result i)) _ _ (λ x b q k. search rules) (λ row x next q k. search rules) c.filter.result _ _ c.filter.ensures.source c.filter.ensures.closure c.empty.ensures c.fold.ensures.ran)
