use Rattle.std.proofs.Common.{rules}
use Rattle.ranks.specs.Numbers.{number_at}
use Rattle.models.proofs.Filling.{made_each}
use Rattle.models.proofs.ranked.rows_of.Goals as goal

pub returns : goal.returns
returns g c = rw (← c.of-ranks.ensures.value) (λ j l. made_each _ (λ i row. goal.F-post g c.args.row (number_at c.of-ranks.result i) row) _ (λ i y q k. search rules) _ 64 j _ c.from_fn.ensures.items l)
