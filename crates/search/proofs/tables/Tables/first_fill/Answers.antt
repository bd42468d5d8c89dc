use Rattle.std.proofs.Common.{subst}
use Rattle.search.specs.Views.{NoneOn}
use Rattle.search.proofs.Views.{first, first_ready, unfilled}
use Rattle.search.proofs.tables.Tables.first_fill.Goals as goal

pub fill-requires : goal.fill-requires
fill-requires c = rw (c.in-Some.ensures.1, c.new-order.ensures) (first_ready c.args.self.now c.in-Some.ensures.0)

pub returns-else-fill : goal.returns-else-fill
returns-else-fill c =
    let tables = c.args.self.now in
    unfilled tables c.in-Some.ensures.0 c.fill.new.order (subst (λ o. NoneOn tables (first tables c.in-Some.ensures.0) o c.fill.new.order) c.new-order.ensures c.if-fill.ensures.says)
