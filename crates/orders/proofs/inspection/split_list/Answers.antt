use Rattle.std.proofs.Common.{◌<◌, ◌≤◌, length, rules}
use Rattle.orders.proofs.Splitting.{ends_nothing, ends_short}
use Rattle.orders.proofs.inspection.split_list.Goals as goal

pub returns-in_default : goal.returns-in_default
returns-in_default c = let h : length c.args.numbers.now < 1 = search rules in ends_nothing _ h

pub returns-else-count-rest : goal.returns-else-count-rest
returns-else-count-rest c = let h : 1 ≤ length c.args.numbers.now = search rules in ends_short _ h c.if-count-rest.false
