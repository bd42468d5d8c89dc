use Rattle.std.proofs.Common.{◌≡◌, replicate}
use Rattle.fixed_list.proofs.FixedList.repeat.Given as goal

-- the item stands there as often as was counted
abbrev pub invariant-loop : goal.invariant-loop
invariant-loop g l = l.list ≡ replicate l.counter l.item
