use Rattle.std.proofs.Common.{◌≡◌, ◌++◌, take}
use Rattle.fixed_list.proofs.FixedList.extend_from_slice.Given as goal

-- the items so far stand at the end
abbrev pub invariant-loop-item : goal.invariant-loop-item
invariant-loop-item g l = l.self ≡ l.initial.self ++ take l.item-index l.items
