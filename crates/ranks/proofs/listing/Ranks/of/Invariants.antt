use Rattle.std.proofs.Common.{◌≡◌, ◌+◌, ◌-◌, ◌*◌, ◌++◌}
use Rattle.trace.specs.Traces.{processor_count}
use Rattle.ranks.specs.Numbers.{numbers_from, numbers}
use Rattle.ranks.proofs.listing.Ranks.of.Given as goal

-- what is listed, with what is still to be listed, is the whole list
abbrev pub invariant-loop-processor : goal.invariant-loop-processor
invariant-loop-processor l =
    l.numbers ++ numbers_from l.table (100 * l.processor + 1) (101 + 100 * processor_count l.table - (100 * l.processor + 1)) ≡ numbers l.table

abbrev pub invariant-loop-number : goal.invariant-loop-number
invariant-loop-number l = l.numbers ++ numbers_from l.table l.number (101 + 100 * processor_count l.table - l.number) ≡ numbers l.table
