use Rattle.std.proofs.Common.{◌≡◌, ◌-◌}
use Rattle.trace.specs.Completeness.{first_refusal, completeness_answer}
use Rattle.trace.proofs.table.Table.completeness.Given as goal

-- the numbers that are left have the trace's first refusal
abbrev pub invariant-loop-number : goal.invariant-loop-number
invariant-loop-number l = first_refusal l.self l.number (l.end - l.number) ≡ completeness_answer l.self
