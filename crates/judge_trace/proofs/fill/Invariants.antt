use Rattle.std.proofs.Common.{◌≤◌}
use Rattle.judge_trace.proofs.fill.Given as goal

abbrev pub invariant-loop : goal.invariant-loop
invariant-loop l = l.filled ≤ 534
