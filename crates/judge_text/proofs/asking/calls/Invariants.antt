use Rattle.std.proofs.Common.{vec_items, ◌-◌}
use Rattle.judge_text.specs.Asked.{Asked}
use Rattle.judge_text.proofs.asking.calls.Given as goal

-- the calls so far ask for the views before this one
abbrev pub invariant-loop-view : goal.invariant-loop-view
invariant-loop-view l = Asked l.file (l.view - 1) (vec_items l.calls)
