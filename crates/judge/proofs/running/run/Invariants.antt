use Rattle.std.proofs.Common.{◌≡◌, ◌++◌, vec_items}
use Rattle.std.specs.Vec.Iter.{into_iter_items}
use Rattle.judge.proofs.Going.{Going}
use Rattle.judge.proofs.running.run.Given as goal

abbrev pub invariant-loop-call : goal.invariant-loop-call
invariant-loop-call g l =
    (into_iter_items l.initial.call-iterator ≡ l.yielded ++ into_iter_items l.call-iterator)
    × (l.judge.model ≡ l.initial.judge.model)
    × Going (g.M.MemoryModel.meaning l.initial.judge.model) l.yielded (vec_items l.answers) l.judge.state
