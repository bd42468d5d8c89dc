use Rattle.std.proofs.Common.{◌≡◌, min, arith}
use Rattle.trace.proofs.Keeping.{kept_empty}
use Rattle.trace.proofs.table.Table.empty.Goals as goal

pub invariant_of-result : goal.invariant_of-result
invariant_of-result c =
    let all : min c.args.processors 8 ≡ c.args.processors = omega (arith, c.requires.processors.1) in
    rw (c.repeat.ensures, c.from.ensures, all, c.new.ensures) (kept_empty c.args.processors c.args.variables c.requires.processors c.requires.variables)
