-- Nothing is not something.
use Rattle.std.proofs.Common.{◌≡◌, ℕ, Some, None, arith}
use Rattle.trace.specs.declared.operation.Operation.{Operation}

pub none_and_some : {o : Operation} → None ≡ Some o → ⊥
none_and_some e = let z : ◌≡◌ {A = ℕ} 0 1 = cc in omega arith
