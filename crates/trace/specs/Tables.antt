-- What a table keeps true of the trace that it holds.
use Rattle.std.specs.Prelude.{◌≡◌, ℕ}
use Rattle.trace.specs.Traces.{Trace, operation_count, WellFormed}

-- the trace is well-formed, and its operations are counted
pub record Kept (total : ℕ) (t : Trace) : Type 0 where
  pub formed : WellFormed t
  pub counted : total ≡ operation_count t
