-- A trace with as many operations as there may be, and how it is recorded.
use Rattle.std.specs.Prelude.{ℕ, suc, zero, replicate}
use Rattle.trace.specs.Traces.{Trace}
use Rattle.trace.specs.Calls.{record_after}
use Rattle.orders.specs.Verdicts.{write}

-- eight processors with eight writes each, of one variable
abbrev pub full : Trace
full = record { variables = 1; lanes = replicate 8 (replicate 8 (write 1 7)) }

-- a trace after so many such writes of a processor
abbrev pub written : ℕ → ℕ → Trace → Trace
written p zero t = t
written p (suc n) t = record_after (written p n t) p 2 1 0 7

-- a trace after eight such writes of each of the first so many processors
abbrev pub written_by : ℕ → Trace → Trace
written_by zero t = t
written_by (suc p) t = written (suc p) 8 (written_by p t)
