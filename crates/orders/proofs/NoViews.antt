-- With no views there is nothing to explain.
use Rattle.std.proofs.Common.{◌≡◌, [], sym, arith}
use Rattle.trace.specs.Traces.{Trace, processor_count}
use Rattle.models.specs.Meaning.{Meaning}
use Rattle.orders.specs.Orders.{Legal}

pub nothing_meets : (m : Meaning) (t : Trace) → m.views (processor_count t) t.variables ≡ 0 → Legal m t
nothing_meets m t e = (
  [],
  record {
    count = sym e;
    each = λ k v. absurd (omega (arith, v.0, v.1, e));
    agree = λ a b va vb i j alike hi hj first. absurd (omega (arith, va.0, va.1, e));
  },
)
