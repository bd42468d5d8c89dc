use Rattle.std.proofs.Common.{refl}
use Rattle.worked_traces.proofs.opposite_readers.Goals as goal

pub returns : goal.returns
returns c =
    rw (c.record-6.ensures.after, c.record-5.ensures.after, c.record-4.ensures.after, c.record-3.ensures.after, c.record-2.ensures.after, c.record.ensures.after, c.sized-table.ensures) refl
