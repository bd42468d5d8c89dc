use Rattle.orders.proofs.VerdictsRows.{all_hold}
use Rattle.orders.proofs.verdicts.worked_verdicts.Goals as goal

pub returns : goal.returns
returns c = all_hold
