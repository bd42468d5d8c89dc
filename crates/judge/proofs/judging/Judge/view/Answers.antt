use Rattle.judge.proofs.Telling.{showing_none, showing_refused, showing_copied}
use Rattle.judge.proofs.judging.Judge.view.Goals as goal

pub returns-in_default-clause-shown : goal.returns-in_default-clause-shown
returns-in_default-clause-shown g c = rw (← c.self.view_is) (showing_none c.self.inside.first c.args.view c.args.slots.now c.in_default.is)

pub returns-in-Ok-clause-shown : goal.returns-in-Ok-clause-shown
returns-in-Ok-clause-shown g c =
    rw (← c.self.view_is)
    (showing_copied c.self.inside.first c.args.view c.args.slots.now c.in-Some.orders c.in-Some.is c.show.new.slots c.in-Ok.count c.in-Ok.ensures.shown)

pub returns-in-Err-clause-shown : goal.returns-in-Err-clause-shown
returns-in-Err-clause-shown g c =
    rw (← c.self.view_is, c.from.ensures)
    (showing_refused c.self.inside.first c.args.view c.args.slots.now c.in-Some.orders c.in-Some.is c.show.new.slots c.in-Err.why c.in-Err.ensures.shown)
