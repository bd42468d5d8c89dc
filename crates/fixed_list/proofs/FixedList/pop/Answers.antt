use Rattle.std.proofs.Common.{◌-◌, ◌∙◌, ap, sym, arith, take}
use Rattle.std.specs.List.{slice_get}
use Rattle.fixed_list.specs.Padding.{used_is}
use Rattle.fixed_list.proofs.Padding.{one_less, item_at}
use Rattle.fixed_list.proofs.FixedList.pop.Goals as goal

pub invariant_of-self : goal.invariant_of-self
invariant_of-self g c = rw c.blank.ensures (one_less _ _ _ _ c.self.invariant (omega (arith, c.if-self-eq0.false)))

pub returns-clause-item : goal.returns-clause-item
returns-clause-item g c =
    rw (← c.self.view_is)
    (item_at _ _ _ _ c.self.invariant (c.self.inside.len - 1) _ (omega (arith, c.if-self-eq0.false))
    ∙ ap (λ n. slice_get (take c.self.inside.len c.self.inside.items) (n - 1)) (sym (used_is _ _ _ _ c.self.invariant)))
