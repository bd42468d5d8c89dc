use Rattle.std.proofs.Common.{refl, arith}
use Rattle.judge_text.proofs.asking.view_call.Goals as goal

pub returns : goal.returns
returns c =
    let slots = c.in_ok-vec.field-0 in
    record { slots = slots; is = refl; room = omega (arith, c.in_ok-vec.ensures.len, slots.ok.0) }
