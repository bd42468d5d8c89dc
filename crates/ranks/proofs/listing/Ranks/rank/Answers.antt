use Rattle.std.proofs.Common.{subst, sym, ◌∙◌}
use Rattle.ranks.specs.Numbers.{Rising, Unlisted}
use Rattle.ranks.proofs.Searching.{missed}
use Rattle.ranks.proofs.listing.Ranks.rank.Goals as goal

pub returns-in-Err-clause-place : goal.returns-in-Err-clause-place
returns-in-Err-clause-place c =
    let same = c.as_slice.ensures.value in
    subst (λ list. Unlisted list c.args.number) (same ∙ c.self.view_is)
    (missed c.as_slice.result.now c.args.number _ (subst Rising (sym same) c.self.invariant) c.in-Err.ensures.position)
