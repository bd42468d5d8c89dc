use Rattle.std.proofs.Common.{◌≡◌, [], ◌∷◌, ◌++◌, is_ok, vec_items, sym, ap, ◌∙◌, subst, arith}
use Rattle.std.specs.Vec.Iter.{into_iter_items}
use Rattle.std.proofs.ResultArms.{chosen}
use Rattle.std.proofs.lemmas.List.{append-nil, append_assoc, nil_from_length}
use Rattle.judge.specs.Law.{Law}
use Rattle.judge.specs.States.{Plays}
use Rattle.judge.proofs.Going.{Going, going_on}
use Rattle.judge.proofs.Laws.{law_of}
use Rattle.judge.proofs.running.run.Goals as goal

pub loop-call-preserved : goal.loop-call-preserved
loop-call-preserved g c =
    let m = g.M.MemoryModel.meaning c.new-judge.result.model in
    let inv = c.loop-call.invariant in
    let steps = c.in-Some.ensures.steps in
    let call = c.in-Some.call in
    let calls = c.loop-call.yielded in
    let pushed = chosen _ _ _ _ c.push.ensures.items (ap is_ok c.in_ok-push.was) in
    let plays = subst (λ x. Plays (g.M.MemoryModel.meaning x) c.loop-call.judge.state call c.play.result c.play.new.self.state) inv.1 c.play.ensures.played in (
      inv.0 ∙ ap (λ l. calls ++ l) steps.0 ∙ sym (append_assoc calls (call ∷ []) (into_iter_items c.next.new.self)),
      ap (λ j. j.model) c.play.ensures.model ∙ inv.1,
      subst (λ l. Going m (calls ++ call ∷ []) l c.play.new.self.state) (sym pushed)
          (going_on m calls (vec_items c.loop-call.answers) c.loop-call.judge.state inv.2 c.play.result call c.play.new.self.state plays),
    )

pub returns : goal.returns
returns g c =
    let inv = c.loop-call.invariant in
    let m = g.M.MemoryModel.meaning c.new-judge.result.model in
    let calls = vec_items c.args.calls in
    let answers = vec_items c.loop-call.answers in
    let rest : into_iter_items c.loop-call.call-iterator ≡ [] = nil_from_length _ (omega (arith, c.in-None.ensures.steps.0, c.loop-call.call-iterator.rest.ok.0)) in
    let becomes : into_iter_items c.into_iter-call-iterator.result ≡ calls = c.into_iter-call-iterator.ensures.into_iter_gives.0 in
    let all : c.loop-call.yielded ≡ calls = sym (append-nil c.loop-call.yielded) ∙ ap (λ l. c.loop-call.yielded ++ l) (sym rest) ∙ sym inv.0 ∙ becomes in
    subst (λ x. Law (g.M.MemoryModel.meaning x) calls answers) (ap (λ j. j.model) c.new-judge.ensures.value)
    (subst (λ l. Law m l answers) all (law_of m (g.M.MemoryModel.laws c.new-judge.result.model) c.loop-call.yielded answers inv.2.follows))
