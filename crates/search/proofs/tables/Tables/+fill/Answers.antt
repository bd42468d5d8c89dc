use Rattle.std.proofs.Common.{◌≡◌, ℕ, ◌-◌, ◌<◌, List, [], ◌∷◌, ◌++◌, length, take, set, true, false, cond, nat_lt, sym, refl, ap, ◌∙◌, subst, arith}
use Rattle.std.proofs.lemmas.Bool.{false≢true}
use Rattle.models.specs.Rows.{row_at}
use Rattle.search.specs.Filling.{operation_of}
use Rattle.search.specs.Steps.{view_of, Clear}
use Rattle.search.specs.Views.{Noted, Says}
use Rattle.search.proofs.Views.{left, off_again, list_within, ends, next_says, fewer_candidates, no_candidates, pushed, further_less, further_ready, further_says, further_tried}
use Rattle.search.proofs.tables.Tables.+fill.Goals as goal
use Rattle.search.proofs.tables.Tables.+fill.Goals.{After-push}

-- ---- the end of a view

pub returns-in_default-clause-says : goal.returns-in_default-clause-says
returns-in_default-clause-says t c = ends _ _ _ _ _ c.requires (c.if-is_empty.ensures.0 refl) c.in_default.ensures

pub next-next-requires-clause-within : goal.next-next-requires-clause-within
next-next-requires-clause-within t c = list_within _ _ _ _ _ c.requires

pub returns-then-is_empty-clause-says : goal.returns-then-is_empty-clause-says
returns-then-is_empty-clause-says t c =
    let none = c.if-is_empty.ensures.0 refl in
    let held = c.in-Some.ensures.1 ∙ ap (view_of c.args.self.now) (sym c.next-next.ensures.index) in
    let says = subst (λ v. Says c.args.self.now c.next-next.result v c.args.order.now c.fill.new.order c.fill.result) held c.fill.ensures.says in
    next_says _ _ _ _ _ c.requires none c.in-Some.ensures.0 c.next-next.result c.next-next.ensures _ c.fill.result says

-- ---- a candidate

-- it stands at the end of the order
longer : (t : ℕ) (c : After-push t) → c.push.new.self ≡ c.args.order.now ++ c.in-Some-next_candidate.rank ∷ []
longer t c =
    let i = c.in-Some-next_candidate.rank in
    pushed _ _ _ _ _ c.requires _ c.loop-rank.invariant.2 i c.in-Some-next_candidate.ensures _
    (subst (λ (o : List ℕ). c.push.new.self ≡ cond (nat_lt (length o) 1024) (o ++ i ∷ []) o) c.loop-rank.invariant.0 c.push.ensures.after)

pub fill-requires-then-is_clear : goal.fill-requires-then-is_clear
fill-requires-then-is_clear t c =
    let tables = c.args.self.now in
    let i = c.in-Some-next_candidate.rank in
    let noted = subst (λ (l : List ℕ). Noted tables i l c.place-last.result c.place-last.new.latest) c.loop-rank.invariant.1 c.place-last.ensures in
    let less = further_less _ _ _ _ _ c.requires _ c.loop-rank.invariant.2 i c.in-Some-next_candidate.ensures c.without.result c.without.ensures.holds in
    let falls : left tables c.args.view.now c.without.result < t = omega (arith, c.decreases, less) in
    (falls, rw (longer t (goal.at.fill-requires-then-is_clear t c).After-push) (further_ready _ _ _ _ _ c.requires _ c.loop-rank.invariant.2 i c.in-Some-next_candidate.ensures c.without.result c.without.ensures.holds _ _ noted))

pub returns-then-fill-clause-says : goal.returns-then-fill-clause-says
returns-then-fill-clause-says t c =
    let tables = c.args.self.now in
    let i = c.in-Some-next_candidate.rank in
    let clear = subst (λ (l : List ℕ). Clear (operation_of tables.operations i) (row_at c.args.view.now.before i) c.args.rest l) c.loop-rank.invariant.1 (c.if-is_clear.ensures.0 refl) in
    let says = subst (λ o. Says tables c.args.view.now c.without.result o c.fill-then-is_clear.new.order true) (longer t (goal.at.returns-then-fill-clause-says t c).After-push) c.if-fill.ensures.says in
    further_says _ _ _ _ _ c.requires _ c.loop-rank.invariant.2 i c.in-Some-next_candidate.ensures c.without.result c.without.ensures.holds _ clear says

pub loop-rank-smaller-then-is_clear : goal.loop-rank-smaller-then-is_clear
loop-rank-smaller-then-is_clear t c = fewer_candidates _ _ c.in-Some-next_candidate.rank c.in-Some-next_candidate.ensures c.without-candidates.ensures.holds

pub loop-rank-preserved-then-is_clear : goal.loop-rank-preserved-then-is_clear
loop-rank-preserved-then-is_clear t c =
    let i = c.in-Some-next_candidate.rank in
    let told = c.if-fill.ensures in
    let long = longer t (goal.at.loop-rank-preserved-then-is_clear t c).After-push in
    let says = subst (λ o. Says c.args.self.now c.args.view.now c.without.result o c.fill-then-is_clear.new.order false) long told.says in (
      c.pop.ensures.after ∙ ap (λ (o : List ℕ). take (length o - 1) o) (told.says.left ∙ long) ∙ off_again c.args.order.now i,
      c.take_back.ensures ∙ ap (λ (l : List ℕ). set l (operation_of c.args.self.now.operations i).variable c.place-last.result) (told.back refl) ∙ c.place-last.ensures.back ∙ c.loop-rank.invariant.1,
      further_tried _ _ _ _ _ c.requires _ c.loop-rank.invariant.2 i c.in-Some-next_candidate.ensures c.without.result c.without.ensures.holds c.without-candidates.result _ c.without-candidates.ensures.holds says,
    )

pub loop-rank-smaller : goal.loop-rank-smaller
loop-rank-smaller t c = fewer_candidates _ _ c.in-Some-next_candidate.rank c.in-Some-next_candidate.ensures c.without-candidates.ensures.holds

pub returns-clause-says : goal.returns-clause-says
returns-clause-says t c = rw c.loop-rank.invariant.0 (no_candidates _ _ _ _ _ c.requires c.loop-rank.candidates c.loop-rank.invariant.2 c.in_default-next_candidate.ensures (λ h. false≢true (c.if-is_empty.ensures.1 h)))
