use Rattle.std.proofs.Common.{◌≡◌, ℕ, ◌+◌, ◌-◌, ◌^◌, ◌<◌, ◌≤◌, List, cond, nat_lt, ◌∷◌, [], ◌++◌, length, sym, subst, arith}
use Rattle.trace.specs.Traces.{Trace}
use Rattle.opset.specs.declared.OpSet.{OpSet}
use Rattle.ranks.specs.Numbers.{numbers}
use Rattle.models.specs.Meaning.{Meaning}
use Rattle.models.specs.Rows.{Row}
use Rattle.search.specs.Filling.{Held}
use Rattle.search.proofs.Filling.{held_none, held_more}
use Rattle.search.proofs.tables.filling.held_by_views.Goals as goal

-- the turn at view k
turn : (m : Meaning) (t : Trace) (k : ℕ) (held more : List OpSet) (row : OpSet) → 1 ≤ k → k ≤ 16 → row.0 < 2 ^ 64 → Held m t (k - 1) held → Row (m.holds t k) (numbers t) row
    → more ≡ cond (nat_lt (length held) 16) (held ++ row ∷ []) held → Held m t k more
turn m t k held more row low high word h r pushed =
    let next : k - 1 + 1 ≡ k = omega arith in
    subst (λ n. Held m t n more) next (held_more m t (k - 1) held row more (omega arith) word h (subst (λ n. Row (m.holds t n) (numbers t) row) (sym next) r) pushed)

pub loop-view-init : goal.loop-view-init
loop-view-init g c = (omega arith, rw c.new-held.ensures (held_none _ _))

pub loop-view-preserved : goal.loop-view-preserved
loop-view-preserved g c =
    let m = g.M.MemoryModel.meaning c.args.model.now in
    let k = c.loop-view.view in
    let again : k ≡ k + 1 - 1 = omega (arith, c.loop-view.auto.view) in
    let word : c.held.result.0 < 2 ^ 64 = omega arith in (
      omega (arith, c.loop-view-test.true),
      subst (λ n. Held m c.args.table.now n c.push.new.self) again
          (turn m c.args.table.now k _ _ c.held.result c.loop-view.auto.view (omega (arith, c.loop-view-test.true, c.requires)) word c.loop-view.invariant.1 c.held.ensures c.push.ensures.after),
    )

pub returns-2 : goal.returns-2
returns-2 g c =
    let m = g.M.MemoryModel.meaning c.args.model.now in
    let k = c.loop-view.view in
    let last : k ≡ c.args.views = omega (arith, c.loop-view-test.true) in
    let word : c.held.result.0 < 2 ^ 64 = omega arith in
    subst (λ n. Held m c.args.table.now n c.push.new.self) last
    (turn m c.args.table.now k _ _ c.held.result c.loop-view.auto.view (omega (arith, c.loop-view-test.true, c.requires)) word c.loop-view.invariant.1 c.held.ensures c.push.ensures.after)
