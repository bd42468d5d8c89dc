-- What orders that meet a model say of the places of operations: inequalities between numbers.
use Rattle.std.proofs.Common.{◌≡◌, ℕ, ◌<◌, ◌≤◌, true, List, ◌∷◌, sym, refl, ◌∙◌, subst, inr, ⊎_elim, arith}
use Rattle.std.proofs.lemmas.Bool.{cases_lt, false≢true}
use Rattle.trace.specs.declared.operation.Operation.{Operation}
use Rattle.trace.specs.Operations.{is_read}
use Rattle.trace.specs.Traces.{Trace}
use Rattle.models.specs.Meaning.{Meaning, Is, View}
use Rattle.models.specs.Layers.{agreement, SameVariable}
use Rattle.orders.specs.Lists.{Stands, Earlier}
use Rattle.orders.specs.Orders.{view_at, WriteTo, LastWrite, none, last, Explains, Meets}
use Rattle.orders.proofs.Places.{stands_earlier, later_stands, earlier_front, earlier_stands, all_parted}
use Rattle.orders.proofs.VerdictsTests.{precedes, writes_to, decides_writes, Tested}
use Rattle.orders.proofs.VerdictsLists.{place, earlier_lower, lower_earlier, not_behind}

-- the last write of a list, where there is one, stands in it
last_stands : (t : Trace) (v : ℕ) (list : List ℕ) (s : ℕ) → LastWrite t v list s → (s ≡ 0 → ⊥) → Stands list s
last_stands t v list _ (none _) ne = absurd (ne refl)
last_stands t v list s (last before after _ e _ _) ne = record { before = before; after = after; is = e }

-- another write to the variable stands earlier
last_later : (t : Trace) (v : ℕ) (list : List ℕ) (s w : ℕ) → LastWrite t v list s → WriteTo t v w → Stands list w → (w ≡ s → ⊥) → Earlier list w s
last_later t v list _ w (none all) writes stands ne = absurd (all_parted (λ i. WriteTo t v i → ⊥) list stands.before stands.after w stands.is all writes)
last_later t v list s w (last before after _ e _ all) writes stands ne =
    ⊎_elim
    (λ same. absurd (ne same))
    (stands_earlier list before after w s e)
    (not_behind (WriteTo t v) before after stands.before stands.after s w (sym e ∙ stands.is) all writes)

-- the list of a view that keeps the clauses
module _ (m : Meaning) (t : Trace) (b : Tested m t) (k : ℕ) (list : List ℕ) (e : Explains m t k list) where
  at : (i : ℕ) → b.test k i ≡ true → Stands list i
  at i h = e.exact.every i ((b.held k i).0 h)

  -- program order
  pub order_lower : (i j : ℕ) → precedes t i j ≡ true → b.test k i ≡ true → b.test k j ≡ true → place list i < place list j
  order_lower i j p hi hj =
      let s = at j hj in
      earlier_lower list e.exact.once i j (stands_earlier list s.before s.after i j s.is (e.ordered s.before s.after j s.is i ((b.before i j).0 p) ((b.held k i).0 hi)))

  -- a read j, and another write w to its variable
  module _ (j : ℕ) (r : Operation) (is : Is t j r) (reads : is_read r ≡ true) (hj : b.test k j ≡ true) where
    sees : LastWrite t r.variable (at j hj).before r.source
    sees = e.seeing (at j hj).before (at j hj).after j (at j hj).is r is reads

    source_lower : (r.source ≡ 0 → ⊥) → place list r.source < place list j
    source_lower ne =
        earlier_lower list e.exact.once r.source j
        (stands_earlier list (at j hj).before (at j hj).after r.source j (at j hj).is (last_stands t r.variable (at j hj).before r.source sees ne))

    module _ (w : ℕ) (writes : writes_to t r.variable w ≡ true) (hw : b.test k w ≡ true) where
      before_source : (w ≡ r.source → ⊥) → place list w < place list j → Earlier list w r.source
      before_source ne l =
          earlier_front list (at j hj).before (j ∷ (at j hj).after) w r.source (at j hj).is
          (last_later t r.variable (at j hj).before r.source w sees ((decides_writes t r.variable w).0 writes)
          (earlier_stands list (at j hj).before (at j hj).after w j e.exact.once (at j hj).is (lower_earlier list e.exact.once w j (at w hw) (at j hj) l)) ne)

      -- it stands before the source if it stands before the read
      write_lower : (w ≡ r.source → ⊥) → place list w < place list j → place list w < place list r.source
      write_lower ne l = earlier_lower list e.exact.once w r.source (before_source ne l)

      -- a read from the start stands before it
      start_lower : r.source ≡ 0 → (w ≡ 0 → ⊥) → place list j ≤ place list w
      start_lower z ne =
          ⊎_elim
          (λ l. absurd (false≢true (b.there k 0 (subst (m.holds t k) z (e.exact.only r.source (later_stands list w r.source (before_source (λ same. ne (same ∙ z)) l)))))))
          (λ ge. ge)
          (cases_lt (place list w) (place list j))

  module _ (i j : ℕ) (r : Operation) (p : precedes t i j ≡ true) (is : Is t j r) (reads : is_read r ≡ true) (hi : b.test k i ≡ true) (hj : b.test k j ≡ true) where
    -- what precedes a read from the start stands before each write to the read's variable
    pub before_start : (w : ℕ) → r.source ≡ 0 → (w ≡ 0 → ⊥) → writes_to t r.variable w ≡ true → b.test k w ≡ true → place list i < place list w
    before_start w z ne writes hw = omega (arith, order_lower i j p hi hj, start_lower j r is reads hj w writes hw z ne)

    -- the source of a read stands before that of a later one of the same variable
    pub sources_lower : (q : Operation) → Is t i q → is_read q ≡ true → (q.source ≡ 0 → ⊥) → (q.source ≡ r.source → ⊥)
        → writes_to t r.variable q.source ≡ true → b.test k q.source ≡ true → place list q.source < place list r.source
    sources_lower q is_q reads_q start ne writes hw =
        write_lower j r is reads hj q.source writes hw ne (omega (arith, source_lower i q is_q reads_q hi start, order_lower i j p hi hj))

-- views that agree have two writes of one variable at places that rise alike
module _ (m : Meaning) (t : Trace) (b : Tested (agreement m) t) (orders : List (List ℕ)) (meets : Meets (agreement m) t orders) where
  pub agreed_lower : (a c v i j : ℕ) → View m t a → View m t c → writes_to t v i ≡ true → writes_to t v j ≡ true → (i ≡ j → ⊥)
      → b.test a i ≡ true → b.test a j ≡ true → b.test c i ≡ true → b.test c j ≡ true
      → place (view_at orders a) i < place (view_at orders a) j → place (view_at orders c) i < place (view_at orders c) j
  agreed_lower a c v i j va vc wi wj ne ai aj ci cj l =
      let first = (decides_writes t v i).0 wi in
      let second = (decides_writes t v j).0 wj in
      let same : SameVariable t i j =
      record {
        first = first.operation;
        second = second.operation;
        first_is = first.there;
        second_is = second.there;
        first_writes = first.writes;
        second_writes = second.writes;
        variable = first.variable ∙ sym second.variable;
        different = ne;
      } in
      let ea = (meets.each a va).exact in
      let ec = (meets.each c vc).exact in
      earlier_lower (view_at orders c) ec.once i j
      (meets.agree a c va vc i j (inr same) ((b.held c i).0 ci) ((b.held c j).0 cj)
      (lower_earlier (view_at orders a) ea.once i j (ea.every i ((b.held a i).0 ai)) (ea.every j ((b.held a j).0 aj)) l))
