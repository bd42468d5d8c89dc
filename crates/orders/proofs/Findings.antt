-- An inspection finds one thing only, and 0 exactly where it finds nothing wrong.
use Rattle.std.proofs.Common.{◌≡◌, ℕ, suc, ◌+◌, ◌*◌, ◌<◌, ◌≤◌, List, [], ◌∷◌, ◌++◌, length, get_or, sym, refl, ap, ◌∙◌, subst, ⊎_elim, arith}
use Rattle.std.proofs.lemmas.List.{length-append, append_assoc, append-nil, get_or-append-add}
use Rattle.std.proofs.lemmas.Bool.{cases_lt}
use Rattle.trace.specs.Traces.{Trace, processor_count}
use Rattle.models.specs.Meaning.{Meaning}
use Rattle.orders.specs.Orders.{view_at, Explains, Meets}
use Rattle.orders.proofs.Splitting.{one_list, goes_on}
use Rattle.orders.specs.Inspecting.{written, Fails, not_exact, not_ordered, not_seeing, Breaks, ends, fails, Disagrees, Begins, FindsLast, disagrees, left_over, meets, Finds, breaks, whole, Passes, Failure, own, agreement}

-- orders that numbers begin with go on as any longer ones do
record Further (xs ys : List (List ℕ)) (r s : List ℕ) : Type 0 where
  more : List (List ℕ)
  is : ys ≡ xs ++ more
  rest : r ≡ written more ++ s

further : (xs ys : List (List ℕ)) (r s : List ℕ) → written xs ++ r ≡ written ys ++ s → length xs ≤ length ys → Further xs ys r s
further [] ys r s e l = record { more = ys; is = refl; rest = e }
further (x ∷ xs) [] r s e l = absurd (omega arith)
further (x ∷ xs) (y ∷ ys) r s e l =
    let h = one_list x y (written xs ++ r) (written ys ++ s) (ap (λ l. length x ∷ l) (sym (append_assoc x (written xs) r)) ∙ e ∙ ap (λ l. length y ∷ l) (append_assoc y (written ys) s)) in
    onward h.0 (further xs ys r s h.1 (omega arith))
  where
    onward : x ≡ y → Further xs ys r s → Further (x ∷ xs) (y ∷ ys) r s
    onward same f = record { more = f.more; is = λ i. sym same i ∷ f.is i; rest = f.rest }

module _ (m : Meaning) (t : Trace) where
  -- a list that explains its view breaks nothing
  explains_all : (k : ℕ) (list : List ℕ) (clause : ℕ) → Fails m t k list clause → Explains m t k list → ⊥
  explains_all k list _ (not_exact not) e = not e.exact
  explains_all k list _ (not_ordered is not) e = not e.ordered
  explains_all k list _ (not_seeing is also not) e = not e.seeing

  one_failure : (k : ℕ) (list : List ℕ) (c d : ℕ) → Fails m t k list c → Fails m t k list d → c ≡ d
  one_failure k list _ _ (not_exact not) (not_exact _) = refl
  one_failure k list _ _ (not_exact not) (not_ordered is _) = absurd (not is)
  one_failure k list _ _ (not_exact not) (not_seeing is _ _) = absurd (not is)
  one_failure k list _ _ (not_ordered is _) (not_exact not) = absurd (not is)
  one_failure k list _ _ (not_ordered _ _) (not_ordered _ _) = refl
  one_failure k list _ _ (not_ordered _ not) (not_seeing _ is _) = absurd (not is)
  one_failure k list _ _ (not_seeing is _ _) (not_exact not) = absurd (not is)
  one_failure k list _ _ (not_seeing _ is _) (not_ordered _ not) = absurd (not is)
  one_failure k list _ _ (not_seeing _ _ _) (not_seeing _ _ _) = refl

  no_break : (k : ℕ) (numbers list rest : List ℕ) (clause : ℕ) → Breaks m t k numbers clause → numbers ≡ length list ∷ (list ++ rest) → Explains m t k list → ⊥
  no_break k numbers list rest _ (ends early) e good = goes_on list rest numbers early e
  no_break k numbers list rest clause (fails other more _ f broken) e good =
      let same = (one_list list other rest more (sym e ∙ f)).0 in
      explains_all k other clause broken (subst (Explains m t k) same good)

  one_break : (k : ℕ) (numbers : List ℕ) (c d : ℕ) → Breaks m t k numbers c → Breaks m t k numbers d → c ≡ d
  one_break k numbers _ _ (ends _) (ends _) = refl
  one_break k numbers _ _ (ends early) (fails list rest _ e _) = absurd (goes_on list rest numbers early e)
  one_break k numbers _ _ (fails list rest _ e _) (ends early) = absurd (goes_on list rest numbers early e)
  one_break k numbers c d (fails list rest _ e f) (fails other more _ g h) =
      one_failure k other c d (subst (λ l. Fails m t k l c) (one_list list other rest more (sym e ∙ g)).0 f) h

  -- the first orders with fewer lists than the second: they do not break at the next view
  shorter : (numbers : List ℕ) (xs ys : List (List ℕ)) (r s : List ℕ) (clause : ℕ) → Begins m t numbers xs r → Begins m t numbers ys s → length xs < length ys → Breaks m t (suc (length xs)) r clause → ⊥
  shorter numbers xs ys r s clause bx by l broken = next (further xs ys r s (sym bx.is ∙ by.is) (omega arith))
    where
      next : Further xs ys r s → ⊥
      next f = parts f.more f.is f.rest
        where
          parts : (more : List (List ℕ)) → ys ≡ xs ++ more → r ≡ written more ++ s → ⊥
          parts [] e g = omega (arith, ap length e, length-append xs [])
          parts (list ∷ more) e g =
              let same : length xs ≡ length xs + 0 = omega arith in
              let at : view_at ys (suc (length xs)) ≡ list = (λ i. get_or (e i) (same i) []) ∙ get_or-append-add xs (list ∷ more) 0 [] in
              no_break (suc (length xs)) r list (written more ++ s) clause broken
              (g ∙ ap (λ z. length list ∷ z) (append_assoc list (written more) s))
              (subst (Explains m t (suc (length xs))) at (by.each (suc (length xs)) (omega arith, omega arith)))

  -- two orders with as many lists are the same
  as_long : (numbers : List ℕ) (xs ys : List (List ℕ)) (r s : List ℕ) → Begins m t numbers xs r → Begins m t numbers ys s → length xs ≡ length ys → (xs ≡ ys) × (r ≡ s)
  as_long numbers xs ys r s bx by l = next (further xs ys r s (sym bx.is ∙ by.is) (omega arith))
    where
      parts : (more : List (List ℕ)) → ys ≡ xs ++ more → r ≡ written more ++ s → (xs ≡ ys) × (r ≡ s)
      parts [] e g = (sym (e ∙ append-nil xs), g)
      parts (list ∷ more) e g = absurd (omega (arith, l, ap length e, length-append xs (list ∷ more)))

      next : Further xs ys r s → (xs ≡ ys) × (r ≡ s)
      next f = parts f.more f.is f.rest

  -- only one view is the first that does not agree
  one_disagreement : (orders : List (List ℕ)) (k l : ℕ) → Disagrees m t orders k → Disagrees m t orders l → k < l → ⊥
  one_disagreement orders k l dk dl lt = dk.disagrees (dl.first dk.other k dk.low dk.earlier lt)

  all_agree : (orders : List (List ℕ)) (k : ℕ) → Meets m t orders → Disagrees m t orders k → ⊥
  all_agree orders k good d = d.disagrees (good.agree d.other k (d.low, omega (arith, d.earlier, d.view.1)) d.view)

  one_last : (orders : List (List ℕ)) (rest : List ℕ) (v w : ℕ) → FindsLast m t orders rest v → FindsLast m t orders rest w → v ≡ w
  one_last orders rest _ _ (disagrees k dk) (disagrees l dl) =
      ⊎_elim
      (λ lt. absurd (one_disagreement orders k l dk dl lt))
      (λ ge. ⊎_elim (λ lt. absurd (one_disagreement orders l k dl dk lt)) (λ le. omega arith) (cases_lt l k))
      (cases_lt k l)
  one_last orders rest _ _ (disagrees k d) (left_over good _) = absurd (all_agree orders k good d)
  one_last orders rest _ _ (disagrees k d) (meets good _) = absurd (all_agree orders k good d)
  one_last orders rest _ _ (left_over good _) (disagrees k d) = absurd (all_agree orders k good d)
  one_last orders rest _ _ (left_over _ _) (left_over _ _) = refl
  one_last orders rest _ _ (left_over _ some) (meets _ none) = absurd (some none)
  one_last orders rest _ _ (meets good _) (disagrees k d) = absurd (all_agree orders k good d)
  one_last orders rest _ _ (meets _ none) (left_over _ some) = absurd (some none)
  one_last orders rest _ _ (meets _ _) (meets _ _) = refl

  pub one_finding : (numbers : List ℕ) (v w : ℕ) → Finds m t numbers v → Finds m t numbers w → v ≡ w
  one_finding numbers _ _ (breaks xs r c bx lx fx) (breaks ys s d by ly fy) =
      ⊎_elim
      (λ lt. absurd (shorter numbers xs ys r s c bx by lt fx))
      (λ ge.
      ⊎_elim
      (λ lt. absurd (shorter numbers ys xs s r d by bx lt fy))
      (λ le.
      let long : length xs ≡ length ys = omega arith in
      let rests = (as_long numbers xs ys r s bx by long).1 in
      let clauses = one_break (suc (length ys)) s c d (subst (λ n. Breaks m t (suc n) s c) long (subst (λ z. Breaks m t (suc (length xs)) z c) rests fx)) fy in
      omega (arith, long, clauses))
      (cases_lt (length ys) (length xs)))
      (cases_lt (length xs) (length ys))
  one_finding numbers _ _ (breaks xs r c bx lx fx) (whole ys s w by ly fy) = absurd (shorter numbers xs ys r s c bx by (omega (arith, lx, ly)) fx)
  one_finding numbers _ _ (whole xs r v bx lx fx) (breaks ys s d by ly fy) = absurd (shorter numbers ys xs s r d by bx (omega (arith, lx, ly)) fy)
  one_finding numbers v w (whole xs r _ bx lx fx) (whole ys s _ by ly fy) =
      let same = as_long numbers xs ys r s bx by (lx ∙ sym ly) in
      one_last ys s v w (subst (λ z. FindsLast m t ys z v) same.1 (subst (λ z. FindsLast m t z r v) same.0 fx)) fy

  pub passes_zero : (numbers : List ℕ) → Passes m t numbers → Finds m t numbers 0
  passes_zero numbers (orders, is, good) =
      whole orders [] 0 (record { is = is ∙ sym (append-nil (written orders)); each = λ k w. good.each k (w.0, omega (arith, w.1, good.count)) }) good.count (meets good refl)

  pub zero_passes : (numbers : List ℕ) (v : ℕ) → v ≡ 0 → Finds m t numbers v → Passes m t numbers
  zero_passes numbers _ z (breaks xs r c bx lx fx) = absurd (omega arith)
  zero_passes numbers _ z (whole xs r _ bx lx (disagrees k d)) = absurd (omega arith)
  zero_passes numbers _ z (whole xs r _ bx lx (left_over good some)) = absurd (omega arith)
  zero_passes numbers _ z (whole xs r _ bx lx (meets good none)) = (xs, bx.is ∙ ap (λ l. written xs ++ l) none ∙ append-nil (written xs), good)

  -- with fewer than 100 views, a number has one clause and one view
  pub number_fails : (numbers : List ℕ) (v clause k : ℕ) → m.views (processor_count t) t.variables < 100 → 1 ≤ k → k < 100 → v ≡ 100 * clause + k → Finds m t numbers v → Failure m t numbers clause k
  number_fails numbers _ clause k few low high e (breaks xs r c bx lx fx) =
      let clauses : c ≡ clause = omega (arith, e, few, low, high, lx) in
      let views : suc (length xs) ≡ k = omega (arith, e, few, low, high, lx) in
      subst (λ z. Failure m t numbers z k) clauses (subst (Failure m t numbers c) views (own xs r c bx lx fx))
  number_fails numbers _ clause k few low high e (whole xs r _ bx lx (disagrees l d)) =
      let clauses : 4 ≡ clause = omega (arith, e, few, low, high, d.view.0, d.view.1) in
      let views : l ≡ k = omega (arith, e, few, low, high, d.view.0, d.view.1) in
      subst (λ z. Failure m t numbers z k) clauses (subst (Failure m t numbers 4) views (agreement xs r l bx lx d))
  number_fails numbers _ clause k few low high e (whole xs r _ bx lx (left_over good some)) = absurd (omega arith)
  number_fails numbers _ clause k few low high e (whole xs r _ bx lx (meets good none)) = absurd (omega arith)
