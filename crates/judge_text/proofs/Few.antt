-- A view has no more operations than the trace.
use Rattle.std.proofs.Common.{◌≡◌, ℕ, ◌+◌, ◌≤◌, ◌⊎◌, List, [], ◌∷◌, ◌++◌, length, take, drop, sym, refl, ap, ◌∙◌, subst, inl, inr, ⊎_elim, arith}
use Rattle.std.proofs.lemmas.List.{length-append, take-append-drop, drop_more}
use Rattle.trace.specs.Traces.{Trace, WellFormed}
use Rattle.ranks.specs.Numbers.{numbers, RankOf}
use Rattle.ranks.proofs.Facts.{facts}
use Rattle.models.specs.Meaning.{Meaning, Laws}
use Rattle.orders.specs.Lists.{Stands, Once}
use Rattle.orders.specs.Orders.{Exact}
use Rattle.orders.proofs.VerdictsLists.{stands_here, stands_next}

stands_cons : (x i : ℕ) (list : List ℕ) → Stands (x ∷ list) i → (x ≡ i) ⊎ Stands list i
stands_cons x i list s = by s.before s.is
  where
    by : (front : List ℕ) → x ∷ list ≡ front ++ i ∷ s.after → (x ≡ i) ⊎ Stands list i
    by [] e = inl cc
    by (y ∷ front) e = inr (record { before = front; after = s.after; is = cc })

-- another number still stands where one is taken out
stands_left : (before after : List ℕ) (x i : ℕ) → Stands (before ++ x ∷ after) i → (x ≡ i → ⊥) → Stands (before ++ after) i
stands_left [] after x i s other = ⊎_elim (λ e. absurd (other e)) (λ r. r) (stands_cons x i after s)
stands_left (y ∷ before) after x i s other =
    ⊎_elim (λ e. stands_here y i (before ++ after) e) (λ r. stands_next y i (before ++ after) (stands_left before after x i r other)) (stands_cons y i (before ++ x ∷ after) s)

once_next : (x : ℕ) (list : List ℕ) → Once (x ∷ list) → Once list
once_next x list once before after i e s = once (x ∷ before) after i (ap (λ l. x ∷ l) e) (stands_next x i before s)

once_new : (x i : ℕ) (list : List ℕ) → Once (x ∷ list) → Stands list i → x ≡ i → ⊥
once_new x i list once s e = once (x ∷ s.before) s.after i (ap (λ l. x ∷ l) s.is) (stands_here x i s.before e)

-- numbers that all stand in a list are no more than it has
once_short : (list others : List ℕ) → Once list → ((i : ℕ) → Stands list i → Stands others i) → length list ≤ length others
once_short [] others once within = omega arith
once_short (x ∷ list) others once within =
    let s = within x (stands_here x x list refl) in
    let rest =
    once_short list (s.before ++ s.after) (once_next x list once)
    (λ i r. stands_left s.before s.after x i (subst (λ l. Stands l i) s.is (within i (stands_next x i list r))) (once_new x i list once r)) in
    omega (arith, ap length s.is, length-append s.before (x ∷ s.after), length-append s.before s.after, rest)

ranked_stands : (list : List ℕ) (i r : ℕ) → RankOf list i r → Stands list i
ranked_stands list i r h =
    record {
      before = take r list;
      after = drop (r + 1) list;
      is = sym (take-append-drop r list) ∙ ap (λ l. take r list ++ l) (drop_more list r 0 h.within ∙ ap (λ x. x ∷ drop (r + 1) list) h.at);
    }

pub view_few : (m : Meaning) (laws : Laws m) (t : Trace) → WellFormed t → (k : ℕ) (list : List ℕ) → Exact m t k list → length list ≤ 64
view_few m laws t formed k list exact =
    let all = facts t formed.few in
    let short =
    once_short list (numbers t) exact.once
    (λ i s. let rank = all.every i (laws.held t k i (exact.only i s)).1 in ranked_stands (numbers t) i rank.0 rank.1) in
    omega (arith, short, all.count, formed.few)
