-- The parts of the tables, filled view after view and rank after rank.
use Rattle.std.proofs.Common.{◌≡◌, ℕ, zero, suc, ◌+◌, ◌^◌, ◌<◌, ◌≤◌, true, cond, nat_lt, List, [], ◌∷◌, ◌++◌, length, get_or, set, replicate, Some, refl, sym, ap, ◌∙◌, subst, ⊎_elim, arith}
use Rattle.std.specs.List.{AllByRecursion, slice_get}
use Rattle.std.proofs.ByRecursion.{All-get_or}
use Rattle.std.proofs.lemmas.List.{length-set, length-replicate, length_push, get_or_push, get_or_append_left, get_or-set_same, get_or-set_other, get_or_past, get_or-replicate}
use Rattle.std.proofs.lemmas.Bool.{both_ways, cases_eq, cases_lt, cond-true, lt-ltb}
use Rattle.trace.specs.declared.operation.Operation.{Operation}
use Rattle.trace.specs.Operations.{processor_of, position_of, Fitting, unused}
use Rattle.trace.specs.Traces.{Trace, processor_count, lane_at, positioned, WellFormed}
use Rattle.opset.specs.declared.OpSet.{OpSet}
use Rattle.opset.specs.Sets.{has, size}
use Rattle.opset.proofs.Sets.{has_none, has_below, size_none, size_le}
use Rattle.ranks.specs.Numbers.{numbers, number_at}
use Rattle.models.specs.Meaning.{Meaning, Is}
use Rattle.models.specs.Rows.{Row, row_at}
use Rattle.orders.proofs.Nothing.{none_and_some}
use Rattle.search.specs.Filling.{operation_of, Held, Listing}

-- ---- the sets that the views hold

-- a property of the element at every index, past the end too
at_set : {X : Type 0} (P : X → Type 0) (xs : List X) (n : ℕ) (x d : X) → n < length xs → P x → (k : ℕ) → P (get_or xs k d) → P (get_or (set xs n x) k d)
at_set P xs n x d l p k q =
    ⊎_elim
    (λ e. subst P (sym (ap (λ i. get_or (set xs n x) i d) e ∙ get_or-set_same xs n x d l)) p)
    (λ ne. subst P (sym (get_or-set_other xs n k x d ne)) q)
    (cases_eq k n)

at_push : {X : Type 0} (P : X → Type 0) (xs : List X) (x d : X) → P x → ((k : ℕ) → P (get_or xs k d)) → (k : ℕ) → P (get_or (xs ++ x ∷ []) k d)
at_push P xs x d p q k =
    ⊎_elim
    (λ e. subst P (sym (get_or_push xs x d k (sym e))) p)
    (λ ne.
    ⊎_elim
    (λ l. subst P (sym (get_or_append_left xs (x ∷ []) d k l)) (q k))
    (λ ge. subst P (get_or_past xs k d ge ∙ sym (get_or_past (xs ++ x ∷ []) k d (omega (arith, length_push xs x)))) (q k))
    (cases_lt k (length xs)))
    (cases_eq k (length xs))

at_replicate : {X : Type 0} (P : X → Type 0) (n : ℕ) (x d : X) → P x → P d → (k : ℕ) → P (get_or (replicate n x) k d)
at_replicate P n x d p q k =
    ⊎_elim
    (λ l. subst P (sym (get_or-replicate n k x d l)) p)
    (λ l. subst P (sym (get_or_past (replicate n x) k d (omega (arith, length-replicate n x)))) q)
    (cases_lt k n)

module _ (m : Meaning) (t : Trace) where
  pub held_none : Held m t 0 []
  held_none =
      record {
        rows = λ k l. absurd (omega arith);
        long = refl;
        within = λ k i b. absurd (both_ways (has (record { 0 = 0 }) i) (has_none i) b);
        sized = λ k. omega (arith, size_none (record { 0 = 0 }) has_none);
      }

  -- view n + 1 is put at the end
  pub held_more : (n : ℕ) (held : List OpSet) (row : OpSet) (more : List OpSet) → n < 16 → row.0 < 2 ^ 64 → Held m t n held → Row (m.holds t (n + 1)) (numbers t) row
      → more ≡ cond (nat_lt (length held) 16) (held ++ row ∷ []) held → Held m t (n + 1) more
  held_more n held row more l word h r pushed =
      let full : more ≡ held ++ row ∷ [] = pushed ∙ cond-true _ _ _ (lt-ltb (length held) 16 (omega (arith, h.long))) in
      let next : n + 1 ≡ suc n = omega arith in
      subst (Held m t (n + 1)) (sym full)
      (record {
        rows = λ k below.
            ⊎_elim
            (λ e. subst (λ i. Row (m.holds t (suc i)) (numbers t) (row_at (held ++ row ∷ []) i)) (sym e) (subst (Row (m.holds t (suc n)) (numbers t)) (sym (get_or_push held row _ n h.long)) (subst (λ i. Row (m.holds t i) (numbers t) row) next r)))
            (λ ne. subst (Row (m.holds t (suc k)) (numbers t)) (sym (get_or_append_left held (row ∷ []) _ k (omega (arith, h.long)))) (h.rows k (omega arith)))
            (cases_eq k n);
        long = omega (arith, length_push held row, h.long);
        within = at_push (λ x. (i : ℕ) → has x i ≡ true → i < 64) held row _ (λ i. has_below row i word) h.within;
        sized = at_push (λ x. size x ≤ 64) held row _ (size_le row word) h.sized;
      })

-- ---- the operations

-- an operation that is there has its fields in range
all_nth : (P : Operation → Type 0) (lane : List Operation) (q : ℕ) (o : Operation) → AllByRecursion P lane → slice_get lane q ≡ Some o → P o
all_nth P [] q o a e = absurd (none_and_some e)
all_nth P (x ∷ lane) zero o a e = let same : x ≡ o = cc in subst P same a.0
all_nth P (x ∷ lane) (suc q) o a e = all_nth P lane q o a.1 e

all_lane : (P : Operation → Type 0) (t : Trace) → AllByRecursion (AllByRecursion P) t.lanes → (p : ℕ) → AllByRecursion P (lane_at t p)
all_lane P t a zero = tt
all_lane P t a (suc p) =
    ⊎_elim
    (λ l. All-get_or (AllByRecursion P) t.lanes p [] l a)
    (λ l. subst (AllByRecursion P) (sym (get_or_past t.lanes p [] l)) tt)
    (cases_lt p (length t.lanes))

all_positioned : (P : Operation → Type 0) (lane : List Operation) (q : ℕ) (o : Operation) → AllByRecursion P lane → positioned lane q ≡ Some o → P o
all_positioned P lane zero o a e = absurd (none_and_some e)
all_positioned P lane (suc q) o a e = all_nth P lane q o a e

fitting_at : (t : Trace) → WellFormed t → (i : ℕ) (o : Operation) → Is t i o → Fitting (processor_count t) t.variables o
fitting_at t good i o e =
    let P = Fitting (processor_count t) t.variables in
    all_positioned P (lane_at t (processor_of i)) (position_of i) o (all_lane P t good.operations (processor_of i)) e

module _ (t : Trace) (list : List ℕ) where
  pub listing_none : Listing t list 0 (replicate 64 unused)
  listing_none = record { each = λ r l. absurd (omega arith); long = length-replicate 64 unused; small = at_replicate (λ o. o.variable < 17) 64 unused unused (omega arith) (omega arith) }

  pub listing_more : (n : ℕ) (operations : List Operation) (o : Operation) → n < 64 → WellFormed t → Listing t list n operations → Is t (number_at list n) o → Listing t list (n + 1) (set operations n o)
  listing_more n operations o l good h is =
      record {
        each = λ r below.
            ⊎_elim
            (λ e. subst (λ i. Is t (number_at list i) (operation_of (set operations n o) i)) (sym e) (is ∙ ap Some (sym (get_or-set_same operations n o unused (omega (arith, h.long))))))
            (λ ne. h.each r (omega arith) ∙ ap Some (sym (get_or-set_other operations n r o unused ne)))
            (cases_eq r n);
        long = length-set operations n o ∙ h.long;
        small = λ r. at_set (λ x. x.variable < 17) operations n o unused (omega (arith, h.long)) (omega (arith, (fitting_at t good (number_at list n) o is).variable.1, good.variables.1)) r (h.small r);
      }
