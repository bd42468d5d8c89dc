-- The last write to a variable, in a list that is gone through.
use Rattle.std.proofs.Common.{◌≡◌, ℕ, ◌+◌, ◌<◌, Bool, true, false, eqb, List, [], ◌∷◌, ◌++◌, length, get_or, take, None, Decides, sym, refl, ap, ◌∙◌, subst, ⊎_elim, arith}
use Rattle.std.proofs.ByRecursion.{All-push}
use Rattle.std.proofs.lemmas.List.{append_assoc, take_more}
use Rattle.std.proofs.lemmas.Bool.{false≢true, both_ways, cases_lt}
use denote.Enum.Bare.{sameb}
use Rattle.trace.specs.contracts.operation.Kind.{the_type}
use Rattle.trace.specs.declared.operation.Kind.{Kind}
use Rattle.trace.specs.declared.operation.Kind.TheVariants.{Read, Write}
use Rattle.trace.specs.declared.operation.Operation.{Operation}
use Rattle.trace.specs.Operations.{kind_number, is_read}
use Rattle.trace.specs.Traces.{Trace, operation_at}
use Rattle.models.specs.Meaning.{Is}
use Rattle.orders.specs.Orders.{WriteTo, LastWrite, none, last, Sees, Seeing}
use Rattle.orders.proofs.Places.{same_place, all_parted, behind_parted}
use Rattle.orders.proofs.Nothing.{none_and_some}
use Rattle.orders.proofs.Parting.{Each, each_here, each_more}

module _ (t : Trace) (v : ℕ) where
  -- a list with one number more
  pub more_write : (list : List ℕ) (x : ℕ) → WriteTo t v x → LastWrite t v (list ++ x ∷ []) x
  more_write list x w = last list [] x refl w tt

  pub more_other : (list : List ℕ) (x s : ℕ) → (WriteTo t v x → ⊥) → LastWrite t v list s → LastWrite t v (list ++ x ∷ []) s
  more_other list x _ f (none all) = none (All-push (λ i. WriteTo t v i → ⊥) list x all f)
  more_other list x s f (last before after _ e w all) = last before (after ++ x ∷ []) s (ap (λ l. l ++ x ∷ []) e ∙ append_assoc before (s ∷ after) (x ∷ [])) w (All-push (λ i. WriteTo t v i → ⊥) after x all f)

  module _ (list : List ℕ) (i s next : ℕ) (answer : Bool) (l : i < length list) (sofar : LastWrite t v (take i list) s) (told : Decides answer (WriteTo t v (get_or list i 0))) where
    pub last_moves : answer ≡ true → next ≡ get_or list i 0 → LastWrite t v (take (i + 1) list) next
    last_moves b e = subst (λ z. LastWrite t v (take (i + 1) list) z) (sym e) (subst (λ z. LastWrite t v z (get_or list i 0)) (sym (take_more list i 0 l)) (more_write (take i list) (get_or list i 0) (told.0 b)))

    pub last_stays : answer ≡ false → next ≡ s → LastWrite t v (take (i + 1) list) next
    last_stays b e = subst (λ z. LastWrite t v (take (i + 1) list) z) (sym e) (subst (λ z. LastWrite t v z s) (sym (take_more list i 0 l)) (more_other (take i list) (get_or list i 0) s (λ w. both_ways answer b (told.1 w)) sofar))

  -- there is one last write
  pub one_last_write : (list : List ℕ) (r s : ℕ) → LastWrite t v list r → LastWrite t v list s → r ≡ s
  one_last_write list _ _ (none _) (none _) = refl
  one_last_write list _ _ (none all) (last before after s e w _) = absurd (all_parted (λ i. WriteTo t v i → ⊥) list before after s e all w)
  one_last_write list _ _ (last before after s e w _) (none all) = absurd (all_parted (λ i. WriteTo t v i → ⊥) list before after s e all w)
  one_last_write list r s (last front back _ e w all) (last front' back' _ f x some) =
      ⊎_elim
      (λ l. absurd (behind_parted (λ i. WriteTo t v i → ⊥) front back front' back' r s (sym e ∙ f) l all x))
      (λ ge.
      ⊎_elim
      (λ l. absurd (behind_parted (λ i. WriteTo t v i → ⊥) front' back' front back s r (sym f ∙ e) l some w))
      (λ le. same_place front back front' back' r s (sym e ∙ f) (omega arith))
      (cases_lt (length front') (length front)))
      (cases_lt (length front) (length front'))

-- the operation, where it is a read, sees its source
abbrev pub SeesSource : Trace → List ℕ → ℕ → Type 0
SeesSource t before j = (r : Operation) → Is t j r → is_read r ≡ true → Sees t before r

-- the test of a kind against a read
pub kind_is_read : (k : Kind) → true ≡ sameb the_type k Read → k ≡ Read
kind_is_read Read e = refl
kind_is_read Write e = absurd (false≢true (sym e))

pub kind_is_not_read : (k : Kind) → false ≡ sameb the_type k Read → k ≡ Read → ⊥
kind_is_not_read Read e same = false≢true e
kind_is_not_read Write e same = false≢true (ap (λ k. eqb (kind_number k) 1) same)

not_read : (k : Kind) → (k ≡ Read → ⊥) → eqb (kind_number k) 1 ≡ true → ⊥
not_read Read f e = f refl
not_read Write f e = false≢true e

module _ (t : Trace) (list : List ℕ) (i : ℕ) (l : i < length list) where
  -- the operation, if it is there, is known
  one_operation : {o r : Operation} → Is t (get_or list i 0) o → Is t (get_or list i 0) r → o ≡ r
  one_operation e f = cc

  pub seeing_fails : (o : Operation) (s : ℕ) → Is t (get_or list i 0) o → o.kind ≡ Read → LastWrite t o.variable (take i list) s → (o.source ≡ s → ⊥) → Seeing t list → ⊥
  seeing_fails o s there read found differ e = differ (one_last_write t o.variable (take i list) o.source s (each_here (SeesSource t) list i l e o there (ap (λ k. eqb (kind_number k) 1) read)) found)

  module _ (sofar : Each (SeesSource t) (take i list)) where
    pub seeing_read : (o : Operation) (s : ℕ) → Is t (get_or list i 0) o → LastWrite t o.variable (take i list) s → o.source ≡ s → Each (SeesSource t) (take (i + 1) list)
    seeing_read o s there found same =
        each_more (SeesSource t) list i l sofar
        (λ r is read. let known = one_operation there is in subst (λ z. LastWrite t z.variable (take i list) z.source) known (subst (LastWrite t o.variable (take i list)) (sym same) found))

    pub seeing_write : (o : Operation) → Is t (get_or list i 0) o → (o.kind ≡ Read → ⊥) → Each (SeesSource t) (take (i + 1) list)
    seeing_write o there other = each_more (SeesSource t) list i l sofar (λ r is read. absurd (not_read o.kind other (subst (λ z. is_read z ≡ true) (sym (one_operation there is)) read)))

    pub seeing_nothing : operation_at t (get_or list i 0) ≡ None → Each (SeesSource t) (take (i + 1) list)
    seeing_nothing gone = each_more (SeesSource t) list i l sofar (λ r is read. absurd (none_and_some (sym gone ∙ is)))
