-- What is there in a prefix of a trace is there in the whole.
use Rattle.std.specs.Prelude.{◌≡◌, ℕ, zero, suc, true, List, [], ◌∷◌, ◌++◌, is_some, Some, None, Option, refl}
use Rattle.std.proofs.Common.{sym, ap, ◌∙◌, arith}
use Rattle.std.specs.List.{slice_get}
use Rattle.std.proofs.lemmas.Bool.{false≢true}
use Rattle.trace.specs.declared.operation.Operation.{Operation}
use Rattle.trace.specs.Operations.{processor_of, position_of}
use Rattle.trace.specs.Traces.{Trace, lane_at, positioned, operation_at, There, ProgramOrder, Prefix}
use Rattle.models.specs.Meaning.{Is}

nth_grows : (lane rest : List Operation) (q : ℕ) (o : Operation) → slice_get lane q ≡ Some o → slice_get (lane ++ rest) q ≡ Some o
nth_grows [] rest q o e = let z : ◌≡◌ {A = ℕ} 0 1 = cc in absurd (omega arith)
nth_grows (x ∷ lane) rest zero o e = e
nth_grows (x ∷ lane) rest (suc q) o e = nth_grows lane rest q o e

positioned_grows : (lane rest : List Operation) (q : ℕ) (o : Operation) → positioned lane q ≡ Some o → positioned (lane ++ rest) q ≡ Some o
positioned_grows lane rest zero o e = let z : ◌≡◌ {A = ℕ} 0 1 = cc in absurd (omega arith)
positioned_grows lane rest (suc q) o e = nth_grows lane rest q o e

pub is_grows : (t u : Trace) → Prefix t u → (i : ℕ) (o : Operation) → Is t i o → Is u i o
is_grows t u p i o e =
    let l = p.lanes (processor_of i) in
    ap (λ lane. positioned lane (position_of i)) l.1 ∙ positioned_grows (lane_at t (processor_of i)) l.0 (position_of i) o e

some_of : (o : Option Operation) → is_some o ≡ true → (x : Operation) × (o ≡ Some x)
some_of None e = absurd (false≢true e)
some_of (Some x) e = (x, refl)

pub there_is : (t : Trace) (i : ℕ) → There t i → (o : Operation) × Is t i o
there_is t i e = some_of (operation_at t i) e

pub is_there : (t : Trace) (i : ℕ) (o : Operation) → Is t i o → There t i
is_there t i o e = ap is_some e

pub there_grows : (t u : Trace) → Prefix t u → (i : ℕ) → There t i → There u i
there_grows t u p i e = let x = there_is t i e in is_there u i x.0 (is_grows t u p i x.0 x.1)

pub order_grows : (t u : Trace) → Prefix t u → (i j : ℕ) → ProgramOrder t i j → ProgramOrder u i j
order_grows t u p i j o =
    record { first = there_grows t u p i o.first; second = there_grows t u p j o.second; processor = o.processor; earlier = o.earlier }

-- a number has one operation
pub same_operation : (t : Trace) (i : ℕ) (o x : Operation) → Is t i o → Is t i x → o ≡ x
same_operation t i o x e f = let both : Some o ≡ Some x = sym e ∙ f in cc
