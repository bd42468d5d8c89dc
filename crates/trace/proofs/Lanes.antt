-- What the code's lanes say of the trace that they stand for.
use Rattle.std.proofs.Common.{◌≡◌, ℕ, zero, suc, ◌+◌, ◌-◌, ◌*◌, ◌<◌, ◌≤◌, List, [], length, get_or, replicate, Some, None, sym, refl, ap, ◌∙◌, ⊎_elim, arith}
use Rattle.std.proofs.lemmas.List.{get_or_past}
use Rattle.std.proofs.lemmas.Option.{slice_get-get_or, slice_get_past}
use Rattle.std.proofs.lemmas.List.Sums.{sum_by-cons}
use Rattle.std.proofs.lemmas.Bool.{cases_eq}
use Rattle.trace.specs.Operations.{processor_of, position_of}
use Rattle.trace.specs.Traces.{Trace, processor_count, operation_count, lane_at, positioned, operation_at, empty_trace}
use Rattle.trace.specs.declared.operation.Operation.{Operation}

-- positions, counted from 1

pub positioned_in : (lane : List Operation) (q : ℕ) (d : Operation) → 1 ≤ q → q ≤ length lane → positioned lane q ≡ Some (get_or lane (q - 1) d)
positioned_in lane zero d low high = absurd (omega arith)
positioned_in lane (suc q) d low high =
    let e : suc q - 1 ≡ q = omega arith in
    slice_get-get_or lane q d (omega arith) ∙ ap (λ n. Some (get_or lane n d)) (sym e)

pub positioned_out : (lane : List Operation) (q : ℕ) → length lane < q → positioned lane q ≡ None
positioned_out lane zero h = refl
positioned_out lane (suc q) h = slice_get_past lane q (omega arith)

pub positioned_nowhere : (q : ℕ) → positioned [] q ≡ None
positioned_nowhere zero = refl
positioned_nowhere (suc q) = refl

pub lane_at_place : (t : Trace) (p : ℕ) → 1 ≤ p → lane_at t p ≡ get_or t.lanes (p - 1) []
lane_at_place t zero low = absurd (omega arith)
lane_at_place t (suc p) low = let e : suc p - 1 ≡ p = omega arith in ap (λ n. get_or t.lanes n []) (sym e)

pub lane_past : (t : Trace) (p : ℕ) → processor_count t < p → lane_at t p ≡ []
lane_past t zero h = refl
lane_past t (suc p) h = get_or_past t.lanes p [] (omega arith)

-- no operation has a number below the first of processor 1, or past those of the last processor

nowhere : (t : Trace) (i : ℕ) → lane_at t (processor_of i) ≡ [] → operation_at t i ≡ None
nowhere t i e = ap (λ l. positioned l (position_of i)) e ∙ positioned_nowhere (position_of i)

pub nowhere_below : (t : Trace) (i : ℕ) → i < 101 → operation_at t i ≡ None
nowhere_below t i h =
    ⊎_elim
    (λ e. ap (operation_at t) e)
    (λ ne. let z : processor_of i ≡ 0 = omega arith in nowhere t i (ap (lane_at t) z))
    (cases_eq i 100)

pub nowhere_past : (t : Trace) (i : ℕ) → 101 + 100 * processor_count t ≤ i → operation_at t i ≡ None
nowhere_past t i h = nowhere t i (lane_past t (processor_of i) (omega arith))

-- the lanes of an empty trace have no operations

pub empty_count : (p v : ℕ) → operation_count (empty_trace p v) ≡ 0
empty_count zero v = refl
empty_count (suc p) v =
    let r : operation_count (empty_trace (suc p) v) ≡ 0 + operation_count (empty_trace p v) = sum_by-cons length [] (replicate p []) in
    omega (arith, r, empty_count p v)
