-- What a refused change leaves, and what an accepted one tells of the trace.
use Rattle.std.proofs.Common.{◌≡◌, ℕ, Bool, true, false, cond, ◌&&◌, eqb, vec_items, sym, refl, ap, ◌∙◌, arith}
use Rattle.std.proofs.lemmas.Bool.{false≢true, cond-false, eqb-true}
use Rattle.trace.specs.Operations.{Within, within}
use Rattle.trace.specs.Traces.{Trace, processor_count, operation_count}
use Rattle.trace.specs.Calls.{answer, after, size_refusal, record_refusal, strike_refusal}
use Rattle.trace.proofs.Accepting.{refusal_told}
use Rattle.trace.proofs.Forming.{decides_within}
use Rattle.trace_file.specs.declared.changes.Change.{Change}
use Rattle.trace_file.specs.declared.changes.Change.TheVariants.{Size, Record, Strike, Load}
use Rattle.trace_file.specs.Reading.{Reading, good, faulty, read_file, load_answer, load_after}
use Rattle.trace_file.specs.Made.{changed}
use Rattle.judge.specs.Runs.{accepted}

-- a call that is refused by its rule leaves the trace
unaltered : (refusal value : ℕ) (new t : Trace) → eqb (answer refusal value).0 0 ≡ false → after refusal new t ≡ t
unaltered refusal value new t e = cond-false (eqb refusal 0) new t (ap (λ r. eqb r 0) (sym (refusal_told refusal value)) ∙ e)

unloaded : (t : Trace) (r : Reading) → eqb (load_answer r).0 0 ≡ false → load_after t r ≡ t
unloaded t (good u) e = absurd (false≢true (sym e))
unloaded t (faulty n place) e = refl

pub unchanged : (t : Trace) (c : Change) → accepted t c ≡ false → changed t c ≡ t
unchanged t (Size p v) e = unaltered (size_refusal t p v) _ _ t e
unchanged t (Record p k v s x) e = unaltered (record_refusal t p k v s) _ _ t e
unchanged t (Strike p) e = unaltered (strike_refusal t p) _ _ t e
unchanged t (Load bytes) e = unloaded t (read_file (vec_items bytes)) e

-- no test fails, so neither does the first, nor any after it
passes : (b : Bool) (n later : ℕ) → (n ≡ 0 → ⊥) → cond b later n ≡ 0 → (b ≡ true) × (later ≡ 0)
passes true n later ne e = (refl, e)
passes false n later ne e = absurd (ne e)

pub size_empty : (t : Trace) (p v : ℕ) → eqb (size_refusal t p v) 0 ≡ true → operation_count t ≡ 0
size_empty t p v e =
    let ranged = passes (within 1 8 p && within 1 16 v) 7 _ (λ z. omega (arith, z)) (eqb-true (size_refusal t p v) 0 e) in
    eqb-true (operation_count t) 0 (passes (eqb (operation_count t) 0) 6 0 (λ z. omega (arith, z)) ranged.1).0

pub record_there : (t : Trace) (p k v s : ℕ) → eqb (record_refusal t p k v s) 0 ≡ true → Within 1 (processor_count t) p
record_there t p k v s e =
    (decides_within 1 (processor_count t) p).0
    (passes (within 1 (processor_count t) p) 1 _ (λ z. omega (arith, z)) (eqb-true (record_refusal t p k v s) 0 e)).0
