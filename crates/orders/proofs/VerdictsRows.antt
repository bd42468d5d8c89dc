-- The rows of the table: each trace can be judged, and each verdict is so.
use Rattle.std.proofs.Common.{◌≡◌, Bool, true, ◌&&◌, eqb, leb, refl}
use Rattle.std.proofs.lemmas.Bool.{and_parts, leb-true}
use Rattle.trace.specs.Operations.{capacity, within}
use Rattle.trace.specs.Traces.{Trace, processor_count, operation_count, lanes_fit}
use Rattle.trace.specs.Completeness.{completeness_answer}
use Rattle.trace.proofs.Forming.{decides_within, decides_lanes}
use Rattle.trace.proofs.Sources.{decides_complete}
use Rattle.models.specs.Meaning.{Meaning}
use Rattle.orders.specs.Verdicts.{store_buffering, opposite_readers, nothing_recorded, Verdict, row, table, Says, Holds, AllHold}
use Rattle.orders.proofs.VerdictsIllegal.{buffering_not_sequential, buffering_not_agreed, readers_not_sequential, readers_not_coherent, readers_not_agreed}
use Rattle.orders.proofs.VerdictsLegal.{buffering_coherent, buffering_causal, buffering_pram, readers_causal, readers_pram, nothing_sequential}

-- whether a trace is well-formed
abbrev formed : Trace → Bool
formed t =
    within 1 8 (processor_count t)
    && (within 1 16 t.variables
    && (leb (operation_count t) capacity
    && lanes_fit (processor_count t) t.variables t.lanes))

-- a row of a trace that is well-formed and complete holds if its verdict is so
row_holds : (t : Trace) → formed t ≡ true → eqb (completeness_answer t).0 0 ≡ true → (m : Meaning) (v : Verdict) → Says v m t → Holds (row t m v)
row_holds t e f m v says =
    let p = and_parts _ _ e in
    let q = and_parts _ _ p.1 in
    let r = and_parts _ _ q.1 in
    record {
      formed =
          record {
            processors = (decides_within 1 8 (processor_count t)).0 p.0;
            variables = (decides_within 1 16 t.variables).0 q.0;
            few = leb-true _ _ r.0;
            operations = (decides_lanes (processor_count t) t.variables t.lanes).0 r.1;
          };
      complete = (decides_complete t (completeness_answer t) refl).0 f;
      says = says;
    }

buffering : (m : Meaning) (v : Verdict) → Says v m store_buffering → Holds (row store_buffering m v)
buffering = row_holds store_buffering refl refl

readers : (m : Meaning) (v : Verdict) → Says v m opposite_readers → Holds (row opposite_readers m v)
readers = row_holds opposite_readers refl refl

nothing : (m : Meaning) (v : Verdict) → Says v m nothing_recorded → Holds (row nothing_recorded m v)
nothing = row_holds nothing_recorded refl refl

-- one row after another
infixr 20 ◌also◌
◌also◌ : {A B : Type 0} → A → B → A × B
◌also◌ a b = (a, b)

pub all_hold : AllHold table
all_hold =
    buffering _ _ buffering_not_sequential
    also buffering _ _ buffering_coherent
    also buffering _ _ buffering_pram
    also buffering _ _ buffering_causal
    also buffering _ _ buffering_not_agreed
    also readers _ _ readers_not_sequential
    also readers _ _ readers_not_coherent
    also readers _ _ readers_pram
    also readers _ _ readers_causal
    also readers _ _ readers_not_agreed
    also nothing _ _ nothing_sequential
    also tt
