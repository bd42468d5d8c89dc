-- The rows that are legal, by their orders. In front of the orders stands, for each view, an order of all operations that its list keeps to.
use Rattle.std.proofs.Common.{ℕ, List, [], ◌∷◌, refl, arith}
use Rattle.models.specs.Bases.{sequential, coherent, pram}
use Rattle.models.specs.Layers.{write_into}
use Rattle.orders.specs.Orders.{Legal}
use Rattle.orders.specs.Verdicts.{store_buffering, opposite_readers, nothing_recorded}
use Rattle.orders.proofs.VerdictsTests.{sequential_tested, coherent_tested, pram_tested}
use Rattle.orders.proofs.VerdictsChecks.{checked_legal, legal_below}

-- the first trace, one processor after the other
abbrev rising : List ℕ
rising = 101 ∷ 102 ∷ 103 ∷ 201 ∷ 202 ∷ 203 ∷ []

abbrev second_first : List ℕ
second_first = 201 ∷ 202 ∷ 203 ∷ 101 ∷ 102 ∷ 103 ∷ []

pub buffering_coherent : Legal coherent store_buffering
buffering_coherent =
    legal_below coherent store_buffering
    (checked_legal coherent store_buffering (coherent_tested store_buffering) (omega arith) rising refl
    (second_first ∷ rising ∷ rising ∷ [])
    ((203 ∷ 101 ∷ []) ∷ (103 ∷ 201 ∷ []) ∷ (102 ∷ 202 ∷ []) ∷ [])
    refl refl (λ i j a. a))

pub buffering_causal : Legal (write_into pram) store_buffering
buffering_causal =
    checked_legal pram store_buffering (pram_tested store_buffering) (omega arith) rising refl
    (rising ∷ second_first ∷ [])
    ((101 ∷ 102 ∷ 103 ∷ 201 ∷ 202 ∷ []) ∷ (201 ∷ 202 ∷ 203 ∷ 101 ∷ 102 ∷ []) ∷ [])
    refl refl (λ i j a. a)

pub buffering_pram : Legal pram store_buffering
buffering_pram = legal_below pram store_buffering buffering_causal

-- the second trace, one reader after the other
abbrev third_first : List ℕ
third_first = 101 ∷ 301 ∷ 201 ∷ 302 ∷ 401 ∷ 402 ∷ []

abbrev fourth_first : List ℕ
fourth_first = 201 ∷ 401 ∷ 101 ∷ 402 ∷ 301 ∷ 302 ∷ []

pub readers_causal : Legal (write_into pram) opposite_readers
readers_causal =
    checked_legal pram opposite_readers (pram_tested opposite_readers) (omega arith) (101 ∷ 201 ∷ 301 ∷ 302 ∷ 401 ∷ 402 ∷ []) refl
    (third_first ∷ third_first ∷ third_first ∷ fourth_first ∷ [])
    ((101 ∷ 201 ∷ []) ∷ (101 ∷ 201 ∷ []) ∷ (101 ∷ 301 ∷ 201 ∷ 302 ∷ []) ∷ (201 ∷ 401 ∷ 101 ∷ 402 ∷ []) ∷ [])
    refl refl (λ i j a. a)

pub readers_pram : Legal pram opposite_readers
readers_pram = legal_below pram opposite_readers readers_causal

pub nothing_sequential : Legal sequential nothing_recorded
nothing_sequential =
    legal_below sequential nothing_recorded
    (checked_legal sequential nothing_recorded (sequential_tested nothing_recorded) (omega arith) [] refl ([] ∷ []) ([] ∷ []) refl refl (λ i j a. a))
