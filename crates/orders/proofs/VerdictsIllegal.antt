-- The rows that are illegal: in each the places of some writes would have to go round in a circle.
use Rattle.std.proofs.Common.{◌≡◌, ℕ, ◌<◌, true, List, refl, arith}
use Rattle.models.specs.Meaning.{Meaning, View}
use Rattle.models.specs.Bases.{sequential, coherent, pram}
use Rattle.models.specs.Layers.{agreement}
use Rattle.orders.specs.Orders.{view_at, Explains, Legal}
use Rattle.orders.specs.Verdicts.{read, store_buffering, opposite_readers}
use Rattle.orders.proofs.VerdictsTests.{precedes, Tested, sequential_tested, coherent_tested, pram_tested, agreement_tested}
use Rattle.orders.proofs.VerdictsLists.{place}
use Rattle.orders.proofs.VerdictsPlaces.{order_lower, before_start, sources_lower, agreed_lower}

-- a view of the first trace: what a processor does before its read stands before the other's write
module _ (m : Meaning) (b : Tested m store_buffering) (k : ℕ) (list : List ℕ) (e : Explains m store_buffering k list) where
  first_reads : (i : ℕ) → precedes store_buffering i 103 ≡ true → b.test k i ≡ true → b.test k 103 ≡ true → b.test k 201 ≡ true → place list i < place list 201
  first_reads i p hi hj hw = before_start m store_buffering b k list e i 103 (read 2 0 0) p refl refl hi hj 201 refl (λ z. omega (arith, z)) refl hw

  second_reads : (i : ℕ) → precedes store_buffering i 203 ≡ true → b.test k i ≡ true → b.test k 203 ≡ true → b.test k 101 ≡ true → place list i < place list 101
  second_reads i p hi hj hw = before_start m store_buffering b k list e i 203 (read 1 0 0) p refl refl hi hj 101 refl (λ z. omega (arith, z)) refl hw

pub buffering_not_sequential : Legal sequential store_buffering → ⊥
buffering_not_sequential (orders, meets) =
    let b = sequential_tested store_buffering in
    let e = meets.each 1 (omega arith) in
    omega (arith, first_reads sequential b 1 (view_at orders 1) e 101 refl refl refl refl, second_reads sequential b 1 (view_at orders 1) e 201 refl refl refl refl)

pub buffering_not_agreed : Legal (agreement pram) store_buffering → ⊥
buffering_not_agreed (orders, meets) =
    let t = store_buffering in
    let m = agreement pram in
    let b = agreement_tested pram t (pram_tested t) in
    let e = meets.each 1 (omega arith) in
    let f = meets.each 2 (omega arith) in
    omega (
      arith,
      agreed_lower pram t b orders meets 1 2 3 102 202 (omega arith) (omega arith) refl refl (λ z. omega (arith, z)) refl refl refl refl
          (omega (arith, first_reads m b 1 (view_at orders 1) e 102 refl refl refl refl, order_lower m t b 1 (view_at orders 1) e 201 202 refl refl refl)),
      second_reads m b 2 (view_at orders 2) f 202 refl refl refl refl,
      order_lower m t b 2 (view_at orders 2) f 101 102 refl refl refl,
    )

-- a view of the second trace: the writes stand as a reader has read them
module _ (m : Meaning) (b : Tested m opposite_readers) (k : ℕ) (list : List ℕ) (e : Explains m opposite_readers k list) where
  third_reads : b.test k 301 ≡ true → b.test k 302 ≡ true → b.test k 101 ≡ true → place list 101 < place list 201
  third_reads hi hj hw = sources_lower m opposite_readers b k list e 301 302 (read 1 2 201) refl refl refl hi hj (read 1 1 101) refl refl (λ z. omega (arith, z)) (λ z. omega (arith, z)) refl hw

  fourth_reads : b.test k 401 ≡ true → b.test k 402 ≡ true → b.test k 201 ≡ true → place list 201 < place list 101
  fourth_reads hi hj hw = sources_lower m opposite_readers b k list e 401 402 (read 1 1 101) refl refl refl hi hj (read 1 2 201) refl refl (λ z. omega (arith, z)) (λ z. omega (arith, z)) refl hw

-- so no view explains both readers
readers_apart : (m : Meaning) (b : Tested m opposite_readers) → View m opposite_readers 1
    → b.test 1 101 ≡ true → b.test 1 201 ≡ true → b.test 1 301 ≡ true → b.test 1 302 ≡ true → b.test 1 401 ≡ true → b.test 1 402 ≡ true
    → Legal m opposite_readers → ⊥
readers_apart m b view h101 h201 h301 h302 h401 h402 (orders, meets) =
    let e = meets.each 1 view in
    omega (arith, third_reads m b 1 (view_at orders 1) e h301 h302 h101, fourth_reads m b 1 (view_at orders 1) e h401 h402 h201)

pub readers_not_sequential : Legal sequential opposite_readers → ⊥
readers_not_sequential = readers_apart sequential (sequential_tested opposite_readers) (omega arith) refl refl refl refl refl refl

pub readers_not_coherent : Legal coherent opposite_readers → ⊥
readers_not_coherent = readers_apart coherent (coherent_tested opposite_readers) (omega arith) refl refl refl refl refl refl

pub readers_not_agreed : Legal (agreement pram) opposite_readers → ⊥
readers_not_agreed (orders, meets) =
    let t = opposite_readers in
    let m = agreement pram in
    let b = agreement_tested pram t (pram_tested t) in
    omega (
      arith,
      agreed_lower pram t b orders meets 3 4 1 101 201 (omega arith) (omega arith) refl refl (λ z. omega (arith, z)) refl refl refl refl
          (third_reads m b 3 (view_at orders 3) (meets.each 3 (omega arith)) refl refl refl),
      fourth_reads m b 4 (view_at orders 4) (meets.each 4 (omega arith)) refl refl refl,
    )
