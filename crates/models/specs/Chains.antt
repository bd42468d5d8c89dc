-- Transitive closure, as mathematics has it: a chain of steps.
use Rattle.std.specs.Prelude.{ℕ}

-- j is reached from i by one step or more
pub data Chain (R : ℕ → ℕ → Type 0) : ℕ → ℕ → Type 0 where
  one : {i j : ℕ} → R i j → Chain R i j
  more : {i k j : ℕ} → R i k → Chain R k j → Chain R i j

-- one chain after another
pub chained : {R : ℕ → ℕ → Type 0} {i k j : ℕ} → Chain R i k → Chain R k j → Chain R i j
chained (one s) c = more s c
chained (more s d) c = more s (chained d c)

-- a chain of other steps, each had from a step
pub chain_map : {R S : ℕ → ℕ → Type 0} → ((i j : ℕ) → R i j → S i j) → {i j : ℕ} → Chain R i j → Chain S i j
chain_map f {i} {j} (one s) = one (f i j s)
chain_map f {i} {j} (more {k = k} s c) = more (f i k s) (chain_map f c)
