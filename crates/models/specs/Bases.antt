-- The three base models: sequential consistency, coherence and PRAM. Rests on the meaning of a model.
use Rattle.std.specs.Prelude.{◌≡◌, ℕ, true, ◌⊎◌}
use Rattle.trace.specs.declared.operation.Operation.{Operation}
use Rattle.trace.specs.Operations.{is_write, processor_of, Within}
use Rattle.trace.specs.Traces.{Trace, processor_count, There, ProgramOrder}
use Rattle.models.specs.Meaning.{Meaning, Is}

-- no two writes are required alike
abbrev pub Unrelated : Trace → ℕ → ℕ → Type 0
Unrelated t i j = ⊥

-- sequential consistency: one view, of all operations, in program order
pub record HeldByAll (t : Trace) (k i : ℕ) : Type 0 where
  pub view : k ≡ 1
  pub there : There t i

abbrev pub sequential : Meaning
sequential = record { views = λ p v. 1; holds = HeldByAll; before = ProgramOrder; alike = Unrelated }

-- coherence: a view for each variable, of the operations on it, in program order
pub record HeldByVariable (t : Trace) (k i : ℕ) : Type 0 where
  pub view : Within 1 t.variables k
  pub operation : Operation
  pub there : Is t i operation
  pub variable : operation.variable ≡ k

abbrev pub coherent : Meaning
coherent = record { views = λ p v. v; holds = HeldByVariable; before = ProgramOrder; alike = Unrelated }

-- PRAM: a view for each processor, of its operations and of every write, in program order
pub record HeldByProcessor (t : Trace) (k i : ℕ) : Type 0 where
  pub view : Within 1 (processor_count t) k
  pub operation : Operation
  pub there : Is t i operation
  pub seen : (processor_of i ≡ k) ⊎ (is_write operation ≡ true)

abbrev pub pram : Meaning
pram = record { views = λ p v. p; holds = HeldByProcessor; before = ProgramOrder; alike = Unrelated }
