-- Three worked traces, and whether each is legal under the models that are worked out for it. Rests on legality.
use Rattle.std.specs.Prelude.{ℕ, List, [], ◌∷◌}
use Rattle.trace.specs.declared.operation.Kind.TheVariants.{Read, Write}
use Rattle.trace.specs.declared.operation.Operation.{Operation}
use Rattle.trace.specs.Traces.{Trace, Complete, WellFormed}
use Rattle.models.specs.Meaning.{Meaning}
use Rattle.models.specs.Bases.{sequential, coherent, pram}
use Rattle.models.specs.Layers.{write_into, agreement}
use Rattle.orders.specs.Orders.{Legal}

-- a write of value x to variable v
abbrev pub write : ℕ → ℕ → Operation
write v x = record { kind = Write; variable = v; source = 0; value = x }

-- a read of variable v that saw value x, of the write of number s or from the start
abbrev pub read : ℕ → ℕ → ℕ → Operation
read v x s = record { kind = Read; variable = v; source = s; value = x }

-- each of two processors writes a variable of its own and variable 3, and then reads the other's variable from the start
abbrev pub store_buffering : Trace
store_buffering =
    record {
      variables = 3;
      lanes =
          (write 1 1 ∷ write 3 0 ∷ read 2 0 0 ∷ [])
          ∷ (write 2 1 ∷ write 3 2 ∷ read 1 0 0 ∷ [])
          ∷ [];
    }

-- two processors write one variable, and two others read both writes, in opposite orders
abbrev pub opposite_readers : Trace
opposite_readers =
    record {
      variables = 1;
      lanes =
          (write 1 1 ∷ [])
          ∷ (write 1 2 ∷ [])
          ∷ (read 1 1 101 ∷ read 1 2 201 ∷ [])
          ∷ (read 1 2 201 ∷ read 1 1 101 ∷ [])
          ∷ [];
    }

-- one processor, and nothing recorded
abbrev pub nothing_recorded : Trace
nothing_recorded = record { variables = 1; lanes = [] ∷ [] }

-- a verdict: there are orders that meet the model, or there are none
pub data Verdict : Type 0 where
  legal : Verdict
  illegal : Verdict

-- a row of the table
pub record Row : Type 1 where
  pub trace : Trace
  pub model : Meaning
  pub verdict : Verdict

-- the row of a trace, a model and a verdict
abbrev pub row : Trace → Meaning → Verdict → Row
row t m v = record { trace = t; model = m; verdict = v }

-- the worked verdicts; `write_into pram` is causal consistency, and `agreement pram` is Goodman's processor consistency
abbrev pub table : List Row
table =
    row store_buffering sequential illegal
    ∷ row store_buffering coherent legal
    ∷ row store_buffering pram legal
    ∷ row store_buffering (write_into pram) legal
    ∷ row store_buffering (agreement pram) illegal
    ∷ row opposite_readers sequential illegal
    ∷ row opposite_readers coherent illegal
    ∷ row opposite_readers pram legal
    ∷ row opposite_readers (write_into pram) legal
    ∷ row opposite_readers (agreement pram) illegal
    ∷ row nothing_recorded sequential legal
    ∷ []

-- what a verdict says of a trace under a model
abbrev pub Says : Verdict → Meaning → Trace → Type 0
Says legal m t = Legal m t
Says illegal m t = Legal m t → ⊥

-- a row holds: its trace is well-formed and complete, and is what the verdict says
pub record Holds (r : Row) : Type 0 where
  pub formed : WellFormed r.trace
  pub complete : Complete r.trace
  pub says : Says r.verdict r.model r.trace

-- every row of a table holds
abbrev pub AllHold : List Row → Type 0
AllHold [] = Unit {0}
AllHold (r ∷ rows) = Holds r × AllHold rows
