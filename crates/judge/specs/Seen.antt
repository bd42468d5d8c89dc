-- A judge as contracts see it.
use Rattle.std.specs.Prelude.{ℕ, List, Option, IfSome}
use Rattle.trace.specs.Traces.{Trace, WellFormed}
use Rattle.search.specs.Found.{Small}

-- what calls alter: the trace, and the first orders while a legal verdict stands
pub record State : Type 0 where
  pub trace : Trace
  pub standing : Option (List (List ℕ))

-- what every judge keeps: its trace is well-formed, and the orders of a standing verdict are at most 16 lists of at most 64 numbers
pub record Sound (s : State) : Type 0 where
  pub formed : WellFormed s.trace
  pub small : IfSome s.standing Small

-- a judge: its model, and its state
pub record Seen (M : Type 0) : Type 0 where
  pub model : M
  pub state : State

-- the judge in another state; its model stays
abbrev pub moved : {M : Type 0} → Seen M → State → Seen M
moved j s = record { model = j.model; state = s }
