-- What a list of calls has come to, told by the calls alone and by legality. Rests on the trace that changes make.
use Rattle.std.specs.Prelude.{◌≡◌, ℕ, ◌<◌, Bool, false, List, [], ◌∷◌, take, Some, ◌==◌}
use Rattle.std.specs.List.{slice_get}
use Rattle.trace.specs.Traces.{Trace, Complete}
use Rattle.trace_file.specs.declared.changes.Change.{Change}
use Rattle.trace_file.specs.declared.changes.Change.TheVariants.{Size, Record, Strike, Load}
use Rattle.trace_file.specs.Made.{change_answer, made}
use Rattle.models.specs.Meaning.{Meaning}
use Rattle.orders.specs.Orders.{Legal}
use Rattle.judge.specs.declared.calls.Call.{Call}
use Rattle.judge.specs.declared.calls.Call.TheVariants as call

-- the changes among some calls
abbrev pub changes_in : List Call → List Change
changes_in [] = []
changes_in (call.Change c ∷ cs) = c ∷ changes_in cs
changes_in (call.Judge ∷ cs) = changes_in cs
changes_in (call.View k slots ∷ cs) = changes_in cs
changes_in (call.Inspect numbers ∷ cs) = changes_in cs
changes_in (call.Save bytes ∷ cs) = changes_in cs

-- the trace that the calls have made
abbrev pub trace_after : List Call → Trace
trace_after cs = made (changes_in cs)

-- a change is accepted on a trace
abbrev pub accepted : Trace → Change → Bool
accepted t c = (change_answer t c).0 == 0

-- a call is a size, a record, a strike or a load that is accepted on a trace
abbrev pub changes : Trace → Call → Bool
changes t (call.Change c) = accepted t c
changes t call.Judge = false
changes t (call.View k slots) = false
changes t (call.Inspect numbers) = false
changes t (call.Save bytes) = false

-- a call is a strike or a load that is accepted on a trace
abbrev pub removes : Trace → Call → Bool
removes t (call.Change (Size p v)) = false
removes t (call.Change (Record p k v s x)) = false
removes t (call.Change (Strike p)) = accepted t (Strike p)
removes t (call.Change (Load bytes)) = accepted t (Load bytes)
removes t call.Judge = false
removes t (call.View k slots) = false
removes t (call.Inspect numbers) = false
removes t (call.Save bytes) = false

-- a legal verdict stands after the calls: one of them judged a trace that is complete and legal, and none since has changed the trace
pub record Stands (m : Meaning) (calls : List Call) : Type 0 where
  pub since : ℕ
  pub asked : slice_get calls since ≡ Some call.Judge
  pub complete : Complete (trace_after (take since calls))
  pub legal : Legal m (trace_after (take since calls))
  pub kept : (j : ℕ) (c : Call) → since < j → slice_get calls j ≡ Some c → changes (trace_after (take j calls)) c ≡ false
