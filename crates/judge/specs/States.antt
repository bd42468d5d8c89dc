-- What each call makes of the state of a judge.
-- Rests on the rules of the trace's calls, on the first orders, and on a judge as contracts see it.
use Rattle.std.specs.Prelude.{◌≡◌, ℕ, ◌<◌, ◌≤◌, cond, List, ◌++◌, length, drop, Some, None, vec_items, Option, ◌==◌}
use Rattle.trace.specs.Operations.{Within}
use Rattle.trace.specs.Traces.{Trace, Complete, empty_trace}
use Rattle.trace.specs.Completeness.{completeness_answer}
use Rattle.trace_file.specs.declared.changes.Change.{Change}
use Rattle.trace_file.specs.Made.{change_answer, changed}
use Rattle.models.specs.Meaning.{Meaning}
use Rattle.orders.specs.Orders.{view_at, Legal, First}
use Rattle.orders.specs.Inspecting.{Inspected}
use Rattle.judge.specs.declared.calls.Call.{Call}
use Rattle.judge.specs.declared.calls.Call.TheVariants as call
use Rattle.judge.specs.declared.calls.Played.{Played}
use Rattle.judge.specs.Seen.{State}
use Rattle.judge.specs.Answers.{Saved, Untouched, Buffered}

-- a judge just made: one processor, one variable, no operations, and no verdict stands
abbrev pub fresh : State
fresh = record { trace = empty_trace 1 1; standing = None }

-- another trace in place of the judge's: if that was accepted no verdict stands any more, and a refusal leaves what stands
abbrev pub replaced : State → ℕ → Trace → State
replaced s refusal t = record { trace = t; standing = cond (refusal == 0) None s.standing }

-- the verdict, and the judge after it
pub data Judging (m : Meaning) (s : State) : ℕ × ℕ → State → Type 0 where
  refused : (Complete s.trace → ⊥) → Judging m s (completeness_answer s.trace) s
  legal : Complete s.trace → (orders : List (List ℕ)) → First m s.trace orders
      → Judging m s (0, 1) (record { trace = s.trace; standing = Some orders })
  illegal : Complete s.trace → (Legal m s.trace → ⊥) → Judging m s (0, 0) (record { trace = s.trace; standing = None })

-- the answer to view k where such orders stand, and the slots after it
pub data Showing (standing : Option (List (List ℕ))) (k : ℕ) (slots : List ℕ) : ℕ × ℕ → List ℕ → Type 0 where
  unjudged : standing ≡ None → Showing standing k slots (12, 0) slots
  unviewed : (orders : List (List ℕ)) → standing ≡ Some orders → (Within 1 (length orders) k → ⊥) → Showing standing k slots (13, 0) slots
  crowded : (orders : List (List ℕ)) → standing ≡ Some orders → Within 1 (length orders) k → length slots < length (view_at orders k)
      → Showing standing k slots (14, 0) slots
  shown : (orders : List (List ℕ)) → standing ≡ Some orders → Within 1 (length orders) k → length (view_at orders k) ≤ length slots
      → Showing standing k slots (0, length (view_at orders k)) (view_at orders k ++ drop (length (view_at orders k)) slots)

-- a change: its answer, and the judge after it
pub record Changing (s : State) (c : Change) (a : Played) (u : State) : Type 0 where
  pub answer : Untouched (λ answer. answer ≡ change_answer s.trace c) (call.Change c) a
  pub after : u ≡ replaced s a.refusal (changed s.trace c)

-- a call that changes nothing of the judge
pub record Telling (answer : Type 0) (s u : State) : Type 0 where
  pub answered : answer
  pub after : u ≡ s

-- a call, its answer with what it leaves of all that was handed in, and the judge after it
abbrev pub Plays : Meaning → State → Call → Played → State → Type 0
Plays m s (call.Change c) a u = Changing s c a u
Plays m s call.Judge a u = Untouched (λ answer. Judging m s answer u) call.Judge a
Plays m s (call.View k slots) a u = Telling (Buffered (Showing s.standing k (vec_items slots)) (call.View k) a) s u
Plays m s (call.Inspect numbers) a u = Telling (Untouched (Inspected m s.trace (vec_items numbers)) (call.Inspect numbers) a) s u
Plays m s (call.Save bytes) a u = Telling (Buffered (Saved s.trace (vec_items bytes)) call.Save a) s u
