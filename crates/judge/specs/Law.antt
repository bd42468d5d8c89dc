-- The promise on whole runs: what each answer says of the calls up to it. Rests on what calls have come to, and on what each answers.
use Rattle.std.specs.Prelude.{◌≡◌, ℕ, ◌<◌, false, ◌⊎◌, List, length, take, Some, vec_items}
use Rattle.std.specs.List.{slice_get}
use Rattle.trace_file.specs.Made.{change_answer}
use Rattle.models.specs.Meaning.{Meaning}
use Rattle.orders.specs.Orders.{Legal}
use Rattle.orders.specs.Inspecting.{Inspected}
use Rattle.judge.specs.declared.calls.Call.{Call}
use Rattle.judge.specs.declared.calls.Call.TheVariants as call
use Rattle.judge.specs.declared.calls.Played.{Played}
use Rattle.judge.specs.Answers.{Judged, Viewed, Saved, told, Untouched, Buffered}
use Rattle.judge.specs.Runs.{trace_after, removes, Stands}

-- a call is answered right, after the earlier calls: by the rules, the trace that those have made, and whether a legal verdict stands
abbrev pub Right : Meaning → List Call → Call → Played → Type 0
Right m earlier (call.Change c) a = Untouched (λ answer. answer ≡ change_answer (trace_after earlier) c) (call.Change c) a
Right m earlier call.Judge a = Untouched (Judged m (trace_after earlier)) call.Judge a
Right m earlier (call.View k slots) a = Buffered (Viewed m (trace_after earlier) (Stands m earlier) k (vec_items slots)) (call.View k) a
Right m earlier (call.Inspect numbers) a = Untouched (Inspected m (trace_after earlier) (vec_items numbers)) (call.Inspect numbers) a
Right m earlier (call.Save bytes) a = Buffered (Saved (trace_after earlier) (vec_items bytes)) call.Save a

-- call n was judge, and its verdict was `verdict`: 1 for legal, 0 for illegal
pub record Verdict (calls : List Call) (answers : List Played) (n verdict : ℕ) : Type 0 where
  pub answer : Played
  pub asked : slice_get calls n ≡ Some call.Judge
  pub answered : slice_get answers n ≡ Some answer
  pub says : told answer ≡ (0, verdict)

-- a verdict is 1 exactly where this holds, and else 0
abbrev pub Exactly : ℕ → Type 0 → Type 0
Exactly verdict holds = ((verdict ≡ 1) × holds) ⊎ ((verdict ≡ 0) × (holds → ⊥))

-- what a run of calls on a fresh judge answers, under a model
pub record Law (m : Meaning) (calls : List Call) (answers : List Played) : Type 0 where
  -- there is an answer to each call
  pub each : length answers ≡ length calls
  -- and it is right
  pub right : (n : ℕ) (c : Call) (a : Played) → slice_get calls n ≡ Some c → slice_get answers n ≡ Some a → Right m (take n calls) c a
  -- a verdict is legal exactly where the trace that the calls before it have made has orders that meet the model
  pub exact : (n verdict : ℕ) → Verdict calls answers n verdict → Exactly verdict (Legal m (trace_after (take n calls)))
  -- after an illegal verdict every verdict is illegal, until a strike or a load is accepted
  pub final : (n k verdict : ℕ) → n < k → Verdict calls answers n 0
      → ((j : ℕ) (c : Call) → n < j → j < k → slice_get calls j ≡ Some c → removes (trace_after (take j calls)) c ≡ false)
      → Verdict calls answers k verdict → verdict ≡ 0
