-- A call that is given as a value, from what the judge's own call has done.
use Rattle.std.proofs.Common.{◌≡◌, ℕ, vec_items, sym, ◌∙◌, subst}
use Rattle.std.specs.Global.{Vec}
use Rattle.trace_file.specs.declared.changes.Change.{Change}
use Rattle.trace_file.specs.Made.{change_answer, changed}
use Rattle.models.specs.Meaning.{Meaning}
use Rattle.orders.specs.Inspecting.{Inspected}
use Rattle.judge.specs.declared.calls.Call.{Call}
use Rattle.judge.specs.declared.calls.Call.TheVariants as call
use Rattle.judge.specs.Answers.{Saved}
use Rattle.judge.specs.Seen.{State}
use Rattle.judge.specs.States.{replaced, Judging, Showing, Plays}

module _ (m : Meaning) (s u : State) (given left : Call) (r : ℕ × ℕ) where
  -- the call comes to its answer, and to what it leaves
  abbrev pub Comes : Type 0
  Comes = Plays m s given (record { call = left; refusal = r.0; value = r.1 }) u

  to : (c : Call) → given ≡ c → Plays m s c (record { call = left; refusal = r.0; value = r.1 }) u → Comes
  to c e = subst (λ x. Plays m s x (record { call = left; refusal = r.0; value = r.1 }) u) (sym e)

  pub plays_change : (c : Change) → given ≡ call.Change c → left ≡ call.Change c → r ≡ change_answer s.trace c → u ≡ replaced s r.0 (changed s.trace c) → Comes
  plays_change c e l answers after = to (call.Change c) e (record { answer = record { answers = answers; leaves = l }; after = after })

  pub plays_judge : given ≡ call.Judge → left ≡ given → Judging m s r u → Comes
  plays_judge e l answers = to call.Judge e (record { answers = answers; leaves = l ∙ e })

  pub plays_view : (k : ℕ) (slots after : Vec ℕ) → given ≡ call.View k slots → left ≡ call.View k after → u ≡ s → Showing s.standing k (vec_items slots) r (vec_items after) → Comes
  plays_view k slots after e l same answers =
      to (call.View k slots) e (record { answered = record { buffer = after; answers = answers; leaves = l }; after = same })

  pub plays_inspect : (numbers : Vec ℕ) → given ≡ call.Inspect numbers → left ≡ call.Inspect numbers → u ≡ s → Inspected m s.trace (vec_items numbers) r → Comes
  plays_inspect numbers e l same answers = to (call.Inspect numbers) e (record { answered = record { answers = answers; leaves = l }; after = same })

  pub plays_save : (bytes after : Vec ℕ) → given ≡ call.Save bytes → left ≡ call.Save after → u ≡ s → Saved s.trace (vec_items bytes) r (vec_items after) → Comes
  plays_save bytes after e l same answers =
      to (call.Save bytes) e (record { answered = record { buffer = after; answers = answers; leaves = l }; after = same })
