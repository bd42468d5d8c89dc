-- What a call answers, and how it leaves what it handed in. Rests on completeness, on legality, and on the file.
use Rattle.std.specs.Prelude.{◌≡◌, ℕ, ◌<◌, ◌≤◌, List, ◌++◌, length, drop, vec_items}
use Rattle.std.specs.Global.{Vec}
use Rattle.trace.specs.Traces.{Trace, Complete}
use Rattle.trace.specs.Completeness.{completeness_answer}
use Rattle.trace_file.specs.Writing.{save_answer, save_after}
use Rattle.models.specs.Meaning.{Meaning, View}
use Rattle.orders.specs.Orders.{view_at, Legal, First}
use Rattle.judge.specs.declared.calls.Call.{Call}
use Rattle.judge.specs.declared.calls.Played.{Played}

-- judge: on a trace that is not complete a refusal with its place, else 1 where the trace is legal and 0 where it is not
pub data Judged (m : Meaning) (t : Trace) : ℕ × ℕ → Type 0 where
  refused : (Complete t → ⊥) → Judged m t (completeness_answer t)
  legal : Complete t → Legal m t → Judged m t (0, 1)
  illegal : Complete t → (Legal m t → ⊥) → Judged m t (0, 0)

-- view k, by whether a legal verdict stands: 12, 13 and 14 leave the slots, else the first of them have the list that view k has in the first orders
pub data Viewed (m : Meaning) (t : Trace) (stands : Type 0) (k : ℕ) (slots : List ℕ) : ℕ × ℕ → List ℕ → Type 0 where
  unjudged : (stands → ⊥) → Viewed m t stands k slots (12, 0) slots
  unviewed : stands → (View m t k → ⊥) → Viewed m t stands k slots (13, 0) slots
  crowded : stands → View m t k → (orders : List (List ℕ)) → First m t orders → length slots < length (view_at orders k)
      → Viewed m t stands k slots (14, 0) slots
  shown : stands → View m t k → (orders : List (List ℕ)) → First m t orders → length (view_at orders k) ≤ length slots
      → Viewed m t stands k slots (0, length (view_at orders k)) (view_at orders k ++ drop (length (view_at orders k)) slots)

-- save: 14 leaves the bytes, else the first of them have the file
pub record Saved (t : Trace) (bytes : List ℕ) (answer : ℕ × ℕ) (after : List ℕ) : Type 0 where
  pub answers : answer ≡ save_answer t (length bytes)
  pub leaves : after ≡ save_after t bytes

-- the two numbers of an answer
abbrev pub told : Played → ℕ × ℕ
told a = (a.refusal, a.value)

-- the answer is as the rule says, and the call and all that it handed in are as they were
pub record Untouched (rule : ℕ × ℕ → Type 0) (c : Call) (a : Played) : Type 0 where
  pub answers : rule (told a)
  pub leaves : a.call ≡ c

-- the answer, and the buffer that the call handed in, are as the rule says, and all else is as it was
pub record Buffered (rule : ℕ × ℕ → List ℕ → Type 0) (call : Vec ℕ → Call) (a : Played) : Type 0 where
  pub buffer : Vec ℕ
  pub answers : rule (told a) (vec_items buffer)
  pub leaves : a.call ≡ call buffer
