-- The lines of the views, from the answers to the calls for them.
use Rattle.std.proofs.Common.{◌≡◌, ℕ, suc, ◌+◌, ◌<◌, ◌≤◌, cond, eqb, List, [], ◌∷◌, ◌++◌, length, get_or, take, Some, sym, refl, ap, ◌∙◌, inl, arith}
use Rattle.std.specs.List.{flat_map, slice_get}
use Rattle.std.proofs.lemmas.List.{take_at, nil_from_length}
use Rattle.trace.specs.Traces.{Trace, WellFormed, processor_count}
use Rattle.models.specs.Meaning.{Meaning, Laws, View}
use Rattle.orders.specs.Orders.{view_at, Legal, First}
use Rattle.judge.specs.declared.calls.Played.{Played}
use Rattle.judge.specs.Answers.{Viewed, unjudged, unviewed, crowded, shown}
use Rattle.judge_text.specs.Lines.{view_line, view_lines}
use Rattle.judge_text.specs.Asked.{shown_line}
use Rattle.judge_text.proofs.Unique.{first_unique}
use Rattle.judge_text.proofs.Few.{view_few}

-- the bytes are the line of list n, if there is one, by the number of its view
pub record LineAt (k : ℕ) (lists : List (List ℕ)) (n : ℕ) (bytes : List ℕ) : Type 0 where
  pub there : n < length lists → bytes ≡ view_line (k + n) (get_or lists n [])
  pub past : length lists ≤ n → bytes ≡ []

-- all of them are all lines
pub all_lines : (k : ℕ) (lists : List (List ℕ)) (answers : List Played) → length lists ≤ length answers
    → ((n : ℕ) (a : Played) → slice_get answers n ≡ Some a → LineAt k lists n (shown_line a)) → flat_map shown_line answers ≡ view_lines k lists
all_lines k [] [] fit each = refl
all_lines k (list ∷ lists) [] fit each = absurd (omega (arith, fit))
all_lines k [] (a ∷ answers) fit each =
    ap (λ line. line ++ flat_map shown_line answers) ((each 0 a refl).past (omega arith))
    ∙ all_lines k [] answers (omega arith) (λ n b e. record { there = λ l. absurd (omega (arith, l)); past = λ l. (each (suc n) b e).past (omega arith) })
all_lines k (list ∷ lists) (a ∷ answers) fit each =
    let first : shown_line a ≡ view_line k list = (each 0 a refl).there (omega arith) ∙ ap (λ j. view_line j list) (omega arith) in
    let rest : flat_map shown_line answers ≡ view_lines (suc k) lists =
    all_lines (suc k) lists answers (omega (arith, fit))
    (λ n b e.
    let h = each (suc n) b e in
    record { there = λ l. h.there (omega (arith, l)) ∙ ap (λ j. view_line j (get_or lists n [])) (omega arith); past = λ l. h.past (omega (arith, l)) }) in
    λ i. first i ++ rest i

-- the first orders of a legal trace without views
pub first_none : (m : Meaning) (t : Trace) → m.views (processor_count t) t.variables ≡ 0 → Legal m t → (orders : List (List ℕ)) × First m t orders
first_none m t none (orders, meets) = (
  orders,
  record {
    meets = meets;
    first = λ others h. inl (nil_from_length others (h.count ∙ none) ∙ sym (nil_from_length orders (meets.count ∙ none)));
  },
)

-- an answer to view k where a verdict stands
module _ (m : Meaning) (t : Trace) (stands : Type 0) (st : stands) (k : ℕ) (slots : List ℕ) where
  pub first_some : View m t k → (r : ℕ × ℕ) (left : List ℕ) → Viewed m t stands k slots r left → (orders : List (List ℕ)) × First m t orders
  first_some view _ _ (unjudged not) = absurd (not st)
  first_some view _ _ (unviewed _ not) = absurd (not view)
  first_some view _ _ (crowded _ _ orders first few) = (orders, first)
  first_some view _ _ (shown _ _ orders first room) = (orders, first)

  module _ (laws : Laws m) (formed : WellFormed t) (room : length slots ≡ 64) (orders : List (List ℕ)) (first : First m t orders) where
    pub shows_there : View m t k → (r : ℕ × ℕ) (left : List ℕ) → Viewed m t stands k slots r left → cond (eqb r.0 0) (view_line k (take r.1 left)) [] ≡ view_line k (view_at orders k)
    shows_there view _ _ (unjudged not) = absurd (not st)
    shows_there view _ _ (unviewed _ not) = absurd (not view)
    shows_there view _ _ (crowded _ _ others h few) =
        let short = view_few m laws t formed k (view_at others k) (h.meets.each k view).exact in absurd (omega (arith, short, few, room))
    shows_there view _ _ (shown _ _ others h fit) =
        ap (view_line k) (take_at (view_at others k) _ (length (view_at others k)) refl ∙ ap (λ o. view_at o k) (first_unique m t others orders h first))

    pub shows_past : (View m t k → ⊥) → (r : ℕ × ℕ) (left : List ℕ) → Viewed m t stands k slots r left → cond (eqb r.0 0) (view_line k (take r.1 left)) [] ≡ []
    shows_past past _ _ (unjudged not) = refl
    shows_past past _ _ (unviewed _ not) = refl
    shows_past past _ _ (crowded _ view others h few) = absurd (past view)
    shows_past past _ _ (shown _ view others h fit) = absurd (past view)
