-- The text of the answers is what is to be told, by the law of runs.
use Rattle.std.proofs.Common.{◌≡◌, ℕ, zero, suc, ◌<◌, false, cond, eqb, List, [], ◌∷◌, ◌++◌, length, take, Some, vec_items, codes, sym, refl, ap, ◌∙◌, subst, ⊎_elim, arith}
use Rattle.std.specs.Global.{Vec}
use Rattle.std.specs.List.{flat_map, slice_get}
use Rattle.std.proofs.lemmas.Bool.{cond-false, ne_eqb, cases_Bool}
use Rattle.std.proofs.lemmas.Option.{slice_get_within}
use Rattle.trace.specs.Traces.{Trace, Complete, WellFormed, processor_count, empty_trace}
use Rattle.trace.specs.Completeness.{completeness_answer}
use Rattle.trace.proofs.Sources.{decides_complete}
use Rattle.trace_file.specs.declared.changes.Change.TheVariants.{Load}
use Rattle.trace_file.specs.FirstFaults.{FirstFault, no_size, bad_size, no_count, bad_record, left_over}
use Rattle.trace_file.specs.Reading as reading
use Rattle.trace_file.specs.Reading.{Reading, read_file, load_answer, load_after}
use Rattle.trace_file.proofs.Forms.{Bytes}
use Rattle.trace_file.proofs.Sound.{Says, says}
use Rattle.models.specs.Meaning.{Meaning, Laws}
use Rattle.orders.specs.Orders.{view_at, Legal, First}
use Rattle.judge.specs.declared.calls.Call.{Call}
use Rattle.judge.specs.declared.calls.Call.TheVariants as call
use Rattle.judge.specs.declared.calls.Played.{Played}
use Rattle.judge.specs.Answers as answers
use Rattle.judge.specs.Answers.{Judged, Viewed, told}
use Rattle.judge.specs.Runs.{Stands}
use Rattle.judge.specs.Law.{Law, Right}
use Rattle.judge_text.specs.Lines.{refused_line, view_line, view_lines, illegal_text}
use Rattle.judge_text.specs.Told as text
use Rattle.judge_text.specs.Told.{FileTold}
use Rattle.judge_text.specs.Asked.{AsksView, AskViews, Asked, line_of, shown_line, answers_text}
use Rattle.judge_text.proofs.Calling.{views_at, trace_then, stands_then}
use Rattle.judge_text.proofs.Viewing.{LineAt, all_lines, first_none, first_some, shows_there, shows_past}

-- no fault has the number 0
fault_number : (bytes : List ℕ) (n place : ℕ) → FirstFault bytes n place → n ≡ 0 → ⊥
fault_number bytes _ _ (no_size short) e = omega (arith, e)
fault_number bytes _ _ (bad_size p v rest is out) e = omega (arith, e)
fault_number bytes _ _ (no_count p v whole empty count formed is) e = omega (arith, e)
fault_number bytes _ _ (bad_record p v whole empty count lane rest n sized formed short is fault real) e = real e
fault_number bytes _ _ (left_over t b rest formed is) e = omega (arith, e)

nth_some : {X : Type 0} (xs : List X) (n : ℕ) → n < length xs → (x : X) × (slice_get xs n ≡ Some x)
nth_some [] n l = absurd (omega (arith, l))
nth_some (x ∷ xs) zero l = (x, refl)
nth_some (x ∷ xs) (suc n) l = nth_some xs n (omega (arith, l))

module _ (m : Meaning) (laws : Laws m) (bytes : Vec ℕ) (views : List Call) (asks : AskViews 1 views) (count : length views ≡ 16)
    (load judge : Played) (rest : List Played) (law : Law m (call.Change (Load bytes) ∷ call.Judge ∷ views) (load ∷ judge ∷ rest)) where
  -- a trace that is complete and legal
  module _ (t : Trace) (read : read_file (vec_items bytes) ≡ reading.good t) (formed : WellFormed t) (complete : Complete t) (legal : Legal m t) where
    -- what is known of the answer to the call for a view
    record Answer (n : ℕ) (a : Played) : Type 0 where
      buffer : Vec ℕ
      slots : List ℕ
      room : length slots ≡ 64
      viewed : Viewed m t (Stands m (call.Change (Load bytes) ∷ call.Judge ∷ take n views)) (suc n) slots (told a) (vec_items buffer)
      leaves : a.call ≡ call.View (suc n) buffer

    answer : (n : ℕ) (a : Played) → slice_get rest n ≡ Some a → Answer n a
    answer n a e =
        let earlier = call.Change (Load bytes) ∷ call.Judge ∷ take n views in
        let c = nth_some views n (omega (arith, slice_get_within rest n a e, law.each)) in
        let v : AsksView (suc n) c.0 = subst (λ k. AsksView k c.0) (omega arith) (views_at 1 views asks n c.0 c.1) in
        let right : Right m earlier (call.View (suc n) v.slots) a = subst (λ d. Right m earlier d a) v.is (law.right (suc (suc n)) c.0 a c.1 e) in
        record {
          buffer = right.buffer;
          slots = vec_items v.slots;
          room = v.room;
          viewed =
              subst (λ u. Viewed m u (Stands m earlier) (suc n) (vec_items v.slots) (told a) (vec_items right.buffer)) (trace_then m t bytes read views asks n) right.answers;
          leaves = right.leaves;
        }

    first : (orders : List (List ℕ)) × First m t orders
    first = by (m.views (processor_count t) t.variables) refl
      where
        by : (k : ℕ) → m.views (processor_count t) t.variables ≡ k → (orders : List (List ℕ)) × First m t orders
        by zero e = first_none m t e legal
        by (suc k) e =
            let a = nth_some rest 0 (omega (arith, law.each, count)) in
            let h = answer 0 a.0 a.1 in
            first_some m t _ (stands_then m t bytes read views asks 0 complete legal) 1 h.slots (omega arith, omega (arith, e)) (told a.0) (vec_items h.buffer) h.viewed

    module _ (orders : List (List ℕ)) (f : First m t orders) where
      line : (n : ℕ) (a : Played) → slice_get rest n ≡ Some a → LineAt 1 orders n (shown_line a)
      line n a e =
          let h = answer n a e in
          let st = stands_then m t bytes read views asks n complete legal in
          let is : shown_line a ≡ line_of (call.View (suc n) h.buffer) a.refusal a.value = ap (λ c. line_of c a.refusal a.value) h.leaves in
          record {
            there =
                λ l. is
                ∙ shows_there m t _ st (suc n) h.slots laws formed h.room orders f (omega arith, omega (arith, l, f.meets.count)) (told a) (vec_items h.buffer) h.viewed
                ∙ ap (λ k. view_line k (view_at orders (suc n))) (omega arith);
            past = λ l. is ∙ shows_past m t _ st (suc n) h.slots laws formed h.room orders f (λ v. omega (arith, v.1, l, f.meets.count)) (told a) (vec_items h.buffer) h.viewed;
          }

      lines : flat_map shown_line rest ≡ view_lines 1 orders
      lines =
          let few = laws.few (processor_count t) t.variables formed.processors formed.variables in
          all_lines 1 orders rest (omega (arith, few, f.meets.count, law.each, count)) line

    legal_text_told : FileTold m (vec_items bytes) (codes "legal\n" ++ flat_map shown_line rest)
    legal_text_told = subst (λ s. FileTold m (vec_items bytes) (codes "legal\n" ++ s)) (sym (lines first.0 first.1)) (text.legal t read complete first.0 first.1)

  -- the text by the answer to judge
  abbrev verdict_text : ℕ × ℕ → List ℕ
  verdict_text r = cond (eqb r.0 0) (cond (eqb r.1 0) illegal_text (codes "legal\n" ++ flat_map shown_line rest)) (refused_line r.0 r.1)

  module _ (t : Trace) (read : read_file (vec_items bytes) ≡ reading.good t) (formed : WellFormed t) where
    refused_number : (Complete t → ⊥) → eqb (completeness_answer t).0 0 ≡ false
    refused_number not = ⊎_elim (λ b. absurd (not ((decides_complete t (completeness_answer t) refl).0 b))) (λ b. b) (cases_Bool (eqb (completeness_answer t).0 0))

    verdict_told : (r : ℕ × ℕ) → Judged m t r → FileTold m (vec_items bytes) (verdict_text r)
    verdict_told _ (answers.refused not) = subst (FileTold m (vec_items bytes)) (sym (cond-false _ _ _ (refused_number not))) (text.incomplete t read not)
    verdict_told _ (answers.legal complete legal) = legal_text_told t read formed complete legal
    verdict_told _ (answers.illegal complete none) = text.illegal t read complete none

  -- the text by the answer to load
  abbrev file_text : ℕ × ℕ → List ℕ
  file_text r = cond (eqb r.0 0) (verdict_text (told judge)) (refused_line r.0 r.1)

  reading_told : (r : Reading) → read_file (vec_items bytes) ≡ r → Says (vec_items bytes) r → FileTold m (vec_items bytes) (file_text (load_answer r))
  reading_told (reading.good t) e s =
      verdict_told t e s.0 (told judge) (subst (λ u. Judged m u (told judge)) (ap (load_after (empty_trace 1 1)) e) (law.right 1 call.Judge judge refl refl).answers)
  reading_told (reading.faulty n place) e s =
      subst (FileTold m (vec_items bytes)) (sym (cond-false _ _ _ (ne_eqb n 0 (fault_number (vec_items bytes) n place s)))) (text.faulty n place e)

  file_told : Bytes (vec_items bytes) → FileTold m (vec_items bytes) (answers_text (load ∷ judge ∷ rest))
  file_told small =
      let loaded : told load ≡ load_answer (read_file (vec_items bytes)) = (law.right 0 (call.Change (Load bytes)) load refl refl).answers in
      subst (λ r. FileTold m (vec_items bytes) (file_text r)) (sym loaded) (reading_told (read_file (vec_items bytes)) refl (says (vec_items bytes) small))

pub answers_told : (m : Meaning) → Laws m → (file : List ℕ) → Bytes file → (calls : List Call) (answers : List Played) → Asked file 16 calls → Law m calls answers → FileTold m file (answers_text answers)
answers_told m laws file small calls [] asked law = absurd (omega (arith, law.each, ap length asked.are))
answers_told m laws file small calls (load ∷ []) asked law = absurd (omega (arith, law.each, ap length asked.are))
answers_told m laws file small calls (load ∷ judge ∷ rest) asked law =
    subst (λ f. FileTold m f (answers_text (load ∷ judge ∷ rest))) asked.loads
    (file_told m laws asked.bytes asked.views asked.each asked.count load judge rest (subst (λ l. Law m l (load ∷ judge ∷ rest)) asked.are law)
    (subst Bytes (sym asked.loads) small))
