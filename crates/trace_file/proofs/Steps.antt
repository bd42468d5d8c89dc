-- One turn of each of the reader's loops, over plain values.
use Rattle.std.proofs.Common.{◌≡◌, ℕ, suc, ◌+◌, ◌-◌, ◌*◌, ◌<◌, ◌≤◌, true, ◌&&◌, List, [], ◌∷◌, length, get_or, drop, Ok, Err, Result, sym, refl, ap, ◌∙◌, subst, ⊎_elim, arith}
use Rattle.std.specs.Borrow.{Bor}
use Rattle.std.specs.List.{between}
use Rattle.std.proofs.lemmas.List.{length-set, length-drop, drop-drop, nil_from_length, length-replicate}
use Rattle.std.proofs.lemmas.Slice.{first_rest, between_to_end}
use Rattle.std.proofs.lemmas.Bool.{cases_lt, cond-true, cond-false, eq-eqb, ne_eqb, lt-ltb, le-ltb}
use Rattle.trace.specs.Operations.{number, within}
use Rattle.trace.specs.Traces.{Trace, processor_count, empty_trace}
use Rattle.trace_file.specs.declared.faults.At.{At}
use Rattle.trace_file.specs.declared.faults.RecordFault.{RecordFault}
use Rattle.trace_file.specs.declared.faults.RecordFault.TheVariants.{Short, Kind, Variable, Source, Full}
use Rattle.trace_file.specs.declared.faults.SectionFault.{SectionFault}
use Rattle.trace_file.specs.declared.faults.SectionFault.TheVariants.{Record}
use Rattle.trace_file.specs.Faults.{record_number, section_number, section_place}
use Rattle.trace_file.specs.Reading.{going, stopped, good, faulty, record_fault, entered, read_records, read_section, read_sections, and_then, read_file}
use Rattle.trace_file.specs.Outcomes.{placed, RecordEntered, RecordRead, SectionEntered, SectionRead}

-- what `at` was given, by what it gave

pub placed_ok : {T F : Type 0} (p : ℕ) (r : Result T F) (x : T) → Ok x ≡ placed p r → r ≡ Ok x
placed_ok p (Ok y) x e = let same : y ≡ x = cc in ap Ok same
placed_ok p (Err f) x e = let z : ◌≡◌ {A = ℕ} 0 1 = cc in absurd (omega arith)

pub placed_err : {T F : Type 0} (p : ℕ) (r : Result T F) (f : At F) → Err f ≡ placed p r → (g : F) × (r ≡ Err g) × (f ≡ record { position = p; fault = g })
placed_err p (Ok y) f e = let z : ◌≡◌ {A = ℕ} 0 1 = cc in absurd (omega arith)
placed_err p (Err g) f e = (g, refl, cc)

-- records

one_less : (r m : ℕ) → r < m → m - r ≡ suc (m - (r + 1))
one_less r m h = omega arith

pub good_long : (t : Trace) (s : ℕ) (bytes : List ℕ) → record_fault t s bytes ≡ 0 → 8 ≤ length bytes
good_long t s bytes z =
    ⊎_elim (λ h. let f : record_fault t s bytes ≡ 15 = cond-true _ _ _ (lt-ltb (length bytes) 8 h) in absurd (omega arith)) (λ h. h) (cases_lt (length bytes) 8)

pub entered_processors : (t : Trace) (s : ℕ) (bytes : List ℕ) → processor_count (entered t s bytes) ≡ processor_count t
entered_processors t s bytes = length-set t.lanes (s - 1) _

no_zero : (f : RecordFault) → record_number f ≡ 0 → ⊥
no_zero Short e = omega (arith, e)
no_zero Kind e = omega (arith, e)
no_zero Variable e = omega (arith, e)
no_zero Source e = omega (arith, e)
no_zero Full e = omega (arith, e)

-- the records of a section, before the turn at r of m
pub record Recording (from : Trace) (s m : ℕ) (records : List ℕ) (t : Trace) (r : ℕ) (rest : List ℕ) : Type 0 where
  pub turns : r ≤ m
  pub left : rest ≡ drop (8 * r) records
  pub within : 8 * r ≤ length records
  pub processors : processor_count t ≡ processor_count from
  pub read : read_records t s r (m - r) rest ≡ read_records from s 0 m records

module _ (from : Trace) (s m : ℕ) (records : List ℕ) where
  pub record_starts : Recording from s m records from 0 records
  record_starts =
      let z : m - 0 ≡ m = omega arith in
      record { turns = omega arith; left = refl; within = omega arith; processors = refl; read = ap (λ k. read_records from s 0 k records) z }

  pub record_again : (t u : Trace) (r : ℕ) (rest next : List ℕ) → r < m → Recording from s m records t r rest → RecordEntered t s rest next u → Recording from s m records u (r + 1) next
  record_again t u r rest next h v e =
      let n = ap length v.left ∙ length-drop (8 * r) records in
      let long = good_long t s rest e.fault in
      let same : 8 * r + 8 ≡ 8 * (r + 1) = omega arith in
      record {
        turns = omega arith;
        left = e.left ∙ ap (drop 8) v.left ∙ drop-drop 8 (8 * r) records ∙ ap (λ k. drop k records) same;
        within = omega arith;
        processors = ap processor_count e.trace ∙ entered_processors t s rest ∙ v.processors;
        read =
            (λ i. read_records (e.trace i) s (r + 1) (m - (r + 1)) (e.left i))
            ∙ sym (ap (λ k. read_records t s r k rest) (one_less r m h) ∙ cond-true _ _ _ (eq-eqb _ 0 e.fault))
            ∙ v.read;
      }

  -- the turn at k, counted from 1
  pub record_next : (t u : Trace) (k : ℕ) (rest : List ℕ) (next : Bor (List ℕ)) (r : Result (Bor (List ℕ)) RecordFault) → 1 ≤ k → k ≤ m
      → Recording from s m records t (k - 1) rest → Ok next ≡ placed k r → RecordRead t s rest r u → Recording from s m records u k next.now
  record_next t u k rest next r low high v e is =
      let before : k - 1 + 1 ≡ k = omega arith in
      subst (λ j. Recording from s m records u j next.now) before
      (record_again t u (k - 1) rest next.now (omega arith) v (subst (λ x. RecordRead t s rest x u) (placed_ok k r next e) is))

  pub record_stops : (t : Trace) (r : ℕ) (rest : List ℕ) (f : RecordFault) → r < m → Recording from s m records t r rest → record_fault t s rest ≡ record_number f → read_records from s 0 m records ≡ stopped (record_number f) (number s (r + 1))
  record_stops t r rest f h v e =
      sym v.read
      ∙ ap (λ k. read_records t s r k rest) (one_less r m h)
      ∙ cond-false _ _ _ (ne_eqb _ 0 (λ z. no_zero f (sym e ∙ z)))
      ∙ ap (λ n. stopped n (number s (r + 1))) e

  pub record_ends : (t : Trace) (r : ℕ) (rest : List ℕ) → r ≡ m → Recording from s m records t r rest → read_records from s 0 m records ≡ going t rest
  record_ends t r rest e v = let z : m - r ≡ 0 = omega arith in sym v.read ∙ ap (λ k. read_records t s r k rest) z

-- a section

pub section_starts : (t : Trace) (s : ℕ) (bytes : List ℕ) → 0 < length bytes → read_section t s bytes ≡ read_records t s 0 (get_or bytes 0 0) (between 1 (length bytes) bytes)
section_starts t s bytes h = ap (read_section t s) (first_rest bytes 0 h)

pub section_ends : (from t : Trace) (s : ℕ) (bytes rest : List ℕ) (r : ℕ) → 0 < length bytes → r ≡ get_or bytes 0 0 → Recording from s (get_or bytes 0 0) (between 1 (length bytes) bytes) t r rest → SectionEntered from s bytes (1 + 8 * get_or bytes 0 0) t
section_ends from t s bytes rest r h e v =
    let all : between 1 (length bytes) bytes ≡ drop 1 bytes = between_to_end bytes 1 (length bytes) (omega arith) in
    let n = ap length all ∙ length-drop 1 bytes in
    let same : 1 + 8 * r ≡ 1 + 8 * get_or bytes 0 0 = omega arith in
    let left : rest ≡ drop (1 + 8 * get_or bytes 0 0) bytes = v.left ∙ ap (drop (8 * r)) all ∙ drop-drop (8 * r) 1 bytes ∙ ap (λ k. drop k bytes) same in
    record {
      within = omega (arith, v.within);
      read = section_starts from s bytes h ∙ record_ends from s (get_or bytes 0 0) (between 1 (length bytes) bytes) t r rest e v ∙ ap (going t) left;
      processors = v.processors;
    }

pub section_stops : (from t : Trace) (s : ℕ) (bytes rest : List ℕ) (r : ℕ) (y : SectionFault) (f : At RecordFault) (g : RecordFault) → 0 < length bytes → r < get_or bytes 0 0 → Recording from s (get_or bytes 0 0) (between 1 (length bytes) bytes) t r rest → record_fault t s rest ≡ record_number g → y ≡ Record f → f ≡ record { position = r + 1; fault = g } → read_section from s bytes ≡ stopped (section_number y) (number s (section_place y))
section_stops from t s bytes rest r y f g h lt v e is at =
    section_starts from s bytes h
    ∙ record_stops from s (get_or bytes 0 0) (between 1 (length bytes) bytes) t r rest g lt v e
    ∙ sym (ap (λ x. stopped (section_number x) (number s (section_place x))) (is ∙ ap Record at))

-- the sections of a file, before the turn at s of them
pub record Sectioning (bytes : List ℕ) (count : ℕ) (t : Trace) (s start : ℕ) : Type 0 where
  pub turns : s ≤ count
  pub within : start ≤ length bytes
  pub processors : processor_count t ≡ count
  pub read : read_sections t s (count - s) (drop start bytes) ≡ read_file bytes

left_over_faulty : (t : Trace) (s n : ℕ) (rest : List ℕ) → n ≡ 0 → 0 < length rest → read_sections t s n rest ≡ faulty 16 0
left_over_faulty t s n [] z h = absurd (omega arith)
left_over_faulty t s n (b ∷ rest) z h = ap (λ k. read_sections t s k (b ∷ rest)) z

none_left : (t : Trace) (s n : ℕ) (rest : List ℕ) → n ≡ 0 → length rest ≡ 0 → read_sections t s n rest ≡ good t
none_left t s n rest z h = (λ i. read_sections t s (z i) (nil_from_length rest h i))

module _ (bytes : List ℕ) (count : ℕ) (t : Trace) (s start : ℕ) (v : Sectioning bytes count t s start) where
  next : s < count → read_file bytes ≡ and_then (read_section t (s + 1) (drop start bytes)) (λ u rest. read_sections u (s + 1) (count - (s + 1)) rest)
  next h = sym v.read ∙ ap (λ k. read_sections t s k (drop start bytes)) (one_less s count h)

  pub section_again : (n : ℕ) (u : Trace) → s < count → SectionEntered t (s + 1) (drop start bytes) n u → Sectioning bytes count u (s + 1) (start + n)
  section_again n u h e =
      record {
        turns = omega arith;
        within = omega (arith, e.within, length-drop start bytes, v.within);
        processors = e.processors ∙ v.processors;
        read = sym (next h ∙ ap (λ p. and_then p (λ w rest. read_sections w (s + 1) (count - (s + 1)) rest)) e.read ∙ ap (read_sections u (s + 1) (count - (s + 1))) (drop-drop n start bytes));
      }

  pub section_next : (k n : ℕ) (u : Trace) (r : Result ℕ SectionFault) → k ≡ s + 1 → k ≤ count → Ok n ≡ placed k r → SectionRead t k (drop start bytes) r u → Sectioning bytes count u k (start + n)
  section_next k n u r e high is read =
      let h = subst (λ x. SectionRead t k (drop start bytes) x u) (placed_ok k r n is) read in
      subst (λ j. Sectioning bytes count u j (start + n)) (sym e) (section_again n u (omega (arith, e, high)) (subst (λ j. SectionEntered t j (drop start bytes) n u) e h))

  pub section_faulty : (k : ℕ) (f : SectionFault) → s + 1 ≡ k → k ≤ count → read_section t k (drop start bytes) ≡ stopped (section_number f) (number k (section_place f)) → read_file bytes ≡ faulty (section_number f) (number k (section_place f))
  section_faulty k f e h is =
      next (omega (arith, e, h))
      ∙ ap (λ j. and_then (read_section t j (drop start bytes)) (λ w rest. read_sections w (s + 1) (count - (s + 1)) rest)) e
      ∙ ap (λ p. and_then p (λ w rest. read_sections w (s + 1) (count - (s + 1)) rest)) is

  pub file_over : s ≡ count → start < length bytes → read_file bytes ≡ faulty 16 0
  file_over e h = sym v.read ∙ left_over_faulty t s (count - s) (drop start bytes) (omega arith) (omega (arith, length-drop start bytes))

  pub file_ends : s ≡ count → length bytes ≤ start → read_file bytes ≡ good t
  file_ends e h = sym v.read ∙ none_left t s (count - s) (drop start bytes) (omega arith) (omega (arith, length-drop start bytes))

-- the whole file

pub file_starts : (bytes : List ℕ) (p v : ℕ) (t : Trace) → 2 ≤ length bytes → p ≡ get_or bytes 0 0 → v ≡ get_or bytes 1 0 → (within 1 8 p && within 1 16 v) ≡ true → t ≡ empty_trace p v → Sectioning bytes p t 0 2
file_starts bytes p v t h e f w is =
    let z : p - 0 ≡ p = omega arith in
    let q : (within 1 8 (get_or bytes 0 0) && within 1 16 (get_or bytes 1 0)) ≡ true = (λ i. within 1 8 (sym e i) && within 1 16 (sym f i)) ∙ w in
    record {
      turns = omega arith;
      within = h;
      processors = ap processor_count is ∙ length-replicate p [];
      read =
          (λ i. read_sections (is i) 0 (z i) (drop 2 bytes))
          ∙ (λ i. read_sections (empty_trace (e i) (f i)) 0 (e i) (drop 2 bytes))
          ∙ sym (cond-false _ _ _ (le-ltb (length bytes) 2 h) ∙ cond-true _ _ _ q);
    }
