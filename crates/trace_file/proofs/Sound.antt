-- What a reading says of the bytes: a trace whose file they are, or their first fault.
use Rattle.std.proofs.Common.{◌≡◌, ℕ, zero, suc, ◌+◌, ◌<◌, ◌≤◌, true, ◌&&◌, ◌⊎◌, List, [], ◌∷◌, ◌++◌, length, drop, replicate, sym, refl, ap, ◌∙◌, subst, inl, inr, ⊎_elim, arith}
use Rattle.std.specs.List.{flat_map}
use Rattle.std.proofs.lemmas.List.{append-nil, append_assoc, length_push, get_or-drop, flat_map_more, length-replicate}
use Rattle.std.proofs.lemmas.Bool.{cases_eq, cases_Bool, cond-true, cond-false, eq-eqb, ne_eqb, le-ltb}
use Rattle.std.proofs.lemmas.Bool.Decides.{Decides-and, not_from_Decides}
use Rattle.trace.specs.declared.operation.Operation.{Operation}
use Rattle.trace.specs.Operations.{number, Within, within, fitting}
use Rattle.trace.specs.Traces.{WellFormed}
use Rattle.trace.proofs.Fits.{fits_none}
use Rattle.trace.proofs.Forming.{decides_within}
use Rattle.trace.proofs.Lanes.{empty_count}
use Rattle.trace_file.specs.Files.{record_bytes, section_bytes, file_of}
use Rattle.trace_file.specs.Reading.{Reading, good, faulty, Progress, going, stopped, record_fault, read_records, read_sections, read_file, and_then, kind_field, variable_field, source_field, value_field, record_of}
use Rattle.trace_file.specs.FirstFaults.{told, FirstFault, no_size, bad_size, no_count, bad_record, left_over}
use Rattle.trace_file.proofs.Entering.{long_fault}
use Rattle.trace_file.proofs.Forms.{Bytes, record_form, value_fits}
use Rattle.trace_file.proofs.Growing.{Good, good_formed, told_more, good_more, tests_passed, accepted_fits}
use Rattle.trace_file.proofs.Steps.{good_long}

drop_bytes : (n : ℕ) (bytes : List ℕ) → Bytes bytes → Bytes (drop n bytes)
drop_bytes n bytes small k = subst (λ x. x < 256) (sym (get_or-drop n bytes k 0)) (small (n + k))

module _ (p v : ℕ) (whole : List (List Operation)) (empty : ℕ) where
  -- all of the next n records are read
  record AllRead (lane : List Operation) (n : ℕ) (bytes : List ℕ) (is : Progress) : Type 0 where
    more : List Operation
    rest : List ℕ
    count : length more ≡ n
    form : bytes ≡ flat_map record_bytes more ++ rest
    fine : Good p v (whole ++ (lane ++ more) ∷ replicate empty [])
    small : Bytes rest
    says : is ≡ going (told v whole (lane ++ more) empty) rest

  -- some of them are, and the next has a fault
  record SomeRead (lane : List Operation) (n : ℕ) (bytes : List ℕ) (is : Progress) : Type 0 where
    more : List Operation
    rest : List ℕ
    fault : ℕ
    count : length more < n
    form : bytes ≡ flat_map record_bytes more ++ rest
    fine : Good p v (whole ++ (lane ++ more) ∷ replicate empty [])
    bad : record_fault (told v whole (lane ++ more) empty) (length whole + 1) rest ≡ fault
    real : fault ≡ 0 → ⊥
    says : is ≡ stopped fault (number (length whole + 1) (length (lane ++ more) + 1))

  none_more : (lane : List Operation) → Good p v (whole ++ lane ∷ replicate empty []) → Good p v (whole ++ (lane ++ []) ∷ replicate empty [])
  none_more lane g = subst (λ l. Good p v (whole ++ l ∷ replicate empty [])) (sym (append-nil lane)) g

  module _ (n : ℕ) (lane : List Operation) (bytes : List ℕ) (g : Good p v (whole ++ lane ∷ replicate empty [])) (small : Bytes bytes) where
    read_one : record_fault (told v whole lane empty) (length whole + 1) bytes ≡ 0 → (bytes ≡ record_bytes (record_of bytes) ++ drop 8 bytes) × Good p v (whole ++ (lane ++ record_of bytes ∷ []) ∷ replicate empty [])
    read_one z =
        let t = told v whole lane empty in
        let s = length whole + 1 in
        let l = good_long t s bytes z in
        let a = tests_passed t s (kind_field bytes) (variable_field bytes) (source_field bytes) (sym (long_fault t s bytes l) ∙ z) in
        let f = accepted_fits t s (kind_field bytes) (variable_field bytes) (source_field bytes) (value_field bytes) a (value_fits bytes small) in
        (record_form bytes small l a.kind, good_more v whole lane empty p g (record_of bytes) (subst (λ n. fitting n v (record_of bytes) ≡ true) g.count f) a.room)

    module _ (z : record_fault (told v whole lane empty) (length whole + 1) bytes ≡ 0) where
      joins : (more : List Operation) → (lane ++ record_of bytes ∷ []) ++ more ≡ lane ++ record_of bytes ∷ more
      joins more = append_assoc lane (record_of bytes ∷ []) more

      form_more : (more : List Operation) (rest : List ℕ) → drop 8 bytes ≡ flat_map record_bytes more ++ rest → bytes ≡ flat_map record_bytes (record_of bytes ∷ more) ++ rest
      form_more more rest e = (read_one z).0 ∙ ap (λ tail. record_bytes (record_of bytes) ++ tail) e ∙ sym (append_assoc (record_bytes (record_of bytes)) (flat_map record_bytes more) rest)

      fine_more : (more : List Operation) → Good p v (whole ++ ((lane ++ record_of bytes ∷ []) ++ more) ∷ replicate empty []) → Good p v (whole ++ (lane ++ record_of bytes ∷ more) ∷ replicate empty [])
      fine_more more = subst (λ l. Good p v (whole ++ l ∷ replicate empty [])) (joins more)

      goes_on : read_records (told v whole lane empty) (length whole + 1) (length lane) (suc n) bytes ≡ read_records (told v whole (lane ++ record_of bytes ∷ []) empty) (length whole + 1) (length (lane ++ record_of bytes ∷ [])) n (drop 8 bytes)
      goes_on =
          cond-true _ _ _ (eq-eqb _ 0 z)
          ∙ (λ i. read_records (told_more v whole lane empty (record_of bytes) i) (length whole + 1) (sym (length_push lane (record_of bytes)) i) n (drop 8 bytes))

      all_more : AllRead (lane ++ record_of bytes ∷ []) n (drop 8 bytes) (read_records (told v whole (lane ++ record_of bytes ∷ []) empty) (length whole + 1) (length (lane ++ record_of bytes ∷ [])) n (drop 8 bytes)) → AllRead lane (suc n) bytes (read_records (told v whole lane empty) (length whole + 1) (length lane) (suc n) bytes)
      all_more a =
          record {
            more = record_of bytes ∷ a.more;
            rest = a.rest;
            count = ap suc a.count;
            form = form_more a.more a.rest a.form;
            fine = fine_more a.more a.fine;
            small = a.small;
            says = goes_on ∙ a.says ∙ ap (λ l. going (told v whole l empty) a.rest) (joins a.more);
          }

      some_more : SomeRead (lane ++ record_of bytes ∷ []) n (drop 8 bytes) (read_records (told v whole (lane ++ record_of bytes ∷ []) empty) (length whole + 1) (length (lane ++ record_of bytes ∷ [])) n (drop 8 bytes)) → SomeRead lane (suc n) bytes (read_records (told v whole lane empty) (length whole + 1) (length lane) (suc n) bytes)
      some_more b =
          record {
            more = record_of bytes ∷ b.more;
            rest = b.rest;
            fault = b.fault;
            count = omega (arith, b.count);
            form = form_more b.more b.rest b.form;
            fine = fine_more b.more b.fine;
            bad = ap (λ l. record_fault (told v whole l empty) (length whole + 1) b.rest) (sym (joins b.more)) ∙ b.bad;
            real = b.real;
            says = goes_on ∙ b.says ∙ ap (λ l. stopped b.fault (number (length whole + 1) (length l + 1))) (joins b.more);
          }

    stops : (record_fault (told v whole lane empty) (length whole + 1) bytes ≡ 0 → ⊥) → SomeRead lane (suc n) bytes (read_records (told v whole lane empty) (length whole + 1) (length lane) (suc n) bytes)
    stops ne =
        record {
          more = [];
          rest = bytes;
          fault = record_fault (told v whole lane empty) (length whole + 1) bytes;
          count = omega arith;
          form = refl;
          fine = none_more lane g;
          bad = ap (λ l. record_fault (told v whole l empty) (length whole + 1) bytes) (append-nil lane);
          real = ne;
          says =
              cond-false _ _ _ (ne_eqb _ 0 ne)
              ∙ ap (λ l. stopped (record_fault (told v whole lane empty) (length whole + 1) bytes) (number (length whole + 1) (length l + 1))) (sym (append-nil lane));
        }

  records : (n : ℕ) (lane : List Operation) (bytes : List ℕ) → Good p v (whole ++ lane ∷ replicate empty []) → Bytes bytes → AllRead lane n bytes (read_records (told v whole lane empty) (length whole + 1) (length lane) n bytes) ⊎ SomeRead lane n bytes (read_records (told v whole lane empty) (length whole + 1) (length lane) n bytes)
  records zero lane bytes g small =
      inl (record { more = []; rest = bytes; count = refl; form = refl; fine = none_more lane g; small = small; says = ap (λ l. going (told v whole l empty) bytes) (sym (append-nil lane)) })
  records (suc n) lane bytes g small =
      ⊎_elim
      (λ z. ⊎_elim (λ a. inl (all_more n lane bytes g small z a)) (λ b. inr (some_more n lane bytes g small z b)) (records n (lane ++ record_of bytes ∷ []) (drop 8 bytes) (read_one n lane bytes g small z).1 (drop_bytes 8 bytes small)))
      (λ ne. inr (stops n lane bytes g small ne))
      (cases_eq (record_fault (told v whole lane empty) (length whole + 1) bytes) 0)

-- what a reading is to say of a file's bytes
abbrev pub Says : List ℕ → Reading → Type 0
Says bytes (good t) = WellFormed t × (file_of t ≡ bytes)
Says bytes (faulty n place) = FirstFault bytes n place

module _ (p v : ℕ) (wp : Within 1 8 p) (wv : Within 1 16 v) (file : List ℕ) where
  -- all sections are read: nothing may follow
  ended : (whole : List (List Operation)) (bytes : List ℕ) (s : ℕ) → Good p v (whole ++ []) → file ≡ p ∷ v ∷ (flat_map section_bytes whole ++ bytes) → Says file (read_sections (record { variables = v; lanes = whole ++ [] }) s 0 bytes)
  ended whole [] s g e =
      let h = subst (Good p v) (append-nil whole) g in (
        good_formed p v (whole ++ []) wp wv g,
        (λ i. g.count i ∷ v ∷ flat_map section_bytes (append-nil whole i)) ∙ (λ i. p ∷ v ∷ sym (append-nil (flat_map section_bytes whole)) i) ∙ sym e,
      )
  ended whole (b ∷ bytes) s g e =
      let h = subst (Good p v) (append-nil whole) g in
      left_over (record { variables = v; lanes = whole }) b bytes (good_formed p v whole wp wv h)
      (e ∙ (λ i. sym h.count i ∷ v ∷ (flat_map section_bytes whole ++ b ∷ bytes)))

  sections : (n : ℕ) (whole : List (List Operation)) (bytes : List ℕ) → length whole + n ≡ p → Good p v (whole ++ replicate n []) → Bytes bytes → file ≡ p ∷ v ∷ (flat_map section_bytes whole ++ bytes) → Says file (read_sections (record { variables = v; lanes = whole ++ replicate n [] }) (length whole) n bytes)
  sections zero whole bytes count g small e = ended whole bytes (length whole) g e
  sections (suc n) whole [] count g small e =
      no_count p v whole n (omega arith) (good_formed p v (whole ++ [] ∷ replicate n []) wp wv g) (e ∙ (λ i. p ∷ v ∷ append-nil (flat_map section_bytes whole) i))
  sections (suc n) whole (k ∷ bytes) count g small e =
      ⊎_elim
      (λ (a : AllRead p v whole n [] k bytes (read_records (told v whole [] n) (length whole + 1) 0 k bytes)).
      let next = whole ++ a.more ∷ [] in
      let joins : next ++ replicate n [] ≡ whole ++ a.more ∷ replicate n [] = append_assoc whole (a.more ∷ []) (replicate n []) in
      let form : file ≡ p ∷ v ∷ (flat_map section_bytes next ++ a.rest) =
      e
      ∙ (λ i. p ∷ v ∷ (flat_map section_bytes whole ++ sym a.count i ∷ a.form i))
      ∙ (λ i. p ∷ v ∷ sym (append_assoc (flat_map section_bytes whole) (section_bytes a.more) a.rest) i)
      ∙ (λ i. p ∷ v ∷ (flat_map_more section_bytes [] whole a.more i ++ a.rest)) in
      subst (λ q. Says file (and_then q (λ u rest. read_sections u (length whole + 1) n rest))) (sym a.says)
      (subst (λ ls. Says file (read_sections (record { variables = v; lanes = ls }) (length whole + 1) n a.rest)) joins
      (subst (λ s. Says file (read_sections (record { variables = v; lanes = next ++ replicate n [] }) s n a.rest)) (length_push whole a.more)
      (sections n next a.rest (omega (arith, length_push whole a.more)) (subst (Good p v) (sym joins) a.fine) a.small form))))
      (λ (b : SomeRead p v whole n [] k bytes (read_records (told v whole [] n) (length whole + 1) 0 k bytes)).
      subst (λ q. Says file (and_then q (λ u rest. read_sections u (length whole + 1) n rest))) (sym b.says)
      (bad_record p v whole n k b.more b.rest b.fault (omega arith) (good_formed p v (whole ++ b.more ∷ replicate n []) wp wv b.fine) b.count
      (e ∙ (λ i. p ∷ v ∷ (flat_map section_bytes whole ++ k ∷ b.form i))) b.bad b.real))
      (records p v whole n k [] bytes g (drop_bytes 1 (k ∷ bytes) small))

nothing_good : (p v : ℕ) → Good p v (replicate p [])
nothing_good p v = record { count = length-replicate p []; fit = fits_none p v p; few = omega (arith, empty_count p v) }

-- every reading says what it is to say
pub says : (bytes : List ℕ) → Bytes bytes → Says bytes (read_file bytes)
says [] small = no_size (omega arith)
says (b ∷ []) small = no_size (omega arith)
says (p ∷ v ∷ rest) small =
    let long : 2 ≤ length (p ∷ v ∷ rest) = omega arith in
    let d = Decides-and (within 1 8 p) (within 1 16 v) (decides_within 1 8 p) (decides_within 1 16 v) in
    ⊎_elim
    (λ w. subst (Says (p ∷ v ∷ rest)) (sym (cond-false _ _ _ (le-ltb (length (p ∷ v ∷ rest)) 2 long) ∙ cond-true _ _ _ w))
    (sections p v (d.0 w).0 (d.0 w).1 (p ∷ v ∷ rest) p [] rest (omega arith) (nothing_good p v) (drop_bytes 2 (p ∷ v ∷ rest) small) refl))
    (λ w. subst (Says (p ∷ v ∷ rest)) (sym (cond-false _ _ _ (le-ltb (length (p ∷ v ∷ rest)) 2 long) ∙ cond-false _ _ _ w))
    (bad_size p v rest refl (not_from_Decides (within 1 8 p && within 1 16 v) d w)))
    (cases_Bool (within 1 8 p && within 1 16 v))
