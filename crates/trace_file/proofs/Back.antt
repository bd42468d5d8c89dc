-- The file of a well-formed trace is read, and gives that trace.
use Rattle.std.proofs.Common.{◌≡◌, ℕ, suc, ◌+◌, ◌^◌, ◌<◌, ◌≤◌, true, ◌&&◌, eqb, ltb, List, [], ◌∷◌, ◌++◌, length, replicate, is_some, sum_by, sym, refl, ap, ◌∙◌, subst, ⊎_elim, arith}
use Rattle.std.specs.List.{flat_map, AllByRecursion}
use Rattle.std.proofs.ByRecursion.{All-get_or, All-append, All-take}
use Rattle.std.proofs.lemmas.List.{append-nil, append_assoc, length-append, length_push, length-replicate, get_or_at, take_at}
use Rattle.std.proofs.lemmas.List.Sums.{sum_by-append, sum_by-cons}
use Rattle.std.proofs.lemmas.Bool.{and_parts, and_from, cond-true, cond-false, eq-eqb, le-ltb}
use Rattle.trace.specs.declared.operation.Kind.{Kind}
use Rattle.trace.specs.declared.operation.Kind.TheVariants.{Read, Write}
use Rattle.trace.specs.declared.operation.Operation.{Operation}
use Rattle.trace.specs.Operations.{kind_number, Nameable, Within, within, source_fits, capacity, Fitting, fitting}
use Rattle.trace.specs.Traces.{Trace, processor_count, WellFormed, lane_fits}
use Rattle.trace.proofs.Fits.{lane_fits_all, lanes_fit_all, fits_none}
use Rattle.trace.proofs.Forming.{decides_fitting, decides_within}
use Rattle.trace.proofs.Lanes.{empty_count}
use Rattle.trace.proofs.Numbers.{kind_of_number}
use Rattle.trace_file.specs.Files.{record_bytes, section_bytes, file_of}
use Rattle.trace_file.specs.Reading.{good, going, record_fault, entered, record_of, read_records, read_sections, read_file, and_then, kind_field, variable_field, source_field}
use Rattle.trace_file.specs.FirstFaults.{told}
use Rattle.trace_file.proofs.Entering.{long_fault}
use Rattle.trace_file.proofs.Forms.{source_form, operation_form}
use Rattle.trace_file.proofs.Growing.{Good, formed_good, begun_fits, told_more, tests_pass}

source_small : (p : ℕ) (k : Kind) (s : ℕ) → p ≤ 8 → (eqb (kind_number k) 1 ≡ true → Nameable p s) → (eqb (kind_number k) 2 ≡ true → s ≡ 0) → s < 65536
source_small p Read s h r w = ⊎_elim (λ z. omega arith) (λ n. omega (arith, n.2, n.3, n.4)) (r refl)
source_small p Write s h r w = omega (arith, w refl)

total_of : (whole : List (List Operation)) (lane : List Operation) (later : List (List Operation)) → sum_by length (whole ++ lane ∷ later) ≡ sum_by length whole + (length lane + sum_by length later)
total_of whole lane later = sum_by-append length whole (lane ∷ later) ∙ ap (λ n. sum_by length whole + n) (sum_by-cons length lane later)

module _ (p v : ℕ) (wp : Within 1 8 p) (whole : List (List Operation)) (empty : ℕ) where
  module _ (lane : List Operation) (o : Operation) (ops : List Operation) (rest : List ℕ) (g : Good p v (whole ++ (lane ++ o ∷ ops) ∷ replicate empty [])) where
    fits : Fitting p v o
    fits =
        (decides_fitting p v o).0
        (subst (λ x. fitting p v x ≡ true) (get_or_at lane o ops o (length lane) refl)
        (All-get_or (λ x. fitting p v x ≡ true) (lane ++ o ∷ ops) (length lane) o (omega (arith, length-append lane (o ∷ ops))) ((lane_fits_all p v (lane ++ o ∷ ops)).0 (begun_fits v whole (lane ++ o ∷ ops) empty p g))))

    counted : length (whole ++ lane ∷ replicate empty []) ≡ p
    counted =
        length-append whole (lane ∷ replicate empty [])
        ∙ sym (length-append whole ((lane ++ o ∷ ops) ∷ replicate empty []))
        ∙ g.count

    room : sum_by length (whole ++ lane ∷ replicate empty []) < capacity
    room = omega (arith, g.few, total_of whole lane (replicate empty []), total_of whole (lane ++ o ∷ ops) (replicate empty []), length-append lane (o ∷ ops))

    small : o.source < 65536
    small = source_small p o.kind o.source wp.1 fits.reads fits.writes

    accepted : record_fault (told v whole lane empty) (length whole + 1) (record_bytes o ++ (flat_map record_bytes ops ++ rest)) ≡ 0
    accepted =
        let t = told v whole lane empty in
        let bytes = record_bytes o ++ (flat_map record_bytes ops ++ rest) in
        let f = and_parts (within 1 v o.variable) (source_fits p (kind_number o.kind) o.source && ltb o.value (2 ^ 32)) ((decides_fitting p v o).1 fits) in
        let h = and_parts (source_fits p (kind_number o.kind) o.source) (ltb o.value (2 ^ 32)) f.1 in
        let here : length whole + 1 ≤ p = omega (arith, counted, length-append whole (lane ∷ replicate empty [])) in
        let long : 8 ≤ length bytes = omega arith in
        long_fault t (length whole + 1) bytes long
        ∙ tests_pass t (length whole + 1) (kind_field bytes) (variable_field bytes) (source_field bytes) (omega arith, subst (λ n. length whole + 1 ≤ n) (sym counted) here)
        (record {
          kind = ap is_some (kind_of_number o.kind);
          variable = f.0;
          source = (λ i. source_fits (counted i) (kind_number o.kind) (source_form o (flat_map record_bytes ops ++ rest) small i)) ∙ h.0;
          room = room;
        })

    entered_is : entered (told v whole lane empty) (length whole + 1) (record_bytes o ++ (flat_map record_bytes ops ++ rest)) ≡ told v whole (lane ++ o ∷ []) empty
    entered_is =
        told_more v whole lane empty (record_of (record_bytes o ++ (flat_map record_bytes ops ++ rest)))
        ∙ ap (λ x. told v whole (lane ++ x ∷ []) empty) (operation_form o (flat_map record_bytes ops ++ rest) small fits.value)

  written_records : (ops lane : List Operation) (rest : List ℕ) → Good p v (whole ++ (lane ++ ops) ∷ replicate empty []) → read_records (told v whole lane empty) (length whole + 1) (length lane) (length ops) (flat_map record_bytes ops ++ rest) ≡ going (told v whole (lane ++ ops) empty) rest
  written_records [] lane rest g = ap (λ l. going (told v whole l empty) rest) (sym (append-nil lane))
  written_records (o ∷ ops) lane rest g =
      let joins = append_assoc lane (o ∷ []) ops in
      cond-true _ _ _ (eq-eqb _ 0 (accepted lane o ops rest g))
      ∙ (λ i. read_records (entered_is lane o ops rest g i) (length whole + 1) (sym (length_push lane o) i) (length ops) (flat_map record_bytes ops ++ rest))
      ∙ written_records ops (lane ++ o ∷ []) rest (subst (λ l. Good p v (whole ++ l ∷ replicate empty [])) (sym joins) g)
      ∙ ap (λ l. going (told v whole l empty) rest) joins

-- what is begun, with nothing yet on the processors that follow
good_begun : (p v : ℕ) (whole : List (List Operation)) (lane : List Operation) (later : List (List Operation)) → Good p v (whole ++ lane ∷ later) → Good p v (whole ++ lane ∷ replicate (length later) [])
good_begun p v whole lane later g =
    let P : List Operation → Type 0 = λ l. lane_fits p v l ≡ true in
    let all = (lanes_fit_all p v (whole ++ lane ∷ later)).0 g.fit in
    let first = subst (AllByRecursion (λ l. lane_fits p v l ≡ true)) (take_at whole (lane ∷ later) (length whole) refl) (All-take (λ l. lane_fits p v l ≡ true) (length whole) (whole ++ lane ∷ later) all) in
    let here = subst (λ l. lane_fits p v l ≡ true) (get_or_at whole lane later lane (length whole) refl) (All-get_or (λ l. lane_fits p v l ≡ true) (whole ++ lane ∷ later) (length whole) lane (omega (arith, length-append whole (lane ∷ later))) all) in
    let none = (lanes_fit_all p v (replicate (length later) [])).0 (fits_none p v (length later)) in
    record {
      count = length-append whole (lane ∷ replicate (length later) []) ∙ ap (λ n. length whole + suc n) (length-replicate (length later) []) ∙ sym (length-append whole (lane ∷ later)) ∙ g.count;
      fit = (lanes_fit_all p v (whole ++ lane ∷ replicate (length later) [])).1 (All-append (λ l. lane_fits p v l ≡ true) whole (lane ∷ replicate (length later) []) first (here, none));
      few = omega (arith, g.few, total_of whole lane later, total_of whole lane (replicate (length later) []), empty_count (length later) v);
    }

module _ (p v : ℕ) (wp : Within 1 8 p) where
  written_sections : (lanes whole : List (List Operation)) → Good p v (whole ++ lanes) → read_sections (record { variables = v; lanes = whole ++ replicate (length lanes) [] }) (length whole) (length lanes) (flat_map section_bytes lanes) ≡ good (record { variables = v; lanes = whole ++ lanes })
  written_sections [] whole g = refl
  written_sections (l ∷ lanes) whole g =
      let joins : (whole ++ l ∷ []) ++ lanes ≡ whole ++ l ∷ lanes = append_assoc whole (l ∷ []) lanes in
      let spread : whole ++ l ∷ replicate (length lanes) [] ≡ (whole ++ l ∷ []) ++ replicate (length lanes) [] = sym (append_assoc whole (l ∷ []) (replicate (length lanes) [])) in
      ap (λ q. and_then q (λ u rest. read_sections u (length whole + 1) (length lanes) rest)) (written_records p v wp whole (length lanes) l [] (flat_map section_bytes lanes) (good_begun p v whole l lanes g))
      ∙ (λ i. read_sections (record { variables = v; lanes = spread i }) (sym (length_push whole l) i) (length lanes) (flat_map section_bytes lanes))
      ∙ written_sections lanes (whole ++ l ∷ []) (subst (Good p v) (sym joins) g)
      ∙ ap (λ ls. good (record { variables = v; lanes = ls })) joins

-- written and then read: the same trace
pub read_back : (t : Trace) → WellFormed t → read_file (file_of t) ≡ good t
read_back t w =
    let long : 2 ≤ length (file_of t) = omega arith in
    cond-false _ _ _ (le-ltb (length (file_of t)) 2 long)
    ∙ cond-true _ _ _ (and_from _ _ ((decides_within 1 8 (processor_count t)).1 w.processors) ((decides_within 1 16 t.variables).1 w.variables))
    ∙ written_sections (processor_count t) t.variables w.processors t.lanes [] (formed_good t w)
