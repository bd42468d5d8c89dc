-- How far the text reaches into the input: no byte past the 534th alters it.
use Rattle.std.proofs.Common.{◌≡◌, ℕ, ◌≤◌, ◌⊎◌, List, [], ◌∷◌, ◌++◌, length, get_or, take, drop, sym, refl, ap, ◌∙◌, inl, inr, ⊎_elim, arith}
use Rattle.std.proofs.ByRecursion.{All-get_or}
use Rattle.std.proofs.lemmas.List.{append-nil, append_assoc, length-append, length-take, take-append-drop, take-append-le, drop_all, get_or-take, get_or_at}
use Rattle.std.proofs.lemmas.Bool.{cases_lt, cases_eq}
use Rattle.trace_file.specs.Reading.{read_file}
use Rattle.trace_file.proofs.Enough.{enough}
use Rattle.models.specs.Meaning.{Meaning}
use Rattle.letters.specs.declared.Letters.{Letters}
use Rattle.letters.specs.declared.Letters.TheVariants.{S, C, P, FS, FC, FP, AS, AP, AFS, AFP}
use Rattle.letters.specs.Names as names
use Rattle.judge_text.specs.Told.{FileTold, faulty, incomplete, illegal, legal, Unended, Parted, unended, unnamed, named, Enough}

-- an input has no byte 10, or is parted by its first
parts : (input : List ℕ) → Unended input ⊎ ((letters : List ℕ) × (file : List ℕ) × Parted input letters file)
parts [] = inl tt
parts (b ∷ input) =
    ⊎_elim
    (λ e. inr ([], input, record { is = ap (λ x. x ∷ input) e; first = tt }))
    (λ ne.
    ⊎_elim
    (λ none. inl (ne, none))
    (λ p. inr (b ∷ p.0, p.1, record { is = ap (λ l. b ∷ l) p.2.is; first = (ne, p.2.first) }))
    (parts input))
    (cases_eq b 10)

named_short : (l : Letters) → length (names.named l) ≤ 3
named_short S = omega arith
named_short C = omega arith
named_short P = omega arith
named_short FS = omega arith
named_short FC = omega arith
named_short FP = omega arith
named_short AS = omega arith
named_short AP = omega arith
named_short AFS = omega arith
named_short AFP = omega arith

-- what is told of a file is told of another that reads the same
file_same : (m : Meaning) (file other text : List ℕ) → read_file other ≡ read_file file → FileTold m file text → FileTold m other text
file_same m file other _ same (faulty refusal place e) = faulty refusal place (same ∙ e)
file_same m file other _ same (incomplete t e not) = incomplete t (same ∙ e) not
file_same m file other _ same (illegal t e complete none) = illegal t (same ∙ e) complete none
file_same m file other _ same (legal t e complete orders first) = legal t (same ∙ e) complete orders first

module _ (input letters file : List ℕ) (p : Parted (take 534 input) letters file) where
  parted_longer : Parted input letters (file ++ drop 534 input)
  parted_longer =
      record {
        is = sym (take-append-drop 534 input) ∙ ap (λ l. l ++ drop 534 input) p.is ∙ append_assoc letters (10 ∷ file) (drop 534 input);
        first = p.first;
      }

  reads_same : length letters ≤ 3 → read_file (file ++ drop 534 input) ≡ read_file file
  reads_same short =
      ⊎_elim
      (λ lt. ap read_file (ap (λ l. file ++ l) (drop_all 534 input (omega (arith, lt))) ∙ append-nil file))
      (λ ge.
      let long : 530 ≤ length file = omega (arith, ge, short, length-take 534 input, ap length p.is, length-append letters (10 ∷ file)) in
      sym (enough (file ++ drop 534 input)) ∙ ap read_file (take-append-le 530 file (drop 534 input) long) ∙ enough file)
      (cases_lt (length input) 534)

-- where the first 534 bytes have no byte 10, no letters stand before one
late : (input letters file : List ℕ) → Unended (take 534 input) → Parted input letters file → length letters ≤ 3 → ⊥
late input letters file none p short =
    let i = length letters in
    All-get_or (λ b. b ≡ 10 → ⊥) (take 534 input) i 0
    (omega (arith, short, length-take 534 input, ap length p.is, length-append letters (10 ∷ file))) none
    (get_or-take 534 input i 0 (omega (arith, short)) ∙ ap (λ l. get_or l i 0) p.is ∙ get_or_at letters 10 file 0 i refl)

pub reaches : (input : List ℕ) → Enough input
reaches input _ (unended none) =
    ⊎_elim
    (λ u. unended u)
    (λ p. unnamed p.0 p.1 p.2 (λ l e. late input p.0 p.1 none p.2 (omega (arith, named_short l, ap length e))))
    (parts input)
reaches input _ (unnamed letters file p none) = unnamed letters (file ++ drop 534 input) (parted_longer input letters file p) none
reaches input _ (named l file text p told) =
    named l (file ++ drop 534 input) text (parted_longer input (names.named l) file p)
    (file_same (names.meaning_of l) file (file ++ drop 534 input) text (reads_same input (names.named l) file p (named_short l)) told)
