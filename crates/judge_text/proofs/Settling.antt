-- An input has one text.
use Rattle.std.proofs.Common.{◌≡◌, ℕ, cond, eqb, List, [], ◌∷◌, ◌++◌, sum, sym, refl, ap, ◌∙◌, subst}
use Rattle.trace.specs.Traces.{Trace, Complete}
use Rattle.trace_file.specs.Reading as reading
use Rattle.models.specs.Meaning.{Meaning}
use Rattle.orders.specs.Orders.{Legal, First}
use Rattle.orders.proofs.Places.{all_parted}
use Rattle.letters.specs.declared.Letters.{Letters}
use Rattle.letters.specs.declared.Letters.TheVariants.{S, C, P, FS, FC, FP, AS, AP, AFS, AFP}
use Rattle.letters.specs.Names as names
use Rattle.judge_text.specs.Lines.{legal_text}
use Rattle.judge_text.specs.Told.{FileTold, faulty, incomplete, illegal, legal, Unended, Parted, unended, unnamed, named, Settled}
use Rattle.judge_text.proofs.Unique.{first_unique}

-- a file has one text under a model
same_trace : (t u : Trace) → reading.good t ≡ reading.good u → t ≡ u
same_trace t u e = cc

file_once : (m : Meaning) (file one other : List ℕ) → FileTold m file one → FileTold m file other → one ≡ other
file_once m file _ _ (faulty n place e) (faulty k other d) = cc
file_once m file _ _ (faulty n place e) (incomplete u d not) = cc
file_once m file _ _ (faulty n place e) (illegal u d complete none) = cc
file_once m file _ _ (faulty n place e) (legal u d complete orders first) = cc
file_once m file _ _ (incomplete t e not) (faulty n place d) = cc
file_once m file _ _ (incomplete t e not) (incomplete u d nor) = cc
file_once m file _ _ (incomplete t e not) (illegal u d complete none) = absurd (not (subst Complete (same_trace u t (sym d ∙ e)) complete))
file_once m file _ _ (incomplete t e not) (legal u d complete orders first) = absurd (not (subst Complete (same_trace u t (sym d ∙ e)) complete))
file_once m file _ _ (illegal t e complete none) (faulty n place d) = cc
file_once m file _ _ (illegal t e complete none) (incomplete u d not) = absurd (not (subst Complete (same_trace t u (sym e ∙ d)) complete))
file_once m file _ _ (illegal t e complete none) (illegal u d full nothing) = refl
file_once m file _ _ (illegal t e complete none) (legal u d full orders first) = absurd (none (subst (Legal m) (same_trace u t (sym d ∙ e)) (orders, first.meets)))
file_once m file _ _ (legal t e complete orders first) (faulty n place d) = cc
file_once m file _ _ (legal t e complete orders first) (incomplete u d not) = absurd (not (subst Complete (same_trace t u (sym e ∙ d)) complete))
file_once m file _ _ (legal t e complete orders first) (illegal u d full none) = absurd (none (subst (Legal m) (same_trace t u (sym e ∙ d)) (orders, first.meets)))
file_once m file _ _ (legal t e complete orders first) (legal u d full others h) =
    ap legal_text (first_unique m t orders others first (subst (λ x. First m x others) (same_trace u t (sym d ∙ e)) h))

-- letters are told apart by the sum of their numbers
abbrev letter : ℕ → Letters
letter n =
    cond (eqb n 83) S
    (cond (eqb n 67) C
    (cond (eqb n 80) P
    (cond (eqb n 153) FS
    (cond (eqb n 137) FC
    (cond (eqb n 150) FP
    (cond (eqb n 148) AS
    (cond (eqb n 145) AP
    (cond (eqb n 218) AFS AFP))))))))

lettered : (l : Letters) → letter (sum (names.named l)) ≡ l
lettered S = refl
lettered C = refl
lettered P = refl
lettered FS = refl
lettered FC = refl
lettered FP = refl
lettered AS = refl
lettered AP = refl
lettered AFS = refl
lettered AFP = refl

same_letters : (l k : Letters) → names.named l ≡ names.named k → l ≡ k
same_letters l k e = sym (lettered l) ∙ ap (λ xs. letter (sum xs)) e ∙ lettered k

-- an input has one first byte 10
cut_once : (a b f g : List ℕ) → Unended a → Unended b → a ++ 10 ∷ f ≡ b ++ 10 ∷ g → (a ≡ b) × (f ≡ g)
cut_once [] [] f g ua ub e = (refl, cc)
cut_once [] (y ∷ b) f g ua ub e = let h : y ≡ 10 = cc in absurd (ub.0 h)
cut_once (x ∷ a) [] f g ua ub e = let h : x ≡ 10 = cc in absurd (ua.0 h)
cut_once (x ∷ a) (y ∷ b) f g ua ub e =
    let head : x ≡ y = cc in
    let tail : a ++ 10 ∷ f ≡ b ++ 10 ∷ g = cc in
    let rest = cut_once a b f g ua.1 ub.1 tail in
    ((λ i. head i ∷ rest.0 i), rest.1)

parted_once : (input a b f g : List ℕ) → Parted input a f → Parted input b g → (a ≡ b) × (f ≡ g)
parted_once input a b f g p q = cut_once a b f g p.first q.first (sym p.is ∙ q.is)

not_parted : (input letters file : List ℕ) → Unended input → Parted input letters file → ⊥
not_parted input letters file none p = all_parted (λ b. b ≡ 10 → ⊥) input letters file 10 p.is none refl

pub told_once : (input : List ℕ) → Settled input
told_once input _ _ (unended none) (unended _) = refl
told_once input _ _ (unended none) (unnamed letters file p not) = refl
told_once input _ _ (unended none) (named l file text p told) = absurd (not_parted input (names.named l) file none p)
told_once input _ _ (unnamed letters file p not) (unended none) = refl
told_once input _ _ (unnamed letters file p not) (unnamed others rest q nor) = refl
told_once input _ _ (unnamed letters file p not) (named l rest text q told) = absurd (not l (parted_once input letters (names.named l) file rest p q).0)
told_once input _ _ (named l file text p told) (unended none) = absurd (not_parted input (names.named l) file none p)
told_once input _ _ (named l file text p told) (unnamed letters rest q not) = absurd (not l (parted_once input letters (names.named l) rest file q p).0)
told_once input _ _ (named l file text p told) (named k rest other q tells) =
    let same = parted_once input (names.named l) (names.named k) file rest p q in
    let letters = same_letters k l (sym same.0) in
    file_once (names.meaning_of l) file text other told
    (subst (λ x. FileTold (names.meaning_of x) file other) letters (subst (λ x. FileTold (names.meaning_of k) x other) (sym same.1) tells))
